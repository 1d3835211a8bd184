use Rattle.uv_pool.proofs.Names.{rules, ◌+◌, arith, None, refl, rows_of, place_of}
use Rattle.uv_pool.proofs.Found.{removed, waits_within}
use Rattle.uv_pool.proofs.Kept.{kept_cancel}
use Rattle.uv_pool.proofs.Results.{added_none}
use Rattle.uv_pool.proofs.held.Held.cancel.Goals as goal

pub remove-requires-clause-low : goal.remove-requires-clause-low
remove-requires-clause-low c = (waits_within (rows_of c.args.self.now) c.args.number c.args.id c.requires.waits).0

pub remove-requires-clause-high : goal.remove-requires-clause-high
remove-requires-clause-high c =
    let w = waits_within (rows_of c.args.self.now) c.args.number c.args.id c.requires.waits in
    omega (arith, w.1, c.args.self.now.waiting.places.ok.0)

pub returns-clause-contents : goal.returns-clause-contents
returns-clause-contents c =
    let s = c.args.self.now in
    rw (c.remove.ensures.jobs, removed (rows_of s) (place_of s) c.args.number c.args.id c.requires.kept.indexed c.requires.waits) (search rules)

pub returns-clause-kept : goal.returns-clause-kept
returns-clause-kept c =
    let s = c.args.self.now in
    let q = c.remove.new.self in
    kept_cancel s _ c.args.number q.first q.places.items (record { id = c.args.id; result = None }) (s.collected + c.len.result) _
    c.requires.kept c.requires.waits c.remove.ensures.left (omega (arith, c.len.ensures, s.done.ok.0)) (search rules)
    c.push_reserved.ensures.items c.note.ensures

pub returns-clause-results : goal.returns-clause-results
returns-clause-results c = grind (arith, added_none)
