use Rattle.uv_pool.proofs.Names.{rules, arith, refl, slice_get_within}
use Rattle.uv_pool.proofs.Kept.{kept_take, kept_same}
use Rattle.uv_pool.proofs.held.Held.take.Goals as goal

pub returns-in_err-job-clause-kept : goal.returns-in_err-job-clause-kept
returns-in_err-job-clause-kept c =
    kept_same c.args.self.now _ c.requires.kept refl (search rules) (λ q. refl)

pub index_mut-requires : goal.index_mut-requires
index_mut-requires c =
    let s = c.args.self.now in
    omega (arith, slice_get_within s.running.items c.args.k _ c.requires.idle, s.running.ok.0)

pub returns-clause-kept : goal.returns-clause-kept
returns-clause-kept c =
    let s = c.args.self.now in
    let q = c.pop.new.self in
    kept_take s _ c.args.k c.in_ok-job.job q.first q.places.items _ c.requires.kept c.requires.idle c.in_ok-job.ensures.job (search rules)
    c.push_reserved.ensures.items c.note.ensures
