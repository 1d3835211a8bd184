use Rattle.uv_arena.proofs.ProofNames.{◌<◌, ◌≤◌, length, sym, ap, ◌∙◌, arith, Links, Arena, links_at}
use Rattle.uv_arena.proofs.Freed.{past_free, other_free, free_by}
use Rattle.uv_arena.proofs.arena.Slots.is_free.Goals as goal

pub returns-then-slot-used : goal.returns-then-slot-used
returns-then-slot-used g c =
    let m = c.args.self.now.image.memory in
    let past : length m.row.items ≤ c.args.slot = (let used = c.used.ensures.used in let l = c.if-slot-used.true in omega (arith, used, l)) in
    sym (past_free m c.is_sound.ensures.linked c.args.slot past)

pub returns-in-None : goal.returns-in-None
returns-in-None g c =
    let m = c.args.self.now.image.memory in
    let links = c.links.ensures ∙ ap (λ (z : Arena g.row.T.Denot). links_at z.image.memory c.args.slot) c.self.view_is in
    sym (other_free m c.is_sound.ensures.linked c.args.slot (λ e. (let none = sym (ap (λ (l : Links). l.list) links) ∙ c.in-None.is in cc (none, e))))

pub returns-in-Some : goal.returns-in-Some
returns-in-Some g c =
    let m = c.args.self.now.image.memory in
    let links = c.links.ensures ∙ ap (λ (z : Arena g.row.T.Denot). links_at z.image.memory c.args.slot) c.self.view_is in
    let within : c.args.slot < length m.row.items = (let used = c.used.ensures.used in let l = c.if-slot-used.false in omega (arith, used, l)) in
    free_by m c.is_sound.ensures.linked c.args.slot c.in-Some.list (sym (ap (λ (l : Links). l.list) links) ∙ c.in-Some.is) within
