use Rattle.uv_handle.proofs.Names.{◌≡◌, ◌+◌, Bool, sym, ◌∙◌, subst, one_if, set_done, counted, Fits32, IsChanged}
use Rattle.uv_handle.proofs.Changed.{change_fits, changed}
use Rattle.uv_handle.proofs.handles.Handles.change.Goals as goal

pub recounted-self-inside-requires : goal.recounted-self-inside-requires
recounted-self-inside-requires g c =
    let H = g.T.HoldsHandle in let K = g.met.T.HoldsHandle in let i = c.args.slots.now.image in let j = c.set.new.self.image in let d = c.args.id in
    let was = c.args.old in let found = c.requires.found in let x = c.of.result in let r = c.set.result in
    let none = c.set.ensures.none in let some = c.set.ensures.some in
    let done = set_done H.held_record H.of_record K.only_that i d was found _ j x r none some in
    let set = rw c.of.ensures at done in
    subst (λ (b : Bool × Bool). Fits32 c.self.inside.active (one_if b.0) (one_if b.1)) (λ k. (
      sym c.keeps_alive.ensures k,
      sym c.keeps_alive-2.ensures k,
    ))
    (change_fits H.held_record H.of_record K.gives_back K.only_that i d c.args.old c.requires.found j c.self.inside.active c.args.new
    (c.self.view_is ∙ c.requires.counts) set c.is_sound-2.ensures)

pub returns-clause-changed : goal.returns-clause-changed
returns-clause-changed g c =
    let H = g.T.HoldsHandle in let K = g.met.T.HoldsHandle in let i = c.args.slots.now.image in let j = c.set.new.self.image in let d = c.args.id in
    let n = c.self.inside.active in
    let was = c.args.old in let found = c.requires.found in let x = c.of.result in let r = c.set.result in
    let none = c.set.ensures.none in let some = c.set.ensures.some in
    let done = set_done H.held_record H.of_record K.only_that i d was found _ j x r none some in
    let set = rw c.of.ensures at done in
    let m = c.recounted-self-inside.result in
    let count = subst (λ (b : Bool × Bool). m + one_if b.0 ≡ n + one_if b.1) (λ k. (
      c.keeps_alive.ensures k,
      c.keeps_alive-2.ensures k,
    )) c.recounted-self-inside.ensures in
    subst (λ q. IsChanged H.held_record H.of_record (counted i q) (counted j m) d c.args.old c.args.new (record {
      slot = d.slot;
      active = n;
      old =
          c.args.old;
    })) c.self.view_is
    (changed H.held_record H.of_record K.gives_back K.only_that i d c.args.old c.requires.found j n m c.args.new (c.self.view_is
    ∙ c.requires.counts) set count)
