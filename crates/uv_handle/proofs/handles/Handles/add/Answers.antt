use Rattle.uv_handle.proofs.Names.{◌≡◌, ◌+◌, sym, ap, ◌∙◌, subst, inited, keeps_alive, one_if, IsInserted, counted, Fits32, IsAdded}
use Rattle.uv_handle.proofs.Changed.{add_fits, added}
use Rattle.uv_handle.proofs.handles.Handles.add.Goals as goal

pub recounted-self-inside-requires : goal.recounted-self-inside-requires
recounted-self-inside-requires g c =
    let H = g.T.HoldsHandle in let K = g.met.T.HoldsHandle in let i = c.args.slots.now.image in let j = c.insert.new.self.image in
    let h = inited c.args.name c.args.kind in
    let ins = subst (λ x. IsInserted i j x c.in_ok-id.id c.in_ok-id.inserted) (c.of.ensures ∙ ap H.of_record c.new-handle.ensures)
    c.in_ok-id.ensures.ok in
    subst (λ b. Fits32 c.self.inside.active 0 (one_if b)) (sym (c.keeps_alive.ensures ∙ ap keeps_alive c.new-handle.ensures))
    (add_fits H.held_record H.of_record K.gives_back i j c.self.inside.active h c.in_ok-id.id c.in_ok-id.inserted (c.self.view_is
    ∙ c.requires) ins c.is_sound.ensures)

pub returns-clause-ok : goal.returns-clause-ok
returns-clause-ok g c =
    let H = g.T.HoldsHandle in let K = g.met.T.HoldsHandle in let i = c.args.slots.now.image in let j = c.insert.new.self.image in
    let n = c.self.inside.active in
    let ins = subst (λ x. IsInserted i j x c.in_ok-id.id c.in_ok-id.inserted) (c.of.ensures ∙ ap H.of_record c.new-handle.ensures)
    c.in_ok-id.ensures.ok in
    let m = c.recounted-self-inside.result in
    let count = subst (λ b. m + 0 ≡ n + one_if b) (c.keeps_alive.ensures ∙ ap keeps_alive c.new-handle.ensures) c.recounted-self-inside.ensures in
    subst (λ q. IsAdded H.held_record H.of_record (counted i q) (counted j m) c.args.name c.args.kind c.in_ok-id.id (record {
      inserted =
          c.in_ok-id.inserted;
      active = n;
    })) c.self.view_is
    (added H.held_record H.of_record K.gives_back i j n m c.args.name c.args.kind c.in_ok-id.id c.in_ok-id.inserted
    (c.self.view_is ∙ c.requires) ins count)
