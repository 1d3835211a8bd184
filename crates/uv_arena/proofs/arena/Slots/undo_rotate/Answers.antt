use Rattle.uv_arena.proofs.ProofNames.{◌≡◌, Some, length, sym, ap, ◌∙◌, subst, loose, IsWithin, front_place, in_memory, place_at, put_in, tail_at, taken_out, front_again, push_undone, unlink_undone, slot_or_first}
use Rattle.uv_arena.proofs.Memories.{length_relinked}
use Rattle.uv_arena.proofs.arena.Slots.undo_rotate.Goals as goal

pub shift-requires-clause-to : goal.shift-requires-clause-to
shift-requires-clause-to g c =
    let v = c.args.self.now.image in let x = c.requires.slot in
    let last : Some c.in-Some.slot ≡ Some x = sym c.in-Some.is ∙ c.tail.ensures ∙ ap (tail_at v.memory) c.chain.ensures.name ∙ c.requires.last in
    let same : c.in-Some.slot ≡ x = cc in
    let is = c.front_place-front.ensures ∙ ap (λ k. front_place k c.in-Some.slot v.memory) c.chain-in-Some.ensures.name
    ∙ ap (λ y. front_again c.args.from y v) same ∙ sym c.requires.front in
    let t = place_at v.memory x in
    subst (λ p. IsWithin p (length v.memory.row.items)) (sym is)
    (subst (IsWithin (front_again c.args.from x (push_undone x v))) (length_relinked t t.after t.before loose v.memory) c.requires.unlinked.place)

pub returns-clause-undone : goal.returns-clause-undone
returns-clause-undone g c =
    let v = c.args.self.now.image in let x = c.requires.slot in
    let last : Some c.in-Some.slot ≡ Some x = sym c.in-Some.is ∙ c.tail.ensures ∙ ap (tail_at v.memory) c.chain.ensures.name ∙ c.requires.last in
    let same : c.in-Some.slot ≡ x = cc in
    let is = c.front_place-front.ensures ∙ ap (λ k. front_place k c.in-Some.slot v.memory) c.chain-in-Some.ensures.name
    ∙ ap (λ y. front_again c.args.from y v) same ∙ sym c.requires.front in
    let back = c.place-back.ensures ∙ ap (place_at v.memory) same in
    c.shift.ensures.image ∙ (λ i. in_memory (λ m. put_in (is i) (taken_out (back i) m)) v)
    ∙ sym (ap (λ o. (let k = push_undone (slot_or_first o) v in unlink_undone (front_again c.args.from (slot_or_first o) k) k)) c.requires.last)
