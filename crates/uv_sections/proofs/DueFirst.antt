-- The first timer of the order, if it is due: so the memory says, and so it is in the state.
use Rattle.uv_sections.proofs.Names.{◌≡◌, inl, ℕ, ◌≤◌, Bool, true, false, if◌then◌else◌, cond, nat_le, List, [], ◌∷◌, map, slice_get, Some, None, refl, sym, ap, ◌∙◌, subst, arith, le-leb, leb-true, sum_by-cons, Id, HandleRecord, record_at, Entry, IsHeap, is_same, IsInOrder, IsBeforeAll, first_is_root, none_in_empty, same_itself, IsDue, NoneIsDue, id_in, Place, first_due, State, handle, with_id, InOrder, Has, IsReached, handle_of, Image, StandsFor, timer_in, state_handle, CollectsNone, Content, own_id, holds_it, time_is, IsIts, its_timer}
use Rattle.uv_arena.specs.Image as arena
use Rattle.uv_stands.proofs.First.{before_all}

-- ---- the first of the order

abbrev one : (Entry → Bool) → Entry → ℕ
one p x = cond (p x) 1 0

-- an array with an entry isn't in order as nothing
none_ordered : (array : List Entry) (e : Entry) → slice_get array 0 ≡ Some e → IsInOrder array [] → ⊥
none_ordered [] e there order = cc there
none_ordered (x ∷ xs) e there order =
    let count = sum_by-cons (one (is_same x)) x xs in
    let mine : one (is_same x) x ≡ 1 = ap (λ (b : Bool). cond b 1 0) (same_itself x) in
    let none = order.same x in
    absurd (omega (arith, count, mine, none))

pub record Begins (xs : List Entry) (first : Entry) : Type 0 where
  pub rest : List Entry
  pub is : xs ≡ first ∷ rest

begins : (a : arena.Image Content) (array xs : List Entry) (e : Entry) → slice_get array 0 ≡ Some e
    → ((f : Entry) (fs : List Entry) → IsInOrder array (f ∷ fs) → IsBeforeAll f fs → e ≡ f) → IsInOrder array xs
    → InOrder (map (timer_in a) xs) → Begins xs e
begins a array [] e least first order sorted = absurd (none_ordered array e least order)
begins a array (f ∷ fs) e least first order sorted = grind (arith, before_all)

-- ---- it is due

module _ (i : Image Place) (d : Id) (h : HandleRecord) (c : IsDue handle_of i.arena i.heap i.times.time d h) (s : State) (stands : StandsFor i s)
    (reached : IsReached s) where
  abbrev entries : List Entry
  entries = stands.timers.entries

  pub begun : Begins entries c.entry
  begun = begins i.arena i.heap entries c.entry c.least c.first stands.timers.ordered (subst InOrder stands.timers.same reached.timers.sorted)

  head : timer_in i.arena c.entry ≡ (c.entry.due, d)
  head = ap (λ z. (c.entry.due, z)) (ap (id_in i.arena) (sym c.slot) ∙ own_id i d h c.handle)

  pub begins_with : s.timers ≡ (c.entry.due, d) ∷ map (timer_in i.arena) begun.rest
  begins_with = stands.timers.same ∙ ap (map (timer_in i.arena)) begun.is ∙ ap (λ x. x ∷ map (timer_in i.arena) begun.rest) head

  pub its : IsIts h c.entry.due
  its = its_timer i s stands reached d h c.handle c.entry.due d
      (subst (λ ts. Has ts c.entry.due d) (sym begins_with ∙ stands.timers.same) (inl (refl, refl))) refl

  pub due_first : first_due s s.timers ≡ Some (d, h)
  due_first =
      let at : c.entry.due.at ≤ s.time = subst (λ n. c.entry.due.at ≤ n) (time_is stands) c.due in
      ap (first_due s) begins_with
      ∙ ap (λ (b : Bool). if b then with_id d (handle s d) else None) (le-leb c.entry.due.at s.time at)
      ∙ ap (with_id d) (holds_it i d h c.handle s stands)

-- ---- none is due

module _ (i : Image Place) (s : State) (stands : StandsFor i s) where
  -- of an array in this order, with these timers
  none_in : (array xs : List Entry) → IsHeap array → IsInOrder array xs → InOrder (map (timer_in i.arena) xs)
      → NoneIsDue handle_of i.arena array i.times.time → first_due s (map (timer_in i.arena) xs) ≡ None
  none_in array [] heap order sorted none = refl
  none_in [] (f ∷ fs) heap order sorted none = absurd (none_in_empty f fs order)
  none_in (x ∷ array) (f ∷ fs) heap order sorted none = at (nat_le f.due.at s.time) refl where
    same : x ≡ f
    same = first_is_root x array f fs heap order (before_all i.arena f fs sorted.0)

    no_handle : f.due.at ≤ s.time → handle s (id_in i.arena f.slot) ≡ None
    no_handle le =
        state_handle i s (id_in i.arena f.slot) stands
        ∙ subst (λ (e : Entry). e.due.at ≤ i.times.time → record_at handle_of i.arena (id_in i.arena e.slot) ≡ None) same none
        (subst (λ n. f.due.at ≤ n) (sym (time_is stands)) le)

    at : (b : Bool) → nat_le f.due.at s.time ≡ b
        → (if b then with_id (id_in i.arena f.slot) (handle s (id_in i.arena f.slot)) else None) ≡ None
    at true e = ap (with_id (id_in i.arena f.slot)) (no_handle (leb-true f.due.at s.time e))
    at false e = refl

pub none_collects : (i : Image Place) → IsHeap i.heap → NoneIsDue handle_of i.arena i.heap i.times.time → CollectsNone i
none_collects i heap none s stands reached =
    ap (first_due s) stands.timers.same
    ∙ none_in i s stands i.heap stands.timers.entries heap stands.timers.ordered
    (subst InOrder stands.timers.same reached.timers.sorted) none
