-- A layout that shows all of a memory lies for each state that the memory stands for.
use Rattle.uv_loop.proofs.Names.{◌≡◌, ℕ, zero, suc, ◌<◌, ◌≤◌, ◌+◌, ◌++◌, ◌⊎◌, List, [], ◌∷◌, map, length, length-append, slice_get, Option, Some, None, IfNone, IfSome, refl, inl, inr, sym, ap, ◌∙◌, subst, arith, eqb_tells, length-map, slice_get_past, slice_get_within, Id, LIST_COUNT, ListName, Slot, number, all_lists, first, last, ends_of, IsIn, Cell, Links, IsFirst, IsLast, link, loose, IsSegment, CHAIN_COUNT, FREE, IsSound, chain, chains, links_in, links_at, name_at, slot_in, slot_at, number_apart, number_below, get-links, last_append, segment_tells, Entry, IsInOrder, IsHeap, SlotsDiffer, place_in, id_in, LaidSlot, Layout, ListEnds, Numbers, Place, State, members, LiesFor, HasNeighbours, AreWalked, slots_on, with_ends, generation_in, id_now, entry_of, Content, Image, StandsFor, timer_in, list_named, ShowsSlot, ShowsSlots, ShowsAll, shown_ends, IsFit, active_fit, opened_fit, names_is, place_is, running_is}
use Rattle.uv_loop.proofs.Walked.{by_links}
use Rattle.uv_records.specs.Slots as plain
use Rattle.uv_arena.specs.Calls as calls
use Rattle.uv_arena.specs.Image as arena

slots_same : (cs : List LaidSlot) (ks : List (Cell Content)) → length cs ≡ length ks
    → ((x : ℕ) (c : LaidSlot) → slice_get cs x ≡ Some c → c.slot ≡ slot_in (slice_get ks x))
    → map (λ (c : LaidSlot). c.slot) cs ≡ map (λ (k : Cell Content). k.slot) ks
slots_same [] [] l e = refl
slots_same [] (k ∷ ks) l e = absurd (omega (arith, l))
slots_same (c ∷ cs) [] l e = absurd (omega (arith, l))
slots_same (c ∷ cs) (k ∷ ks) l e =
    let one = e 0 c refl in
    let rest = slots_same cs ks (omega (arith, l)) (λ x d at. e (suc x) d at) in
    λ q. one q ∷ rest q

-- ---- what follows from where the slots stand

not_there : {X : Type 0} → (xs : List X) (i : ℕ) → slice_get xs i ≡ None → length xs ≤ i
not_there [] i e = omega arith
not_there (x ∷ xs) zero e = cc
not_there (x ∷ xs) (suc i) e = let rest = not_there xs i e in omega (arith, rest)

ids_slots : (a : arena.Image Content) (xs : List ℕ) → map (λ (id : Id). id.slot) (map (id_in a) xs) ≡ xs
ids_slots a [] = refl
ids_slots a (x ∷ xs) = ap (λ ys. x ∷ ys) (ids_slots a xs)

entries_as : (a : arena.Image Content) (es : List Entry) → map entry_of (map (timer_in a) es) ≡ es
entries_as a [] = refl
entries_as a (e ∷ es) = ap (λ ys. e ∷ ys) (entries_as a es)

module _ (i : Image Place) (s : State) (h : StandsFor i s) (sound : IsSound i.arena) (cs : List LaidSlot) (shown : ShowsSlots i cs) where
  neighbours : (k x : ℕ) (p n : Option ℕ) → slice_get (chains i.arena.memory).links x ≡ Some (link k p n) → HasNeighbours (slice_get cs x) p n
  neighbours k x p n e = at (slice_get cs x) refl where
    there : links_at i.arena.memory x ≡ link k p n
    there = by_links i.arena.memory.row.items x (link k p n) e

    at : (o : Option LaidSlot) → slice_get cs x ≡ o → HasNeighbours o p n
    at None q =
        let past = not_there cs x q in
        let within = slice_get_within (chains i.arena.memory).links x (link k p n) e in
        let same = length-map i.arena.memory.row.items (λ (c : Cell Content). c.links) in
        let all = shown.all in
        absurd (omega (arith, past, within, same, all))
    at (Some c) q =
        let its = shown.each x c q in (
          its.prev ∙ ap (λ (l : Links). l.prev) there,
          its.next ∙ ap (λ (l : Links). l.next) there,
        )

  walked_as : (k : ℕ) (p : Option ℕ) (xs : List ℕ) → IsSegment (chains i.arena.memory).links k p xs None → AreWalked cs p xs
  walked_as k p [] g = tt
  walked_as k p (x ∷ xs) g = (neighbours k x p (first xs None) g.0, walked_as k (Some x) xs g.1)

  -- which chain a list is
  abbrev chain_no : Option ListName → ℕ
  chain_no None = FREE
  chain_no (Some l) = name_at i.arena.names (number l)

  chain_below : (k : Option ListName) → chain_no k < CHAIN_COUNT
  chain_below None = omega arith
  chain_below (Some l) = let small = sound.names.below (number l) (number_below l) in omega (arith, small)

  on_chain : (k : Option ListName) → slots_on s k ≡ chain i.arena.memory (chain_no k)
  on_chain None = ap (λ (q : plain.Slots Content). q.free) (sym h.slots)
  on_chain (Some l) = ap (λ (ids : List Id). map (λ (id : Id). id.slot) ids) (h.lists l) ∙ ids_slots i.arena (arena.members i.arena l)

  pub are_walked : (k : Option ListName) → AreWalked cs None (slots_on s k)
  are_walked k =
      subst (λ xs. AreWalked cs None xs) (sym (on_chain k))
      (walked_as (chain_no k) None (chain i.arena.memory (chain_no k)) (sound.linked.stands.lists (chain_no k) (chain_below k)).segment)

  pub ends_as : (ls : List ListName) → map (shown_ends i.arena) ls ≡ map (with_ends s) ls
  ends_as [] = refl
  ends_as (l ∷ ls) =
      let ends_are : ends_of (arena.members i.arena l) ≡ ends_of (slots_on s (Some l)) = ap ends_of (sym (on_chain (Some l))) in
      let rest = ends_as ls in
      λ q. (let e : ListEnds = record { list = l; ends = ends_are q } in e) ∷ rest q

  generation_as : (x : ℕ) → (slot_at i.arena.memory x).generation ≡ generation_in (slice_get cs x)
  generation_as x = at (slice_get cs x) refl where
    at : (o : Option LaidSlot) → slice_get cs x ≡ o → (slot_at i.arena.memory x).generation ≡ generation_in o
    at None q =
        let past = not_there cs x q in
        let all = shown.all in
        ap (λ (o : Option (Cell Content)). (slot_in o).generation) (slice_get_past i.arena.memory.row.items x (omega (arith, past, all)))
    at (Some c) q = ap (λ (z : Slot Content). z.generation) (sym (shown.each x c q).slot)

  ids_as : (xs : List ℕ) → map (id_in i.arena) xs ≡ map (id_now cs) (map (id_in i.arena) xs)
  ids_as [] = refl
  ids_as (x ∷ xs) =
      let g = generation_as x in
      let rest = ids_as xs in
      λ q. (let d : Id = record { slot = x; generation = g q } in d) ∷ rest q

  pub are_now : (k : ListName) → members s k ≡ map (id_now cs) (members s k)
  are_now k = h.lists k ∙ ids_as (arena.members i.arena k) ∙ ap (map (id_now cs)) (sym (h.lists k))

  -- the chain of a slot on a list
  on_its : (k : Option ListName) (x : ℕ) → IsIn x (slots_on s k)
      → (m : Links) × (slice_get (chains i.arena.memory).links x ≡ Some m) × (m.list ≡ Some (chain_no k))
  on_its k x on =
      segment_tells (chains i.arena.memory).links (chain_no k) None (chain i.arena.memory (chain_no k)) None
      (sound.linked.stands.lists (chain_no k) (chain_below k)).segment x (subst (λ xs. IsIn x xs) (on_chain k) on)

  one_name : (j k : Option ListName) → chain_no j ≡ chain_no k → j ≡ k
  one_name None None e = refl
  one_name None (Some l) e = let small = sound.names.below (number l) (number_below l) in absurd (omega (arith, e, small))
  one_name (Some l) None e = let small = sound.names.below (number l) (number_below l) in absurd (omega (arith, e, small))
  one_name (Some l) (Some m) e =
      ap (λ z. Some z) (number_apart l m (sound.names.apart (number l) (number m) (number_below l) (number_below m) e))

  pub on_once : (j k : Option ListName) (x : ℕ) → IsIn x (slots_on s j) → IsIn x (slots_on s k) → j ≡ k
  on_once j k x a b =
      let f = on_its j x a in
      let g = on_its k x b in
      let both : f.0 ≡ g.0 = cc (f.1, g.1) in
      let same : chain_no j ≡ chain_no k = cc (f.2, g.2, both) in
      one_name j k same

  -- the list of a chain
  listed_as : (x k : ℕ) → k < CHAIN_COUNT → IsIn x (chain i.arena.memory k) → (l : Option ListName) × IsIn x (slots_on s l)
  listed_as x k small on = elim (below_or k small) [
    | inl is ↦ (None, subst (λ xs. IsIn x xs) (sym (on_chain None)) (subst (λ n. IsIn x (chain i.arena.memory n)) is on))
    | inr less ↦ (let l = list_named i.arena sound k less in
        (Some l.0, subst (λ xs. IsIn x xs) (sym (on_chain (Some l.0))) (subst (λ n. IsIn x (chain i.arena.memory n)) (sym l.1) on)))
  ] where
    below_or : (n : ℕ) → n < CHAIN_COUNT → (n ≡ FREE) ⊎ (n < LIST_COUNT)
    below_or n less = elim (eqb_tells n FREE) [ inl q ↦ inl q.1 | inr q ↦ (let other = q.1 in inr (omega (arith, less, other))) ]

  pub are_loose : (x : ℕ) (c : LaidSlot) → slice_get cs x ≡ Some c → ((k : Option ListName) → IsIn x (slots_on s k) → ⊥)
      → (c.prev ≡ None) × (c.next ≡ None)
  are_loose x c e none = at (slice_get i.arena.memory.row.items x) refl where
    its : ShowsSlot i x c
    its = shown.each x c e

    by_list : (cell : Cell Content) → slice_get i.arena.memory.row.items x ≡ Some cell → (l : Option ℕ) → cell.links.list ≡ l
        → (c.prev ≡ None) × (c.next ≡ None)
    by_list cell q None on =
        let rest : cell.links ≡ loose = sound.linked.stands.rest x cell.links (get-links i.arena.memory.row.items x cell q) on in
        let links : links_at i.arena.memory x ≡ loose = ap (λ (o : Option (Cell Content)). links_in o) q ∙ rest in
        (its.prev ∙ ap (λ (z : Links). z.prev) links, its.next ∙ ap (λ (z : Links). z.next) links)
    by_list cell q (Some k) on =
        let there = sound.linked.stands.listed x cell.links k (get-links i.arena.memory.row.items x cell q) on in
        let l = listed_as x k there.0 there.1 in
        absurd (none l.0 l.1)

    at : (o : Option (Cell Content)) → slice_get i.arena.memory.row.items x ≡ o → (c.prev ≡ None) × (c.next ≡ None)
    at None q =
        let links : links_at i.arena.memory x ≡ loose = ap (λ (o : Option (Cell Content)). links_in o) q in
        (its.prev ∙ ap (λ (z : Links). z.prev) links, its.next ∙ ap (λ (z : Links). z.next) links)
    at (Some cell) q = by_list cell q cell.links.list refl

-- ---- the ends of a list

module _ (a : arena.Image Content) (l : ListName) where
  pub first_is : (o : Option Id) → IfNone o (arena.members a l ≡ []) → IfSome o (λ d. IsFirst a l d)
      → calls.slot_of o ≡ first (arena.members a l) None
  first_is None none some = ap (λ xs. first xs None) (sym none)
  first_is (Some d) none some = ap (λ xs. first xs None) (sym some.is)

  pub last_is : (o : Option Id) → IfNone o (arena.members a l ≡ []) → IfSome o (λ d. IsLast a l d)
      → calls.slot_of o ≡ last None (arena.members a l)
  last_is None none some = ap (λ xs. last None xs) (sym none)
  last_is (Some d) none some = sym (ap (λ xs. last None xs) some.is ∙ last_append some.front (d.slot ∷ []) None)

-- ---- slots laid one after another

-- the first so many slots
pub record ShowsFirst (i : Image Place) (n : ℕ) (slots : List LaidSlot) : Type 0 where
  pub all : length slots ≡ n
  pub each : (x : ℕ) (c : LaidSlot) → slice_get slots x ≡ Some c → ShowsSlot i x c

put_last : {X : Type 0} → (xs : List X) (c d : X) (x : ℕ) → slice_get (xs ++ c ∷ []) x ≡ Some d
    → (slice_get xs x ≡ Some d) ⊎ ((x ≡ length xs) × (c ≡ d))
put_last [] c d zero e = inr (refl, cc e)
put_last [] c d (suc x) e = cc
put_last (y ∷ ys) c d zero e = inl e
put_last (y ∷ ys) c d (suc x) e = elim (put_last ys c d x e) [ inl l ↦ inl l | inr r ↦ inr (ap suc r.0, r.1) ]

pub shows_more : (i : Image Place) (n : ℕ) (slots : List LaidSlot) (c : LaidSlot) → ShowsFirst i n slots → ShowsSlot i n c
    → ShowsFirst i (n + 1) (slots ++ c ∷ [])
shows_more i n slots c before its = record {
  all = let long = before.all in omega (arith, length-append slots (c ∷ []), long);
  each = λ x d e. elim (put_last slots c d x e) [
    | inl l ↦ before.each x d l
    | inr r ↦ subst (λ z. ShowsSlot i z d) (sym (r.0 ∙ before.all)) (subst (λ z. ShowsSlot i n z) r.1 its)
  ];
}

-- ---- all of it

-- what always holds of a memory, whatever it stands for
pub record IsWhole (i : Image Place) : Type 0 where
  pub fit : IsFit i
  pub sound : IsSound i.arena
  pub heap : IsHeap i.heap
  pub places : SlotsDiffer i.heap

pub lies_for : (l : Layout) (i : Image Place) (s : State) → ShowsAll l i → IsWhole i → StandsFor i s → LiesFor l s
lies_for l i s d whole h = record {
  place = d.place ∙ place_is h;
  numbers =
      d.numbers ∙ (λ q. (let n : Numbers = record {
        time = (h.values q).time;
        clock = (h.values q).clock;
        next_start = (h.values q).next_start;
        stop_flag = (h.values q).stop_flag;
        idled = (h.values q).idled;
      } in n));
  names = d.names ∙ names_is h;
  slots =
      slots_same l.slots.items i.arena.memory.row.items d.slots.all (λ x c e. (d.slots.each x c e).slot)
      ∙ ap (λ (q : plain.Slots Content). q.slots) h.slots;
  unused = d.unused ∙ ap (λ (q : plain.Slots Content). q.unused) h.slots;
  running = d.running ∙ running_is h;
  walked = are_walked i s h whole.sound l.slots.items d.slots;
  free = d.free ∙ ap ends_of (ap (λ (q : plain.Slots Content). q.free) h.slots);
  lists = d.lists ∙ ends_as i s h whole.sound l.slots.items d.slots all_lists;
  ids = are_now i s h whole.sound l.slots.items d.slots;
  once = on_once i s h whole.sound l.slots.items d.slots;
  loose = are_loose i s h whole.sound l.slots.items d.slots;
  heap = subst IsHeap (sym d.heap) whole.heap;
  differ = subst SlotsDiffer (sym d.heap) whole.places;
  timers =
      subst (λ a. IsInOrder a (map entry_of s.timers)) (sym d.heap)
      (subst (λ ts. IsInOrder i.heap ts) (sym (ap (map entry_of) h.timers.same ∙ entries_as i.arena h.timers.entries)) h.timers.ordered);
  places = λ x c e. (d.slots.each x c e).place ∙ ap (λ a. place_in a x) (sym d.heap);
  active = d.active ∙ active_fit i s whole.fit h.slots;
  opened = d.opened ∙ opened_fit i s whole.fit (running_is h) h.lists;
}
