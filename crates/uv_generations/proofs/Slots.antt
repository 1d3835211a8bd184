-- The slots of a state that is renamed, and what its ids hold: they are named anew, so the loop goes on alike.
use Rattle.uv_generations.proofs.Names.{◌≡◌, ℕ, suc, ◌+◌, ◌<◌, List, [], ◌∷◌, ◌++◌, length, Bool, Option, Some, None, refl, ap, arith, option_and_then, slice_get, slice_set, Id, Event, Slot, Content, State, Program, held, held_in, Slots, next_id, taken_from, freed, ◌||◌, option_map, next, Frees, CanRename, list_any, same_id, Labels, Renaming, freed_more, more, renamed_slots, renaming, relabeled_arena, next_map, relabeled_line}
use Rattle.uv_slots.proofs.Relabeling.{next_relabeled}

abbrev pub by_frees : Frees → Labels
by_frees k = renaming (freed_more k)

-- ---- slots

abbrev pub renamed_slot : ℕ → Slot Content → Slot Content
renamed_slot n slot = record slot { generation = slot.generation + n }

pub get_renamed : (k : Frees) (slots : List (Slot Content)) (i : ℕ) →
    slice_get ((by_frees k).slots slots) i ≡ option_map (renamed_slot (k i)) (slice_get slots i)
get_renamed k (x ∷ xs) (suc i) = get_renamed (λ n. k (suc n)) xs i
get_renamed k each e2 = assumption

pub set_renamed : (k : Frees) (slots : List (Slot Content)) (i g : ℕ) (c : Option Content) →
    slice_set ((by_frees k).slots slots) i (record { generation = g + k i; content = c })
    ≡ (by_frees k).slots (slice_set slots i (record { generation = g; content = c }))
set_renamed k (x ∷ xs) (suc i) g c = ap (λ (ys : List (Slot Content)). renamed_slot (k 0) x ∷ ys) (set_renamed (λ n. k (suc n)) xs i g c)
set_renamed k each e2 g c = assumption

pub length_renamed : (f : Renaming) (slots : List (Slot Content)) → length (renamed_slots f slots) ≡ length slots
length_renamed f [] = refl
length_renamed f (x ∷ xs) = ap suc (length_renamed (λ n. f (suc n)) xs)

push_renamed : (k : Frees) (slots : List (Slot Content)) (c : Option Content) → k (length slots) ≡ 0 →
    (by_frees k).slots slots ++ record { generation = 0; content = c } ∷ []
    ≡ (by_frees k).slots (slots ++ record { generation = 0; content = c } ∷ [])
push_renamed k [] c e = cc
push_renamed k (x ∷ xs) c e = ap (λ (ys : List (Slot Content)). renamed_slot (k 0) x ∷ ys) (push_renamed (λ n. k (suc n)) xs c e)

held_at : (n : ℕ) (id : Id) (more : Id) (o : Option (Slot Content)) → more.generation ≡ id.generation + n →
    option_and_then (held_in more) (option_map (renamed_slot n) o) ≡ option_and_then (held_in id) o
held_at n id more o e = grind arith

pub held_renamed : (k : Frees) (slots : List (Slot Content)) (id : Id) → held ((by_frees k).slots slots) ((by_frees k).id id) ≡ held slots id
held_renamed k slots id = search (get_renamed, held_at)

-- two ids are the same where they are once they are renamed
pub same_renamed : (k : Frees) (a b : Id) → same_id ((by_frees k).id a) ((by_frees k).id b) ≡ same_id a b
same_renamed k a b = grind arith

-- ---- what is asked of all slots

pub any_slot : (k : Frees) (test : Option Content → Bool) (slots : List (Slot Content)) →
    list_any (λ (slot : Slot Content). test slot.content) ((by_frees k).slots slots) ≡ list_any (λ (slot : Slot Content). test slot.content) slots
any_slot k test [] = refl
any_slot k test (x ∷ xs) = ap (λ (b : Bool). test x.content || b) (any_slot (λ n. k (suc n)) test xs)

-- ---- slots taken and freed

pub next_id_renamed : (k : Frees) (slots : List (Slot Content)) (unused : ℕ) (free : List ℕ) → k (length slots) ≡ 0 →
    next_id ((by_frees k).slots slots) unused free ≡ option_map (by_frees k).id (next_id slots unused free)
next_id_renamed k slots unused free e = grind (arith, length_renamed, get_renamed)

pub taken_from_renamed : (k : Frees) (free : List ℕ) (id : Id) (x : Content) (a : Slots Content) → k (length a.slots) ≡ 0 →
    taken_from free ((by_frees k).id id) x (relabeled_arena (by_frees k) a) ≡ relabeled_arena (by_frees k) (taken_from free id x a)
taken_from_renamed k free id x a e = grind (arith, push_renamed, set_renamed)

freed_renamed : (k : Frees) (last : ℕ) (id : Id) (a : Slots Content) → id.generation + k id.slot < last →
    freed last ((by_frees k).id id) (relabeled_arena (by_frees k) a) ≡ relabeled_arena (by_frees k) (freed last id a)
freed_renamed k last id a l =
    let sooner : id.generation < last = omega (arith, l) in
    let more : id.generation + k id.slot + 1 ≡ id.generation + 1 + k id.slot = omega arith in
    let gone = λ (g : ℕ) (slots : List (Slot Content)). record a {
      slots = slice_set slots id.slot (record { generation = g; content = None });
      free = id.slot ∷ a.free;
    } in
    grind (arith, set_renamed)

-- ---- a step

pub next_renamed : (p : Program) (k : Frees) (s : State) (e : Event) → CanRename p k s →
    next p (more k s) e ≡ next_map (more k) (relabeled_line (by_frees k)) (next p s e)
next_renamed p k s e can = next_relabeled (by_frees k) p s e (record {
  same = same_renamed k;
  holds = λ id. held_renamed k s.arena.slots id;
  turns = λ id x. set_renamed k s.arena.slots id.slot id.generation (Some x);
  any = λ test. any_slot k test s.arena.slots;
  finds = next_id_renamed k s.arena.slots s.arena.unused s.arena.free can.unused;
  takes = λ id x. taken_from_renamed k s.arena.free id x s.arena can.unused;
  frees = λ id x holds. freed_renamed k _ id s.arena (can.left id x holds);
})
