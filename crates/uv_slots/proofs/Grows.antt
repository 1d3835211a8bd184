-- No step makes the slots fewer that were ever used.
use Rattle.uv_slots.proofs.Names.{ℕ, List, length, arith, Id, Event, Slots, Content, Named, Program, State, taken_from, freed, cond_both, elements, ◌≤◌, next, StaysKept, next_kept}

-- there are as many at least
abbrev pub HasUsed : ℕ → List Named → Slots Content → Type 0
HasUsed n names a = n ≤ length a.slots

taken_grows : (n : ℕ) (free : List ℕ) (id : Id) (x : Content) (a : Slots Content) → n ≤ length a.slots → n ≤ length (taken_from free id x a).slots
taken_grows n free id x a h = grind (arith, elements)

freed_grows : (n last : ℕ) (id : Id) (a : Slots Content) → n ≤ length a.slots → n ≤ length (freed last id a).slots
freed_grows n last id a h = grind (arith, cond_both, elements)

pub next_grows : (p : Program) (n : ℕ) (s : State) (e : Event) → n ≤ length s.arena.slots → StaysKept (HasUsed n) (next p s e)
next_grows p n s e h = next_kept p (λ v. Unit {0}) (λ n. Unit {0}) (HasUsed n) s (search (elements, taken_grows, freed_grows)) e h
