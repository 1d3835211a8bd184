-- What each change of any names and slots keeps, each step keeps: of a name it goes by its number alone.
use Rattle.uv_alike.proofs.Names.{List, Some, slice_set, ℕ, ◌≡◌, Event, Id, next_free, Slots, freed, held, taken, Named, Program, arena_size, Content, State, Calls, with_held}
use Rattle.uv_records.specs.Names as names
use Rattle.uv_model.specs.Next.{next}
use Rattle.uv_alike.proofs.Kept as of_state
use Rattle.uv_alike.proofs.Kept.{Keeps, StaysKept}

-- the calls of a name are counted, and what is held turns into something else. Something is made under a name, and what is held is freed
pub record IsKept (p : Program) (P : List Named → Slots Content → Type 0) : Type 0 where
  pub counted : (ns : List Named) (a : Slots Content) (v : ℕ) (c : Calls) → P ns a → P (slice_set ns v (record (names.named ns v) { calls = c })) a
  pub turned : (ns : List Named) (a : Slots Content) (id : Id) (x y : Content) → held a.slots id ≡ Some x → P ns a
      → P ns (record a { slots = with_held a.slots id y })
  pub made : (ns : List Named) (a : Slots Content) (v : ℕ) (id : Id) (x : Content) → next_free a ≡ Some id → P ns a
      → P (slice_set ns v (record (names.named ns v) { id = Some id })) (taken id x a)
  pub freed : (ns : List Named) (a : Slots Content) (id : Id) (x : Content) → held a.slots id ≡ Some x → P ns a
      → P ns (freed (arena_size p).last_generation id a)

module _ (p : Program) (P : List Named → Slots Content → Type 0) (k : IsKept p P) (s : State) where
  kept_there : of_state.IsKept p (λ v. Unit {0}) (λ n. Unit {0}) P s
  kept_there = record {
    may = λ at o v is names_it. tt;
    repeats = λ at o n is sets_it. tt;
    counted = λ ns a v c kept. k.counted ns a v.0 c kept;
    turned = λ ns a id x y holds same again kept. k.turned ns a id x y holds kept;
    made = λ ns a v id x may same first loose next kept. k.made ns a v.0 id x next kept;
    freed = λ id x holds kept. k.freed s.names s.arena id x holds kept;
  }

  pub next_kept : (e : Event) → Keeps P s → StaysKept P (next p s e)
  next_kept e kept = of_state.next_kept p (λ v. Unit {0}) (λ n. Unit {0}) P s kept_there e kept
