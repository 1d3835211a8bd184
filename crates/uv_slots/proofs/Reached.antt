-- Each state that few steps lead to is tidy.
use Rattle.uv_slots.proofs.Names.{◌≡◌, ℕ, suc, ◌+◌, ◌<◌, List, [], ◌∷◌, length, Some, ap, arith, Id, Event, Content, Program, State, arena_size, held, elements, ◌≤◌, option_map, fresh, goes_on, state_of, Next, next, name_in, AreDeclared, IsTidy, StaysKept, next_kept}
use Rattle.uv_model.specs.After.{after}
use Rattle.uv_model.proofs.Counting.{IsBounded, slot_freed}
use Rattle.uv_shift.proofs.Reached.{state_bounded}
use Rattle.uv_slots.proofs.Named.{Agree, is_there, counted_agree, turned_agree, made_agree, freed_agree}

abbrev count_of : Program → ℕ
count_of p = length p.callbacks

-- ---- a step

held_freed : (n : ℕ) (s : State) (id : Id) (x : Content) → IsBounded n s → held s.arena.slots id ≡ Some x → id.generation ≤ n
held_freed n s id x h e =
    let k = is_there s.arena.slots id x e in
    let l = slot_freed n s.arena.slots id.slot k.slot k.there h.freed in
    omega (arith, l, k.generation)

next_agree : (p : Program) (n : ℕ) (s : State) (e : Event) → AreDeclared p → n < (arena_size p).last_generation → IsBounded n s →
    Agree (count_of p) s.names s.arena → StaysKept (Agree (count_of p)) (next p s e)
next_agree p n s e declared few h k = next_kept p (λ v. v.0 < count_of p) (λ n. Unit {0}) (Agree (count_of p)) s (record {
  may = declared;
  repeats = λ at o n is sets_it. tt;
  counted = counted_agree (count_of p);
  turned = λ ns a id x y holds same again. turned_agree (count_of p) ns a id x y holds same;
  made = λ ns a v id x may same first. made_agree (count_of p) ns a v id x may same;
  freed = λ id x holds now. freed_agree (count_of p) (arena_size p).last_generation s.names s.arena id x holds
      (λ last. (let l = held_freed n s id x h holds in omega (arith, l, last, few))) now;
}) e k

state_agree : (p : Program) (n : ℕ) (s : State) (e : Event) → AreDeclared p → n < (arena_size p).last_generation → IsBounded n s →
    Agree (count_of p) s.names s.arena → Agree (count_of p) (state_of s (next p s e)).names (state_of s (next p s e)).arena
state_agree p n s e declared few h k = by (next p s e) (next_agree p n s e declared few h k) where
  by : (x : Next) → StaysKept (Agree (count_of p)) x → Agree (count_of p) (state_of s x).names (state_of s x).arena
  by x now = grind arith

-- ---- all steps

goes_on_agree : (p : Program) (n : ℕ) (s : State) (es : List Event) → AreDeclared p → n + length es < (arena_size p).last_generation →
    IsBounded n s → Agree (count_of p) s.names s.arena → Agree (count_of p) (goes_on p s es).names (goes_on p s es).arena
goes_on_agree p n s [] declared few h k = k
goes_on_agree p n s (e ∷ es) declared few h k = goes_on_agree p (suc n) (state_of s (next p s e)) es declared (omega (arith, few))
    (state_bounded p n s e h) (state_agree p n s e declared (omega (arith, few)) h k)

agree_tidy : (count : ℕ) (s : State) → Agree count s.names s.arena → IsTidy s
agree_tidy count s k = record {
  bound = λ id x e. k.bound id (name_in x) (ap (option_map name_in) e);
  alone = λ v id x e f. k.alone v (name_in x) id e (ap (option_map name_in) f);
  free = k.free;
}

pub after_tidy : (p : Program) (es : List Event) → AreDeclared p → length es < (arena_size p).last_generation → IsTidy (after p es)
unfolding after
after_tidy p es declared few = agree_tidy (count_of p) (goes_on p (fresh p) es)
    (goes_on_agree p 0 (fresh p) es declared (omega (arith, few)) (grind (arith, elements)) (grind (arith, elements)))
