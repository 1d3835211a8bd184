-- What is counted no further than to a number, what is read of it, and a step.
use Rattle.uv_names.proofs.Names.{◌≡◌, ℕ, suc, zero, ◌+◌, ◌≤◌, Bool, List, [], ◌∷◌, Option, Some, refl, ap, ap₂, sym, ◌∙◌, arith, drop, slice_get, unwrap_or, if◌then◌else◌, map, min, option_map, map-set, Event, Var, Callback, Named, count_of, counted, unbound, Program, Callbacks, no_callbacks, lines_in, lines_of, is_for, next_line, Running, State, named, Moves, next, body_at, body_from, Calls, CallbackLine}
use Rattle.uv_alike.specs.Changed.{state_map}
use Rattle.uv_ids.specs.declared.seen.Callback.TheVariants as callback
use Rattle.uv_names.specs.Counts.{capped_calls, capped_name, capped_body, capped_place, capped, IsBefore, AreBefore, lines_end, callbacks_end, all_end, script_end}
use Rattle.uv_names.proofs.Changed.{as_is, Hides, named_changed}
use Rattle.uv_names.proofs.Walk.{SeesAlike, step_alike}

pub unbound_capped : (n : ℕ) → capped_name n unbound ≡ unbound
unbound_capped n = grind arith

pub named_capped : (n : ℕ) (s : State) (v : Var) → named (capped n s) v ≡ capped_name n (named s v)
named_capped n s v = named_changed (capped_name n) (λ call. min call n) as_is s v (unbound_capped n)

-- ---- counts

pub count_capped : (n : ℕ) (kind : Callback) (c : Calls) → count_of kind (capped_calls n c) ≡ min (count_of kind c) n
count_capped n kind c = grind arith

pub twice : (a n : ℕ) → min (min a n) n ≡ min a n
twice a n = omega arith

pub call_capped : (n : ℕ) (kind : Callback) (c : Calls) →
    min (count_of kind (counted kind (capped_calls n c))) n ≡ min (count_of kind (counted kind c)) n
call_capped n each c = grind arith

pub names_twice : (n : ℕ) (ns : List Named) → map (capped_name n) (map (capped_name n) ns) ≡ map (capped_name n) ns
names_twice n [] = refl
names_twice n (x ∷ xs) = ap₂ (λ (c : Calls) (ys : List Named). record x { calls = c } ∷ ys) (grind arith) (names_twice n xs)

-- ---- the lines of a call

-- two numbers that are the same up to n
is_for_alike : (n a b : ℕ) (call : Option ℕ) → IsBefore n call → min a n ≡ min b n → is_for a call ≡ is_for b call
is_for_alike n a b call before same = grind arith

-- each of these lines is for every call, or for one before the n-th
abbrev AreBeforeIn : ℕ → List CallbackLine → Type 0
AreBeforeIn n lines = (i : ℕ) (line : CallbackLine) → slice_get lines i ≡ Some line → IsBefore n line.call

dropped : (n k : ℕ) (lines : List CallbackLine) → AreBeforeIn n lines → AreBeforeIn n (drop k lines)
dropped n (suc k) (l ∷ ls) before i line is = dropped n k ls (λ j x e. before (suc j) x e) i line is
dropped n each e2 before i line is = grind arith

next_alike : (n a b number : ℕ) (lines : List CallbackLine) → AreBeforeIn n lines → min a n ≡ min b n →
    next_line a number lines ≡ next_line b number lines
next_alike n a b number [] before same = refl
next_alike n a b number (l ∷ ls) before same =
    ap₂ (λ (t : Bool) (o : Option ℕ). if t then Some number else o)
    (is_for_alike n a b l.call (before 0 l refl) same)
    (next_alike n a b (number + 1) ls (λ j x e. before (suc j) x e) same)

body_at_capped : (n : ℕ) (kind : Callback) (v : Var) (a b : ℕ) (o : Option ℕ) → min a n ≡ min b n →
    option_map (capped_body n) (body_at kind v a o) ≡ option_map (capped_body n) (body_at kind v b o)
body_at_capped n kind v a b o same = grind arith

-- the body of a call is the same up to n where the number of the call is
pub body_alike : (n : ℕ) (p : Program) (kind : Callback) (v : Var) (a b number : ℕ) → AreBefore n p → min a n ≡ min b n →
    option_map (capped_body n) (body_from p kind v a number) ≡ option_map (capped_body n) (body_from p kind v b number)
body_alike n p kind v a b number before same =
    ap (λ o. option_map (capped_body n) (body_at kind v a o))
    (next_alike n a b number (drop number (lines_in p kind v)) (dropped n number (lines_in p kind v) (before kind v)) same)
    ∙ body_at_capped n kind v a b (next_line b number (drop number (lines_in p kind v))) same

-- ---- a step

sees : (n : ℕ) (p : Program) → AreBefore n p → SeesAlike p (capped_name n) (λ call. min call n) as_is (state_map (capped n)) (state_map (capped n))
sees n p before = record {
  refuses = λ why. refl;
  stays = λ u line. ap₂ (λ place ns. Moves (record u { place = place; names = ns }) line) (grind arith) (names_twice n u.names);
  moves = λ u place line same. ap (λ ns. Moves (record u { place = capped_place n place; names = ns }) line) (names_twice n u.names);
  calls = λ u run kind v line.
      ap₂ (λ body ns. Moves (record u { place = Running (record run { body = body }); names = ns }) (Some line))
      (search (body_alike, named_capped, call_capped))
      (grind (arith, map-set, names_twice, named_capped));
  goes = grind (arith, body_alike, twice, names_twice);
}

hides : (n : ℕ) (s : State) → Hides (capped_name n) s
hides n s = record { unbound = unbound_capped n; live = λ x. refl; fresh = λ id e x. refl }

pub counts_capped : (n : ℕ) (p : Program) (s : State) (e : Event) → AreBefore n p →
    state_map (capped n) (next p (capped n s) e) ≡ state_map (capped n) (next p s e)
counts_capped n p s e before =
    step_alike p (capped_name n) (λ call. min call n) (state_map (capped n)) (state_map (capped n)) (sees n p before) s (hides n s) e

pub alike_by_counts : (n : ℕ) (p : Program) (s t : State) (e : Event) → AreBefore n p → capped n s ≡ capped n t →
    state_map (capped n) (next p s e) ≡ state_map (capped n) (next p t e)
alike_by_counts n p s t e before same =
    sym (counts_capped n p s e before) ∙ ap (λ u. state_map (capped n) (next p u e)) same ∙ counts_capped n p t e before

-- ---- a number that each line is before

lines_before : (n : ℕ) (lines : List CallbackLine) → lines_end lines ≤ n → AreBeforeIn n lines
lines_before n (l ∷ ls) most (suc i) line is = lines_before n ls (omega (arith, most)) i line is
lines_before n each most e3 line is = grind arith

kind_before : (n : ℕ) (kind : Callback) (c : Callbacks) → callbacks_end c ≤ n → AreBeforeIn n (lines_of kind c)
kind_before n callback.Handle c most = lines_before n c.handle (omega (arith, most))
kind_before n callback.After c most = lines_before n c.after (omega (arith, most))
kind_before n callback.Close c most = lines_before n c.close (omega (arith, most))

name_before : (n : ℕ) (kind : Callback) (cs : List Callbacks) (v : ℕ) → all_end cs ≤ n →
    AreBeforeIn n (lines_of kind (unwrap_or (slice_get cs v) no_callbacks))
name_before n kind [] v most = kind_before n kind no_callbacks (omega (arith, most))
name_before n kind (c ∷ cs) zero most = kind_before n kind c (omega (arith, most))
name_before n kind (c ∷ cs) (suc v) most = name_before n kind cs v (omega (arith, most))

pub script_before : (n : ℕ) (p : Program) → script_end p ≤ n → AreBefore n p
script_before n p most kind v = name_before n kind p.callbacks v.0 most
