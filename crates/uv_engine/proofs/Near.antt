-- How much was read of lines.
use Rattle.uv_engine.proofs.Names.{◌≡◌, ◌≢◌, ℕ, ◌+◌, ◌≤◌, List, [], ◌∷◌, ◌++◌, Bool, true, false, length, Result, Ok, Err, IfErr, refl, ap, sym, subst, ◌∙◌, arith, append_assoc, append-nil, length-append, AllByRecursion, Fault, Buffered, pending, left, TakesLine, TakesLong, IsReadFault, IsDeviceFault, ReadsNear, StopsNear}
use Rattle.uv_ids.specs.declared.fault.Fault.TheVariants as fault
use Rattle.uv_engine.proofs.Talking.{lines_fed, lines_last}

abbrev IsShort : List ℕ → Type 0
IsShort line = length line ≤ 257

-- nothing is held of a line
pub near_here : (b : Buffered) (remaining : List ℕ) → b.part ≡ [] → length b.ahead ≤ 4096 → ReadsNear (left b remaining) remaining
near_here b remaining none near = grind (arith, length-append, length)

pub near_line : (old line new remaining : List ℕ) (fed : Bool) → TakesLine old line fed new → length line ≤ 256 → ReadsNear new remaining →
    ReadsNear old remaining
near_line old line new remaining true h short k = record {
  lines = line ++ 10 ∷ k.lines;
  rest = k.rest;
  whole = h.1 ∙ ap (λ (xs : List ℕ). line ++ 10 ∷ xs) k.whole ∙ sym (append_assoc line (10 ∷ k.lines) k.rest);
  short = subst (AllByRecursion IsShort) (sym (lines_fed line k.lines h.0)) (omega (arith, short), k.short);
  near = k.near;
}
near_line old line new remaining false h short k = grind arith

pub near_long : (old : List ℕ) (b : Buffered) (remaining : List ℕ) → TakesLong old (left b remaining) → b.part ≡ [] → length b.ahead ≤ 4096 →
    ReadsNear old remaining
near_long old b remaining h none near = grind (arith, length, lines_last, length-append, length)

-- what is read on from here was read from the beginning
abbrev pub GoesOnNear : List ℕ → List ℕ → Type 0
GoesOnNear old now = (remaining : List ℕ) → ReadsNear now remaining → ReadsNear old remaining

pub near_start : (old : List ℕ) → GoesOnNear old old
near_start old remaining h = h

pub near_more : (old mid line new : List ℕ) (fed : Bool) → GoesOnNear old mid → TakesLine mid line fed new → length line ≤ 256 → GoesOnNear old new
near_more old mid line new fed h takes short remaining k = h remaining (near_line mid line new remaining fed takes short k)

pub stops_near : {A : Type 0} {tells : Type 0} (r : Result A Fault) (bytes remaining : List ℕ) → (tells → ReadsNear bytes remaining) →
    IfErr r (λ f. tells → StopsNear f bytes remaining)
stops_near r bytes remaining h = grind arith

pub none_stops : (f : Fault) (bytes remaining : List ℕ) → IsReadFault f → StopsNear f bytes remaining
none_stops f bytes remaining h = grind arith

pub talk_stops : {A : Type 0} (tells : Type 0) (r : Result A Fault) (bytes remaining : List ℕ) → IfErr r IsDeviceFault →
    IfErr r (λ f. tells → StopsNear f bytes remaining)
talk_stops tells r bytes remaining h = grind arith
