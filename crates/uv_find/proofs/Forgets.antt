-- What holds where a search forgets.
use Rattle.uv_find.proofs.Names.{◌≡◌, ℕ, zero, suc, ◌≤◌, Bool, true, false, List, [], ◌∷◌, ◌++◌, Option, Some, None, is_none, if◌then◌else◌, refl, arith, max, list_all, and_parts, ltb-true, same_Some, none-some, Op, Program, arena_size, worker_count, script_end, script_before, IsShortOp, IsShort, Asked, Offered, Offer, Step, LONG, is_small_op, may_forget, most_end, takes_end, question_end, is_aside, are_aside, is_common, are_common, calls_end, LONGEST, may_take_at_once, each_op, at_will, finishes, every_offer, CanForget, MayForget, rules_of}
use Rattle.uv_ids.specs.declared.event.Event.TheVariants as event
use Rattle.uv_find.proofs.Declaring.{each_at, are_declared}

-- ---- small numbers

op_short : (o : Op) → is_small_op o ≡ true → IsShortOp LONG o
op_short o h = grind arith

script_short : (p : Program) → each_op is_small_op p ≡ true → IsShort LONG p
script_short p small at o e = op_short o (each_at is_small_op p small at o e)

-- ---- the whole

pub is_absent : {A : Type 0} (o : Option A) → is_none o ≡ true → o ≡ None
is_absent o e = grind arith

ends : (a b c d n : ℕ) → max 1 (max a (max b (max c d))) ≡ n → (a ≤ n) × (b ≤ n) × (c ≤ n) × (d ≤ n) × (1 ≤ n)
ends a b c d n e = (omega (arith, e), omega (arith, e), omega (arith, e), omega (arith, e), omega (arith, e))

-- no offer that is there of itself is bound to a request, or to a worker by its number
pub all_front : {A : Type 0} (f : A → Bool) (xs ys : List A) → list_all f xs ≡ true → list_all f ys ≡ true → list_all f (xs ++ ys) ≡ true
all_front f [] ys h k = k
all_front f (x ∷ xs) ys h k = let both = and_parts (f x) (list_all f xs) h in rw (both.0, all_front f xs ys both.1 k) refl

finishes_common : (workers : ℕ) → are_common (finishes workers) ≡ true
finishes_common zero = refl
finishes_common (suc n) = all_front _ (finishes n) (at_will (Step (event.Finish n)) ∷ []) (finishes_common n) refl

aside_common : (offer : Offer) → is_aside offer ≡ true → is_common offer ≡ true
aside_common offer h = grind arith

asked_common : (asked : List Offered) → are_aside asked ≡ true → are_common asked ≡ true
asked_common [] h = refl
asked_common (o ∷ os) h =
    let both = and_parts (is_aside o.offer) (are_aside os) h in
    rw (aside_common o.offer both.0, asked_common os both.1) refl

every_common : (at_once : Bool) (workers : ℕ) (asked : List Offered) → are_aside asked ≡ true
    → are_common (every_offer at_once workers asked) ≡ true
every_common at_once workers asked h = grind (arith, all_front, finishes_common, asked_common)

forgetting : (p : Program) (asked : Asked) (n : ℕ) → may_forget p asked ≡ true → calls_end p asked ≡ n → CanForget (rules_of p asked) n
forgetting p asked n may end =
    let declared = and_parts _ _ may in
    let takes = and_parts _ _ declared.0 in
    let aside = and_parts _ _ takes.0 in
    let offers = and_parts _ _ aside.0 in
    let small = and_parts _ _ offers.0 in
    let lasts = and_parts _ _ small.0 in
    let differ = and_parts _ _ lasts.0 in
    let clock = and_parts _ _ differ.0 in
    let all = ends (script_end p) (most_end asked.most) (takes_end asked.takes) (question_end asked.question) n end in
    record {
      before = script_before n p all.0;
      most = all.1;
      takes = all.2;
      question = all.3;
      some = all.4;
      short = script_short p small.1;
      declares = are_declared p declared.1;
      lasts = ltb-true LONGEST (arena_size p).last_generation lasts.1;
      clock = is_absent asked.clock clock.1;
      differ = is_absent asked.differ differ.1;
      aside = every_common (may_take_at_once p asked) (worker_count p) asked.offers aside.1;
    }

pub forgets : (p : Program) (asked : Asked) → MayForget (rules_of p asked)
forgets p asked n e = by (may_forget p asked) refl e where
  by : (b : Bool) → may_forget p asked ≡ b → (if b then Some (calls_end p asked) else None) ≡ Some n → CanForget (rules_of p asked) n
  by true may is = forgetting p asked n may (same_Some (calls_end p asked) n is)
  by false may is = absurd (none-some n is)
