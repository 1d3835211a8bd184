-- What holds where moves are held back.
use Rattle.uv_find.proofs.Names.{◌≡◌, ℕ, zero, suc, ◌+◌, ◌-◌, ◌<◌, ◌≤◌, Bool, true, false, ◌&&◌, not, List, [], ◌∷◌, ◌++◌, length, length-append, Some, None, slice_get, if◌then◌else◌, ◌⊎◌, inl, inr, refl, ap, ◌∙◌, append_assoc, arith, list_any, and_parts, same_Some, none-some, Program, worker_count, Asked, Step, Offered, can_meet, can_all_meet, asks_late, may_hold, hold_of, is_of_pool, may_take_at_once, loop_number, at_will, finishes, first_offers, offer_spares, offers_spare, is_mate, mates_of, mates_in, has_mate, AreMates, AreOfPool, CanHold, CanTakeAtOnce, MayHold, rules_of}
use Rattle.uv_ids.specs.declared.event.Event.TheVariants as event
use Rattle.uv_find.proofs.Forgets.{all_front}
use Rattle.uv_find.proofs.Led.{each}
use Rattle.uv_find.proofs.Meeting.{not_true}
use Rattle.uv_find.proofs.Offers.{offers_are, finish_in}

finishes_of_pool : (ticks : Bool) (workers : ℕ) → can_all_meet ticks (finishes workers) ≡ true
finishes_of_pool ticks zero = refl
finishes_of_pool ticks (suc n) = simp (all_front, (finishes_of_pool ticks n))

-- in either order of the first two
others_meet : (ticks at_once : Bool) (xs : List Offered) → can_all_meet ticks xs ≡ true → (i : ℕ) (o : Offered) → (i ≡ loop_number at_once → ⊥)
    → slice_get (first_offers at_once ++ xs) i ≡ Some o → can_meet ticks o.offer ≡ true
others_meet ticks at_once xs all i o other at = grind (arith, same_Some, each)

loop_there : (at_once : Bool) (xs : List Offered) → slice_get (first_offers at_once ++ xs) (loop_number at_once) ≡ Some (at_will (Step event.Loop))
loop_there at_once xs = grind arith

-- what else is asked for allows it
record Allowed (asked : Asked) : Type 0 where
  differ : asked.differ ≡ None
  takes : asked.takes ≡ []
  question : asks_late asked.question ≡ false
  pool : can_all_meet true asked.offers ≡ true

allowed : (asked : Asked) → may_hold asked ≡ true → Allowed asked
allowed asked may = grind arith

holding : (p : Program) (asked : Asked) (ticks : Bool) → may_hold asked ≡ true → can_all_meet ticks asked.offers ≡ true
    → CanHold (rules_of p asked) ticks
holding p asked ticks may pool =
    let may_be = allowed asked may in
    let workers = worker_count p in
    let all : can_all_meet ticks (finishes workers ++ asked.offers) ≡ true =
    all_front (λ (o : Offered). can_meet ticks o.offer) (finishes workers) asked.offers (finishes_of_pool ticks workers) pool in
    let at_once = may_take_at_once p asked in
    let offers = offers_are at_once (finishes workers) asked.offers in
    search (loop_there, others_meet)

behind_loop : (p : Program) (asked : Asked) (ticks : Bool) → hold_of asked ≡ Some ticks → CanHold (rules_of p asked) ticks
behind_loop p asked ticks e = by (may_hold asked) refl e where
  of_pool : may_hold asked ≡ true → (b : Bool) → can_all_meet false asked.offers ≡ b → not b ≡ ticks → can_all_meet ticks asked.offers ≡ true
  of_pool may b e2 is = grind arith

  by : (b : Bool) → may_hold asked ≡ b → (if b then Some (not (can_all_meet false asked.offers)) else None) ≡ Some ticks
      → CanHold (rules_of p asked) ticks
  by b may is = grind (arith, holding, of_pool, same_Some, none-some)

-- ---- a take at once

-- behind the finishes stands what is asked for
behind_finishes : (n : ℕ) (ys : List Offered) (i : ℕ) → n ≤ i → slice_get (finishes n ++ ys) i ≡ slice_get ys (i - n)
behind_finishes zero ys i l = let same : i ≡ i - 0 = omega arith in ap (slice_get ys) same
behind_finishes (suc n) ys i l =
    grind (arith, append_assoc, (behind_finishes n (at_will (Step (event.Finish n)) ∷ ys) i (omega (arith, l))))

-- where only that of the pool is asked, finishes go by ranks
of_pool : (p : Program) (asked : Asked) → is_of_pool p asked ≡ true → AreOfPool (rules_of p asked)
of_pool p asked is = grind (arith, and_parts, offers_are, finish_in, each, behind_finishes)

-- where a worker may take a request at once, that is the first offer
taking : (p : Program) (asked : Asked) → may_take_at_once p asked ≡ true → CanTakeAtOnce (rules_of p asked)
taking p asked here = grind (arith, and_parts, of_pool, not_true)

-- ---- names that are alike

-- of the first ones
mate_at : (p : Program) (asked : Asked) (n a : ℕ) → has_mate (mates_of p asked n) a ≡ true → (a < n) × (is_mate p asked a ≡ true)
mate_at p asked zero a h = absurd (let f : false ≡ true = h in cc)
mate_at p asked (suc n) a h = by (mate_at p asked n a) (get_either (mates_of p asked n) (is_mate p asked n) a) where
  long : (m : ℕ) → length (mates_of p asked m) ≡ m
  long zero = refl
  long (suc m) = let rest = long m in omega (arith, rest, length-append (mates_of p asked m) (is_mate p asked m ∷ []))

  get_either : (xs : List Bool) (x : Bool) (i : ℕ) → (slice_get (xs ++ x ∷ []) i ≡ slice_get xs i)
      ⊎ ((i ≡ length xs) × (slice_get (xs ++ x ∷ []) i ≡ Some x))
  get_either [] x zero = inr (refl, refl)
  get_either [] x (suc i) = inl refl
  get_either (y ∷ ys) x zero = inl refl
  get_either (y ∷ ys) x (suc i) = elim (get_either ys x i) [ inl e ↦ inl e | inr e ↦ inr (ap suc e.0, e.1) ]

  by : (has_mate (mates_of p asked n) a ≡ true → (a < n) × (is_mate p asked a ≡ true))
      → (slice_get (mates_of p asked n ++ is_mate p asked n ∷ []) a ≡ slice_get (mates_of p asked n) a)
      ⊎ ((a ≡ length (mates_of p asked n)) × (slice_get (mates_of p asked n ++ is_mate p asked n ∷ []) a ≡ Some (is_mate p asked n)))
      → (a < suc n) × (is_mate p asked a ≡ true)
  by more (inl same) = grind arith
  by more (inr (last, is)) =
      let one : a ≡ n = last ∙ long n in (grind arith)

spared_finishes : (a workers : ℕ) → offers_spare a (finishes workers) ≡ true
spared_finishes a zero = refl
spared_finishes a (suc n) = simp (all_front, (spared_finishes a n))

mates_alike : (p : Program) (asked : Asked) (a : ℕ) → is_of_pool p asked ≡ true → a + 1 < length p.callbacks → is_mate p asked a ≡ true
    → AreMates (rules_of p asked) a
mates_alike p asked a pool within is =
    let question = and_parts _ _ is in
    let bounds = and_parts _ _ question.0 in
    let offers = and_parts _ _ bounds.0 in
    let once = may_take_at_once p asked in
    let spares = λ (o : Offered). offer_spares a o.offer in
    record {
      of_pool = of_pool p asked pool;
      within = within;
      turned = offers.0;
      offers = grind (arith, offers_are, all_front, spared_finishes);
      bounds = bounds.1;
      question = question.1;
    }

alike : (p : Program) (asked : Asked) (a : ℕ) → has_mate (mates_in p asked) a ≡ true → AreMates (rules_of p asked) a
alike p asked a has = by (is_of_pool p asked) refl (list_any (λ b. b) all) has where
  all : List Bool
  all = mates_of p asked (length p.callbacks - 1)

  by : (pool : Bool) → is_of_pool p asked ≡ pool → (some : Bool) → has_mate (if pool && some then all else []) a ≡ true
      → AreMates (rules_of p asked) a
  by true is true h =
      let one = mate_at p asked (length p.callbacks - 1) a h in
      mates_alike p asked a is (omega (arith, one.0)) one.1
  by true is false h = absurd (let f : false ≡ true = h in cc)
  by false is some h = absurd (let f : false ≡ true = h in cc)

pub holds : (p : Program) (asked : Asked) → MayHold (rules_of p asked)
holds p asked = record { behind_loop = behind_loop p asked; behind_take = taking p asked; alike = alike p asked }
