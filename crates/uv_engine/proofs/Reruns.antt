-- The steps of a recording, run again, and its callbacks, compared.
use Rattle.uv_engine.proofs.Names.{◌≡◌, ℕ, suc, ◌+◌, ◌-◌, ◌<◌, ◌≤◌, List, [], ◌∷◌, ◌++◌, true, false, length, map, drop, Option, Some, None, Ok, Err, refl, ap, sym, subst, ◌∙◌, arith, append_assoc, append-nil, length-append, slice_get, option_to_list, flat_map, filter, drop_all, get_or_from_slice_get, filter-append, Event, Seen, Why, Program, Outcome, Refuses, Answers, STEPS, accepts-push, length-seen_by, line_text, is_callback, callback_lines, Verdict, Same, Differs, Refused, IsHalt, refused, full, AllTaken, AreApart, PartAt, IsVerdict, halts, same, differs, RanSo, MetSo, called_from, next, seen_by}
use Rattle.std.proofs.Math.Seq.{drop-cons}
use Rattle.uv_ids.specs.declared.fault.Fault.TheVariants as fault
use Rattle.uv_engine.specs.declared.verdict.Verdict.TheVariants.{Full}

-- ---- the steps

-- a step was taken
pub ran_on : (p : Program) (es standing fs : List Event) (e : Event) (outcome : Outcome) → RanSo p es standing None →
    Answers STEPS p standing e (Ok outcome) fs → RanSo p (es ++ e ∷ []) fs None
ran_on p es standing fs e outcome ran h = grind (arith, length-append, accepts-push)

-- it is refused
pub ran_refused : (p : Program) (es standing fs : List Event) (e : Event) (why : Why) (n : ℕ) → RanSo p es standing None →
    Answers STEPS p standing e (Err (fault.Refused why)) fs → n ≡ length fs → RanSo p (es ++ e ∷ []) fs (Some (Refused (n + 1) why))
ran_refused p es standing fs e why n ran h k = grind (arith, refused)

-- there are as many steps as may be
pub ran_full : (p : Program) (es standing fs : List Event) (e : Event) (n : ℕ) → length standing ≤ STEPS → RanSo p es standing None →
    Answers STEPS p standing e (Err fault.StepsFull) fs → n ≡ length fs → RanSo p (es ++ e ∷ []) fs (Some (Full (n + 1)))
ran_full p es standing fs e n few ran h k = grind (arith, full)

-- one step before it wasn't taken
halt_more : (p : Program) (es : List Event) (e : Event) (v : Verdict) → IsHalt p es v → IsHalt p (es ++ e ∷ []) v
halt_more p es e v e4 = grind (arith, refused, append_assoc, full)

pub ran_halted : (p : Program) (es standing : List Event) (e : Event) (v : Verdict) → RanSo p es standing (Some v) →
    RanSo p (es ++ e ∷ []) standing (Some v)
ran_halted p es standing e v h = halt_more p es e v h

pub ruleset running = (ran_on, ran_refused, ran_full, ran_halted)

-- ---- the callbacks

called_at : (p : Program) (es : List Event) (i : ℕ) (x : Option Seen) → i < length es → slice_get (seen_by p es) (i + 1 - 1) ≡ Some x →
    called_from p es i ≡ filter is_callback (option_to_list x) ++ called_from p es (i + 1)
called_at p es i x within is =
    let here : i + 1 - 1 ≡ i = omega arith in
    let next : suc i ≡ i + 1 = omega arith in
    let inside : i < length (seen_by p es) = rw length-seen_by within in
    let found = get_or_from_slice_get (seen_by p es) i x x (subst (λ (n : ℕ). slice_get (seen_by p es) n ≡ Some x) here is) in
    grind (arith, drop-cons, filter-append)

-- a step that calls back
pub called_one : (p : Program) (es : List Event) (i : ℕ) (x : Option Seen) (l : Seen) → i < length es →
    slice_get (seen_by p es) (i + 1 - 1) ≡ Some x → x ≡ Some l → is_callback l ≡ true → called_from p es i ≡ l ∷ called_from p es (i + 1)
called_one p es i x l within is some e =
    called_at p es i x within is ∙ ap (λ (y : Option Seen). filter is_callback (option_to_list y) ++ called_from p es (i + 1)) some
    ∙ rw e refl

-- one that doesn't
pub called_other : (p : Program) (es : List Event) (i : ℕ) (x : Option Seen) (l : Seen) → i < length es →
    slice_get (seen_by p es) (i + 1 - 1) ≡ Some x → x ≡ Some l → is_callback l ≡ false → called_from p es i ≡ called_from p es (i + 1)
called_other p es i x l within is some e =
    called_at p es i x within is ∙ ap (λ (y : Option Seen). filter is_callback (option_to_list y) ++ called_from p es (i + 1)) some
    ∙ rw e refl

-- one that appends no line
pub called_silent : (p : Program) (es : List Event) (i : ℕ) (x : Option Seen) → i < length es → slice_get (seen_by p es) (i + 1 - 1) ≡ Some x →
    x ≡ None → called_from p es i ≡ called_from p es (i + 1)
called_silent p es i x within is none =
    called_at p es i x within is ∙ ap (λ (y : Option Seen). filter is_callback (option_to_list y) ++ called_from p es (i + 1)) none

-- no step is left
pub called_none : (p : Program) (es : List Event) (i : ℕ) → length es ≤ i → called_from p es i ≡ []
called_none p es i l = search (length-seen_by, drop_all)

pub ruleset calling = (called_one, called_other, called_silent, called_none)

-- ---- the recorded lines, beside those of the steps

-- a line is that of the next callback
pub met_same : (p : Program) (es : List Event) (called : List (List ℕ)) (i j n : ℕ) (l : Seen) (line : List ℕ) → MetSo p es called i n None →
    called_from p es i ≡ l ∷ called_from p es j → line ≡ line_text p l → MetSo p es (called ++ line ∷ []) j (n + 1) None
met_same p es called i j n l line met next is = grind (arith, length-append, append_assoc)

-- it isn't
pub met_other : (p : Program) (es : List Event) (called : List (List ℕ)) (i j n : ℕ) (l : Seen) (line : List ℕ) → MetSo p es called i n None →
    called_from p es i ≡ l ∷ called_from p es j → (line ≡ line_text p l → ⊥) → MetSo p es (called ++ line ∷ []) j (n + 1) (Some (n + 1))
met_other p es called i j n l line met next other = grind (arith, append_assoc)

-- no callback is left
pub met_past : (p : Program) (es : List Event) (called : List (List ℕ)) (i j n : ℕ) (line : List ℕ) → MetSo p es called i n None →
    called_from p es i ≡ [] → MetSo p es (called ++ line ∷ []) j (n + 1) (Some (n + 1))
met_past p es called i j n line met none = grind (arith, append_assoc)

-- a line before it differs
pub met_parted : (p : Program) (es : List Event) (called : List (List ℕ)) (i j n m place : ℕ) (line : List ℕ) → MetSo p es called i n (Some place) →
    MetSo p es (called ++ line ∷ []) j m (Some place)
met_parted p es called i j n m place line met = search append_assoc

pub ruleset meeting = (met_same, met_other, met_past, met_parted)

-- ---- the verdict

pub judged_parted : (p : Program) (es standing : List Event) (called : List (List ℕ)) (i n place : ℕ) → RanSo p es standing None →
    MetSo p standing called i n (Some place) → IsVerdict p es called (Differs place)
judged_parted p es standing called i n place ran met =
    let part = subst (λ (xs : List (List ℕ)). PartAt xs (callback_lines p standing) place) (append-nil called) (met []) in
    differs place ran.1 (subst (λ (xs : List Event). PartAt called (callback_lines p xs) place) ran.0 part)

pub judged_short : (p : Program) (es standing : List Event) (called : List (List ℕ)) (i j n : ℕ) (l : Seen) → RanSo p es standing None →
    MetSo p standing called i n None → called_from p standing i ≡ l ∷ called_from p standing j → IsVerdict p es called (Differs (n + 1))
judged_short p es standing called i j n l ran met next =
    let part : PartAt called (callback_lines p standing) (n + 1) = record {
      same = called;
      left = [];
      right = line_text p l ∷ map (line_text p) (called_from p standing j);
      left_is = sym (append-nil called);
      right_is = met.1 ∙ ap (λ (xs : List Seen). called ++ map (line_text p) xs) next;
      apart = tt;
      counted = ap (λ (k : ℕ). k + 1) met.0;
    } in
    differs (n + 1) ran.1 (subst (λ (xs : List Event). PartAt called (callback_lines p xs) (n + 1)) ran.0 part)

pub judged_same : (p : Program) (es standing : List Event) (called : List (List ℕ)) (i n : ℕ) → RanSo p es standing None →
    MetSo p standing called i n None → called_from p standing i ≡ [] → IsVerdict p es called Same
judged_same p es standing called i n ran met none =
    same ran.1 (sym (ap (callback_lines p) (sym ran.0) ∙ met.1 ∙ ap (λ (xs : List Seen). called ++ map (line_text p) xs) none ∙ append-nil called))

pub ruleset judging = (halts, judged_parted, judged_short, judged_same)
