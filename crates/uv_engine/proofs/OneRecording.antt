-- A text is one recording at most; and of one that was made the verdict is same alone.
use Rattle.uv_engine.proofs.Names.{◌≡◌, ℕ, ◌<◌, List, [], ◌∷◌, ◌++◌, length, take, get_or, refl, ap, sym, subst, ◌∙◌, arith, length-append, codes, get_or-append_seam, append_cancel_left, take-append-le, take_all, none-some, same_Some, Event, Program, Draft, IsScript, AreDistinct, after_complete, distinct_reads, distinct_none, not_refused, Do, Step, IsCommand, command, SaysStep, loop, outside, IsCallbackLine, step_asked, callback_lines, asks_one, Verdict, Same, Version, version_line, unread_in, Part, Start, InScript, InSteps, InCalls, Whole, Reads, in_script, step, callback, ends, ReadsAll, none, one, IsHalt, refused, full, AreApart, AllTaken, IsVerdict, HasVerdict}
use Rattle.uv_script.specs.Reading as reading
use Rattle.uv_script.specs.Grammar as script
use Rattle.uv_text.specs.Commands as is
use Rattle.uv_text.specs.Recording.{recording_text}
use Rattle.uv_engine.proofs.Remade.{is_made, made_read}

-- ---- which lines are no step and no callback

lone_step : (names fields : List (List ℕ)) (e : Event) → length fields ≡ 1 → IsCommand names fields (Step e) → ⊥
lone_step names fields e n (is.step word argument _ f h) = let two = ap length f in absurd (omega (arith, n, two))

calls_no_step : (p : Program) (e : Event) → SaysStep p (codes "calls") e → ⊥
calls_no_step p e e2 = grind arith

begin_no_statement : (d e : Draft) → AreDistinct d.program.names → script.Reads d (codes "begin") e → ⊥
unfolding reading.after_line reading.statement_of reading.setting_of
begin_no_statement d e distinct h = none-some e (after_complete d e (codes "begin") distinct h)

-- where no name is declared twice, a line says one step at most
one_step : (p : Program) (line : List ℕ) (e f : Event) → AreDistinct p.names → SaysStep p line e → SaysStep p line f → e ≡ f
one_step p line _ _ distinct (loop a) (loop b) = refl
one_step p line _ f distinct (loop a) (outside _ l h has) = grind (arith, lone_step)
one_step p line e _ distinct (outside _ l h has) (loop a) = grind (arith, lone_step)
one_step p line e f distinct (outside _ l h has) (outside _ m k had) =
    let both = asks_one p.names line (Do (Step e)) (Do (Step f)) distinct (command (Step e) l h) (command (Step f) m k) in
    same_Some e f (ap step_asked both)

-- ---- a line goes on to one part at most

abbrev pub IsDistinct : Part → Type 0
IsDistinct Start = Unit {0}
IsDistinct (InScript d) = AreDistinct d.program.names
IsDistinct (InSteps p es) = AreDistinct p.names
IsDistinct (InCalls p es called) = Unit {0}
IsDistinct (Whole p es called) = Unit {0}

from_start : (v : Version) (line : List ℕ) (z : Part) → line ≡ version_line v → Reads Start line z → z ≡ InScript (unread_in v)
from_start v line z e e4 = grind arith

from_script : (d e : Draft) (line : List ℕ) (z : Part) → AreDistinct d.program.names → script.Reads d line e → Reads (InScript d) line z →
    z ≡ InScript e
from_script d e line z distinct h e6 = grind (arith, same_Some, after_complete, begin_no_statement)

at_begin : (d : Draft) (line : List ℕ) (z : Part) → AreDistinct d.program.names → line ≡ codes "begin" → Reads (InScript d) line z →
    z ≡ InSteps d.program []
at_begin d line z distinct is_begin e5 = grind (arith, begin_no_statement)

from_steps : (p : Program) (es : List Event) (e : Event) (line : List ℕ) (z : Part) → AreDistinct p.names → SaysStep p line e →
    Reads (InSteps p es) line z → z ≡ InSteps p (es ++ e ∷ [])
from_steps p es e line z distinct h e7 = grind (arith, one_step, calls_no_step)

at_calls : (p : Program) (es : List Event) (line : List ℕ) (z : Part) → line ≡ codes "calls" → Reads (InSteps p es) line z → z ≡ InCalls p es []
at_calls p es line z is_calls e5 = grind (arith, calls_no_step)

from_calls : (p : Program) (es : List Event) (called : List (List ℕ)) (line : List ℕ) (z : Part) → IsCallbackLine line →
    Reads (InCalls p es called) line z → z ≡ InCalls p es (called ++ line ∷ [])
from_calls p es called line _ h (callback k) = refl
from_calls p es called _ _ h ends = absurd (grind arith)

at_end : (p : Program) (es : List Event) (called : List (List ℕ)) (line : List ℕ) (z : Part) → line ≡ codes "end" →
    Reads (InCalls p es called) line z → z ≡ Whole p es called
at_end p es called line z is_end e6 = grind arith

pub one_part : (x y z : Part) (line : List ℕ) → IsDistinct x → Reads x line y → Reads x line z → z ≡ y
one_part _ _ z line distinct (in_script {d = d} {e = e} says h) k = from_script d e line z distinct h k
one_part _ _ z line distinct (step {p = p} {es = es} {e = e} h) k = from_steps p es e line z distinct h k
one_part _ _ z line distinct (callback {p = p} {es = es} {called = called} h) k = from_calls p es called line z h k
one_part each e1 z line distinct e5 k = search (from_start, from_script, at_begin, from_steps, at_calls, from_calls, at_end)

pub distinct_part : (x y : Part) (line : List ℕ) → IsDistinct x → Reads x line y → IsDistinct y
distinct_part x y line distinct e4 = grind (arith, distinct_none, distinct_reads)

pub all_one : (x y z : Part) (ls : List (List ℕ)) → IsDistinct x → ReadsAll x ls y → ReadsAll x ls z → y ≡ z
all_one x _ _ [] distinct none none = refl
all_one x y z (l ∷ ls) distinct (one {y = a} h hs) (one {y = b} k ks) =
    let same_part = one_part x b a l distinct k h in
    all_one b y z ls (distinct_part x b l distinct k) (subst (λ (m : Part). ReadsAll m ls y) same_part hs) ks

-- ---- the verdict

pub never_halts : (q : Program) (es : List Event) (v : Verdict) → AllTaken q es → IsHalt q es v → ⊥
never_halts q es _ taken (refused before rest e why cut accepted less is_refused) =
    let long = ap length cut in
    let within : length before < length es = omega (arith, long, length-append before (e ∷ rest)) in
    let here : e ≡ get_or es (length before) e =
    sym (ap (λ (xs : List Event). get_or xs (length before) e) cut ∙ get_or-append_seam before e rest e) in
    let front : take (length before) es ≡ before =
    ap (take (length before)) cut ∙ take-append-le (length before) before (e ∷ rest) (omega arith) ∙ take_all (length before) before (omega arith) in
    grind (arith, not_refused)
never_halts q es _ taken (full before rest e cut accepted all) = grind (arith, length-append)

only_same : (q : Program) (es : List Event) (called : List (List ℕ)) (v : Verdict) → AllTaken q es → called ≡ callback_lines q es →
    IsVerdict q es called v → v ≡ Same
only_same q es called v taken is_called e6 = grind (arith, never_halts, append_cancel_left)

-- the verdict on what was read
abbrev pub Judged : Verdict → Part → Type 0
Judged v (Whole p es called) = IsVerdict p es called v
Judged v x = Unit {0}

pub says_only_same : (text : List ℕ) (p : Program) (es : List Event) → IsScript text p → AllTaken p es → (v : Verdict) →
    HasVerdict (recording_text p es) v → v ≡ Same
says_only_same text p es is taken v h =
    let called = callback_lines p es in
    let whole = all_one Start (Whole h.program h.steps h.called) (Whole p es called) _ tt h.recording (made_read p es (is_made text p es is taken)) in
    only_same p es called v taken refl (subst (Judged v) whole h.verdict)
