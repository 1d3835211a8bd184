-- The parts of a recording, as a replay reads and runs them.
use Rattle.uv_engine.proofs.Names.{◌≡◌, ◌≢◌, ℕ, ◌+◌, List, [], ◌∷◌, ◌++◌, Bool, length, Option, None, Result, Ok, Err, refl, ap, sym, subst, arith, append-nil, codes, Event, Fault, Program, lines_of, SaysStep, IsCallbackLine, Verdict, Version, TakesLine, version_line, unread_in, Part, Start, InScript, InSteps, InCalls, Whole, Reads, version, step, calls, callback, ends, IsBadFrom, FrontEnd, Begin, Input, Long, ReadsFront, ParsesFront, NoneSkipped, CutShort, CutOff, IsVerdict, HasVerdict, verdict_text, Tells, cut_short, Replays, ReadsTo, RanSo, HasSteps, Met, HasCalls, FailsAt, IsJudged, Judges, JudgesRest, IsReadingFault, RefusesLong, Draft}
use Rattle.uv_ids.specs.declared.fault.Fault.TheVariants as fault
use Rattle.uv_engine.specs.Verdict as verdict
use Rattle.uv_engine.specs.Recordings as grammar
use Rattle.uv_engine.proofs.Recordings.{reads_none, reads_then, reads_line, bad_then, bad_line, bad_end, only_calls, script_read, long_fails}
use Rattle.uv_engine.proofs.Gathers.{short_of_cut}

pub fails_then : (x y : Part) (a b : ℕ) (old mid : List ℕ) (f : Fault) → ReadsTo x a old y b mid → FailsAt y b mid f → FailsAt x a old f
fails_then x y a b old mid (fault.Script line) h k = bad_then x y a b line old mid h k
fails_then x y a b old mid fault.Memory h k = tt
fails_then x y a b old mid fault.Read h k = tt
fails_then x y a b old mid fault.Write h k = absurd k
fails_then x y a b old mid fault.StepsFull h k = absurd k
fails_then x y a b old mid (fault.Refused why) h k = absurd k
fails_then x y a b old mid (fault.Torn place) h k = absurd k
fails_then x y a b old mid fault.Stalled h k = absurd k
fails_then x y a b old mid (fault.Differs place) h k = absurd k
fails_then x y a b old mid fault.Limit h k = absurd k

-- ---- the first line and the script

pub version_read : (v : Version) (a b : ℕ) (old line new : List ℕ) (fed : Bool) → b ≡ a + 1 → TakesLine old line fed new → line ≡ version_line v →
    ReadsTo Start a old (InScript (unread_in v)) b new
version_read v a b old line new fed n takes is =
    reads_line Start (InScript (unread_in v)) a b old line new fed n takes
    (subst (λ (l : List ℕ). Reads Start l (InScript (unread_in v))) (sym is) (version v))

pub version_bad : (a b : ℕ) (old line new : List ℕ) (fed : Bool) → b ≡ a + 1 → TakesLine old line fed new →
    ((v : Version) → line ≢ version_line v) → IsBadFrom Start a old b
version_bad a b old line new fed n takes other = bad_line Start a b old line new fed n takes (grind arith)

pub front_read : (s : Draft) (input text rest : List ℕ) (end : FrontEnd) (p : Program) (a n : ℕ) → ReadsFront input text end rest →
    ParsesFront s text end (Ok p) → NoneSkipped (lines_of text) → n ≡ length (lines_of text) →
    ReadsTo (InScript s) a input (InSteps p []) (a + (n + 1)) rest
front_read s input text rest each p a n h is say e = grind (arith, script_read)

-- ---- the steps

-- some lines were read as steps, and run
pub record StepsSo (p : Program) (a : ℕ) (old : List ℕ) (b : ℕ) (new : List ℕ) (standing : List Event) (halted : Option Verdict) : Type 0 where
  pub steps : List Event
  pub reads : ReadsTo (InSteps p []) a old (InSteps p steps) b new
  pub ran : RanSo p steps standing halted

pub steps_none : (p : Program) (a : ℕ) (old : List ℕ) (standing : List Event) (halted : Option Verdict) → RanSo p [] standing halted →
    StepsSo p a old a old standing halted
steps_none p a old standing halted h = record { steps = []; reads = reads_none (InSteps p []) a old; ran = h }

pub steps_more : {p : Program} {a b : ℕ} {old mid : List ℕ} {xs ys : List Event} {h k : Option Verdict} (c : ℕ) (line new : List ℕ) (fed : Bool)
    (e : Event) → StepsSo p a old b mid xs h → c ≡ b + 1 → TakesLine mid line fed new → SaysStep p line e →
    ((es : List Event) → RanSo p es xs h → RanSo p (es ++ e ∷ []) ys k) → StepsSo p a old c new ys k
steps_more {p} {a} {b} {old} {mid} {xs} {ys} {h} {k} c line new fed e so n takes says ran = record {
  steps = so.steps ++ e ∷ [];
  reads = reads_then (InSteps p []) (InSteps p so.steps) (InSteps p (so.steps ++ e ∷ [])) a b c old mid new so.reads
      (reads_line (InSteps p so.steps) (InSteps p (so.steps ++ e ∷ [])) b c mid line new fed n takes (step says));
  ran = ran so.steps so.ran;
}

pub steps_end : {p : Program} {a b : ℕ} {old mid : List ℕ} {xs : List Event} {h : Option Verdict} (c : ℕ) (line new : List ℕ) (fed : Bool) →
    StepsSo p a old b mid xs h → c ≡ b + 1 → TakesLine mid line fed new → line ≡ codes "calls" → HasSteps p a old c new xs h
steps_end {p} {a} {b} {old} {mid} {xs} {h} c line new fed so n takes is = record {
  steps = so.steps;
  reads = reads_then (InSteps p []) (InSteps p so.steps) (InCalls p so.steps []) a b c old mid new so.reads
      (reads_line (InSteps p so.steps) (InCalls p so.steps []) b c mid line new fed n takes
      (subst (λ (l : List ℕ). Reads (InSteps p so.steps) l (InCalls p so.steps [])) (sym is) calls));
  ran = so.ran;
}

pub steps_bad : {p : Program} {a b : ℕ} {old mid : List ℕ} {xs : List Event} {h : Option Verdict} (c : ℕ) (line new : List ℕ) (fed : Bool) →
    StepsSo p a old b mid xs h → c ≡ b + 1 → TakesLine mid line fed new → line ≢ codes "calls" → ((e : Event) → SaysStep p line e → ⊥) →
    IsBadFrom (InSteps p []) a old c
steps_bad {p} {a} {b} {old} {mid} {xs} {h} c line new fed so n takes other none =
    bad_then (InSteps p []) (InSteps p so.steps) a b c old mid so.reads
    (bad_line (InSteps p so.steps) b c mid line new fed n takes (grind arith))

-- the next line couldn't be had
pub steps_fail : {p : Program} {a b : ℕ} {old mid : List ℕ} {xs : List Event} {h : Option Verdict} (new : List ℕ) (f : Fault) →
    StepsSo p a old b mid xs h → IsReadingFault f → RefusesLong f b mid new → FailsAt (InSteps p []) a old f
steps_fail {p} {a} {b} {old} {mid} {xs} {h} new f so is k =
    fails_then (InSteps p []) (InSteps p so.steps) a b old mid f so.reads (long_fails (InSteps p so.steps) b mid new f is k)

-- ---- the callbacks

-- some lines were read as callbacks, and compared
pub record CallsSo (p : Program) (es standing : List Event) (halted : Option Verdict) (a : ℕ) (old : List ℕ) (b : ℕ) (new : List ℕ)
    (looked count : ℕ) (parted : Option ℕ) : Type 0 where
  pub called : List (List ℕ)
  pub reads : ReadsTo (InCalls p es []) a old (InCalls p es called) b new
  pub met : Met p standing halted called looked count parted

pub calls_none : (p : Program) (es standing : List Event) (halted : Option Verdict) (a : ℕ) (old : List ℕ) (looked count : ℕ) (parted : Option ℕ) →
    looked ≡ 0 → count ≡ 0 → parted ≡ None → CallsSo p es standing halted a old a old looked count parted
calls_none p es standing halted a old looked count parted x y z = grind (arith, reads_none)

pub calls_more : {p : Program} {es xs : List Event} {h : Option Verdict} {a b : ℕ} {old mid : List ℕ} {i n : ℕ} {o : Option ℕ}
    (c : ℕ) (line new : List ℕ) (fed : Bool) (j m : ℕ) (q : Option ℕ) → CallsSo p es xs h a old b mid i n o → c ≡ b + 1 →
    TakesLine mid line fed new → IsCallbackLine line →
    ((called : List (List ℕ)) → Met p xs h called i n o → Met p xs h (called ++ line ∷ []) j m q) → CallsSo p es xs h a old c new j m q
calls_more {p} {es} {xs} {h} {a} {b} {old} {mid} {i} {n} {o} c line new fed j m q so k takes is met = record {
  called = so.called ++ line ∷ [];
  reads = reads_then (InCalls p es []) (InCalls p es so.called) (InCalls p es (so.called ++ line ∷ [])) a b c old mid new so.reads
      (reads_line (InCalls p es so.called) (InCalls p es (so.called ++ line ∷ [])) b c mid line new fed k takes (callback is));
  met = met so.called so.met;
}

pub calls_end : {p : Program} {es xs : List Event} {h : Option Verdict} {a b : ℕ} {old mid : List ℕ} {i n : ℕ} {o : Option ℕ}
    (c : ℕ) (line new : List ℕ) (fed : Bool) → CallsSo p es xs h a old b mid i n o → c ≡ b + 1 → TakesLine mid line fed new → line ≡ codes "end" →
    HasCalls p es xs h a old c new i n o
calls_end {p} {es} {xs} {h} {a} {b} {old} {mid} {i} {n} {o} c line new fed so k takes is = record {
  called = so.called;
  reads = reads_then (InCalls p es []) (InCalls p es so.called) (Whole p es so.called) a b c old mid new so.reads
      (reads_line (InCalls p es so.called) (Whole p es so.called) b c mid line new fed k takes
      (subst (λ (l : List ℕ). Reads (InCalls p es so.called) l (Whole p es so.called)) (sym is) ends));
  met = so.met;
}

pub calls_bad : {p : Program} {es xs : List Event} {h : Option Verdict} {a b : ℕ} {old mid : List ℕ} {i n : ℕ} {o : Option ℕ}
    (c : ℕ) (line new : List ℕ) (fed : Bool) → CallsSo p es xs h a old b mid i n o → c ≡ b + 1 → TakesLine mid line fed new → line ≢ codes "end" →
    (IsCallbackLine line → ⊥) → IsBadFrom (InCalls p es []) a old c
calls_bad {p} {es} {xs} {h} {a} {b} {old} {mid} {i} {n} {o} c line new fed so k takes other none =
    bad_then (InCalls p es []) (InCalls p es so.called) a b c old mid so.reads
    (bad_line (InCalls p es so.called) b c mid line new fed k takes (only_calls p es so.called line other none))

pub calls_missing : {p : Program} {es xs : List Event} {h : Option Verdict} {a b : ℕ} {old mid : List ℕ} {i n : ℕ} {o : Option ℕ} (c : ℕ) →
    CallsSo p es xs h a old b mid i n o → c ≡ b + 1 → mid ≡ [] → IsBadFrom (InCalls p es []) a old c
calls_missing {p} {es} {xs} {h} {a} {b} {old} {mid} {i} {n} {o} c so k e =
    bad_then (InCalls p es []) (InCalls p es so.called) a b c old mid so.reads (bad_end (InCalls p es so.called) b c mid k e tt)

pub calls_fail : {p : Program} {es xs : List Event} {h : Option Verdict} {a b : ℕ} {old mid : List ℕ} {i n : ℕ} {o : Option ℕ} (new : List ℕ)
    (f : Fault) → CallsSo p es xs h a old b mid i n o → IsReadingFault f → RefusesLong f b mid new → FailsAt (InCalls p es []) a old f
calls_fail {p} {es} {xs} {h} {a} {b} {old} {mid} {i} {n} {o} new f so is k =
    fails_then (InCalls p es []) (InCalls p es so.called) a b old mid f so.reads (long_fails (InCalls p es so.called) b mid new f is k)

-- ---- the end

pub end_bad : (p : Program) (es : List Event) (called : List (List ℕ)) (a b : ℕ) (old line new : List ℕ) (fed : Bool) → b ≡ a + 1 →
    TakesLine old line fed new → IsBadFrom (Whole p es called) a old b
end_bad p es called a b old line new fed n takes = bad_line (Whole p es called) a b old line new fed n takes (grind arith)

pub end_read : (p : Program) (es : List Event) (called : List (List ℕ)) (a b : ℕ) (old : List ℕ) → b ≡ a → old ≡ [] →
    ReadsTo (Whole p es called) a old (Whole p es called) b []
end_read p es called a b old n e = record {
  before = [];
  lines_are = ap lines_of e;
  counted = omega (arith, n);
  read = grammar.none;
}

-- ---- the whole

pub rest_judged : {p : Program} {b2 b3 b4 b5 : ℕ} {r2 r3 r4 : List ℕ} {standing : List Event} {halted : Option Verdict}
    {looked count : ℕ} {parted : Option ℕ} (v : Verdict) → (steps : HasSteps p b2 r2 b3 r3 standing halted) →
    (met_calls : HasCalls p steps.steps standing halted b3 r3 b4 r4 looked count parted) →
    ReadsTo (Whole p steps.steps met_calls.called) b4 r4 (Whole p steps.steps met_calls.called) b5 [] →
    ((es : List Event) → (called : List (List ℕ)) → RanSo p es standing halted → Met p standing halted called looked count parted →
    IsVerdict p es called v) → IsJudged p b2 r2 v
rest_judged {p} {b2} {b3} {b4} {b5} {r2} {r3} {r4} {standing} {halted} {looked} {count} {parted} v steps met_calls end is =
    let es = steps.steps in
    let whole = Whole p es met_calls.called in
    let met = reads_then (InSteps p []) (InCalls p es []) whole b2 b3 b4 r2 r3 r4 steps.reads met_calls.reads in
    record {
      steps = es;
      called = met_calls.called;
      taken = b5;
      reads = reads_then (InSteps p []) whole whole b2 b4 b5 r2 r4 [] met end;
      verdict = is es met_calls.called steps.ran met_calls.met;
    }

pub judges : {p : Program} {a b : ℕ} {input mid rest : List ℕ} (s : Draft) (r : Result Verdict Fault) → ReadsTo Start 0 input (InScript s) a mid →
    ReadsTo (InScript s) a mid (InSteps p []) b rest → JudgesRest p b rest r → Judges input r
judges {p} {a} {b} {input} {mid} {rest} s (Ok v) h k is =
    let front = reads_then Start (InScript s) (InSteps p []) 0 a b input mid rest h k in
    let all = reads_then Start (InSteps p []) (Whole p is.steps is.called) 0 b is.taken input rest [] front is.reads in
    grind (arith, append-nil)
judges {p} {a} {b} {input} {mid} {rest} s (Err f) h k is = search (fails_then, reads_then)

pub fails_replay : (input old : List ℕ) (f : Fault) → FailsAt Start 0 input f → Replays input (Err f) old old
fails_replay input old (fault.Script line) h = verdict.bad_line line refl h refl
fails_replay input old each h = grind arith

-- the writer failed
pub told_short : (v : Verdict) (old text w : List ℕ) → text ≡ verdict_text v → CutOff old ((old ++ text) ++ []) w → Tells v (Err fault.Write) old w
told_short v old text w e h = cut_short refl (subst (λ (t : List ℕ). CutShort old t w) e (short_of_cut h))
