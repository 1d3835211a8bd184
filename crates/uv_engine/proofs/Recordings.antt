-- The lines of a recording, one after another.
use Rattle.uv_engine.proofs.Names.{◌≡◌, ◌≢◌, inl, inr, ℕ, ◌+◌, ◌<◌, ◌≤◌, ◌==◌, List, [], ◌∷◌, ◌++◌, Bool, false, length, map, Option, Some, None, Ok, Err, refl, ap, sym, subst, ◌∙◌, arith, append_assoc, append-nil, length-append, codes, map-append, length-map, Event, Program, lines_of, IsSkipped, Draft, MakesFrom, IsCallbackLine, TakesLine, Begins, later, NeverBegins, last_line, one_line, FrontEnd, Begin, Input, Long, ReadsFront, IsBeforeLong, NoLineBegins, no_line, line_more, ParsesFront, TakesLong, RefusesLong, IsReadingFault, FailsAt, Fault, after_last, at_line, NoneSkipped, IsFirstSkipped, FindsSkipped, IsFirstBad, Part, InScript, InSteps, InCalls, Reads, version, in_script, begins, step, calls, callback, ends, ReadsAll, none, one, IsStuck, IsBadFrom, ReadsTo}
use Rattle.uv_ids.specs.declared.fault.Fault.TheVariants as fault
use Rattle.uv_script.specs.Grammar as script
use Rattle.uv_text.specs.Recorded as recorded
use Rattle.uv_engine.specs.declared.version.Version.TheVariants as versions
use Rattle.uv_engine.proofs.Talking.{lines_fed, lines_last, lines_next}
use Rattle.uv_engine.proofs.LongLines.{HasLong, long_first, lines_behind, long_refused}

-- ---- one part after another

pub reads_on : (x y z : Part) (ls ms : List (List ℕ)) → ReadsAll x ls y → ReadsAll y ms z → ReadsAll x (ls ++ ms) z
reads_on x y z [] ms none k = k
reads_on x y z (l ∷ ls) ms (one {y = u} h more) k = one h (reads_on u y z ls ms more k)

pub reads_none : (x : Part) (a : ℕ) (text : List ℕ) → ReadsTo x a text x a text
reads_none x a text = record { before = []; lines_are = refl; counted = omega arith; read = none }

pub reads_then : (x y z : Part) (a b c : ℕ) (old mid new : List ℕ) → ReadsTo x a old y b mid → ReadsTo y b mid z c new → ReadsTo x a old z c new
reads_then x y z a b c old mid new h k = record {
  before = h.before ++ k.before;
  lines_are = h.lines_are ∙ ap (λ (ls : List (List ℕ)). h.before ++ ls) k.lines_are ∙ sym (append_assoc h.before k.before (lines_of new));
  counted = omega (arith, h.counted, k.counted, length-append h.before k.before);
  read = reads_on x y z h.before k.before h.read k.read;
}

pub bad_then : (x y : Part) (a b n : ℕ) (old mid : List ℕ) → ReadsTo x a old y b mid → IsBadFrom y b mid n → IsBadFrom x a old n
bad_then x y a b n old mid h k = record {
  before = h.before ++ k.before;
  after = k.after;
  part = k.part;
  lines_are = h.lines_are ∙ ap (λ (ls : List (List ℕ)). h.before ++ ls) k.lines_are ∙ sym (append_assoc h.before k.before k.after);
  counted = omega (arith, h.counted, k.counted, length-append h.before k.before);
  read = reads_on x y k.part h.before k.before h.read k.read;
  stuck = k.stuck;
}

-- one line more
pub reads_line : (x y : Part) (a b : ℕ) (old line new : List ℕ) (fed : Bool) → b ≡ a + 1 → TakesLine old line fed new → Reads x line y →
    ReadsTo x a old y b new
reads_line x y a b old line new fed n takes h = record {
  before = line ∷ [];
  lines_are = lines_next old new line fed takes;
  counted = n;
  read = one h none;
}

-- a line that goes on nowhere
pub bad_line : (x : Part) (a b : ℕ) (old line new : List ℕ) (fed : Bool) → b ≡ a + 1 → TakesLine old line fed new →
    ((y : Part) → Reads x line y → ⊥) → IsBadFrom x a old b
bad_line x a b old line new fed n takes h = record {
  before = [];
  after = line ∷ lines_of new;
  part = x;
  lines_are = lines_next old new line fed takes;
  counted = omega (arith, n);
  read = none;
  stuck = h;
}

-- the text ends where it isn't whole
pub bad_end : (x : Part) (a b : ℕ) (old : List ℕ) → b ≡ a + 1 → old ≡ [] → IsStuck x [] → IsBadFrom x a old b
bad_end x a b old n e h = record {
  before = [];
  after = [];
  part = x;
  lines_are = ap lines_of e;
  counted = omega (arith, n);
  read = none;
  stuck = h;
}

-- ---- a line that is too long

-- each line that goes on somewhere has 256 bytes at the most
long_stuck : (x : Part) (line : List ℕ) → 256 < length line → (y : Part) → Reads x line y → ⊥
long_stuck x line long y e4 = grind arith

long_bad : (x : Part) (a n : ℕ) (old new : List ℕ) → n ≡ a + 1 → TakesLong old new → IsBadFrom x a old n
long_bad x a n old new e h =
    let first = long_first old new h in
    record {
      before = [];
      after = first.line ∷ first.more;
      part = x;
      lines_are = first.lines_are;
      counted = omega (arith, e);
      read = none;
      stuck = long_stuck x first.line first.long;
    }

-- the next line couldn't be had
pub long_fails : (x : Part) (a : ℕ) (old new : List ℕ) (f : Fault) → IsReadingFault f → RefusesLong f a old new → FailsAt x a old f
long_fails x a old new (fault.Script n) is h = long_bad x a n old new h.0 h.1
long_fails x a old new fault.Memory is h = tt
long_fails x a old new fault.Read is h = tt
long_fails x a old new _ is h = absurd is

-- ---- the script

pub script_on : (d e : Draft) (ls : List (List ℕ)) → NoneSkipped ls → script.ReadsAll d ls e → ReadsAll (InScript d) ls (InScript e)
script_on d e [] say script.none = none
script_on d e (l ∷ ls) say (script.one {e = m} h more) = one (in_script say.0 h) (script_on m e ls say.1 more)

-- of two beginnings of a list the longer one begins with the other
prefix : (xs ys us vs : List (List ℕ)) → xs ++ us ≡ ys ++ vs → length xs ≤ length ys → (more : List (List ℕ)) × (ys ≡ xs ++ more)
prefix (x ∷ xs) (y ∷ ys) us vs e less =
    let same : x ≡ y = cc in
    let rest : xs ++ us ≡ ys ++ vs = cc in
    let k = prefix xs ys us vs rest (omega arith) in
    (k.0, λ i. sym same i ∷ k.1 i)
prefix each e1 us vs e less = grind arith

none_before : (xs ys : List (List ℕ)) → NoneSkipped (xs ++ ys) → NoneSkipped xs
none_before [] ys h = tt
none_before (x ∷ xs) ys h = (h.0, none_before xs ys h.1)

-- a line that begins with another byte isn't skipped
pub begins_says : (b : ℕ) (line : List ℕ) → (b == 35) ≡ false → IsSkipped (b ∷ line) → ⊥
begins_says b line other e3 = grind arith

-- each line before the one of this number says something
abbrev AllSay : List (List ℕ) → ℕ → Type 0
AllSay ls number = (before after : List (List ℕ)) → ls ≡ before ++ after → length before < number → NoneSkipped before

say_up_to : (ls : List (List ℕ)) (skipped number : ℕ) → IsFirstSkipped ls skipped → number < skipped → AllSay ls number
say_up_to ls skipped number first few before after e less =
    let k = prefix before first.before after (first.line ∷ first.after) (sym e ∙ first.lines_are) (omega (arith, first.counted)) in
    none_before before k.0 (subst NoneSkipped k.1 first.others)

-- no line of these is `begin`
abbrev NoBegin : List (List ℕ) → Type 0
NoBegin [] = Unit {0}
NoBegin (l ∷ ls) = (l ≢ codes "begin") × NoBegin ls

no_begin_at : (before after : List (List ℕ)) (line : List ℕ) → NoBegin (before ++ line ∷ after) → line ≢ codes "begin"
no_begin_at [] after line h = h.0
no_begin_at (l ∷ before) after line h = no_begin_at before after line h.1

-- a script's text before `begin`, as lines
record Fronts (input text rest : List ℕ) : Type 0 where
  lines_are : lines_of input ≡ lines_of text ++ codes "begin" ∷ lines_of rest
  no_begin : NoBegin (lines_of text)

fronts : (input text rest : List ℕ) → Begins input text rest → Fronts input text rest
fronts _ _ rest (later {line = line} {rest = more} {script = text} free other h) = search (lines_fed, (fronts more text rest h))
fronts each e1 e2 e3 = assumption

never_begin : (input : List ℕ) → NeverBegins input → NoBegin (lines_of input)
never_begin _ (last_line {line = b ∷ bs} free other) = subst NoBegin (sym (lines_last (b ∷ bs) free (λ e. cc e))) (other, tt)
never_begin _ (one_line {line = line} {rest = rest} free other h) = subst NoBegin (sym (lines_fed line rest free)) (other, never_begin rest h)
never_begin each e1 = assumption

stuck_script : (d : Draft) (line : List ℕ) → line ≢ codes "begin" → ((e : Draft) → script.Reads d line e → ⊥) → (y : Part) →
    Reads (InScript d) line y → ⊥
stuck_script d line other h y e5 = grind arith

-- the script was read, and `begin`
pub script_read : (s : Draft) (input text rest : List ℕ) (p : Program) (a b : ℕ) → Begins input text rest → MakesFrom s (lines_of text) p →
    NoneSkipped (lines_of text) → b ≡ a + length (lines_of text) + 1 → ReadsTo (InScript s) a input (InSteps p []) b rest
script_read s input text rest p a b h is say n =
    let k = fronts input text rest h in
    let d : Draft = record { program = p; said = is.said } in
    record {
      before = lines_of text ++ codes "begin" ∷ [];
      lines_are = k.lines_are ∙ sym (append_assoc (lines_of text) (codes "begin" ∷ []) (lines_of rest));
      counted = omega (arith, n, length-append (lines_of text) (codes "begin" ∷ []));
      read = reads_on (InScript s) (InScript d) (InSteps p []) (lines_of text) (codes "begin" ∷ [])
          (script_on s d (lines_of text) say is.read) (one begins none);
    }

-- a line of it is bad
script_bad : (s : Draft) (input text : List ℕ) (rest : List (List ℕ)) (a n m : ℕ) → lines_of input ≡ lines_of text ++ rest →
    NoBegin (lines_of text) → (bad : script.IsBadLineFrom s text n) → AllSay (lines_of text) n → m ≡ a + n → IsBadFrom (InScript s) a input m
script_bad s input text rest a n m lines no_begin bad say e = record {
  before = bad.before;
  after = bad.line ∷ (bad.after ++ rest);
  part = InScript bad.draft;
  lines_are = lines ∙ ap (λ (ls : List (List ℕ)). ls ++ rest) bad.lines_are ∙ append_assoc bad.before (bad.line ∷ bad.after) rest;
  counted = omega (arith, e, bad.counted);
  read = script_on s bad.draft bad.before (say bad.before (bad.line ∷ bad.after) bad.lines_are (omega (arith, bad.counted))) bad.read;
  stuck = stuck_script bad.draft bad.line (no_begin_at bad.before bad.after bad.line (subst NoBegin bad.lines_are no_begin)) bad.refused;
}

-- there is no `begin`
script_missing : (s : Draft) (input text : List ℕ) (p : Program) (a m : ℕ) → input ≡ text → MakesFrom s (lines_of text) p →
    AllSay (lines_of text) (length (lines_of text) + 1) → m ≡ a + (length (lines_of text) + 1) → IsBadFrom (InScript s) a input m
script_missing s input text p a m e is say n = record {
  before = lines_of text;
  after = [];
  part = InScript (record { program = p; said = is.said });
  lines_are = ap lines_of e ∙ sym (append-nil (lines_of text));
  counted = omega (arith, n);
  read = script_on s (record { program = p; said = is.said }) (lines_of text)
      (say (lines_of text) [] (sym (append-nil (lines_of text))) (omega arith)) is.read;
  stuck = tt;
}

-- the line behind these is too long
script_long : (s : Draft) (input text behind : List ℕ) (p : Program) (a m : ℕ) → lines_of input ≡ lines_of text ++ lines_of behind → HasLong behind →
    MakesFrom s (lines_of text) p → AllSay (lines_of text) (length (lines_of text) + 1) → m ≡ a + (length (lines_of text) + 1) →
    IsBadFrom (InScript s) a input m
script_long s input text behind p a m lines long is say n =
    let d : Draft = record { program = p; said = is.said } in
    record {
      before = lines_of text;
      after = long.line ∷ long.more;
      part = InScript d;
      lines_are = lines ∙ ap (λ (ls : List (List ℕ)). lines_of text ++ ls) long.lines_are;
      counted = omega (arith, n);
      read = script_on s d (lines_of text) (say (lines_of text) [] (sym (append-nil (lines_of text))) (omega arith)) is.read;
      stuck = long_stuck (InScript d) long.line long.long;
    }

long_lines : (input text rest : List ℕ) (h : IsBeforeLong input text rest) → lines_of input ≡ lines_of text ++ lines_of h.behind
long_lines input text rest h = ap lines_of h.whole ∙ lines_behind text h.behind h.lines

none_begin : (text : List ℕ) → NoLineBegins text → NoBegin (lines_of text)
none_begin _ no_line = tt
none_begin _ (line_more {line = line} {rest = rest} free other h) = subst NoBegin (sym (lines_fed line rest free)) (other, none_begin rest h)

front_outside : (s : Draft) (input text rest : List ℕ) (end : FrontEnd) (a n m : ℕ) → ReadsFront input text end rest →
    ParsesFront s text end (Err (fault.Script n)) → AllSay (lines_of text) n → m ≡ a + n → IsBadFrom (InScript s) a input m
front_outside s input text rest Begin a n m h p say e =
    let k = fronts input text rest h in script_bad s input text (codes "begin" ∷ lines_of rest) a n m k.lines_are k.no_begin p say e
front_outside s input text rest Input a n m h (after_last p is) say e = script_missing s input text p a m h.1 is say e
front_outside s input text rest Input a n m h (at_line bad) say e =
    script_bad s input text [] a n m (ap lines_of h.1 ∙ sym (append-nil (lines_of text)))
    (subst (λ (xs : List ℕ). NoBegin (lines_of xs)) h.1 (never_begin input h.0)) bad say e
front_outside s input text rest Long a n m h (after_last p is) say e = search (script_long, long_lines, long_first)
front_outside s input text rest Long a n m h (at_line bad) say e =
    script_bad s input text (lines_of h.behind) a n m (long_lines input text rest h) (none_begin text h.lines) bad say e

-- a line of it is skipped, and those before it are a script
stuck_skipped : (d : Draft) (line : List ℕ) → IsSkipped line → (y : Part) → Reads (InScript d) line y → ⊥
stuck_skipped d line skipped _ (in_script says k) = says skipped
stuck_skipped d _ skipped _ begins = begins_says _ _ refl skipped

abbrev FrontLines : List ℕ → List ℕ → Type 0
FrontLines input text = (behind : List (List ℕ)) × (lines_of input ≡ lines_of text ++ behind)

front_lines : (input text rest : List ℕ) (end : FrontEnd) → ReadsFront input text end rest → FrontLines input text
front_lines input text rest Long h = (lines_of h.behind, long_lines input text rest h)
front_lines input text rest each h = grind (arith, codes, lines_of, fronts, append-nil, long_lines)

-- the script of the lines before one
abbrev ReadsSome : Draft → List (List ℕ) → Type 0
ReadsSome d ls = (e : Draft) × script.ReadsAll d ls e

reads_some : (d e : Draft) (ls more : List (List ℕ)) → script.ReadsAll d (ls ++ more) e → ReadsSome d ls
reads_some d e [] more read = (d, script.none)
reads_some d e (l ∷ ls) more (script.one {e = m} first rest) = let k = reads_some m e ls more rest in (k.0, script.one first k.1)

before_skipped : (s : Draft) (text : List ℕ) (p : Program) (n : ℕ) (first : IsFirstSkipped (lines_of text) n) → MakesFrom s (lines_of text) p →
    ReadsSome s first.before
before_skipped s text p n first is = grind (arith, reads_some)

before_bad : (s : Draft) (text : List ℕ) (n k : ℕ) (first : IsFirstSkipped (lines_of text) n) → script.IsBadLineFrom s text k → n ≤ k →
    ReadsSome s first.before
before_bad s text n k first bad less =
    let longer = prefix first.before bad.before (first.line ∷ first.after) (bad.line ∷ bad.after) (sym first.lines_are ∙ bad.lines_are)
    (omega (arith, first.counted, bad.counted)) in
    grind (arith, reads_some)

before_front : (s : Draft) (text : List ℕ) (end : FrontEnd) (n k : ℕ) (first : IsFirstSkipped (lines_of text) n) →
    ParsesFront s text end (Err (fault.Script k)) → n ≤ k → ReadsSome s first.before
before_front s text Begin n k first bad less = before_bad s text n k first bad less
before_front s text Input n k first (after_last p is) less = before_skipped s text p n first is
before_front s text Input n k first (at_line bad) less = before_bad s text n k first bad less
before_front s text Long n k first (after_last p is) less = before_skipped s text p n first is
before_front s text Long n k first (at_line bad) less = before_bad s text n k first bad less

skipped_bad : (s : Draft) (input text : List ℕ) (a n m : ℕ) → FrontLines input text → (first : IsFirstSkipped (lines_of text) n) →
    ReadsSome s first.before → m ≡ a + n → IsBadFrom (InScript s) a input m
skipped_bad s input text a n m front first before e = record {
  before = first.before;
  after = first.line ∷ (first.after ++ front.0);
  part = InScript before.0;
  lines_are = front.1 ∙ ap (λ (ls : List (List ℕ)). ls ++ front.0) first.lines_are ∙ append_assoc first.before (first.line ∷ first.after) front.0;
  counted = omega (arith, e, first.counted);
  read = script_on s before.0 first.before first.others before.1;
  stuck = stuck_skipped before.0 first.line first.skipped;
}

-- it is a script, but a line is skipped
pub front_skipped : (s : Draft) (input text rest : List ℕ) (end : FrontEnd) (p : Program) (a n m : ℕ) → ReadsFront input text end rest →
    ParsesFront s text end (Ok p) → IsFirstSkipped (lines_of text) n → m ≡ a + n → IsBadFrom (InScript s) a input m
front_skipped s input text rest Begin p a n m h is first e =
    skipped_bad s input text a n m (front_lines input text rest Begin h) first (before_skipped s text p n first is) e
front_skipped s input text rest each p a n m h is first e = grind arith

-- the first line that is outside the grammar or skipped
pub front_bad : (s : Draft) (input text rest : List ℕ) (end : FrontEnd) (skipped : Option ℕ) (a k n m : ℕ) → ReadsFront input text end rest →
    ParsesFront s text end (Err (fault.Script k)) → FindsSkipped (lines_of text) skipped → IsFirstBad k skipped n → m ≡ a + n →
    IsBadFrom (InScript s) a input m
front_bad s input text rest end None a k n m h p say is e = grind (arith, front_outside, none_before)
front_bad s input text rest end (Some skipped) a k n m h p first (inl is) e =
    skipped_bad s input text a skipped m (front_lines input text rest end h) first (before_front s text end skipped k first p is.0)
    (omega (arith, e, is.1))
front_bad s input text rest end (Some skipped) a k n m h p first (inr is) e =
    front_outside s input text rest end a k m h p (say_up_to (lines_of text) skipped k first is.0) (omega (arith, e, is.1))

-- ---- the first line that is skipped, as it is looked for

none_push : (ls : List (List ℕ)) (line : List ℕ) → NoneSkipped ls → (IsSkipped line → ⊥) → NoneSkipped (ls ++ line ∷ [])
none_push [] line h say = (say, tt)
none_push (l ∷ ls) line h say = (h.0, none_push ls line h.1 say)

pub none_step : {A : Type 0} (f : A → List ℕ) (before : List A) (x : A) → NoneSkipped (map f before) → (IsSkipped (f x) → ⊥) →
    NoneSkipped (map f (before ++ x ∷ []))
none_step f before x h say = subst NoneSkipped (sym (map-append f before (x ∷ []))) (none_push (map f before) (f x) h say)

pub none_left : {A : Type 0} (f : A → List ℕ) (ls : List (List ℕ)) (before : List A) (left : List (List ℕ)) → NoneSkipped (map f before) →
    map f before ++ left ≡ ls → left ≡ [] → NoneSkipped ls
none_left f ls before left h whole e = grind (arith, append-nil)

pub skipped_here : {A : Type 0} (f : A → List ℕ) (ls : List (List ℕ)) (number : ℕ) (before : List A) (x : A) (left after : List (List ℕ)) →
    NoneSkipped (map f before) → map f before ++ left ≡ ls → left ≡ f x ∷ after → number ≡ length before + 1 → IsSkipped (f x) →
    IsFirstSkipped ls number
skipped_here f ls number before x left after h whole onto count skipped = record {
  before = map f before;
  line = f x;
  after = after;
  lines_are = sym whole ∙ ap (λ (more : List (List ℕ)). map f before ++ more) onto;
  counted = count ∙ ap (λ (n : ℕ). n + 1) (sym (length-map before f));
  others = h;
  skipped = skipped;
}

-- ---- the other parts

pub only_calls : (p : Program) (es : List Event) (called : List (List ℕ)) (line : List ℕ) → line ≢ codes "end" → (IsCallbackLine line → ⊥) →
    (y : Part) → Reads (InCalls p es called) line y → ⊥
only_calls p es called line other h _ (callback is) = h is
only_calls p es called line other h _ ends = other refl
