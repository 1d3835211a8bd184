-- Lines that are longer than a line may be.
use Rattle.uv_engine.proofs.Names.{◌≡◌, ◌≢◌, ℕ, ◌+◌, ◌<◌, ◌≤◌, ◌==◌, List, [], ◌∷◌, ◌++◌, Bool, true, false, length, Result, Ok, Err, IfErr, refl, ap, sym, subst, ◌∙◌, arith, append_assoc, append-nil, length-append, All-head, All-tail, All-append, codes, Fault, Program, lines_of, Draft, IsBadLine, IsBadLineFrom, unread, TakesLine, TakesLong, TakesRest, TakesLineThatAsks, NoFeed, Out, Begins, NeverBegins, BadScript, here, here_at_end, later, one_line, bad_line, bad_input, ReadsScript, ReadsAlone, IsFront, ReadsFront, FrontEnd, Begin, Input, Long, ParsesFront, ParsesNone, IsBeforeLong, NoLineBegins, no_line, line_more, MissesBegin, after_last, at_line, IsStartFault, with_line, Asks, Bad, bad, onto_first}
use Rattle.uv_ids.specs.declared.fault.Fault.TheVariants as fault
use Rattle.uv_script.specs.Grammar as script
use Rattle.uv_engine.proofs.Talking.{lines_fed}
use Rattle.uv_engine.proofs.Starting.{CanBegin, Starts, begun, never, starts, missing, fed_line}

-- the first line of a text is longer than a line may be
pub record HasLong (text : List ℕ) : Type 0 where
  pub line : List ℕ
  pub more : List (List ℕ)
  pub lines_are : lines_of text ≡ line ∷ more
  pub long : 256 < length line

-- ---- the first line of a text that begins with bytes without a line feed

record FirstLine (front text : List ℕ) : Type 0 where
  line : List ℕ
  more : List (List ℕ)
  lines_are : lines_of text ≡ line ∷ more
  long : length front ≤ length line

onto : (b : ℕ) (lines : List (List ℕ)) → (more : List (List ℕ)) × ((line : List ℕ) × (onto_first b lines ≡ (b ∷ line) ∷ more))
onto b [] = ([], ([], refl))
onto b (l ∷ ls) = (ls, (l, refl))

one_onto : (b : ℕ) (text : List ℕ) → (b == 10) ≡ false → lines_of (b ∷ text) ≡ onto_first b (lines_of text)
one_onto b text other = rw other refl

first_line : (front rest : List ℕ) → NoFeed front → (front ≡ [] → ⊥) → FirstLine front (front ++ rest)
first_line [] rest free some = absurd (some refl)
first_line (b ∷ []) rest free some =
    let k = onto b (lines_of rest) in
    record {
      line = b ∷ k.1.0;
      more = k.0;
      lines_are = one_onto b rest (All-head (λ z. (z == 10) ≡ false) b [] free) ∙ k.1.1;
      long = omega arith;
    }
first_line (b ∷ (c ∷ front)) rest free some =
    let k = first_line (c ∷ front) rest (All-tail (λ z. (z == 10) ≡ false) b (c ∷ front) free) (λ e. cc e) in
    let less = k.long in
    record {
      line = b ∷ k.line;
      more = k.more;
      lines_are = one_onto b ((c ∷ front) ++ rest) (All-head (λ z. (z == 10) ≡ false) b (c ∷ front) free)
          ∙ ap (λ (ls : List (List ℕ)). onto_first b ls) k.lines_are;
      long = omega (arith, less);
    }

pub long_first : (old new : List ℕ) → TakesLong old new → HasLong old
long_first old new h =
    let some : h.front ≡ [] → ⊥ = λ e. let none : length h.front ≡ 0 = ap length e in omega (arith, none, h.long) in
    let k = first_line h.front new h.free some in
    grind arith

-- a line that ends behind such bytes is no shorter
first_long : (long rest line more : List ℕ) → NoFeed long → line ++ 10 ∷ more ≡ long ++ rest → length long ≤ length line
first_long [] rest line more free e = omega arith
first_long (b ∷ long) rest [] more free e =
    let head : 10 ≡ b = cc e in
    let other = All-head (λ z. (z == 10) ≡ false) b long free in
    absurd (same b head other) where
      same : (c : ℕ) → 10 ≡ c → (c == 10) ≡ false → ⊥
      same c e f = let no : (10 == 10) ≡ false = subst (λ (z : ℕ). (z == 10) ≡ false) (sym e) f in cc no
first_long (b ∷ long) rest (c ∷ line) more free e =
    let tail : line ++ 10 ∷ more ≡ long ++ rest = cc e in
    let k = first_long long rest line more (All-tail (λ z. (z == 10) ≡ false) b long free) tail in
    omega (arith, k)

-- the script of a text that begins with a long line does so, too
long_begins : (i long rest s c : List ℕ) → i ≡ long ++ rest → NoFeed long → length long ≡ 257 → Begins i s c → HasLong s
long_begins i long rest s c e free n (here {commands = d}) =
    let k : length long ≤ 5 = first_long long rest (codes "begin") d free e in absurd (omega (arith, k, n))
long_begins i long rest s c e free n here_at_end =
    let k : 5 ≡ length long + length rest = ap length e ∙ length-append long rest in absurd (omega (arith, k, n))
long_begins i long rest s c e free n (later {line = line} {rest = r} {script = t} free' other more) =
    let k = first_long long rest line r free e in
    record { line = line; more = lines_of t; lines_are = lines_fed line t free'; long = omega (arith, k, n) }

-- ---- whole lines, none of which is `begin`

behind_line : (line text more : List ℕ) → (line ++ 10 ∷ text) ++ more ≡ line ++ 10 ∷ (text ++ more)
behind_line line text more = append_assoc line (10 ∷ text) more

begins_behind : (text rest s c : List ℕ) → NoLineBegins text → Begins rest s c → Begins (text ++ rest) (text ++ s) c
begins_behind _ rest s c no_line b = b
begins_behind _ rest s c (line_more {line = line} {rest = text} free other h) b =
    rw (behind_line line text rest, behind_line line text s) (later free other (begins_behind text rest s c h b))

never_behind : (text rest : List ℕ) → NoLineBegins text → NeverBegins rest → NeverBegins (text ++ rest)
never_behind _ rest no_line k = k
never_behind _ rest (line_more {line = line} {rest = text} free other h) k =
    rw (behind_line line text rest) (one_line free other (never_behind text rest h k))

pub lines_behind : (text more : List ℕ) → NoLineBegins text → lines_of (text ++ more) ≡ lines_of text ++ lines_of more
lines_behind _ more no_line = refl
lines_behind _ more (line_more {line = line} {rest = text} free other h) = simp (lines_of, behind_line, lines_fed, (lines_behind text more h))

one_more : (text line : List ℕ) → NoLineBegins text → NoFeed line → line ≢ codes "begin" → NoLineBegins (text ++ (line ++ 10 ∷ []))
one_more _ line no_line free other = line_more free other no_line
one_more _ line (line_more {line = first} {rest = text} free' other' h) free other =
    rw (behind_line first text (line ++ 10 ∷ [])) (line_more free' other' (one_more text line h free other))

-- while something is left, the lines that were taken are whole
abbrev pub AreWhole : List ℕ → List ℕ → Type 0
AreWhole text left = (left ≡ [] → ⊥) → NoLineBegins text

pub whole_none : (left : List ℕ) → AreWhole [] left
whole_none left some = no_line

pub whole_more : {text before line after more : List ℕ} (fed : Bool) → AreWhole text before → TakesLine before line fed after →
    line ≢ codes "begin" → more ≡ text ++ with_line line fed → AreWhole more after
whole_more fed h k other e some = grind (arith, one_more, fed_line)

pub front_long : {input text before : List ℕ} (after : List ℕ) → CanBegin input text before → AreWhole text before → TakesLong before after →
    IsBeforeLong input text after
front_long {input} {text} {before} after h lines takes = record {
  lines = lines (λ e.
      let none : 0 ≡ length takes.front + length after = ap length (sym e ∙ takes.whole) ∙ length-append takes.front after in
      omega (arith, none, takes.long));
  behind = before;
  whole = h.whole;
  takes = takes;
}

-- ---- a script with such a line

-- the script of the input: these lines, and a long one behind them
record LongFront (input text : List ℕ) : Type 0 where
  behind : List ℕ
  begun : Bool
  rest : List ℕ
  front : IsFront input (text ++ behind) begun rest
  long : HasLong behind

long_front : (input text rest : List ℕ) → IsBeforeLong input text rest → LongFront input text
long_front input text rest h = at (starts h.behind) where
  at : Starts h.behind → LongFront input text
  at (begun s c b) = record {
    behind = s;
    begun = true;
    rest = c;
    front = subst (λ (xs : List ℕ). Begins xs (text ++ s) c) (sym h.whole) (begins_behind text h.behind s c h.lines b);
    long = long_begins h.behind h.takes.front rest s c h.takes.whole h.takes.free h.takes.long b;
  }
  at (never k) = record {
    behind = h.behind;
    begun = false;
    rest = [];
    front = (subst NeverBegins (sym h.whole) (never_behind text h.behind h.lines k), h.whole);
    long = long_first h.behind rest h.takes;
  }

pub long_refused : (d e : Draft) (line : List ℕ) → 256 < length line → script.Reads d line e → ⊥
long_refused d e line long e4 = grind arith

-- the first bad line is one of those before it, or this one
long_bad : (d : Draft) (text behind : List ℕ) (n : ℕ) → NoLineBegins text → HasLong behind → MissesBegin d text n →
    IsBadLineFrom d (text ++ behind) n
long_bad d text behind _ lines long (after_last p h) = grind (arith, lines_of, lines_behind, long_refused)
long_bad d text behind n lines long (at_line h) = record {
  before = h.before;
  line = h.line;
  after = h.after ++ lines_of behind;
  lines_are = grind (arith, lines_behind, lines_of, append_assoc);
  counted = h.counted;
  draft = h.draft;
  read = h.read;
  refused = h.refused;
}

bad_front : (input text rest : List ℕ) (is_begun : Bool) (n : ℕ) → IsFront input text is_begun rest → IsBadLine text n → Out input [] (BadScript n)
bad_front input text rest true n h b = bad_line text rest h b
bad_front input text rest false n h b = bad_input h.0 (subst (λ (xs : List ℕ). IsBadLine xs n) (sym h.1) b)

long_script : (input text rest : List ℕ) (r : Result Program Fault) → IsBeforeLong input text rest → ParsesNone unread text r →
    ReadsScript input r rest
long_script input text rest (Err (fault.Script n)) h k =
    let front = long_front input text rest h in
    bad_front input (text ++ front.behind) front.rest front.begun n front.front (long_bad unread text front.behind n h.lines front.long k)
long_script input text rest each h k = grind arith

-- what the text in front of `begin` says
pub front_read : (input text rest : List ℕ) (end : FrontEnd) (r : Result Program Fault) → ReadsFront input text end rest →
    ParsesFront unread text end r → ReadsScript input r rest
front_read input text rest end r h p = grind (arith, bad_line, missing, long_script)

pub front_fault : (text : List ℕ) (end : FrontEnd) (r : Result Program Fault) → ParsesFront unread text end r → IfErr r IsStartFault
front_fault text each r h = grind arith

-- a script that no commands follow
pub long_alone : (input text rest : List ℕ) (r : Result Program Fault) → IsBeforeLong input text rest → ParsesNone unread text r → ReadsAlone input r
long_alone input text rest (Err (fault.Script n)) h k =
    let front = long_front input text rest h in
    grind (arith, long_bad, unread)
long_alone input text rest (Err fault.Memory) h k = tt
long_alone input text rest each h k = grind arith

-- ---- a command

long_asks : (names : List (List ℕ)) (line : List ℕ) → 256 < length line → Asks names line Bad
long_asks names line long = grind (arith, bad)

-- the line whose first bytes were taken, and its rest
long_line : (old mid new : List ℕ) (fed : Bool) (h : TakesLong old mid) (k : TakesRest mid fed new) → TakesLine old (h.front ++ k.rest) fed new
long_line old mid new true h k = (
  All-append (λ b. (b == 10) ≡ false) h.front k.rest h.free k.free,
  h.whole ∙ ap (λ (xs : List ℕ). h.front ++ xs) k.whole ∙ sym (append_assoc h.front k.rest (10 ∷ new)),
)
long_line old mid new false h k = (
  All-append (λ b. (b == 10) ≡ false) h.front k.rest h.free k.free,
  λ e. let none : length h.front + length k.rest ≡ 0 = sym (length-append h.front k.rest) ∙ ap length e in omega (arith, none, h.long),
  h.whole ∙ ap (λ (xs : List ℕ). h.front ++ xs) (k.whole ∙ append-nil k.rest),
  k.last refl,
)

pub asks_long : (names : List (List ℕ)) (old mid new : List ℕ) (fed : Bool) → TakesLong old mid → TakesRest mid fed new →
    TakesLineThatAsks names old Bad new
asks_long names old mid new fed h k = record {
  line = h.front ++ k.rest;
  fed = fed;
  takes = long_line old mid new fed h k;
  asks = long_asks names (h.front ++ k.rest) (omega (arith, length-append h.front k.rest, h.long));
}
