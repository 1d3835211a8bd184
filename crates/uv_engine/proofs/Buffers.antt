-- A line that was cut off the bytes that were read.
use Rattle.uv_engine.proofs.Names.{◌≡◌, ℕ, ◌+◌, ◌-◌, ◌<◌, ◌≤◌, ◌==◌, false, true, List, [], ◌∷◌, ◌++◌, Bool, length, length-append, take, drop, refl, ap, sym, subst, ◌∙◌, arith, append_assoc, append-nil, drop-drop, All-append, drop-append-add, drop_all, length-drop, take-append-drop, take-append-le, length-take-le, All-take, Buffered, left, size, IsCut, NoFeed, TakesLine, TakesLong, TakesRest, SkipsAhead, SameReader}
use Rattle.uv_engine.proofs.Text.{tail_is}

pub takes_line : (part bytes line rest : List ℕ) (at : ℕ) → NoFeed part → IsCut 10 (take (length bytes - at) (drop at bytes)) line rest
    → TakesLine (part ++ drop at bytes) (part ++ line) true (drop (at + (length line + 1)) bytes)
takes_line part bytes line rest at free h =
    let whole : drop at bytes ≡ line ++ 10 ∷ rest = sym (tail_is at bytes) ∙ h.whole in
    let behind : drop (at + (length line + 1)) bytes ≡ rest =
    sym (drop-drop (length line + 1) at bytes) ∙ ap (λ (xs : List ℕ). drop (length line + 1) xs) whole ∙ drop-append-add line (10 ∷ rest) 1 in (
      All-append (λ b. (b == 10) ≡ false) part line free h.first,
      ap (λ (xs : List ℕ). part ++ xs) (whole ∙ ap (λ (xs : List ℕ). line ++ 10 ∷ xs) (sym behind)) ∙ sym (append_assoc part line _),
    )

-- what was cut off, and what stands behind it
pub cut_whole : (bytes line rest : List ℕ) (at : ℕ) → IsCut 10 (take (length bytes - at) (drop at bytes)) line rest →
    drop at bytes ≡ line ++ 10 ∷ drop (at + (length line + 1)) bytes
cut_whole bytes line rest at h =
    let whole : drop at bytes ≡ line ++ 10 ∷ rest = sym (tail_is at bytes) ∙ h.whole in
    let behind : drop (at + (length line + 1)) bytes ≡ rest =
    sym (drop-drop (length line + 1) at bytes) ∙ ap (λ (xs : List ℕ). drop (length line + 1) xs) whole ∙ drop-append-add line (10 ∷ rest) 1 in
    whole ∙ ap (λ (xs : List ℕ). line ++ 10 ∷ xs) (sym behind)

-- ---- a line that is too long

-- the first 257 bytes, none of which is a line feed
pub long_of : (old new line rest : List ℕ) → old ≡ line ++ rest → NoFeed line → 256 < length line → new ≡ drop 257 old → TakesLong old new
long_of old new line rest whole free long e =
    let first : take 257 old ≡ take 257 line =
    ap (λ (xs : List ℕ). take 257 xs) whole ∙ take-append-le 257 line rest (omega (arith, long)) in
    record {
      front = take 257 line;
      free = All-take (λ b. (b == 10) ≡ false) 257 line free;
      long = length-take-le 257 line (omega (arith, long));
      whole = sym (take-append-drop 257 old) ∙ ap (λ (xs : List ℕ). xs ++ drop 257 old) first
          ∙ ap (λ (xs : List ℕ). take 257 line ++ xs) (sym e);
    }

-- its line feed was read
pub long_fed : (part bytes line rest new : List ℕ) (at : ℕ) → NoFeed part → IsCut 10 (take (length bytes - at) (drop at bytes)) line rest →
    256 < length part + length line → new ≡ drop 257 (part ++ drop at bytes) → TakesLong (part ++ drop at bytes) new
long_fed part bytes line rest new at free h long e =
    let behind = drop (at + (length line + 1)) bytes in
    long_of (part ++ drop at bytes) new (part ++ line) (10 ∷ behind)
    (ap (λ (xs : List ℕ). part ++ xs) (cut_whole bytes line rest at h) ∙ sym (append_assoc part line (10 ∷ behind)))
    (All-append (λ b. (b == 10) ≡ false) part line free h.first) (omega (arith, length-append part line, long)) e

-- it was not
pub long_part : (part bytes new : List ℕ) (at : ℕ) → NoFeed part → NoFeed (take (length bytes - at) (drop at bytes)) →
    256 < length part + (length bytes - at) → new ≡ drop 257 (part ++ drop at bytes) → TakesLong (part ++ drop at bytes) new
long_part part bytes new at free none long e =
    long_of (part ++ drop at bytes) new (part ++ drop at bytes) [] (sym (append-nil (part ++ drop at bytes)))
    (All-append (λ b. (b == 10) ≡ false) part (drop at bytes) free (subst NoFeed (tail_is at bytes) none))
    (omega (arith, length-append part (drop at bytes), length-drop at bytes, long)) e

pub drop_past : (part bytes : List ℕ) (at : ℕ) → length part ≤ 256 → drop (at + (257 - length part)) bytes ≡ drop 257 (part ++ drop at bytes)
drop_past part bytes at few =
    let n = 257 - length part in
    let whole : 257 ≡ length part + n = omega (arith, few) in
    sym (drop-drop n at bytes) ∙ sym (drop-append-add part (drop at bytes) n)
    ∙ ap (λ (k : ℕ). drop k (part ++ drop at bytes)) (sym whole)

-- ---- the rest of a line

-- these bytes were passed over, and no line feed is among them
pub record IsPassed (old new : List ℕ) : Type 0 where
  pub over : List ℕ
  pub free : NoFeed over
  pub whole : old ≡ over ++ new

pub passed_then : (old mid new : List ℕ) → IsPassed old mid → IsPassed mid new → IsPassed old new
passed_then old mid new h k = record {
  over = h.over ++ k.over;
  free = All-append (λ b. (b == 10) ≡ false) h.over k.over h.free k.free;
  whole = h.whole ∙ ap (λ (xs : List ℕ). h.over ++ xs) k.whole ∙ sym (append_assoc h.over k.over new);
}

-- what was read is passed over, up to its line feed
pub skips_fed : (part bytes line rest : List ℕ) (at : ℕ) (ended : Bool) (budget : ℕ) → IsCut 10 (take (length bytes - at) (drop at bytes)) line rest →
    SkipsAhead (record { part = part; ahead = drop at bytes; ended = ended; budget = budget }) true
    (record { part = part; ahead = drop (at + (length line + 1)) bytes; ended = ended; budget = budget })
skips_fed part bytes line rest at ended budget h = record {
  over = line;
  free = h.first;
  whole = cut_whole bytes line rest at h;
  none = λ e. cc e;
}

-- or all of it
pub skips_all : (part bytes : List ℕ) (at n : ℕ) (ended : Bool) (budget : ℕ) → NoFeed (take (length bytes - at) (drop at bytes)) → length bytes ≤ n →
    SkipsAhead (record { part = part; ahead = drop at bytes; ended = ended; budget = budget }) false
    (record { part = part; ahead = drop n bytes; ended = ended; budget = budget })
skips_all part bytes at n ended budget h all = search (drop, tail_is, append-nil, drop_all)

skipped_left : (b c : Buffered) (remaining : List ℕ) → b.part ≡ [] → c.part ≡ b.part → (h : SkipsAhead b false c) →
    left b remaining ≡ h.over ++ left c remaining
skipped_left b c remaining none same h = grind (arith, append-nil)

-- the line's end was read
pub rest_fed : (old : List ℕ) (b c : Buffered) (remaining : List ℕ) → IsPassed old (left b remaining) → b.part ≡ [] → c.part ≡ b.part →
    SkipsAhead b true c → TakesRest old true (left c remaining)
rest_fed old b c remaining h none same k = record {
  rest = h.over ++ k.over;
  free = All-append (λ b. (b == 10) ≡ false) h.over k.over h.free k.free;
  whole = grind (arith, append_assoc);
  last = λ e. cc e;
}

-- more has to be read
pub passed_ahead : (old : List ℕ) (b c : Buffered) (remaining : List ℕ) → IsPassed old (left b remaining) → b.part ≡ [] → c.part ≡ b.part →
    SkipsAhead b false c → IsPassed old (left c remaining)
passed_ahead old b c remaining h none same k = search (passed_then, skipped_left)

-- the input's end was
pub rest_last : (old : List ℕ) (b c : Buffered) (remaining : List ℕ) → IsPassed old (left b remaining) → b.part ≡ [] → c.part ≡ b.part →
    SkipsAhead b false c → remaining ≡ [] → TakesRest old false (left c remaining)
rest_last old b c remaining h none same k end =
    let all = passed_ahead old b c remaining h none same k in
    let nothing : left c remaining ≡ [] =
    ap (λ (xs : List ℕ). (xs ++ c.ahead) ++ remaining) (same ∙ none) ∙ ap (λ (xs : List ℕ). xs ++ remaining) (k.none refl) ∙ end in
    grind arith

pub skip_size : (b c : Buffered) (fed : Bool) → c.part ≡ b.part → SkipsAhead b fed c → SameReader b c → size c ≤ size b
skip_size b c fed same h reader = grind (arith, length, length-append)
