-- The lines of a recording are read as what they say: each step that may be taken, and each callback.
use Rattle.uv_text.proofs.Names.{◌≡◌, ℕ, ◌+◌, ◌<◌, ◌≤◌, ◌^◌, ◌&&◌, nat_le, true, false, List, [], ◌∷◌, ◌++◌, length, get_or, All, Contains, Option, Some, None, IfSome, slice_get, refl, ap, sym, ◌∙◌, arith, length-append, codes, decimal, list_all, length-decimal-le, All-append, All-head, All-nil, All-tail, slice_get-get_or, encode_lower, lower_digits, length-encode_with, Id, Var, Event, Loop, Take, Finish, Cancel, Send, Io, Tick, Seen, IsLine, Program, text_or_none, name_text, IsName, IsDeclared, declared_contains, fields-last, decimal_printable, decimal_unspaced, printable_front, is_number, name_unspaced, IsDigest, has_step, SaysStep, loop, outside, IsCallbackLine, call, after, closed, step_line, is_callback, id_text, handle_text, end_text, line_text}
use Rattle.hex.specs.Hex.{encode_with}
use Rattle.uv_ids.specs.declared.seen.Seen.TheVariants as seen
use Rattle.uv_text.specs.Commands as is
use Rattle.uv_text.proofs.Sizes.{IsShort, Shows, CanBe}

-- ---- so many printable bytes at most

record IsPrinted (n : ℕ) (text : List ℕ) : Type 0 where
  short : length text ≤ n
  printable : All (λ b. (32 ≤ b) × (b ≤ 126)) text

both : (m n : ℕ) (xs ys : List ℕ) → IsPrinted m xs → IsPrinted n ys → IsPrinted (m + n) (xs ++ ys)
both m n xs ys h k = record {
  short = omega (arith, length-append xs ys, h.short, k.short);
  printable = All-append (λ b. (32 ≤ b) × (b ≤ 126)) xs ys h.printable k.printable;
}

within : (m n : ℕ) (xs : List ℕ) → m ≤ n → IsPrinted m xs → IsPrinted n xs
within m n xs l h = record { short = omega (arith, l, h.short); printable = h.printable }

word : (text : List ℕ) → list_all (λ b. nat_le 32 b && nat_le b 126) text ≡ true → IsPrinted (length text) text
word text e = record { short = omega arith; printable = printable_front text e }

number : (n : ℕ) → n < 2 ^ 64 → IsPrinted 20 (decimal n)
number n h = record { short = length-decimal-le 20 n (omega arith) (omega (arith, h)) h; printable = decimal_printable n h }

is_line : (n : ℕ) (text : List ℕ) → n ≤ 256 → IsPrinted n text → IsLine text
is_line n text l h = record { short = omega (arith, l, h.short); printable = h.printable }

-- ---- names

name_printed : (name : List ℕ) → IsName name → IsPrinted 32 name
name_printed name is = grind arith

module _ (names : List (List ℕ)) (each : (name : List ℕ) → Contains names name → IsName name) where
  name_there : (v : Var) → IsPrinted 32 (name_text names v)
  name_there v = at (slice_get names v.0) refl where
    at : (x : Option (List ℕ)) → slice_get names v.0 ≡ x → IsPrinted 32 (text_or_none x)
    at None e = record { short = omega arith; printable = All-nil (λ b. (32 ≤ b) × (b ≤ 126)) }
    at (Some name) e = name_printed name (each name (declared_contains names name v e))

-- ---- steps

module _ (p : Program) (each : (name : List ℕ) → Contains p.names name → IsName name) where
  declared : (v : Var) → v.0 < length p.names → IsDeclared p.names (name_text p.names v) v
  declared v inside = let e = slice_get-get_or p.names v.0 [] inside in e ∙ ap Some (sym (ap text_or_none e))

  worker : (n k : ℕ) → k ≤ 1024 → n < k → n < 2 ^ 64
  worker n k few less = omega (arith, few, less)

  -- the line of a step that may be taken says it
  pub step_said : (m k : ℕ) (e : Event) → m ≤ length p.names → k ≤ 1024 → CanBe m k e → has_step p e ≡ true → SaysStep p (step_line p.names e) e
  step_said m k Loop all few h has = loop refl
  step_said m k (Take n) all few h has =
      let small : n < 2 ^ 64 = omega (arith, few, h) in
      outside (Take n) (is_line 25 _ (omega arith) (both 5 20 (codes "take ") (decimal n) (word (codes "take ") refl) (number n small)))
      (is.step (codes "take") (decimal n) (Take n) (ap (λ (r : List (List ℕ)). codes "take" ∷ r) (fields-last (decimal n) (decimal_unspaced n small)))
      (is.take n refl (is_number n small) (omega (arith, few, h)))) has
  step_said m k (Finish n) all few h has =
      let small : n < 2 ^ 64 = omega (arith, few, h) in
      outside (Finish n) (is_line 27 _ (omega arith) (both 7 20 (codes "finish ") (decimal n) (word (codes "finish ") refl) (number n small)))
      (is.step (codes "finish") (decimal n) (Finish n)
      (ap (λ (r : List (List ℕ)). codes "finish" ∷ r) (fields-last (decimal n) (decimal_unspaced n small)))
      (is.finish n refl (is_number n small) (omega (arith, few, h)))) has
  step_said m k (Cancel v) all few h has =
      let name = name_text p.names v in
      let there = declared v (omega (arith, all, h)) in
      let unspaced = name_unspaced name (each name (declared_contains p.names name v there)) in
      outside (Cancel v) (is_line 39 _ (omega arith) (both 7 32 (codes "cancel ") name (word (codes "cancel ") refl) (name_there p.names each v)))
      (is.step (codes "cancel") name (Cancel v) (ap (λ (r : List (List ℕ)). codes "cancel" ∷ r) (fields-last name unspaced))
      (is.cancel v refl there)) has
  step_said m k (Send v) all few h has =
      let name = name_text p.names v in
      let there = declared v (omega (arith, all, h)) in
      let unspaced = name_unspaced name (each name (declared_contains p.names name v there)) in
      outside (Send v) (is_line 37 _ (omega arith) (both 5 32 (codes "send ") name (word (codes "send ") refl) (name_there p.names each v)))
      (is.step (codes "send") name (Send v) (ap (λ (r : List (List ℕ)). codes "send" ∷ r) (fields-last name unspaced)) (is.send v refl there)) has
  step_said m k (Io v) all few h has =
      let name = name_text p.names v in
      let there = declared v (omega (arith, all, h)) in
      let unspaced = name_unspaced name (each name (declared_contains p.names name v there)) in
      outside (Io v) (is_line 35 _ (omega arith) (both 3 32 (codes "io ") name (word (codes "io ") refl) (name_there p.names each v)))
      (is.step (codes "io") name (Io v) (ap (λ (r : List (List ℕ)). codes "io" ∷ r) (fields-last name unspaced)) (is.io v refl there)) has
  step_said m k (Tick ms) all few h has =
      let small : ms < 2 ^ 64 = omega (arith, h) in
      outside (Tick ms) (is_line 25 _ (omega arith) (both 5 20 (codes "tick ") (decimal ms) (word (codes "tick ") refl) (number ms small)))
      (is.step (codes "tick") (decimal ms) (Tick ms)
      (ap (λ (r : List (List ℕ)). codes "tick" ∷ r) (fields-last (decimal ms) (decimal_unspaced ms small)))
      (is.tick ms refl (is_number ms small))) has

-- ---- callbacks

digit_printed : (d : ℕ) → d < 16 → (32 ≤ get_or lower_digits d 0) × (get_or lower_digits d 0 ≤ 126)
digit_printed d l = (word lower_digits refl).printable d 0 l

bytes_printed : (xs : List ℕ) → All (λ b. b < 256) xs → All (λ b. (32 ≤ b) × (b ≤ 126)) (encode_with lower_digits xs)
unfolding encode_with
bytes_printed [] h = All-nil (λ b. (32 ≤ b) × (b ≤ 126))
bytes_printed (b ∷ rest) h =
    let fits = All-head (λ x. x < 256) b rest h in
    let more = encode_with lower_digits rest in
    grind (arith, digit_printed, (bytes_printed rest (All-tail (λ x. x < 256) b rest h)))

ending_printed : (digest : Option (List ℕ)) → IfSome digest IsDigest → IsPrinted 67 (end_text digest)
ending_printed None h = within 9 67 _ (omega arith) (word (codes "ECANCELED") refl)
ending_printed (Some digest) h = both 3 64 (codes "ok ") (encode_lower digest) (word (codes "ok ") refl) (record {
  short = omega (arith, length-encode_with lower_digits digest, h.long);
  printable = bytes_printed digest h.bytes;
})

id_printed : (id : Id) → IsShort id → IsPrinted 41 (id_text id)
id_printed id h = both 21 20 (decimal id.slot ++ codes ".") (decimal id.generation)
    (both 20 1 (decimal id.slot) (codes ".") (number id.slot (omega (arith, h.slot))) (word (codes ".") refl))
    (number id.generation (omega (arith, h.generation)))

module _ (p : Program) (each : (name : List ℕ) → Contains p.names name → IsName name) where
  handle_printed : (v : Var) (id : Id) → IsShort id → IsPrinted 74 (handle_text p v id)
  handle_printed v id h = both 33 41 (name_text p.names v ++ codes " ") (id_text id)
      (both 32 1 (name_text p.names v) (codes " ") (name_there p.names each v) (word (codes " ") refl)) (id_printed id h)

  -- the line of a callback is one of a callback
  pub callback_said : (l : Seen) → is_callback l ≡ true → Shows l → IsCallbackLine (line_text p l)
  callback_said (seen.Call v id) e h =
      call (handle_text p v id) (is_line 79 _ (omega arith) (both 5 74 (codes "call ") _ (word (codes "call ") refl) (handle_printed v id h))) refl
  callback_said (seen.Io v id) e h =
      call (handle_text p v id) (is_line 79 _ (omega arith) (both 5 74 (codes "call ") _ (word (codes "call ") refl) (handle_printed v id h))) refl
  callback_said (seen.After digest v id) e h =
      let text = handle_text p v id ++ codes " " ++ end_text digest in
      let printed = both 75 67 (handle_text p v id ++ codes " ") (end_text digest)
      (both 74 1 (handle_text p v id) (codes " ") (handle_printed v id h.0) (word (codes " ") refl)) (ending_printed digest h.1) in
      after text (is_line 148 _ (omega arith) (both 6 142 (codes "after ") text (word (codes "after ") refl) printed)) refl
  callback_said (seen.Closed v id) e h =
      closed (handle_text p v id) (is_line 81 _ (omega arith) (both 7 74 (codes "closed ") _ (word (codes "closed ") refl) (handle_printed v id h)))
      refl
  callback_said _ e h = absurd (let z : false ≡ true = e in cc z)
