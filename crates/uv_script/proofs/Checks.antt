-- The tests decide the rules.
use Rattle.uv_script.proofs.ProofNames.{◌≡◌, ◌≢◌, ℕ, ◌<◌, ◌≤◌, ◌^◌, ◌⊎◌, inl, inr, true, false, ◌&&◌, ◌==◌, cond, nat_le, List, [], ◌∷◌, length, get_or, Option, Some, None, Ok, Err, IfSome, IfNone, refl, ap, sym, subst, arith, Decides, list_all, all_ascii_digits, IsUtf8, IsAscii, digits_value, ParsesUnsigned, and_parts, and_from, leb-true, le-leb, ltb-true, lt-ltb, eqb-true, both_ways, cases_Bool, Decides-by_and, Decides-or, Decides-eqb, decimal-digits_value, digits_decimal, digits_value-decimal, decimal_nonempty, decimal_digit, first_decimal, IsAscii-decimal, parse-decimal, cond_some, IsUtf8-from_ascii, IsNumeralModel, numerals_by_value, tells_all_ascii_digits, parse_plain, IsLine, IsSkipped, empty, comment, IsLetter, IsDigit, IsName, IsNumber, is_printable, is_line, is_skipped, is_name_byte, is_name, is_canonical, is_number}
use Rattle.std.specs.Fmt.{decimal}
use Rattle.uv_script.specs.Checks.{number_of}

pub within : (low high b : ℕ) → Decides (nat_le low b && nat_le b high) ((low ≤ b) × (b ≤ high))
within low high b = grind arith

pub is_line_decides : (line : List ℕ) → Decides (is_line line) (IsLine line)
is_line_decides line =
    let each = Decides-by_and is_printable (λ b. (32 ≤ b) × (b ≤ 126)) (list_all is_printable) (within 32 126) refl (λ _ _. refl) line in
    (grind (arith, and_parts, leb-true, and_from, le-leb))

pub is_skipped_decides : (line : List ℕ) → Decides (is_skipped line) (IsSkipped line)
is_skipped_decides [] = (λ e. empty refl, λ h. refl)
is_skipped_decides (b ∷ bs) = (λ e. comment bs (ap (λ c. c ∷ bs) (eqb-true b 35 e)), λ h. begins h) where
  begins : IsSkipped (b ∷ bs) → (b == 35) ≡ true
  begins e0 = grind arith

name_byte : (b : ℕ) → Decides (is_name_byte b) (IsLetter b ⊎ (IsDigit b ⊎ (b ≡ 95)))
name_byte b = Decides-or _ _ (within 97 122 b) (Decides-or _ _ (within 48 57 b) (Decides-eqb b 95))

pub is_name_decides : (name : List ℕ) → Decides (is_name name) (IsName name)
is_name_decides [] = (λ e. absurd (both_ways false refl e), λ h. absurd (grind arith))
is_name_decides (b ∷ bs) =
    let each = Decides-by_and is_name_byte (λ c. IsLetter c ⊎ (IsDigit c ⊎ (c ≡ 95))) (list_all is_name_byte) name_byte refl (λ _ _. refl) bs in
    (grind (arith, and_parts, within, leb-true, and_from, le-leb))

own : IsNumeralModel (λ ds. all_ascii_digits ds ≡ true) (digits_value 10)
own = numerals_by_value _ tells_all_ascii_digits

-- what the test of the front says
pub record HasPlainFront (text : List ℕ) : Type 0 where
  pub no_plus : get_or text 0 0 ≢ 43
  pub no_zero : get_or text 0 0 ≡ 48 → length text ≤ 1

is_canonical_decides : (text : List ℕ) → Decides (is_canonical text) (HasPlainFront text)
is_canonical_decides each = grind arith

is_number-sound : (text : List ℕ) → is_number text ≡ true → IsNumber text (digits_value 10 text)
is_number-sound text e =
    let front = and_parts _ _ e in
    let some = and_parts _ _ front.1 in
    let digits = and_parts _ _ some.1 in
    let plain = (is_canonical_decides text).0 front.0 in
    let nonempty = ltb-true 0 (length text) some.0 in
    let fits = ltb-true (digits_value 10 text) (2 ^ 64) digits.1 in
    record {
      is = sym (decimal-digits_value own text digits.0 nonempty (λ z. let short = plain.no_zero z in omega arith) fits);
      fits = fits;
    }

is_number_decimal : (n : ℕ) → n < 2 ^ 64 → is_number (decimal n) ≡ true
is_number_decimal n h =
    grind (arith, digits_value-decimal, own, and_from, is_canonical_decides, decimal_digit, first_decimal, lt-ltb, decimal_nonempty, digits_decimal)

is_number-complete : (text : List ℕ) (n : ℕ) → IsNumber text n → (is_number text ≡ true) × (digits_value 10 text ≡ n)
is_number-complete text n h = grind (arith, is_number, is_number_decimal, digits_value-decimal, own)

-- what is found for a text is its number
pub number_of-exact : (text : List ℕ) (r : Option ℕ) → IfSome r (IsNumber text) → IfNone r ((n : ℕ) → IsNumber text n → ⊥) → r ≡ number_of text
unfolding number_of
number_of-exact text (Some n) some none = grind (arith, is_number-complete)
number_of-exact text None some none =
    elim (cases_Bool (is_number text)) [
      | inl is ↦ absurd (none (digits_value 10 text) (is_number-sound text is))
      | inr not_one ↦ sym (ap (λ b. cond b (Some (digits_value 10 text)) None) not_one)
    ]

pub number_of-complete : (text : List ℕ) (n : ℕ) → IsNumber text n → number_of text ≡ Some n
unfolding number_of
number_of-complete text n h = grind (arith, is_number-complete)

pub number_of-sound : (text : List ℕ) (n : ℕ) → number_of text ≡ Some n → IsNumber text n
unfolding number_of
number_of-sound text n e =
    let p = cond_some (is_number text) (digits_value 10 text) n e in
    subst (IsNumber text) p.1 (is_number-sound text p.0)

-- the ways in which a text is none
pub no_number_front : (text : List ℕ) → is_canonical text ≡ false → (n : ℕ) → IsNumber text n → ⊥
no_number_front text e n h = both_ways (is_canonical text) e (and_parts _ _ (is_number-complete text n h).0).0

pub no_number_text : (text : List ℕ) → (IsUtf8 text → ⊥) → (n : ℕ) → IsNumber text n → ⊥
no_number_text text bad n h = bad (IsUtf8-from_ascii text (subst IsAscii (sym h.is) (IsAscii-decimal n h.fits)))

pub no_number_parse : {E : Type 0} (text : List ℕ) (e : E) → ParsesUnsigned 64 10 text (Err e) → (n : ℕ) → IsNumber text n → ⊥
no_number_parse text e p n h = let wrong = parse-decimal 64 n text (Err e) h.fits h.fits h.is p in cc

pub number_parse : (E : Type 0) (text : List ℕ) (n : ℕ) → is_canonical text ≡ true → ParsesUnsigned {E = E} 64 10 text (Ok n) → IsNumber text n
number_parse E text n front p =
    let plain = (is_canonical_decides text).0 front in
    let q : (all_ascii_digits text ≡ true × (0 < length text) × (digits_value 10 text < 2 ^ 64)) ×
    (n ≡ digits_value 10 text) = parse_plain own {E = E} 64 text (Ok n) p plain.no_plus in
    let e : decimal (digits_value 10 text) ≡ text = decimal-digits_value own text q.0.0 q.0.1
    (λ z. let short = plain.no_zero z in omega arith) q.0.2 in
    subst (IsNumber text) (sym q.1) (record { is = sym e; fits = q.0.2 })
