-- The digits of a number: those before the last one, and that.
use Rattle.uv_text.proofs.Names.{◌≡◌, ℕ, ◌+◌, ◌<◌, ◌≤◌, ◌/◌, ◌%◌, ◌^◌, ◌∷◌, [], length, decimal, ap, ◌∙◌, length-append, decimal_step}

pub length-last_digit : (n : ℕ) → 10 ≤ n → n < 2 ^ 64 → length (decimal n) ≡ length (decimal (n / 10)) + 1
length-last_digit n some small = ap length (decimal_step n some small) ∙ length-append (decimal (n / 10)) ((48 + n % 10) ∷ [])
