-- Room in four rows: the least of what is left in each.
use Rattle.uv_memory.proofs.Names.{◌≡◌, ℕ, ◌+◌, ◌-◌, ◌<◌, ◌≤◌, min, arith}

module _ (b c d capacity len : ℕ) where
  pub in_first : 0 < min (min (capacity - len) b) (min c d) → len < capacity
  in_first h = omega (arith, h)

  pub in_second : 0 < min (min b (capacity - len)) (min c d) → len < capacity
  in_second h = omega (arith, h)

  pub in_third : 0 < min (min b c) (min (capacity - len) d) → len < capacity
  in_third h = omega (arith, h)

  pub in_fourth : 0 < min (min b c) (min d (capacity - len)) → len < capacity
  in_fourth h = omega (arith, h)

-- one more in a row
pub taken : (old new was now : ℕ) → new ≡ old → now ≡ was + 1 → old - was ≤ (new - now) + 1
taken old new was now same more = omega (arith, same, more)

pub as_was : (n : ℕ) → n ≤ n + 1
as_was n = omega arith

both_less : (a b e f : ℕ) → a ≤ e + 1 → b ≤ f + 1 → min a b ≤ min e f + 1
both_less a b e f h k = omega (arith, h, k)

-- so of the least of four
pub least_less : (a b c d e f g h : ℕ) → a ≤ e + 1 → b ≤ f + 1 → c ≤ g + 1 → d ≤ h + 1 → min (min a b) (min c d) ≤ min (min e f) (min g h) + 1
least_less a b c d e f g h i j k l =
    both_less (min a b) (min c d) (min e f) (min g h) (both_less a b e f i j) (both_less c d g h k l)

-- what fits in each fits in the least
pub fits : (count capacity len : ℕ) → len + count ≤ capacity → count ≤ capacity - len
fits count capacity len h = omega (arith, h)

pub fits_both : (n a b : ℕ) → n ≤ a → n ≤ b → n ≤ min a b
fits_both n a b h k = omega (arith, h, k)

-- rows that grow
pub grown : (old new was now : ℕ) → old ≤ new → now ≡ was → old - was ≤ new - now
grown old new was now more same = omega (arith, more, same)

pub freed : (old new was now : ℕ) → new ≡ old → now + 1 ≡ was → old - was ≤ new - now
freed old new was now same less = omega (arith, same, less)

pub stays : (n : ℕ) → n ≤ n
stays n = omega arith

both_more : (a b e f : ℕ) → a ≤ e → b ≤ f → min a b ≤ min e f
both_more a b e f h k = omega (arith, h, k)

pub least_more : (a b c d e f g h : ℕ) → a ≤ e → b ≤ f → c ≤ g → d ≤ h → min (min a b) (min c d) ≤ min (min e f) (min g h)
least_more a b c d e f g h i j k l = both_more (min a b) (min c d) (min e f) (min g h) (both_more a b e f i j) (both_more c d g h k l)

-- one row in which it doesn't fit
pub lacks : (count capacity len : ℕ) → len ≤ capacity → capacity < len + count → capacity - len < count
lacks count capacity len within h = omega (arith, within, h)

module _ (n a b c d : ℕ) where
  pub of_first : a < n → min (min a b) (min c d) < n
  of_first h = omega (arith, h)

  pub of_second : b < n → min (min a b) (min c d) < n
  of_second h = omega (arith, h)

  pub of_third : c < n → min (min a b) (min c d) < n
  of_third h = omega (arith, h)

  pub of_fourth : d < n → min (min a b) (min c d) < n
  of_fourth h = omega (arith, h)
