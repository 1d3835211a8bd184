-- A list that a slot leaves, or doesn't.
use Rattle.uv_ops.proofs.Names.{◌≡◌, ℕ, Bool, true, false, if◌then◌else◌, not, eqb, List, refl, sym, ◌∙◌, without, IsIn, without_none}

-- a list that a slot leaves, unless it stays there: where it stays it wasn't there
pub gone : (stays : Bool) (xs ys : List ℕ) (x : ℕ) → (stays ≡ true → IsIn x xs → ⊥) → ys ≡ (if not stays then without eqb xs x else xs)
    → ys ≡ without eqb xs x
gone true xs ys x none e = e ∙ sym (without_none xs x (none refl))
gone false xs ys x none e = e

-- the same, of a list where it wasn't if it leaves
pub kept : (stays : Bool) (xs ys : List ℕ) (x : ℕ) → (stays ≡ false → IsIn x xs → ⊥) → ys ≡ (if not stays then without eqb xs x else xs) → ys ≡ xs
kept true xs ys x none e = e
kept false xs ys x none e = e ∙ without_none xs x (none refl)
