-- A text that is written in pieces.
use Rattle.uv_inquiry.proofs.Names.{◌≡◌, ℕ, List, ◌++◌, ap, ◌∙◌, append_assoc}

-- three pieces behind a text
pub three_pieces : {x y z : List ℕ} (old a b c : List ℕ) → x ≡ old ++ a → y ≡ x ++ b → z ≡ y ++ c → z ≡ old ++ (a ++ b ++ c)
three_pieces old a b c first second last =
    last ∙ ap (λ (t : List ℕ). t ++ c) (second ∙ ap (λ (t : List ℕ). t ++ b) first ∙ append_assoc old a b) ∙ append_assoc old (a ++ b) c
