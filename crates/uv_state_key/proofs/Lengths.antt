-- A reached state has as many names as its script.
use Rattle.uv_state_key.proofs.Names.{◌≡◌, ℕ, List, length, ap, sym, ◌∙◌, Event, Program, IsWhole, after, holds_after}

names_long : (p : Program) (es : List Event) → length (after p es).names ≡ length p.callbacks
names_long p es = (holds_after p es).holds.stands.counted.long

-- so many names are counted in the script
pub counted : (p script : Program) (es : List Event) (names : List (List ℕ)) (count : ℕ) → script ≡ p → names ≡ script.names → IsWhole script →
    count ≡ length names → count ≡ length (after p es).names
counted p script es names count same are whole is =
    is ∙ ap length are ∙ sym whole.callbacks ∙ ap (λ (q : Program). length q.callbacks) same ∙ sym (names_long p es)
