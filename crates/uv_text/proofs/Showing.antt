-- What a machine answers when it is asked how its memory lies.
use Rattle.uv_text.proofs.Names.{◌≡◌, ℕ, List, Option, Some, IfSome, subst, Event, Program, Layout, LiesFor, Shown, image_text, IsImageText}
use Rattle.uv_model.specs.After.{after}

-- it lies for the state of the session whose machine it is
lies_for : (s : Shown) (p : Program) (events : List Event) (l : Layout) (o : Option Layout) → p ≡ s.program → events ≡ s.standing → o ≡ Some l →
    IfSome o (λ l. LiesFor l (after p events)) → LiesFor l (after s.program s.standing)
lies_for s p events l o a b e h =
    let there : LiesFor l (after p events) = subst (λ (x : Option Layout). IfSome x (λ l. LiesFor l (after p events))) e h in
    subst (λ (x : Program). LiesFor l (after x s.standing)) a (subst (λ (x : List Event). LiesFor l (after p x)) b there)

pub is_image : (s : Shown) {p : Program} {events : List Event} (l : Layout) {o : Option Layout} {text : List ℕ} → p ≡ s.program
    → events ≡ s.standing → o ≡ Some l → IfSome o (λ l. LiesFor l (after p events)) → text ≡ image_text s l → IsImageText s text
is_image s {p} {events} l {o} {text} a b e h k = record { layout = l; lies = lies_for s p events l o a b e h; is = k }
