-- What a test finds is what holds.
use Rattle.uv_asking.proofs.Names.{◌≡◌, ℕ, List, [], ◌∷◌, Option, Some, None, refl, ap, ◌∙◌, option_and_then, IfSome, same_Some, none-some, First, FirstTwo, next, next_two}

pub record Agrees {A : Type 0} (o : Option A) (Holds : A → Type 0) : Type 0 where
  pub right : IfSome o Holds
  pub found : (x : A) → Holds x → o ≡ Some x

-- it is what is found
pub itself : {A : Type 0} (o : Option A) → Agrees o (λ x. o ≡ Some x)
itself None = record { right = tt; found = λ x e. e }
itself (Some y) = record { right = refl; found = λ x e. e }

pub each : {A : Type 0} (P Q : A → Type 0) (o : Option A) → ((x : A) → P x → Q x) → IfSome o P → IfSome o Q
each P Q None on h = tt
each P Q (Some x) on h = on x h

-- one, and then the other
pub both : {X A : Type 0} (o : Option X) (P : X → Type 0) (f : X → Option A) (Q : X → A → Type 0) → Agrees o P → ((x : X) → Agrees (f x) (Q x)) →
    Agrees (option_and_then f o) (λ said. (x : X) × P x × Q x said)
both None P f Q h k = record { right = tt; found = λ said t. absurd (none-some _ (h.found t.0 t.1)) }
both (Some x) P f Q h k = record {
  right = each (Q x) _ (f x) (λ said q. (x, h.right, q)) (k x).right;
  found = λ said t. ap f (same_Some _ _ (h.found t.0 t.1)) ∙ (k t.0).found said t.2;
}

-- the first field, and those behind it
pub first : {X A : Type 0} (read : List ℕ → Option X) (Is : List ℕ → X → Type 0) (more : X → List (List ℕ) → Option A)
    (Behind : X → List (List ℕ) → A → Type 0) → ((field : List ℕ) → Agrees (read field) (Is field)) →
    ((x : X) (rest : List (List ℕ)) → Agrees (more x rest) (Behind x rest)) → (fields : List (List ℕ)) →
    Agrees (next read fields more) (λ said. First Is (λ x rest. Behind x rest said) fields)
first read Is more Behind h k [] = record { right = tt; found = λ said t. absurd t }
first read Is more Behind h k (field ∷ rest) =
    both (read field) (Is field) (λ x. more x rest) (λ x said. Behind x rest said) (h field) (λ x. k x rest)

-- the first two
pub first_two : {X A : Type 0} (read : List ℕ → List ℕ → Option X) (Is : List ℕ → List ℕ → X → Type 0) (more : X → List (List ℕ) → Option A)
    (Behind : X → List (List ℕ) → A → Type 0) → ((a b : List ℕ) → Agrees (read a b) (Is a b)) →
    ((x : X) (rest : List (List ℕ)) → Agrees (more x rest) (Behind x rest)) → (fields : List (List ℕ)) →
    Agrees (next_two read fields more) (λ said. FirstTwo Is (λ x rest. Behind x rest said) fields)
first_two read Is more Behind h k [] = record { right = tt; found = λ said t. absurd t }
first_two read Is more Behind h k (a ∷ []) = record { right = tt; found = λ said t. absurd t }
first_two read Is more Behind h k (a ∷ b ∷ rest) =
    both (read a b) (Is a b) (λ x. more x rest) (λ x said. Behind x rest said) (h a b) (λ x. k x rest)
