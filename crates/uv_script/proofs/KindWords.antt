-- Words of kinds, modes and orders.
use Rattle.uv_script.proofs.ProofNames.{◌≡◌, ◌⊎◌, inl, inr, ℕ, cond, List, Some, None, ap, sym, ◌∙◌, codes, bytes_eq, cases_Bool, same_Some, bytes_eq-Decides, Kind, Mode, Order, kind_word, IsNoKind, mode_word, IsNoMode, order_word, IsNoOrder}
use Rattle.uv_ids.specs.declared.phase.Kind.TheVariants as kind
use Rattle.uv_ids.specs.declared.phase.Mode.TheVariants as mode
use Rattle.uv_ids.specs.declared.order.Order.TheVariants as order
use Rattle.uv_script.specs.Reading.{kind_of, mode_of, version_of}

-- a choice by a word
pub choice_cases : {A : Type 0} (word this : List ℕ) (x y z : A) → cond (bytes_eq word this) x y ≡ z → ((word ≡ this) × (x ≡ z)) ⊎ (y ≡ z)
choice_cases word this x y z e =
    elim (cases_Bool (bytes_eq word this)) [
      | inl is ↦ inl ((bytes_eq-Decides word this).0 is, sym (ap (λ b. cond b x y) is) ∙ e)
      | inr other ↦ inr (sym (ap (λ b. cond b x y) other) ∙ e)
    ]

pub choice_other : {A : Type 0} (word this : List ℕ) (x y : A) → (word ≡ this → ⊥) → cond (bytes_eq word this) x y ≡ y
choice_other word this x y other =
    elim (cases_Bool (bytes_eq word this)) [
      | inl is ↦ absurd (other ((bytes_eq-Decides word this).0 is))
      | inr no_match ↦ ap (λ b. cond b x y) no_match
    ]

pub kind_of-some : (word : List ℕ) (k : Kind) → word ≡ kind_word k → kind_of word ≡ Some k
unfolding kind_of
kind_of-some word kind.Timer e = ap kind_of e
kind_of-some word kind.Idle e = ap kind_of e
kind_of-some word kind.Prepare e = ap kind_of e
kind_of-some word kind.Check e = ap kind_of e
kind_of-some word kind.Async e = ap kind_of e
kind_of-some word kind.Io e = ap kind_of e

pub kind_of-none : (word : List ℕ) → IsNoKind word → kind_of word ≡ None
unfolding kind_of
kind_of-none word none =
    choice_other word (codes "timer") _ _ (none kind.Timer)
    ∙ choice_other word (codes "idle") _ _ (none kind.Idle)
    ∙ choice_other word (codes "prepare") _ _ (none kind.Prepare)
    ∙ choice_other word (codes "check") _ _ (none kind.Check)
    ∙ choice_other word (codes "async") _ _ (none kind.Async)
    ∙ choice_other word (codes "io") _ _ (none kind.Io)

pub kind_of-sound : (word : List ℕ) (k : Kind) → kind_of word ≡ Some k → word ≡ kind_word k
unfolding kind_of
kind_of-sound word k e =
    elim (choice_cases word (codes "timer") _ _ (Some k) e) [
      | inl is ↦ is.0 ∙ ap kind_word (same_Some _ _ is.1)
      | inr e' ↦ elim (choice_cases word (codes "idle") _ _ (Some k) e') [
        | inl is ↦ is.0 ∙ ap kind_word (same_Some _ _ is.1)
        | inr e'' ↦ elim (choice_cases word (codes "prepare") _ _ (Some k) e'') [
          | inl is ↦ is.0 ∙ ap kind_word (same_Some _ _ is.1)
          | inr e''' ↦ elim (choice_cases word (codes "check") _ _ (Some k) e''') [
            | inl is ↦ is.0 ∙ ap kind_word (same_Some _ _ is.1)
            | inr e4 ↦ elim (choice_cases word (codes "async") _ _ (Some k) e4) [
              | inl is ↦ is.0 ∙ ap kind_word (same_Some _ _ is.1)
              | inr last ↦ elim (choice_cases word (codes "io") _ _ (Some k) last) [
                | inl is ↦ is.0 ∙ ap kind_word (same_Some _ _ is.1)
                | inr wrong ↦ cc
              ]
            ]
          ]
        ]
      ]
    ]

pub mode_of-some : (word : List ℕ) (m : Mode) → word ≡ mode_word m → mode_of word ≡ Some m
unfolding mode_of
mode_of-some word mode.Default e = ap mode_of e
mode_of-some word mode.Once e = ap mode_of e
mode_of-some word mode.Nowait e = ap mode_of e

pub mode_of-none : (word : List ℕ) → IsNoMode word → mode_of word ≡ None
unfolding mode_of
mode_of-none word none =
    choice_other word (codes "default") _ _ (none mode.Default)
    ∙ choice_other word (codes "once") _ _ (none mode.Once)
    ∙ choice_other word (codes "nowait") _ _ (none mode.Nowait)

pub mode_of-sound : (word : List ℕ) (m : Mode) → mode_of word ≡ Some m → word ≡ mode_word m
unfolding mode_of
mode_of-sound word m e =
    elim (choice_cases word (codes "default") _ _ (Some m) e) [
      | inl is ↦ is.0 ∙ ap mode_word (same_Some _ _ is.1)
      | inr e' ↦ elim (choice_cases word (codes "once") _ _ (Some m) e') [
        | inl is ↦ is.0 ∙ ap mode_word (same_Some _ _ is.1)
        | inr e'' ↦ elim (choice_cases word (codes "nowait") _ _ (Some m) e'') [
          | inl is ↦ is.0 ∙ ap mode_word (same_Some _ _ is.1)
          | inr wrong ↦ cc
        ]
      ]
    ]

pub version_of-some : (word : List ℕ) (o : Order) → word ≡ order_word o → version_of word ≡ Some o
unfolding version_of
version_of-some word order.V144 e = ap version_of e
version_of-some word order.V145 e = ap version_of e

pub version_of-none : (word : List ℕ) → IsNoOrder word → version_of word ≡ None
unfolding version_of
version_of-none word none = choice_other word (codes "1.44") _ _ (none order.V144) ∙ choice_other word (codes "1.45") _ _ (none order.V145)

pub version_of-sound : (word : List ℕ) (o : Order) → version_of word ≡ Some o → word ≡ order_word o
unfolding version_of
version_of-sound word o e =
    elim (choice_cases word (codes "1.44") _ _ (Some o) e) [
      | inl is ↦ is.0 ∙ ap order_word (same_Some _ _ is.1)
      | inr last ↦ elim (choice_cases word (codes "1.45") _ _ (Some o) last) [
        | inl is ↦ is.0 ∙ ap order_word (same_Some _ _ is.1)
        | inr wrong ↦ cc
      ]
    ]
