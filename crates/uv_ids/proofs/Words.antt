-- A word names the code, or the section, whose word it is.
use Rattle.std.proofs.Common.{◌≡◌, ℕ, List, true, Option, Some, codes, refl}
use Rattle.std.specs.Prelude.{IfSome}
use Rattle.std.specs.Str.{bytes_eq}
use Rattle.std.proofs.lemmas.Slice.Eq.{bytes_eq-Decides}
use Rattle.std.proofs.lemmas.Bool.{cond_both}
use Rattle.uv_ids.specs.declared.code.Code.{Code}
use Rattle.uv_ids.specs.declared.code.Code.TheVariants as code
use Rattle.uv_ids.specs.declared.phase.Phase.{Phase}
use Rattle.uv_ids.specs.declared.phase.Phase.TheVariants as phase
use Rattle.uv_ids.specs.Words.{code_word, code_named, phase_word, phase_named}

pub same : (a b : List ℕ) → bytes_eq a b ≡ true → a ≡ b
same a b e = (bytes_eq-Decides a b).0 e

pub code_right : (word : List ℕ) → IfSome (code_named word) (λ c. word ≡ code_word c)
unfolding code_named
code_right word =
    let P : Option Code → Type 0 = λ o. IfSome o (λ c. word ≡ code_word c) in
    cond_both (bytes_eq word (codes "ok")) _ _ P (λ a. same _ _ a)
    (λ _. cond_both (bytes_eq word (codes "EINVAL")) _ _ P (λ a. same _ _ a)
    (λ _. cond_both (bytes_eq word (codes "EBUSY")) _ _ P (λ a. same _ _ a)
    (λ _. cond_both (bytes_eq word (codes "ECANCELED")) _ _ P (λ a. same _ _ a)
    (λ _. cond_both (bytes_eq word (codes "EBOUND")) _ _ P (λ a. same _ _ a)
    (λ _. cond_both (bytes_eq word (codes "EFULL")) _ _ P (λ a. same _ _ a)
    (λ _. cond_both (bytes_eq word (codes "ESTALE")) _ _ P (λ a. same _ _ a)
    (λ _. cond_both (bytes_eq word (codes "EKIND")) _ _ P (λ a. same _ _ a) (λ _. tt))))))))

pub code_found : (c : Code) → code_named (code_word c) ≡ Some c
unfolding code_named
code_found code.Ok = refl
code_found each = refl

pub phase_right : (word : List ℕ) → IfSome (phase_named word) (λ x. word ≡ phase_word x)
unfolding phase_named
phase_right word =
    let P : Option Phase → Type 0 = λ o. IfSome o (λ x. word ≡ phase_word x) in
    cond_both (bytes_eq word (codes "pending")) _ _ P (λ a. same _ _ a)
    (λ _. cond_both (bytes_eq word (codes "idle")) _ _ P (λ a. same _ _ a)
    (λ _. cond_both (bytes_eq word (codes "prepare")) _ _ P (λ a. same _ _ a)
    (λ _. cond_both (bytes_eq word (codes "done")) _ _ P (λ a. same _ _ a)
    (λ _. cond_both (bytes_eq word (codes "async")) _ _ P (λ a. same _ _ a)
    (λ _. cond_both (bytes_eq word (codes "check")) _ _ P (λ a. same _ _ a)
    (λ _. cond_both (bytes_eq word (codes "closing")) _ _ P (λ a. same _ _ a)
    (λ _. cond_both (bytes_eq word (codes "timers")) _ _ P (λ a. same _ _ a) (λ _. tt))))))))

pub phase_found : (x : Phase) → phase_named (phase_word x) ≡ Some x
unfolding phase_named
phase_found phase.Pending = refl
phase_found each = refl
