-- Words of ops.
use Rattle.uv_script.proofs.ProofNames.{◌≡◌, inl, inr, ℕ, cond, List, Option, Some, None, refl, ap, sym, ◌∙◌, codes, bytes_eq, same_Some, Var, Op, named_word, bare_word}
use Rattle.uv_script.specs.declared.op.Op.TheVariants as op
use Rattle.uv_script.specs.Reading.{named_op, bare_op}
use Rattle.uv_script.proofs.KindWords.{choice_cases}

-- one choice of many: the op `x` for the word `this`, and else one of the others
one_word : {A : Type 0} (said : Op → Option A) (as_said : List ℕ → A) (word this : List ℕ) (x o : Op) (others : Option Op) →
    said x ≡ Some (as_said this) → (others ≡ Some o → said o ≡ Some (as_said word)) → cond (bytes_eq word this) (Some x) others ≡ Some o →
    said o ≡ Some (as_said word)
one_word said as_said word this x o others is other e =
    elim (choice_cases word this (Some x) others (Some o) e) [
      | inl a ↦ ap said (sym (same_Some _ _ a.1)) ∙ is ∙ ap (λ w. Some (as_said w)) (sym a.0)
      | inr e' ↦ other e'
    ]

pub named_op-sound : (word : List ℕ) (v : Var) (o : Op) → named_op word v ≡ Some o → named_word o ≡ Some (word, v)
unfolding named_op
named_op-sound word v o =
    is_word (codes "stop") (op.Stop v) _ refl
    (is_word (codes "again") (op.Again v) _ refl
    (is_word (codes "due") (op.DueIn v) _ refl
    (is_word (codes "ref") (op.Ref v) _ refl
    (is_word (codes "unref") (op.Unref v) _ refl
    (is_word (codes "hasref") (op.HasRef v) _ refl
    (is_word (codes "active") (op.IsActive v) _ refl
    (is_word (codes "close") (op.Close v) _ refl
    (is_word (codes "closing") (op.IsClosing v) _ refl
    (is_word (codes "send") (op.Send v) _ refl
    (is_word (codes "cancel") (op.Cancel v) None refl (λ e. cc)))))))))))
  where
    is_word : (this : List ℕ) (x : Op) (others : Option Op) → named_word x ≡ Some (this, v) → (others ≡ Some o → named_word o ≡ Some (word, v)) →
        cond (bytes_eq word this) (Some x) others ≡ Some o → named_word o ≡ Some (word, v)
    is_word this x others = one_word named_word (λ w. (w, v)) word this x o others

pub bare_op-sound : (word : List ℕ) (o : Op) → bare_op word ≡ Some o → bare_word o ≡ Some word
unfolding bare_op
bare_op-sound word o =
    is_word (codes "stoploop") op.StopLoop _ refl
    (is_word (codes "updatetime") op.UpdateTime _ refl
    (is_word (codes "now") op.Now _ refl
    (is_word (codes "alive") op.IsAlive _ refl
    (is_word (codes "timeout") op.Timeout None refl (λ e. cc)))))
  where
    is_word : (this : List ℕ) (x : Op) (others : Option Op) → bare_word x ≡ Some this → (others ≡ Some o → bare_word o ≡ Some word) →
        cond (bytes_eq word this) (Some x) others ≡ Some o → bare_word o ≡ Some word
    is_word this x others = one_word bare_word (λ w. w) word this x o others
