-- The keys that a round keeps.
use Rattle.uv_search.proofs.Names.{◌≡◌, ℕ, ◌<◌, Bool, true, false, inl, inr, List, [], ◌∷◌, ◌++◌, length-append, refl, sym, subst, Option, Some, arith, Enters, Has, AreFew, CanLead, Entered, There, New, Full}
use Rattle.uv_search.proofs.KeyLists.{kept, new_one, number_of, get_either, has_at}
use Rattle.uv_search.proofs.Retracing.{leads_on}

module _ (old : List (List ℕ)) (key : List ℕ) (limit : ℕ) (new : List (List ℕ)) where
  -- what is there stays there
  pub entered_kept : (e : Entered) → Enters old key limit e new → (k : List ℕ) → Has old k → Has new k
  entered_kept (There n) (at, same) k has = subst (λ xs. Has xs k) (sym same) has
  entered_kept New (none, few, more) k has = subst (λ xs. Has xs k) (sym more) (kept key old k has)
  entered_kept Full (none, all, same) k has = subst (λ xs. Has xs k) (sym same) has

  pub has_entered : (e : Entered) → (e ≡ Full → ⊥) → Enters old key limit e new → Has new key
  has_entered (There n) room (at, same) = subst (λ xs. Has xs key) (sym same) (has_at old n key at)
  has_entered New room (none, few, more) = subst (λ xs. Has xs key) (sym more) (new_one key old)
  has_entered Full room enters = absurd (room refl)

module _ {P : Type 0} (moves : P → ℕ) (next : P → ℕ → Option (P × Bool)) (key : P → List ℕ) (IsDeep : P → Type 0) where
  -- the key of a place that is reached
  pub few_here : (p q : P) (old : List (List ℕ)) (limit : ℕ) (new : List (List ℕ)) (e : Entered) → CanLead moves next p q
      → Enters old (key q) limit e new → AreFew moves next key IsDeep p limit old → AreFew moves next key IsDeep p limit new
  few_here p q old limit new (There n) led (at, same) h = subst (λ xs. AreFew moves next key IsDeep p limit xs) (sym same) h
  few_here p q old limit new New led (none, few, more) h = subst (λ xs. AreFew moves next key IsDeep p limit xs) (sym more) record {
    few = omega (arith, few, length-append old (key q ∷ []));
    each = λ k has. (let at = number_of (old ++ key q ∷ []) k has in elim (get_either old (key q) at.0 k at.1) [
      | inl before ↦ h.each k (has_at old at.0 k before)
      | inr last ↦ (led.0, q, led.1, sym last.1)
    ]);
  }
  few_here p q old limit new Full led (none, all, same) h = subst (λ xs. AreFew moves next key IsDeep p limit xs) (sym same) h

  -- and where a move leads on from there
  pub few_on : (here : P) (number : ℕ) (q : P) (old : List (List ℕ)) (limit : ℕ) (new : List (List ℕ)) (e : Entered) → number < moves here
      → next here number ≡ Some (q, false) → Enters old (key q) limit e new → (p : P) → CanLead moves next p here
      → AreFew moves next key IsDeep p limit old → AreFew moves next key IsDeep p limit new
  few_on here number q old limit new e offered goes enters p led =
      few_here p q old limit new e (led.0 ++ number ∷ [], leads_on moves next p led.0 here q number false led.1 offered goes) enters

  pub few_at_first : (p : P) (limit : ℕ) → AreFew moves next key IsDeep p limit []
  few_at_first p limit = record { few = omega arith; each = λ k has. (let no : false ≡ true = has in absurd (let f : ⊥ = cc in f)) }
