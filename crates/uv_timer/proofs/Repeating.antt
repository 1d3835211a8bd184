-- Whether it repeats or not, it is the timer that it was.
use Rattle.uv_timer.proofs.Names.{◌≡◌, ◌≢◌, Bool, true, false, ◌==◌, None, IfSome, refl, sym, ◌∙◌, if◌then◌else◌, eq-eqb, false≢true, HandleRecord, Times, becoming, starting, firing}

pub firing_from : (t : Times) (h : HandleRecord) → (firing t h).from ≡ h
firing_from t h = at (h.repeat == 0) where
  at : (x : Bool) → (if x then becoming h h None else starting t h h.repeat h.repeat).from ≡ h
  at true = refl
  at false = refl

-- what holds where it repeats holds where it is due
pub firing_due : {P : Type 0} (t : Times) (h : HandleRecord) → (h.repeat ≢ 0 → P) → IfSome (firing t h).due (λ _. P)
firing_due {P = P} t h p = at (h.repeat == 0) refl where
  at : (x : Bool) → (h.repeat == 0) ≡ x → IfSome (if x then becoming h h None else starting t h h.repeat h.repeat).due (λ _. P)
  at true e = tt
  at false e = p (λ none. false≢true (sym e ∙ eq-eqb h.repeat 0 none))
