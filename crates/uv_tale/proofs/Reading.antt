-- What is read off a tale is the same of states of which the same is told.
use Rattle.uv_tale.proofs.Names.{◌≡◌, ℕ, ap, sym, ◌∙◌, Program, State, By, shift, base, earliest, earliest_later, IsRegular, Tale, tale}
use Rattle.uv_tale.proofs.Told.{tale_now, tale_earliest}

-- what is read of a state is read off its tale with the times as they are, and is the same at all times
pub record Reads {X : Type 0} (n : ℕ) (R : State → X) : Type 0 where
  pub told : Tale → X
  pub now : (s : State) → told (tale_now n s) ≡ R s
  pub shifts : (d : By) (s : State) → R (shift d s) ≡ R s

module _ {X : Type 0} (n : ℕ) (R : State → X) (p : Program) (reads : Reads n R) where
  off_tale : (s : State) → IsRegular p s → reads.told (tale n s) ≡ R s
  off_tale s h = ap reads.told (tale_earliest n s) ∙ reads.now (earliest s) ∙ sym (reads.shifts (base s) (earliest s))
      ∙ ap R (earliest_later s h.timed.timers)

  pub reads_alike : (s t : State) → IsRegular p s → IsRegular p t → tale n s ≡ tale n t → R s ≡ R t
  reads_alike s t h k same = sym (off_tale s h) ∙ ap reads.told same ∙ off_tale t k
