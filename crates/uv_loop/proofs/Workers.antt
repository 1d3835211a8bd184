-- Which worker runs what is held under an id.
use Rattle.uv_loop.proofs.Names.{◌≡◌, ◌+◌, ℕ, suc, Bool, true, false, List, [], ◌∷◌, Option, Some, None, slice_get, refl, sym, ap, ◌∙◌, subst, true≢false, Id, Place, State, Image, StandsFor, IsFit, on_list, running_is, runner_from, worker_of, same_id, same_when}

-- where none of these runs it there is no first one that does
none_runs : (n : ℕ) (running : List (Option Id)) (d : Id) → ((k : ℕ) (x : Id) → slice_get running k ≡ Some (Some x) → same_id x d ≡ false) →
    runner_from n running d ≡ None
none_runs n [] d other = refl
none_runs n (None ∷ running) d other = none_runs (n + 1) running d (λ k x at. other (suc k) x at)
none_runs n (Some x ∷ running) d other = rw (other 0 x refl) (none_runs (n + 1) running d (λ k y at. other (suc k) y at))

-- what is on a list no worker runs
pub listed_unrun : (i : Image Place) (s : State) (d : Id) → StandsFor i s → IsFit i → on_list i.arena d ≡ true → worker_of s d ≡ None
listed_unrun i s d stands fit listed =
    ap (λ (running : List (Option Id)). runner_from 0 running d) (sym (running_is stands))
    ∙ none_runs 0 i.running.workers d (λ k x at. by k x at (same_id x d) refl)
  where
    by : (k : ℕ) (x : Id) → slice_get i.running.workers k ≡ Some (Some x) → (b : Bool) → same_id x d ≡ b → b ≡ false
    by k x at true same =
        absurd (true≢false (sym listed ∙ subst (λ (y : Id). on_list i.arena y ≡ false) (same_when x d same) (fit.work.running k x at).loose))
    by k x at false same = refl
