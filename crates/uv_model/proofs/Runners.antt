-- The worker that runs a request.
use Rattle.uv_model.proofs.Names.{◌≡◌, ℕ, ◌+◌, ◌<◌, ◌≤◌, List, [], length, get_or, drop, true, false, Option, Some, None, if◌then◌else◌, add-one, drop-cons, refl, sym, ◌∙◌, arith, common_steps, Id, is_run, runner_from}

-- the worker sought among all of them is the one sought among those from here on
abbrev IsSoughtFrom : ℕ → List (Option Id) → Id → Type 0
IsSoughtFrom at running id = runner_from at (drop at running) id ≡ runner_from 0 running id

-- it is the first of these, or is sought after that
runner_from-drop : (at : ℕ) (running : List (Option Id)) (d : Option Id) (id : Id) → at < length running →
    runner_from at (drop at running) id
    ≡ (if is_run (get_or running at d) id then Some at else runner_from (at + 1) (drop (at + 1) running) id)
runner_from-drop at running d id within = rw (drop-cons running at d) (rw add-one refl)

pub found_here : (at : ℕ) (running : List (Option Id)) (d : Option Id) (id : Id) → at < length running → is_run (get_or running at d) id ≡ true →
    IsSoughtFrom at running id → Some at ≡ runner_from 0 running id
found_here at running d id within here left = let e = runner_from-drop at running d id within in sym (rw here at e) ∙ left

pub found_later : (at : ℕ) (running : List (Option Id)) (d : Option Id) (id : Id) → at < length running → is_run (get_or running at d) id ≡ false →
    IsSoughtFrom at running id → IsSoughtFrom (at + 1) running id
found_later at running d id within other left = let e = runner_from-drop at running d id within in sym (rw other at e) ∙ left

pub found_nowhere : (at : ℕ) (running : List (Option Id)) (id : Id) → length running ≤ at → IsSoughtFrom at running id →
    None ≡ runner_from 0 running id
found_nowhere at running id past left = grind (arith, common_steps)
