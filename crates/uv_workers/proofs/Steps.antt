-- Steps of states that are the same except for which worker runs which request.
use Rattle.uv_workers.proofs.Names.{◌≡◌, ℕ, List, false, drop, Option, Some, None, Result, Ok, Err, refl, ap, sym, ◌∙◌, slice_get, slice_set, Id, Var, Event, Take, Finish, Seen, Program, State, request, with_id, Next, Moves, Refuses, is_of_worker, next_by, ordered, orderly, Why, IdleWorker, text_of, Finished, Request, found_or}
use Rattle.uv_alike.specs.Changed.{state_map}
use Rattle.uv_ids.specs.declared.seen.Seen.TheVariants as seen
use Rattle.uv_work.specs.Digests.{digest_of}
use Rattle.uv_model.specs.Ops.{ended}
use Rattle.uv_model.specs.Next as steps
use Rattle.uv_model.specs.Next.{next}
use Rattle.uv_workers.proofs.Frame.{put, next_same}
use Rattle.uv_workers.proofs.Runs.{ordered_again, set_alike}

-- ---- two states that are the same with the workers' requests in order

pub runs_alike : (s t : State) → orderly s ≡ orderly t → ordered s.running ≡ ordered t.running
runs_alike s t same = ap (λ (u : State). u.running) same

-- the one is the other, with what its workers run
pub whole : (s t : State) → orderly s ≡ orderly t → put t.running s ≡ t
whole s t same = ap (put t.running) same

-- ---- the steps that are no worker's

put_alike : (x : Next) (xs ys : List (Option Id)) → ordered xs ≡ ordered ys →
    state_map orderly (state_map (put xs) x) ≡ state_map orderly (state_map (put ys) x)
put_alike (Moves s line) xs ys same = ap (λ running. Moves (put running s) line) same
put_alike (Refuses why) xs ys same = refl

pub others : (p : Program) (s : State) (e : Event) → is_of_worker e ≡ false →
    state_map orderly (next p (orderly s) e) ≡ state_map orderly (next p s e)
others p s e other = ap (state_map orderly) (next_same (ordered s.running) p s e other)
    ∙ put_alike (next p s e) (ordered s.running) s.running (ordered_again s.running)
    ∙ ap (state_map orderly) (sym (next_same s.running p s e other))

pub others_alike : (p : Program) (s t : State) (e : Event) → is_of_worker e ≡ false → orderly s ≡ orderly t →
    state_map orderly (next p s e) ≡ state_map orderly (next p t e)
others_alike p s t e other same = sym (others p s e other) ∙ ap (λ u. state_map orderly (next p u e)) same ∙ others p t e other

-- ---- a worker takes a request, or finishes its own

-- the other workers run the same, and this one from then on another
set_same : (s : State) (running : List (Option Id)) (k j : ℕ) (x y : Option Id) → ordered s.running ≡ ordered running →
    slice_get s.running k ≡ Some x → slice_get running j ≡ Some x → ordered (slice_set running j y) ≡ ordered (slice_set s.running k y)
set_same s running k j x y same at there = sym (set_alike s.running running k j x y same at there)

take_with : (p : Program) (s : State) (running : List (Option Id)) (k j : ℕ) → ordered s.running ≡ ordered running →
    slice_get s.running k ≡ slice_get running j →
    state_map orderly (next p (put running s) (Take j)) ≡ state_map orderly (next_by j (next p s (Take k)))
unfolding next
take_with p s running k j same here =
    ap (λ o. state_map orderly (steps.take (put running s) j (steps.next_work (put running s) o))) (sym here)
    ∙ by (slice_get s.running k) refl (sym here)
  where
    takes : slice_get s.running k ≡ Some None → slice_get running j ≡ Some None → (t : Result (Id × Request) Why) →
        state_map orderly (steps.take (put running s) j t) ≡ state_map orderly (next_by j (steps.take s k t))
    takes at there (Err why) = refl
    takes at there (Ok t) = ap (λ runs. Moves (record s { waiting = drop 1 s.waiting; running = runs }) (Some (seen.Take j t.1.name t.0)))
        (set_same s running k j None (Some t.0) same at there)

    by : (o : Option (Option Id)) → slice_get s.running k ≡ o → slice_get running j ≡ o →
        state_map orderly (steps.take (put running s) j (steps.next_work (put running s) o))
        ≡ state_map orderly (next_by j (steps.take s k (steps.next_work s o)))
    by None at there = refl
    by (Some (Some id)) at there = refl
    by (Some None) at there = simp takes

finish_with : (p : Program) (s : State) (running : List (Option Id)) (k j : ℕ) → ordered s.running ≡ ordered running →
    slice_get s.running k ≡ slice_get running j →
    state_map orderly (next p (put running s) (Finish j)) ≡ state_map orderly (next_by j (next p s (Finish k)))
unfolding next
finish_with p s running k j same here =
    ap (λ o. state_map orderly (steps.finish (put running s) j (steps.work_of (put running s) o))) (sym here)
    ∙ by (slice_get s.running k) refl (sym here)
  where
    finishes : (id : Id) → slice_get s.running k ≡ Some (Some id) → slice_get running j ≡ Some (Some id) → (t : Result (Id × Request) Why) →
        state_map orderly (steps.finish (put running s) j t) ≡ state_map orderly (next_by j (steps.finish s k t))
    finishes id at there (Err why) = refl
    finishes id at there (Ok t) =
        let outcome = Finished (digest_of t.1.task.rounds (text_of t.1.task)) in
        ap (λ runs. Moves (ended (record s { running = runs }) t.0 t.1 outcome) (Some (seen.Finish j t.1.name t.0)))
        (set_same s running k j (Some id) None same at there)

    by : (o : Option (Option Id)) → slice_get s.running k ≡ o → slice_get running j ≡ o →
        state_map orderly (steps.finish (put running s) j (steps.work_of (put running s) o))
        ≡ state_map orderly (next_by j (steps.finish s k (steps.work_of s o)))
    by None at there = refl
    by (Some None) at there = refl
    by (Some (Some id)) at there = finishes id at there (found_or (with_id id (request s id)) Ok (Err IdleWorker))

pub takes : (p : Program) (s : State) (k j : ℕ) → slice_get s.running k ≡ slice_get (orderly s).running j →
    state_map orderly (next p (orderly s) (Take j)) ≡ state_map orderly (next_by j (next p s (Take k)))
takes p s k j here = take_with p s (ordered s.running) k j (sym (ordered_again s.running)) here

pub takes_alike : (p : Program) (s t : State) (k j : ℕ) → orderly s ≡ orderly t → slice_get s.running k ≡ slice_get t.running j →
    state_map orderly (next p t (Take j)) ≡ state_map orderly (next_by j (next p s (Take k)))
takes_alike p s t k j same here = ap (λ u. state_map orderly (next p u (Take j))) (sym (whole s t same))
    ∙ take_with p s t.running k j (runs_alike s t same) here

pub finishes : (p : Program) (s : State) (k j : ℕ) → slice_get s.running k ≡ slice_get (orderly s).running j →
    state_map orderly (next p (orderly s) (Finish j)) ≡ state_map orderly (next_by j (next p s (Finish k)))
finishes p s k j here = finish_with p s (ordered s.running) k j (sym (ordered_again s.running)) here

pub finishes_alike : (p : Program) (s t : State) (k j : ℕ) → orderly s ≡ orderly t → slice_get s.running k ≡ slice_get t.running j →
    state_map orderly (next p t (Finish j)) ≡ state_map orderly (next_by j (next p s (Finish k)))
finishes_alike p s t k j same here = ap (λ u. state_map orderly (next p u (Finish j))) (sym (whole s t same))
    ∙ finish_with p s t.running k j (runs_alike s t same) here

-- ---- their lines

pub take_line : (p : Program) (s t : State) (k : ℕ) (line : Option Seen) → next p s (Take k) ≡ Moves t line →
    (v : Var) × (id : Id) × (line ≡ Some (seen.Take k v id))
unfolding next
take_line p s t k line is = by (steps.next_work s (slice_get s.running k)) is
  where
    by : (r : Result (Id × Request) Why) → steps.take s k r ≡ Moves t line → (v : Var) × (id : Id) × (line ≡ Some (seen.Take k v id))
    by (Err why) e = absurd (let f : ⊥ = cc in f)
    by (Ok r) e = let says : line ≡ Some (seen.Take k r.1.name r.0) = cc in (r.1.name, r.0, says)

pub finish_line : (p : Program) (s t : State) (k : ℕ) (line : Option Seen) → next p s (Finish k) ≡ Moves t line →
    (v : Var) × (id : Id) × (line ≡ Some (seen.Finish k v id))
unfolding next
finish_line p s t k line is = by (steps.work_of s (slice_get s.running k)) is
  where
    by : (r : Result (Id × Request) Why) → steps.finish s k r ≡ Moves t line → (v : Var) × (id : Id) × (line ≡ Some (seen.Finish k v id))
    by (Err why) e = absurd (let f : ⊥ = cc in f)
    by (Ok r) e = let says : line ≡ Some (seen.Finish k r.1.name r.0) = cc in (r.1.name, r.0, says)
