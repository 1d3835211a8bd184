-- A step that is no worker's reads nothing of what workers run, and leaves it as it is.
use Rattle.uv_workers.proofs.Names.{◌≡◌, List, false, Option, Some, refl, ap, ap₂, sym, ◌∙◌, Event, Take, Finish, Tick, Id, Var, Seen, Program, State, named, with_named, Moves, is_of_worker, map-id, Callback, Named, count_of, counted, Run, Running, Comes}
use Rattle.uv_alike.specs.Changed.{state_map}
use Rattle.uv_model.specs.Next as steps
use Rattle.uv_model.specs.Next.{next}
use Rattle.uv_names.proofs.Changed.{as_is, changed, changed_run, Hides, named_changed, with_named_changed}
use Rattle.uv_names.proofs.Rebound.{same_place}
use Rattle.uv_names.proofs.Walk.{SeesAlike, by_named, event_alike}

-- the state whose workers run these
abbrev pub put : List (Option Id) → State → State
put running s = record s { running = running }

module _ (running : List (Option Id)) where
  -- ---- a change of what workers run alone

  abbrev these : List (Option Id) → List (Option Id)
  these runs = running

  abbrev left : State → State
  left u = changed as_is as_is these u

  left_put : (u : State) → left u ≡ put running u
  left_put u = ap₂ (λ place names. record (put running u) { place = place; names = names }) (same_place u.place) (map-id u.names)

  call_alike : (p : Program) (u : State) (run : Run) (kind : Callback) (v : Var) (line : Seen) →
      steps.calls p (left u) (changed_run as_is run) kind v line ≡ state_map (put running) (steps.calls p u run kind v line)
  call_alike p u run kind v line =
      let y = named u v in
      let body = steps.body_from p kind v (count_of kind (counted kind y.calls)) 0 in
      ap (λ (x : Named). Moves (record (with_named (left u) v (record x { calls = counted kind x.calls }))
      { place = Running (record run { body = steps.body_from p kind v (count_of kind (counted kind x.calls)) 0 }) }) (Some line))
      (named_changed as_is as_is these u v refl)
      ∙ ap (λ (t : State). Moves (record t { place = Running (record run { body = body }) }) (Some line))
      (with_named_changed as_is as_is these u v (record y { calls = counted kind y.calls }))
      ∙ ap (λ names. Moves (record (put running u) { place = Running (record run { body = body }); names = names }) (Some line))
      (map-id (with_named u v (record y { calls = counted kind y.calls })).names)

  sees : (p : Program) → SeesAlike p as_is as_is these as_is (state_map (put running))
  sees p = record {
    refuses = λ why. refl;
    stays = λ u line. ap (λ t. Moves t line) (left_put u);
    moves = λ u place line same. ap (λ names. Moves (record (put running u) { place = place; names = names }) line) (map-id u.names);
    calls = call_alike p;
    goes = λ u run kind v call number line. ap (λ names. Moves (record (put running u)
        { place = Running (record run { body = steps.body_from p kind v call number }); names = names }) (Some line)) (map-id u.names);
  }

  hides : (s : State) → Hides as_is s
  hides s = record { unbound = refl; live = λ x. refl; fresh = λ id e x. refl }

  left_same : (p : Program) (s : State) (e : Event) → is_of_worker e ≡ false → next p (left s) e ≡ state_map (put running) (next p s e)
  left_same p s e other = event_alike as_is as_is these p as_is (state_map (put running)) (sees p) s (hides s) e (by e other) where
    by : (e : Event) → is_of_worker e ≡ false → Comes (by_named as_is as_is these) s e
    by (Take k) other = absurd (let f : ⊥ = cc in f)
    by (Finish k) other = absurd (let f : ⊥ = cc in f)
    by (Tick ms) other = (refl, refl)
    by e other = tt

  pub next_same : (p : Program) (s : State) (e : Event) → is_of_worker e ≡ false → next p (put running s) e ≡ state_map (put running) (next p s e)
  next_same p s e other = ap (λ u. next p u e) (sym (left_put s)) ∙ left_same p s e other
