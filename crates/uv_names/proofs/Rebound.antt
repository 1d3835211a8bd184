-- A state whose names are bound to other ids that no step can tell from theirs. A step from it is the step from the state itself, rebound.
use Rattle.uv_names.proofs.Names.{◌≡◌, Option, Some, None, refl, ap, sym, ◌∙◌, map, option_map, Event, Id, Var, Callback, Seen, Named, count_of, counted, held, next_free, Program, Body, Run, Place, Main, Running, State, live_id, named, with_id, with_named, Moves, next}
use Rattle.uv_alike.specs.Changed.{state_map}
use Rattle.uv_model.specs.Next as steps
use Rattle.uv_names.proofs.Changed.{as_is, changed, changed_body, changed_run, changed_place, Hides, named_changed, with_named_changed}
use Rattle.uv_names.proofs.Walk.{SeesAlike, step_alike}

-- a name bound to the id that `g` gives for its own
abbrev pub rebound_name : (Id → Id) → Named → Named
rebound_name g x = record x { id = option_map g x.id }

abbrev pub rebound : (Id → Id) → State → State
rebound g s = record s { names = map (rebound_name g) s.names }

-- other ids that no step from this state can tell
pub record HidesIds (g : Id → Id) (s : State) : Type 0 where
  -- who is live stays so, with what its slot holds, and nobody else becomes so
  pub live : (id : Id) → with_id (g id) (held s.arena.slots (g id)) ≡ with_id id (held s.arena.slots id)
  -- what is made next has its own id
  pub fresh : (id : Id) → next_free s.arena ≡ Some id → g id ≡ id

-- ---- a body and a place change nothing

same_body : (o : Option Body) → option_map (changed_body as_is) o ≡ o
same_body None = refl
same_body (Some body) = refl

pub same_place : (place : Place) → changed_place as_is place ≡ place
same_place (Main line) = refl
same_place (Running run) = ap (λ body. Running (record run { body = body })) (same_body run.body)

module _ (g : Id → Id) where
  pub named_rebound : (s : State) (v : Var) → named (rebound g s) v ≡ rebound_name g (named s v)
  named_rebound s v = named_changed (rebound_name g) as_is as_is s v refl

  as_changed : (u : State) → changed (rebound_name g) as_is as_is u ≡ rebound g u
  as_changed u = ap (λ place. record (rebound g u) { place = place }) (same_place u.place)

  -- ---- from a state in which no step can tell

  hides : (s : State) → HidesIds g s → Hides (rebound_name g) s
  hides s can = record {
    unbound = refl;
    live = λ x. live_same x.id;
    fresh = λ id e x. ap (λ y. record x { id = Some y }) (can.fresh id e);
  }
    where
      live_same : (o : Option Id) → live_id s (option_map g o) ≡ live_id s o
      live_same None = refl
      live_same (Some id) = can.live id

  call_alike : (p : Program) (u : State) (run : Run) (kind : Callback) (v : Var) (line : Seen) →
      steps.calls p (changed (rebound_name g) as_is as_is u) (changed_run as_is run) kind v line
      ≡ state_map (rebound g) (steps.calls p u run kind v line)
  call_alike p u run kind v line =
      let f = rebound_name g in
      let y = named u v in
      let calls = counted kind y.calls in
      let body = steps.body_from p kind v (count_of kind calls) 0 in
      ap (λ (x : Named). Moves (record (with_named (changed f as_is as_is u) v (record x { calls = counted kind x.calls }))
      { place = Running (record run { body = steps.body_from p kind v (count_of kind (counted kind x.calls)) 0 }) }) (Some line))
      (named_changed f as_is as_is u v refl)
      ∙ ap (λ (t : State). Moves (record t { place = Running (record run { body = body }) }) (Some line))
      (with_named_changed f as_is as_is u v (record y { calls = calls }))

  sees : (p : Program) → SeesAlike p (rebound_name g) as_is as_is as_is (state_map (rebound g))
  sees p = record {
    refuses = λ why. refl;
    stays = λ u line. ap (λ t. Moves t line) (as_changed u);
    moves = λ u place line same. refl;
    calls = call_alike p;
    goes = λ u run kind v call number line. refl;
  }

  pub next_rebound : (p : Program) (s : State) → HidesIds g s → (e : Event) → next p (rebound g s) e ≡ state_map (rebound g) (next p s e)
  next_rebound p s can e = ap (λ u. next p u e) (sym (as_changed s))
      ∙ step_alike p (rebound_name g) as_is as_is (state_map (rebound g)) (sees p) s (hides s can) e
