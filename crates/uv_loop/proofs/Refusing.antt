-- What a step of the loop does, by where the memory stands.
use Rattle.uv_loop.proofs.Names.{◌≡◌, ℕ, slice_get, Option, Some, None, Result, Ok, Err, IfOk, refl, sym, ap, ◌∙◌, Seen, Loop, CallbackLine, Program, order_of, Body, Place, Main, Running, Run, State, Next, refusal_of, body_step, loop_step, main_step, run_step, Record, Image, Held, StandsFor, Turns, place_is}
use Rattle.uv_model.specs.Next.{next}

module _ (p : Program) (i : Image Place) (s : State) (h : StandsFor i s) where
  pub main_there : (line : ℕ) → i.place ≡ Main line → next p s Loop ≡ main_step (order_of p) s line (slice_get p.main line)
  unfolding next
  main_there line is = ap (loop_step p s) (sym (place_is h) ∙ is)

  pub run_there : (run : Run) → i.place ≡ Running run → next p s Loop ≡ run_step p s run run.body
  unfolding next
  run_there run is = ap (loop_step p s) (sym (place_is h) ∙ is)

-- the next op of a body is never refused
pub body_taken : (p : Program) (s : State) (run : Run) (body : Body) (line : Option CallbackLine) → refusal_of (body_step p s run body line) ≡ None
body_taken p s run body None = refl
body_taken p s run body (Some line) = refl

-- a step that does the same to each state answers the same
pub turns_by : (f g : State → Next) (r : Record Place) (h k : Held Place) (line : Option Seen)
    → ((s : State) → StandsFor h.image s → g s ≡ f s) → Turns f r h k line → Turns g r h k line
turns_by f g r h k line same t = (t.0, λ s stands reached. let q = t.1 s stands reached in (q.0, same s stands ∙ q.1, q.2))

-- the same where it may want memory
pub turns_where : {E : Type 0} (f g : State → Next) (r : Record Place) (h k : Held Place) (o : Result (Option Seen) E)
    → ((s : State) → StandsFor h.image s → g s ≡ f s) → IfOk o (λ line. Turns f r h k line) → IfOk o (λ line. Turns g r h k line)
turns_where f g r h k (Ok line) same t = turns_by f g r h k line same t
turns_where f g r h k (Err fault) same t = tt
