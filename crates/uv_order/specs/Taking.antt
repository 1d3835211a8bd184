-- Steps by which a trace gains an event of the thread pool.
use Rattle.std.specs.Prelude.{◌≡◌, List, [], ◌∷◌, Some}
use Rattle.uv_ids.specs.declared.event.Event.{Event}
use Rattle.uv_ids.specs.declared.seen.Seen.{Seen}
use Rattle.uv_script.specs.Program.{Program}
use Rattle.uv_work.specs.declared.event.PoolEvent.{PoolEvent}
use Rattle.uv_model.specs.State.{State}
use Rattle.uv_model.specs.Next.{next, Moves}
use Rattle.uv_model.specs.After.{after}
use Rattle.uv_order.specs.PoolEvents.{line_events}

-- the step is taken after these, and its line is this event of the pool
pub record IsTakenAs (p : Program) (es : List Event) (e : Event) (x : PoolEvent) : Type 0 where
  pub state : State
  pub line : Seen
  pub moves : next p (after p es) e ≡ Moves state (Some line)
  pub is : line_events p line ≡ x ∷ []
