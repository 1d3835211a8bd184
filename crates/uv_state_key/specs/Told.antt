-- What holds of a state whose bytes tell all of it, or what is told of it; of each state that steps lead to it does.
use Rattle.std.specs.Prelude.{◌≡◌, Some}
use Rattle.uv_ids.specs.declared.id.Id.{Id}
use Rattle.uv_work.specs.declared.request.Request.{Request}
use Rattle.uv_work.specs.Requests.{IsDigest}
use Rattle.uv_model.specs.State.{State, request}
use Rattle.uv_order.specs.Active.{AreTimers}

-- its order of timers is that of the active timers, and each digest is that of its task
pub record IsTold (s : State) : Type 0 where
  pub timers : AreTimers s s.timers
  pub digests : (id : Id) (r : Request) → request s id ≡ Some r → IsDigest r.task r.outcome
