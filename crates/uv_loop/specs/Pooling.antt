-- What a worker may take, and what it may finish.
use Rattle.std.specs.Prelude.{◌≡◌, ℕ, Some, None, slice_get}
use Rattle.uv_ids.specs.declared.id.Id.{Id}
use Rattle.uv_records.specs.declared.lists.ListName.TheVariants.{Waiting}
use Rattle.uv_arena.specs.Calls.{IsFirst}
use Rattle.uv_work.specs.declared.request.Request.{Request}
use Rattle.uv_requests.specs.Working as work
use Rattle.uv_model.specs.declared.place.Place.{Place}
use Rattle.uv_work.specs.Content.{request_of}
use Rattle.uv_memory.specs.Image.{Image}

-- the worker runs nothing, and this request waits longest
pub record MayTake (i : Image Place) (worker : ℕ) (d : Id) (r : Request) : Type 0 where
  pub idle : slice_get i.running.workers worker ≡ Some None
  pub first : IsFirst i.arena Waiting d
  pub request : work.request_in request_of i.arena d ≡ Some r

-- the worker runs this request
pub record MayFinish (i : Image Place) (worker : ℕ) (d : Id) (r : Request) : Type 0 where
  pub runs : slice_get i.running.workers worker ≡ Some (Some d)
  pub request : work.request_in request_of i.arena d ≡ Some r
