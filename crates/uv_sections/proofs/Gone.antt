-- The front of a list that leaves it and is freed: what the old memory and the new one stand for.
use Rattle.std.specs.Prelude.{◌≡◌, ℕ, Some, drop}
use Rattle.uv_ids.specs.declared.id.Id.{Id}
use Rattle.uv_records.specs.declared.handle.HandleRecord.{HandleRecord}
use Rattle.uv_records.specs.Slots.{freed}
use Rattle.uv_work.specs.declared.request.Request.{Request}
use Rattle.uv_model.specs.declared.place.Place.{Place}
use Rattle.uv_model.specs.State.{State, front, front_request}
use Rattle.uv_memory.specs.Image.{Image}
use Rattle.uv_stands.specs.Stands.{StandsFor}

-- the front of the requests that are yet to call back was this one, and is freed, for good at this generation
pub record RequestGone (last : ℕ) (new : Image Place) (s : State) (id : Id) (r : Request) : Type 0 where
  pub front : front_request s s.done.yet ≡ Some (id, r)
  pub stands : StandsFor new (record s { arena = freed last id s.arena; done = record s.done { yet = drop 1 s.done.yet } })

-- the front of the handles that are yet to be closed was this one, and is freed, for good at this generation
pub record HandleGone (last : ℕ) (new : Image Place) (s : State) (id : Id) (r : HandleRecord) : Type 0 where
  pub front : front s s.closing.yet ≡ Some (id, r)
  pub stands : StandsFor new (record s { arena = freed last id s.arena; closing = record s.closing { yet = drop 1 s.closing.yet } })
