-- What always holds of the memory of a loop.
use Rattle.uv_handle.specs.Counted.{IsCounted}
use Rattle.uv_requests.specs.Working.{IsWork}
use Rattle.uv_work.specs.Content.{handle_of, request_of}
use Rattle.uv_memory.specs.Image.{Image, counted_of, working_of}

module _ {P : Type 0} where
  pub record IsFit (i : Image P) : Type 0 where
    -- the count of active referenced handles is the arena's
    pub counts : IsCounted handle_of (counted_of i)
    -- the lists of requests, the workers and the count of open requests are those of the arena's requests
    pub work : IsWork request_of (working_of i)
