-- The results that were finished and not collected.
use Rattle.std.specs.Prelude.{◌≡◌, Option, Some, None, cond}
use Rattle.uv_ids.specs.declared.id.Id.{Id}
use Rattle.uv_work.specs.Ids.{same_id}
use Rattle.uv_work.specs.declared.result.WorkResult.{WorkResult}
use Rattle.uv_pool.specs.Contents.{Contents, result_in}
use Rattle.uv_pool.specs.declared.places.Collected.{Collected}

-- each request has the result that it had
abbrev pub KeepsResults : Contents → Contents → Type 0
KeepsResults s t = (id : Id) → result_in t.done id ≡ result_in s.done id

-- one request has this result now, or none, and each other one the result that it had
abbrev pub SetsResult : Contents → Id → Option WorkResult → Contents → Type 0
SetsResult s id result t = (other : Id) → result_in t.done other ≡ cond (same_id id other) result (result_in s.done other)

-- a request that was collected comes with its result, and has none from then on
abbrev pub HandsOut : Contents → Option Collected → Contents → Type 0
HandsOut s None t = KeepsResults s t
HandsOut s (Some c) t = (c.result ≡ result_in s.done c.id) × SetsResult s c.id None t
