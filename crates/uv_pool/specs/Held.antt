-- What the fields of the book hold.
use Rattle.std.specs.Prelude.{◌≡◌, ◌+◌, ◌≤◌, ◌&&◌, Bool, true, false, Option, Some, None, length, nat_lt, vec_len, vec_capacity}
use Rattle.std.specs.VecDeque.{deque_len, deque_capacity}
use Rattle.std.specs.HashMap.{get, spare}
use Rattle.uv_ids.specs.Limits.{MOST_STEPS}
use Rattle.uv_ids.specs.declared.id.Id.{Id}
use Rattle.uv_work.specs.Ids.{same_id}
use Rattle.uv_work.specs.Pool.{has, waits}
use Rattle.uv_pool.specs.Contents.{Contents, pool_of, result_in}
use Rattle.uv_pool.specs.Hold.{Hold}
use Rattle.uv_pool.specs.Jobs.{jobs_of}
use Rattle.uv_pool.specs.Rows.{Rows, IsIndexed}
use Rattle.uv_pool.specs.declared.places.Place.{Place}
use Rattle.uv_pool.specs.declared.places.Place.TheVariants as place
use Rattle.uv_pool.specs.declared.held.Held.{Held}

abbrev pub contents_of : Held → Contents
contents_of h = record { log = h.log.items; waiting = jobs_of h.waiting.places.items; running = h.running.items; done = h.done.items }

-- the log is below its limit, and there is room for one more entry and for all that its call grows
abbrev pub has_room : Held → Bool
has_room h =
    nat_lt (vec_len h.log) MOST_STEPS
    && (nat_lt (vec_len h.log) (vec_capacity h.log)
    && (nat_lt (deque_len h.waiting.places) (deque_capacity h.waiting.places)
    && (nat_lt (deque_len h.done) (deque_capacity h.done) && nat_lt 0 (spare h.places))))

abbrev pub hold_of : Held → Hold
hold_of h = record { contents = contents_of h; room = has_room h }

abbrev pub rows_of : Held → Rows
rows_of h = record {
  first = h.waiting.first;
  waiting = h.waiting.places.items;
  running = h.running.items;
  collected = h.collected;
  done = h.done.items;
}

abbrev pub place_of : Held → Id → Option Place
place_of h id = get same_id h.places id

-- where a request stands is known, and no more were queued or done than there are entries
pub record IsKept (h : Held) : Type 0 where
  pub indexed : IsIndexed (rows_of h) (place_of h)
  pub queued : h.waiting.first + length h.waiting.places.items ≤ length h.log.items
  pub done : h.collected + length h.done.items ≤ length h.log.items

-- what the place of a request says of the pool
abbrev pub Finds : Contents → Id → Option Place → Type 0
Finds c id None = (has (pool_of c) id ≡ false) × (result_in c.done id ≡ None)
Finds c id (Some (place.Waiting n)) = (has (pool_of c) id ≡ true) × (waits (pool_of c).waiting id ≡ true) × (result_in c.done id ≡ None)
Finds c id (Some (place.Running k)) = (has (pool_of c) id ≡ true) × (waits (pool_of c).waiting id ≡ false) × (result_in c.done id ≡ None)
Finds c id (Some (place.Done n)) = (has (pool_of c) id ≡ true) × (waits (pool_of c).waiting id ≡ false)
