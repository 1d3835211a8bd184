-- Which worker an event is of, by what the workers run.
use Rattle.std.specs.Prelude.{ℕ, ◌+◌, ◌==◌, Bool, false, not, List, [], ◌∷◌, map, Option, Some, None, option_map, option_and_then, slice_get, is_none, if◌then◌else◌}
use Rattle.std.specs.List.{position_from}
use Rattle.uv_ids.specs.declared.event.Event.{Event}
use Rattle.uv_ids.specs.declared.event.Event.TheVariants as event
use Rattle.uv_ids.specs.declared.id.Id.{Id}
use Rattle.uv_records.specs.declared.slot.Slot.{Slot}
use Rattle.uv_work.specs.declared.content.Content.{Content}
use Rattle.uv_model.specs.State.{State}
use Rattle.uv_workers.specs.Workers.{id_le}
use Rattle.uv_tale.specs.Tale.{name_at}

-- the first worker of which this holds of what it runs
abbrev pub first_with : (Option Id → Bool) → State → Option ℕ
first_with test s = position_from test 0 s.running

-- the first one that runs no request
abbrev pub idle_worker : State → Option ℕ
idle_worker s = first_with (λ (run : Option Id). is_none run) s

-- ---- ranks

-- where a request comes among others: by its name, and of one name by its slot. In a script that was read no two of one name are run
abbrev pub key_at : List (Slot Content) → Id → Id
key_at slots id = record { slot = name_at slots id; generation = id.slot }

-- what the workers run, by these
abbrev pub keys_run : State → List (Option Id)
keys_run s = map (option_map (key_at s.arena.slots)) s.running

-- what a worker runs
abbrev pub run_in : List (Option Id) → ℕ → Option Id
run_in running worker = option_and_then (λ (run : Option Id). run) (slice_get running worker)

-- a worker runs what comes before this
abbrev pub runs_before : Id → Option Id → Bool
runs_before key None = false
runs_before key (Some other) = not (id_le key other)

-- how many do, of one
abbrev pub count_before : Id → Option Id → ℕ
count_before key run = if runs_before key run then 1 else 0

-- of these
abbrev pub rank_in : List (Option Id) → Id → ℕ
rank_in [] key = 0
rank_in (run ∷ running) key = count_before key run + rank_in running key

-- the rank of a request: so many that are run come before it
abbrev pub rank_of : State → Id → ℕ
rank_of s id = rank_in (keys_run s) (key_at s.arena.slots id)

abbrev pub is_of_rank : State → ℕ → Option Id → Bool
is_of_rank s rank None = false
is_of_rank s rank (Some id) = rank_of s id == rank

-- the worker that runs the request of this rank
abbrev pub runner : State → ℕ → Option ℕ
runner s rank = first_with (is_of_rank s rank) s

abbrev pub finish_by : Option ℕ → Option Event
finish_by None = None
finish_by (Some worker) = Some (event.Finish worker)

-- it finishes it, whichever worker it is
abbrev pub by_rank : State → Event → Option Event
by_rank s (event.Finish rank) = finish_by (runner s rank)
by_rank s e = Some e

-- where a search forgets which worker runs which request, its finishes go by ranks
abbrev pub ranked : Option ℕ → State → Option Event → Option Event
ranked None s o = o
ranked (Some n) s None = None
ranked (Some n) s (Some e) = by_rank s e
