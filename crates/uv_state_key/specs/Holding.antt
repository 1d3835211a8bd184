-- Of what stands on lists, which the slots of a state hold.
use Rattle.std.specs.Prelude.{◌≡◌, ◌∷◌, ◌++◌, [], ℕ, zero, suc, Bool, true, false, List, length, Option, Some, None, option_and_then, slice_get, if◌then◌else◌}
use Rattle.uv_ids.specs.declared.phase.Kind.{Kind}
use Rattle.uv_ids.specs.declared.phase.Kind.TheVariants as kind
use Rattle.uv_records.specs.declared.handle.HandleRecord.{HandleRecord}
use Rattle.uv_records.specs.declared.slot.Slot.{Slot}
use Rattle.uv_records.specs.Handles.{is_timer}
use Rattle.uv_work.specs.declared.content.Content.{Content}
use Rattle.uv_work.specs.declared.content.Content.TheVariants as content
use Rattle.uv_work.specs.declared.request.Request.{Request}
use Rattle.uv_work.specs.Requests.{is_open}
use Rattle.uv_model.specs.State.{State}
use Rattle.uv_ids.specs.declared.id.Id.{Id}
use Rattle.uv_state_key.specs.declared.holds.Few.{Few}
use Rattle.uv_state_key.specs.declared.holds.Few.TheVariants as few
use Rattle.uv_state_key.specs.declared.holds.Holds.{Holds}

-- of no slot
abbrev pub no_holds : Holds
no_holds = record {
  idle = few.None;
  prepare = few.None;
  check = few.None;
  wakes = few.None;
  rests = false;
  closing = few.None;
  opened = false;
  ended = few.None;
}

-- one more slot holds it, that of this id
abbrev pub one_more : Few → Id → Few
one_more few.None id = few.One id
one_more (few.One x) id = few.Many
one_more few.Many id = few.Many

abbrev pub and_active : Holds → Id → Kind → Holds
and_active f id kind.Timer = f
and_active f id kind.Idle = record f { idle = one_more f.idle id }
and_active f id kind.Prepare = record f { prepare = one_more f.prepare id }
and_active f id kind.Check = record f { check = one_more f.check id }
and_active f id kind.Async = record f { wakes = one_more f.wakes id }
and_active f id kind.Io = f

abbrev pub and_closing : Holds → Id → Bool → Holds
and_closing f id true = record f { closing = one_more f.closing id }
and_closing f id false = f

abbrev pub and_resting : Holds → Bool → Holds
and_resting f true = record f { rests = true }
and_resting f false = f

abbrev pub and_handle : Holds → Id → HandleRecord → Holds
and_handle f id h =
    let g = and_closing f id h.closing in
    if h.active then and_active g id h.kind else and_resting g (is_timer h.kind)

abbrev pub and_request : Holds → Id → Request → Holds
and_request f id r = if is_open r.outcome then record f { opened = true } else record f { ended = one_more f.ended id }

abbrev pub and_content : Holds → Id → Option Content → Holds
and_content f id None = f
and_content f id (Some (content.Handle h)) = and_handle f id h
and_content f id (Some (content.Request r)) = and_request f id r

abbrev pub content_at : List (Slot Content) → ℕ → Option Content
content_at slots n = option_and_then (λ (slot : Slot Content). slot.content) (slice_get slots n)

abbrev pub id_by : ℕ → Option (Slot Content) → Id
id_by n None = record { slot = n; generation = 0 }
id_by n (Some slot) = record { slot = n; generation = slot.generation }

-- the id of a slot
abbrev pub id_at : List (Slot Content) → ℕ → Id
id_at slots n = id_by n (slice_get slots n)

-- what the first slots hold
abbrev pub holds_in : List (Slot Content) → ℕ → Holds
holds_in slots zero = no_holds
holds_in slots (suc n) = and_content (holds_in slots n) (id_at slots n) (content_at slots n)

abbrev pub held_by : State → Holds
held_by s = holds_in s.arena.slots (length s.arena.slots)

-- so many stand on a list, and on that of those yet to be called
abbrev pub AreFew : Few → List Id → List Id → Type 0
AreFew few.None xs ys = (xs ≡ []) × (ys ≡ [])
AreFew (few.One id) xs ys = xs ++ ys ≡ id ∷ []
AreFew few.Many xs ys = Unit {0}
