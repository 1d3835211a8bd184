-- What a step of the loop does.
use Rattle.std.specs.Prelude.{◌≡◌, Option}
use Rattle.uv_ids.specs.declared.code.Answer.{Answer}
use Rattle.uv_ids.specs.declared.seen.Seen.{Seen}
use Rattle.uv_script.specs.declared.op.Op.{Op}
use Rattle.uv_model.specs.declared.place.Place.{Place}
use Rattle.uv_model.specs.State.{State}
use Rattle.uv_model.specs.Next.{Next}
use Rattle.uv_model.specs.Ops.{do_op}
use Rattle.uv_memory.specs.Record.{Record}
use Rattle.uv_memory.specs.Image.{Image, Held}
use Rattle.uv_stands.specs.Stands.{StandsFor}
use Rattle.uv_stands.specs.Doing.{Returns, OfEach, Goes}

-- its line, if it has one, where each state goes on so, and this takes it back
abbrev pub Turns : (State → Next) → Record Place → Held Place → Held Place → Option Seen → Type 0
Turns f r h k line = Returns r h k × Goes f h.image k.image line

-- an op with its answer, after which the loop is at this place
abbrev pub PerformsAt : Op → Place → Image Place → Image Place → Answer → Type 0
PerformsAt op place i j answer = OfEach i (λ s. (t : State) × (do_op s op ≡ record { state = t; answer = answer })
    × StandsFor j (record t { place = place }))
