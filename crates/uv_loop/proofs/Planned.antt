-- What is to be done of an event from outside, and why it is refused.
use Rattle.uv_loop.proofs.Names.{◌≡◌, Option, Some, None, Ok, Err, refl, ap, Event, Why, Program, Place, Next, Refuses, refusal_of, Image, OfEach, MayAct, Plans, Plan, planned_event}
use Rattle.uv_loop.specs.declared.plan.Plan.TheVariants.{Take, Finish, Cancel, Send, Io, Tick}
use Rattle.uv_model.specs.Next.{next}
use Rattle.uv_loop.proofs.Events.{tick_moves, send_moves, cancel_moves}
use Rattle.uv_loop.proofs.Takes.{take_moves}
use Rattle.uv_loop.proofs.Finishes.{finish_moves}
use Rattle.uv_loop.proofs.CallsOfIo.{io_done}

abbrev why_not : Next → Option Why
why_not n = refusal_of n

-- what may be done isn't refused
pub free : (p : Program) (i : Image Place) (plan : Plan) → MayAct p i plan → OfEach i (λ s. refusal_of (next p s (planned_event plan)) ≡ None)
free p i (Take k d r) may s h reached = ap why_not (take_moves i s k d r h may.idle may.first may.request p)
free p i (Finish k d r) may s h reached = ap why_not (finish_moves i s k d r h may.runs may.request p)
free p i (Cancel v) may s h reached = ap why_not (cancel_moves p i s h v may)
free p i (Send v) may s h reached = ap why_not (send_moves p i s h v may)
free p i (Io run v d) may s h reached =
    ap why_not (io_done p i s v h (Some run) (Some d) may.within (may.begins s h reached) (may.waits s h reached))
free p i (Tick ms) may s h reached = ap why_not (tick_moves p i s h ms may)

pub planned : (p : Program) (i : Image Place) (plan : Plan) → MayAct p i plan → Plans p i (planned_event plan) (Ok plan)
planned p i plan may = record { event = refl; may = may; refusal = free p i plan may }

pub refused : (p : Program) (i : Image Place) (e : Event) (why : Why) → OfEach i (λ s. next p s e ≡ Refuses why) → Plans p i e (Err why)
refused p i e why refuses = record { event = tt; may = tt; refusal = λ s h reached. ap why_not (refuses s h reached) }
