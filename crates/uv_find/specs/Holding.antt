-- Where moves are held back: behind the loop's step, where only the thread pool, the clock and I/O come from outside and the step is apart
-- from them; and behind a worker's take, where no line cancels and workers are alike.
use Rattle.std.specs.Prelude.{if◌then◌else◌, ℕ, length, nat_le, take, Bool, true, false, ◌&&◌, not, List, [], ◌∷◌, Option, Some, None, is_none}
use Rattle.std.specs.List.{list_all}
use Rattle.uv_ids.specs.declared.event.Event.TheVariants as event
use Rattle.uv_script.specs.declared.op.Op.{Op}
use Rattle.uv_script.specs.Program.{Program, has_io}
use Rattle.uv_records.specs.declared.lists.WatcherKind.TheVariants as watcher
use Rattle.uv_model.specs.declared.place.Body.{Body}
use Rattle.uv_model.specs.declared.place.Run.{Run}
use Rattle.uv_model.specs.declared.place.Stage.{Stage}
use Rattle.uv_model.specs.declared.place.Stage.TheVariants as stage
use Rattle.uv_model.specs.declared.place.Place.{Place}
use Rattle.uv_model.specs.declared.place.Place.TheVariants.{Main, Running}
use Rattle.uv_model.specs.State.{State}
use Rattle.uv_alike.specs.Asks.{cancels_op, reads_clock}
use Rattle.uv_apart.specs.Apart.{is_apart}
use Rattle.uv_asking.specs.Asked.{Asked}
use Rattle.uv_asking.specs.declared.asking.Offer.{Offer}
use Rattle.uv_asking.specs.declared.asking.Offer.TheVariants.{Step, Take, Wait, WaitFor}
use Rattle.uv_asking.specs.declared.asking.Offered.{Offered}
use Rattle.uv_asking.specs.declared.asking.Question.{Question}
use Rattle.uv_asking.specs.declared.asking.Question.TheVariants as asks
use Rattle.uv_find.specs.Forgetting.{is_small_op, may_forget}
use Rattle.uv_find.specs.Ops.{spares, each_op}
use Rattle.uv_find.specs.declared.ops.OpTest.{OpTest}
use Rattle.uv_find.specs.declared.ops.OpTest.TheVariants as tests
use Rattle.uv_find.specs.declared.left.Left.{Left}
use Rattle.uv_find.specs.declared.left.Left.TheVariants as left

-- ---- by what is asked

-- beside what is offered moves may be held back: it is of the thread pool, or of the clock (where the loop waits, and, if ticks may come, at any
-- step), or a callback of I/O
abbrev pub can_meet : Bool → Offer → Bool
can_meet ticks Take = true
can_meet ticks Wait = true
can_meet ticks (WaitFor ms) = true
can_meet ticks (Step (event.Finish worker)) = true
can_meet ticks (Step (event.Tick ms)) = ticks
can_meet ticks (Step (event.Io v)) = true
can_meet ticks offer = false

abbrev pub can_all_meet : Bool → List Offered → Bool
can_all_meet ticks offers = list_all (λ (offered : Offered). can_meet ticks offered.offer) offers

-- it is asked how late a timer is called, which a tick before or behind a step of the loop changes
abbrev pub asks_late : Question → Bool
asks_late (asks.Late name ms) = true
asks_late question = false

abbrev pub is_empty : {A : Type 0} → List A → Bool
is_empty [] = true
is_empty (x ∷ xs) = false

-- moves may be held back: no time of a callback is said, and nothing comes but of the pool, of the clock and of I/O
abbrev pub may_hold : Asked → Bool
may_hold asked =
    not asked.full && is_none asked.differ && is_empty asked.takes && not (asks_late asked.question) && can_all_meet true asked.offers

-- where they may, whether ticks may come at any step
abbrev pub hold_of : Asked → Option Bool
hold_of asked = if may_hold asked then Some (not (can_all_meet false asked.offers)) else None

-- ---- a take at once

-- beside what is offered a worker may take a request at once: it is a time that goes by, a send, or a callback of I/O
abbrev pub is_clear_of_takes : Offer → Bool
is_clear_of_takes Wait = true
is_clear_of_takes (WaitFor ms) = true
is_clear_of_takes (Step (event.Tick ms)) = true
is_clear_of_takes (Step (event.Send v)) = true
is_clear_of_takes (Step (event.Io v)) = true
is_clear_of_takes offer = false

abbrev pub are_clear_of_takes : List Offered → Bool
are_clear_of_takes offers = list_all (λ (offered : Offered). is_clear_of_takes offered.offer) offers

-- an op cancels no request
abbrev pub is_no_cancel : Op → Bool
is_no_cancel o = not (cancels_op o)

-- what is asked of an op
abbrev pub test_of : OpTest → Op → Bool
test_of tests.IsShort = is_small_op
test_of tests.IsNoCancel = is_no_cancel
test_of (tests.Spares first) = spares first

-- beside the pool only times, sends and callbacks of I/O come: workers are alike, no time of a callback is said, and none is asked for
abbrev pub is_of_pool : Program → Asked → Bool
is_of_pool p asked = may_forget p asked && is_empty asked.takes && not (asks_late asked.question) && are_clear_of_takes asked.offers

-- a worker may take a request at once: so it is, and nobody cancels
abbrev pub may_take_at_once : Program → Asked → Bool
may_take_at_once p asked = is_of_pool p asked && each_op is_no_cancel p

-- the number of the loop's step among the moves
abbrev pub loop_number : Bool → ℕ
loop_number true = 1
loop_number false = 0

-- ---- by where the loop stands

-- a callback of I/O may begin in this stage: in the one before the poll, in the poll, and behind it up to the end of the async section
abbrev pub is_of_io : Stage → Bool
is_of_io stage.Pending = true
is_of_io (stage.Poll deadline) = true
is_of_io (stage.Polled woken) = true
is_of_io stage.Done = true
is_of_io stage.DoneUnwoken = true
is_of_io (stage.Walking watcher.Async) = true
is_of_io s = false

abbrev pub run_takes_io : Program → Run → Option Body → Bool
run_takes_io p run None = has_io p && is_of_io run.stage
run_takes_io p run (Some body) = false

-- where the loop stands, a callback of I/O may begin
abbrev pub may_take_io : Program → Place → Bool
may_take_io p (Main line) = false
may_take_io p (Running run) = run_takes_io p run run.body

-- the loop's next step is apart from what may come
abbrev pub is_loop_apart : Program → Bool → State → Bool
is_loop_apart p ticks s = is_apart p s && (not (ticks && reads_clock p s) && not (may_take_io p s.place))

-- the offer may be taken as often as one likes
abbrev pub is_at_will : Option Left → Bool
is_at_will (Some left.AtWill) = true
is_at_will x = false

-- so may each of these, and each of the first ones
abbrev pub are_all_at_will : List Left → Bool
are_all_at_will xs = list_all (λ (x : Left). is_at_will (Some x)) xs

abbrev pub are_at_will : ℕ → List Left → Bool
are_at_will n xs = nat_le n (length xs) && are_all_at_will (take n xs)
