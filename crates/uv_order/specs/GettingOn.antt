-- Steps without a line: a due timer is set aside to be called, an async handle that nobody sent to is passed by, or a body ends. Each leaves fewer
-- of them to take, so a loop that isn't refused comes to a line.
use Rattle.std.specs.Prelude.{◌+◌, ◌<◌, ℕ, Option, Some, None, length}
use Rattle.uv_model.specs.State.{State}
use Rattle.uv_model.specs.Next.{Next, Moves, Refuses}
use Rattle.uv_model.specs.declared.place.Body.{Body}
use Rattle.uv_model.specs.declared.place.Place.{Place}
use Rattle.uv_model.specs.declared.place.Place.TheVariants.{Main, Running}

abbrev pub body_left : Option Body → ℕ
body_left None = 0
body_left (Some body) = 1

abbrev pub quiet_at : Place → ℕ
quiet_at (Main line) = 0
quiet_at (Running run) = body_left run.body

-- so many steps without a line may follow one another, at the most
abbrev pub quiet : State → ℕ
quiet s = (length s.timers + length s.watchers.async.yet) + quiet_at s.place

-- a step without a line leaves fewer than so many
abbrev pub Lessens : ℕ → Next → Type 0
Lessens n (Moves t None) = quiet t < n
Lessens n (Moves t (Some line)) = Unit {0}
Lessens n (Refuses why) = Unit {0}
