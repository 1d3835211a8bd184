-- Where the loop stands still: behind the main program's last line, and in a poll whose deadline the clock hasn't reached, where no request is
-- done and no async handle was sent to. Everywhere else it goes on.
use Rattle.std.specs.Prelude.{◌≡◌, ◌||◌, List, [], ◌∷◌, Option, Some, None, slice_get, if◌then◌else◌}
use Rattle.uv_ids.specs.declared.seen.Seen.{Seen}
use Rattle.uv_ids.specs.declared.fault.Why.{Why}
use Rattle.uv_ids.specs.declared.fault.Why.TheVariants.{Blocked, Ended}
use Rattle.uv_script.specs.declared.op.MainOp.{MainOp}
use Rattle.uv_script.specs.Program.{Program}
use Rattle.uv_model.specs.Ids.{has_some}
use Rattle.uv_model.specs.State.{State}
use Rattle.uv_model.specs.Timeout.{has_pending}
use Rattle.uv_order.specs.Line.{Line}
use Rattle.uv_order.specs.Documented.{at_first, is_reached, lasting, names_by, nothing_told, told_by, Between, Goes, Lasting, Polling, Position, Running, Told}
use Rattle.uv_model.specs.declared.place.Body.{Body}
use Rattle.uv_model.specs.declared.place.Place.{Place}
use Rattle.uv_model.specs.declared.place.Place.TheVariants as place
use Rattle.uv_model.specs.declared.place.Stage.{Stage}
use Rattle.uv_model.specs.declared.place.Stage.TheVariants.{Poll}

-- why the next step of the loop is refused, by where it stands
abbrev pub waits_at : State → Stage → Option Why
waits_at s (Poll deadline) = if is_reached s.clock deadline || (has_some s.done.list || has_pending s) then None else Some Blocked
waits_at s stage = None

abbrev pub waits_in : State → Stage → Option Body → Option Why
waits_in s stage None = waits_at s stage
waits_in s stage (Some body) = None

abbrev pub ends_at : Option MainOp → Option Why
ends_at None = Some Ended
ends_at (Some op) = None

abbrev pub waits : Program → State → Place → Option Why
waits p s (place.Main line) = ends_at (slice_get p.main line)
waits p s (place.Running run) = waits_in s run.stage run.body

-- ---- by the lines alone

-- these lines lead a trace from where it stands to there
pub data LeadsTo (p : Program) (end : Position) : Position → Told → List Seen → Lasting → List Line → Type 0 where
  there : {told : Told} {past : List Seen} {was : Lasting} → LeadsTo p end end told past was []
  line : {at to : Position} {told : Told} {past : List Seen} {was : Lasting} {l : Line} {ls : List Line}
      → lasting l.before ≡ was
      → Goes p told (names_by p past) at l to
      → LeadsTo p end to (told_by p told (names_by p past) l.seen) (l.seen ∷ past) (lasting l.after) ls
      → LeadsTo p end at told past was (l ∷ ls)

-- why the next step of the loop is refused, by where the lines have led: the main program's line, and the end of the poll that they began
abbrev pub waits_behind : Program → State → Position → Option Why
waits_behind p s (Between i) = ends_at (slice_get p.main i)
waits_behind p s (Running mode i (Polling end)) =
    if is_reached s.clock end || (has_some s.done.list || has_pending s) then None else Some Blocked
waits_behind p s (Running mode i at) = None

-- the documented order leads to a place, and by that alone the next step of the loop is refused or not
pub record GoesOnFrom (p : Program) (ls : List Line) (s : State) (refusal : Option Why) : Type 0 where
  pub at : Position
  pub leads : LeadsTo p at (Between 0) nothing_told [] at_first ls
  pub refused : refusal ≡ waits_behind p s at
