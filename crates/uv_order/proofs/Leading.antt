-- Where the lines lead, and that the state stands there.
use Rattle.uv_order.proofs.Names.{◌≡◌, ◌∙◌, refl, List, Option, Some, None, Event, Seen, Program, State, Body, Run, Stage, Place, Line, Told, Lasting, lasting, at_first, Position, Running, Standing, Answering, Begun, Within, Polling, history, next, Loop, refusal_of}
use Rattle.uv_model.specs.After as after
use Rattle.uv_order.specs.Waits as order
use Rattle.uv_order.specs.Waits.{LeadsTo, GoesOnFrom, there, line}
use Rattle.uv_order.proofs.Lemmas.{IsBody}
use Rattle.uv_order.proofs.Standing.{StandsIn, StandsAt, begun, pending, walking, polls, polled, done, unwoken, closing, collects, fires, calls_due, between, running, sites_at}
use Rattle.uv_order.proofs.Documents.{Course, stop, move, quiet, course}
use Rattle.uv_order.proofs.Waiting.{from}

-- where the lines of a course lead
pub record Led (p : Program) (told : Told) (past : List Seen) (at : Position) (was : Lasting) (ls : List Line) (u : State) : Type 0 where
  pub to : Position
  pub leads : LeadsTo p to at told past was ls
  pub stands : StandsAt p u u.place to

pub led_by : {p : Program} {told : Told} {past : List Seen} {s u : State} {at : Position} {ls : List Line} (was : Lasting) →
    Course p told past s at ls u → lasting s ≡ was → Led p told past at was ls u
led_by was (stop k) l = record { to = _; leads = there; stands = k.stands.stands }
led_by was (move f c) l = let r = led_by _ c refl in record { to = r.to; leads = line l f.goes r.leads; stands = r.stands }
led_by was (quiet f c) l = led_by was c (f.lasts ∙ l)

-- a state that stands there waits by that alone
waits_in : (p : Program) (s : State) (run : Run) (body : Option Body) (x : Stage) (y : Standing) → IsBody p body (sites_at y) → StandsIn p x y →
    order.waits_in s x body ≡ order.waits_behind p s (Running run.mode run.line y)
waits_in p s run None x y b begun = refl
waits_in p s run None x y b (pending none) = refl
waits_in p s run None (Stage.Walking q) y b walking = refl
waits_in p s run None x y b polls = refl
waits_in p s run None x y b polled = refl
waits_in p s run None x y b (done woken) = refl
waits_in p s run None x y b (unwoken asleep none) = refl
waits_in p s run None x y b closing = refl
waits_in p s run None x y b (collects heap none) = refl
waits_in p s run None x y b (fires heap) = refl
waits_in p s run None x y b (calls_due heap none) = refl
waits_in p s run (Some body) x Begun b f = refl
waits_in p s run (Some body) x (Within part w) b f = refl
waits_in p s run (Some body) x (Answering woken sites) b f = refl
waits_in p s run (Some body) x (Polling end) b f = absurd (cc b.are)

waits_at : (p : Program) (s : State) (x : Place) (at : Position) → StandsAt p s x at → order.waits p s x ≡ order.waits_behind p s at
waits_at p s (Place.Main i) at (between e) = refl
waits_at p s (Place.Running run) at (running {at = y} b f l) = waits_in p s run run.body run.stage y b f

pub goes_on : (p : Program) (es : List Event) → GoesOnFrom p (history p es) (after.after p es) (refusal_of (next p (after.after p es) Loop))
goes_on p es =
    let r = led_by at_first (course p es) refl in
    let s = after.after p es in
    record { at = r.to; leads = r.leads; refused = from p s ∙ waits_at p s s.place r.to r.stands }
