-- Which steps of the loop are refused: those past the main program's end, and those in a poll that can't be left yet. All others
-- are taken, with a line of the loop's own.
use Rattle.uv_model.proofs.Names.{◌≡◌, ℕ, Option, Some, None, slice_get, refl, true, false, if◌then◌else◌, cond_both, Loop, Why, Blocked, Order, MainOp, CallbackLine, Program, order_of, from_heap, lines_in, Body, Place, Main, Running, Run, Stage, TimersOf, Turn, AtEntry, Behind, BehindClosing, Way, ToTimers, ToPending, ToEnd, Timing, Collecting, Firing, WatcherKind, State, front, front_request, watched, Next, Moves, Refuses, IsOfLoop, refusal_of}
use Rattle.uv_script.specs.declared.op.MainOp.TheVariants as main
use Rattle.uv_model.specs.declared.place.Stage.TheVariants as stage
use Rattle.uv_records.specs.declared.lists.WatcherKind.TheVariants as watcher
use Rattle.uv_model.specs.Next as step
use Rattle.uv_model.proofs.Found.{found_both}

-- a step of the loop: refused so, or taken, with a line of the loop's own
abbrev Does : Option Why → Next → Type 0
Does None (Moves t l) = IsOfLoop l
Does None (Refuses why) = ⊥
Does (Some why) (Moves t l) = ⊥
Does (Some why) (Refuses x) = Some x ≡ Some why

its_refusal : (r : Option Why) (n : Next) → Does r n → refusal_of n ≡ r
its_refusal None (Refuses why) h = absurd h
its_refusal (Some why) (Moves t l) h = absurd h
its_refusal each e1 h = assumption

-- what is appended, if the step is taken, is of the loop
abbrev pub OfLoop : Next → Type 0
OfLoop (Moves t l) = IsOfLoop l
OfLoop (Refuses why) = Unit {0}

its_line : (r : Option Why) (n : Next) → Does r n → OfLoop n
its_line None (Moves t l) h = h
its_line (Some why) (Moves t l) h = absurd h
its_line r (Refuses why) h = tt

-- the step is taken
abbrev IsTaken : Next → Type 0
IsTaken n = Does None n

way_moves : (o : Order) (s : State) (run : Run) (w : Way) → IsTaken (step.goes_by o s run w)
way_moves o s run (ToTimers part) = tt
way_moves o s run ToPending = tt
way_moves o s run ToEnd = tt

turn_moves : (o : Order) (s : State) (run : Run) (turn : Turn) → IsTaken (step.turns o s run turn)
turn_moves o s run turn = way_moves o s run (step.way o run.mode (step.goes s) turn)

fire_moves : (p : Program) (s : State) (run : Run) (part : TimersOf) → IsTaken (step.fire p s run part)
fire_moves p s run part = found_both (front s s.ready) _ _ IsTaken (λ t e. tt) (λ e. turn_moves (order_of p) s run (Behind part))

timers_moves : (p : Program) (s : State) (run : Run) (part : TimersOf) (timing : Timing) → IsTaken (step.timers p s run part timing)
timers_moves p s run part Collecting = cond_both (from_heap p) _ _ IsTaken
    (λ d. found_both (step.first_due s s.timers) _ _ IsTaken (λ t e. tt) (λ e. turn_moves (order_of p) s run (Behind part)))
    (λ d. found_both (step.first_due s s.timers) _ _ IsTaken (λ t e. tt) (λ e. fire_moves p s run part))
timers_moves p s run part Firing = fire_moves p s run part

after_moves : (s : State) (run : Run) (kind : WatcherKind) → IsTaken (step.after_walk s run kind)
after_moves s run watcher.Idle = tt
after_moves s run each = tt

walk_moves : (p : Program) (s : State) (run : Run) (kind : WatcherKind) → IsTaken (step.walk p s run kind)
walk_moves p s run kind = found_both (front s (watched s kind).yet) _ _ IsTaken (λ t e. tt) (λ e. after_moves s run kind)

async_moves : (p : Program) (s : State) (run : Run) → IsTaken (step.walk_async p s run)
async_moves p s run = found_both (front s s.watchers.async.yet) _ _ IsTaken (λ t e. cond_both t.1.pending _ _ IsTaken (λ d. tt) (λ d. tt)) (λ e. tt)

close_moves : (p : Program) (s : State) (run : Run) → IsTaken (step.close_front p s run)
close_moves p s run = found_both (front s s.closing.yet) _ _ IsTaken (λ t e. tt) (λ e. turn_moves (order_of p) s run BehindClosing)

done_moves : (p : Program) (s : State) (run : Run) → IsTaken (step.collect_request p s run)
done_moves p s run = found_both (front_request s s.done.yet) _ _ IsTaken (λ t e. tt) (λ e. tt)

-- why a stage's step is refused
abbrev pub stage_refusal : State → Stage → Option Why
stage_refusal s (stage.Poll deadline) = if step.may_leave s deadline then None else Some Blocked
stage_refusal s stage.Entry = None
stage_refusal s stage.Pending = None
stage_refusal s (stage.Walking kind) = None
stage_refusal s (stage.Polled woken) = None
stage_refusal s stage.Done = None
stage_refusal s stage.DoneUnwoken = None
stage_refusal s stage.Closing = None
stage_refusal s (stage.Timers part timing) = None

stage_does : (p : Program) (s : State) (run : Run) (x : Stage) → Does (stage_refusal s x) (step.stage_step p s run x)
stage_does p s run stage.Entry = turn_moves (order_of p) s run AtEntry
stage_does p s run stage.Pending = tt
stage_does p s run (stage.Walking watcher.Async) = async_moves p s run
stage_does p s run (stage.Walking kind) = walk_moves p s run kind
stage_does p s run (stage.Poll deadline) = cond_both (step.may_leave s deadline) _ _
    (Does (stage_refusal s (stage.Poll deadline))) (λ e. rw e tt) (λ e. rw e refl)
stage_does p s run (stage.Polled true) = tt
stage_does p s run (stage.Polled false) = tt
stage_does p s run stage.Done = done_moves p s run
stage_does p s run stage.DoneUnwoken = tt
stage_does p s run stage.Closing = close_moves p s run
stage_does p s run (stage.Timers part timing) = timers_moves p s run part timing

pub stage_moves : (p : Program) (s : State) (run : Run) (x : Stage) → refusal_of (step.stage_step p s run x) ≡ stage_refusal s x
stage_moves p s run x = its_refusal _ _ (stage_does p s run x)

-- the next op of a body is never refused
pub body_moves : (p : Program) (s : State) (run : Run) (body : Body) (x : Option CallbackLine) → refusal_of (step.body_step p s run body x) ≡ None
body_moves p s run body None = refl
body_moves p s run body (Some x) = refl

pub main_moves : (o : Order) (s : State) (line : ℕ) (x : MainOp) → refusal_of (step.main_step o s line (Some x)) ≡ None
main_moves o s line (main.Run m) = refl
main_moves o s line (main.Op op) = refl

-- ---- the lines of the loop

main_lines : (o : Order) (s : State) (line : ℕ) (x : Option MainOp) → OfLoop (step.main_step o s line x)
main_lines o s line None = tt
main_lines o s line (Some (main.Run m)) = tt
main_lines o s line (Some (main.Op op)) = tt

body_lines : (p : Program) (s : State) (run : Run) (body : Body) (x : Option CallbackLine) → OfLoop (step.body_step p s run body x)
body_lines p s run body None = tt
body_lines p s run body (Some x) = tt

run_lines : (p : Program) (s : State) (run : Run) (body : Option Body) → OfLoop (step.run_step p s run body)
run_lines p s run None = its_line (stage_refusal s run.stage) _ (stage_does p s run run.stage)
run_lines p s run (Some body) = body_lines p s run body (slice_get (lines_in p body.callback body.name) body.next)

place_lines : (p : Program) (s : State) (place : Place) → OfLoop (step.loop_step p s place)
place_lines p s (Main line) = main_lines (order_of p) s line (slice_get p.main line)
place_lines p s (Running run) = run_lines p s run run.body

pub loop_lines : (p : Program) (s : State) → OfLoop (step.next p s Loop)
unfolding step.next
loop_lines p s = place_lines p s s.place

pub ruleset run_moves = (stage_moves, body_moves)
