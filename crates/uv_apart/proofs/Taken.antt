-- Where the loop's step is apart it isn't refused; and what comes from outside leaves its place.
use Rattle.uv_apart.proofs.Names.{◌≡◌, ℕ, true, false, Option, Some, None, ap, slice_get, cond_both, Loop, Take, Finish, Tick, Seen, MainOp, CallbackLine, Program, order_of, from_heap, lines_in, Body, Run, Stage, Entry, Pending, Walking, Poll, Polled, Done, DoneUnwoken, Closing, Timers, Place, Main, Running, IsMove, State, front, front_request, Moves, place_reads_clock, is_apart, is_apart_at, is_apart_main, is_apart_run, is_apart_stage, LeavesPlace, Order, WatcherKind, TimersOf, Turn, AtEntry, Behind, BehindClosing, Way, ToTimers, ToPending, ToEnd, Timing, Collecting, Firing}
use Rattle.uv_script.specs.declared.op.MainOp.TheVariants as main
use Rattle.uv_records.specs.declared.lists.WatcherKind.TheVariants as watcher
use Rattle.uv_model.specs.Next as steps
use Rattle.uv_model.specs.Next.{next}
use Rattle.uv_apart.proofs.Cases.{found_both}
use Rattle.uv_apart.proofs.Kept.{next_ticks}
use Rattle.uv_apart.proofs.Pool.{next_takes, next_finishes}

module _ (p : Program) (s : State) (run : Run) where
  way_moves : (o : Order) (w : Way) → IsMove (steps.goes_by o s run w)
  way_moves o (ToTimers part) = tt
  way_moves o ToPending = tt
  way_moves o ToEnd = tt

  turn_moves : (turn : Turn) → IsMove (steps.turns (order_of p) s run turn)
  turn_moves turn = way_moves (order_of p) (steps.way (order_of p) run.mode (steps.goes s) turn)

  fire_moves : (part : TimersOf) → IsMove (steps.fire p s run part)
  fire_moves part = found_both IsMove (front s s.ready) (λ t. tt) (turn_moves (Behind part))

  timers_move : (part : TimersOf) (when : Timing) → IsMove (steps.timers p s run part when)
  timers_move part Collecting = cond_both (from_heap p) _ _ IsMove
      (λ e. found_both IsMove (steps.first_due s s.timers) (λ t. tt) (turn_moves (Behind part)))
      (λ e. found_both IsMove (steps.first_due s s.timers) (λ t. tt) (fire_moves part))
  timers_move part Firing = fire_moves part

  walk_moves : (kind : WatcherKind) → IsMove (steps.in_walk p s run kind)
  walk_moves watcher.Idle = found_both IsMove (front s s.watchers.idle.yet) (λ t. tt) tt
  walk_moves watcher.Prepare = found_both IsMove (front s s.watchers.prepare.yet) (λ t. tt) tt
  walk_moves watcher.Check = found_both IsMove (front s s.watchers.check.yet) (λ t. tt) tt
  walk_moves watcher.Async = found_both IsMove (front s s.watchers.async.yet) (λ t. cond_both t.1.pending _ _ IsMove (λ e. tt) (λ e. tt)) tt

  stage_moves : (stage : Stage) → is_apart_stage stage ≡ true → IsMove (steps.stage_step p s run stage)
  stage_moves Entry e = turn_moves AtEntry
  stage_moves Pending e = tt
  stage_moves (Walking kind) e = walk_moves kind
  stage_moves (Poll deadline) e = cc e
  stage_moves (Polled true) e = tt
  stage_moves (Polled false) e = tt
  stage_moves Done e = found_both IsMove (front_request s s.done.yet) (λ t. tt) tt
  stage_moves DoneUnwoken e = tt
  stage_moves Closing e = found_both IsMove (front s s.closing.yet) (λ t. tt) (turn_moves BehindClosing)
  stage_moves (Timers part when) e = timers_move part when

  body_moves : (body : Body) (line : Option CallbackLine) → IsMove (steps.body_step p s run body line)
  body_moves body None = tt
  body_moves body (Some line) = tt

  run_moves : (body : Option Body) → is_apart_run p run body ≡ true → IsMove (steps.run_step p s run body)
  run_moves None e = stage_moves run.stage e
  run_moves (Some body) e = body_moves body (slice_get (lines_in p body.callback body.name) body.next)

main_moves : (o : Order) (s : State) (line : ℕ) (x : Option MainOp) → is_apart_main x ≡ true → IsMove (steps.main_step o s line x)
main_moves o s line None e = cc e
main_moves o s line (Some (main.Run mode)) e = tt
main_moves o s line (Some (main.Op x)) e = tt

place_moves : (p : Program) (s : State) (place : Place) → is_apart_at p place ≡ true → IsMove (steps.loop_step p s place)
place_moves p s (Main line) e = main_moves (order_of p) s line (slice_get p.main line) e
place_moves p s (Running run) e = run_moves p s run run.body e

pub loop_moves : (p : Program) (s : State) → is_apart p s ≡ true → IsMove (next p s Loop)
unfolding next
loop_moves p s e = place_moves p s s.place e

-- ---- what comes from outside

leaves_place : (p : Program) (s b : State) → b.place ≡ s.place → b.names ≡ s.names → LeavesPlace p s b
leaves_place p s b place names = record { place = place; names = names; apart = ap (is_apart_at p) place; clock = ap (place_reads_clock p) place }

pub tick_leaves : (p : Program) (s b : State) (ms : ℕ) (m : Option Seen) → next p s (Tick ms) ≡ Moves b m → LeavesPlace p s b
tick_leaves p s b ms m e = let t = next_ticks p s ms b m e in leaves_place p s b (ap (λ (u : State). u.place) t.is) (ap (λ (u : State). u.names) t.is)

pub take_leaves : (p : Program) (s b : State) (k : ℕ) (m : Option Seen) → next p s (Take k) ≡ Moves b m → LeavesPlace p s b
take_leaves p s b k m e = let t = next_takes p s k b m e in leaves_place p s b (ap (λ (u : State). u.place) t.is) (ap (λ (u : State). u.names) t.is)

pub finish_leaves : (p : Program) (s b : State) (k : ℕ) (m : Option Seen) → next p s (Finish k) ≡ Moves b m → LeavesPlace p s b
finish_leaves p s b k m e =
    let t = next_finishes p s k b m e in leaves_place p s b (ap (λ (u : State). u.place) t.is) (ap (λ (u : State). u.names) t.is)
