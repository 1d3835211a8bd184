-- Each op and each step of the loop keeps that the requests agree with their lists.
use Rattle.uv_order.proofs.Names.{arith, drop, ◌≡◌, ℕ, List, ◌∷◌, ◌++◌, true, Some, None, Ok, refl, ap, sym, subst, ◌∙◌, list_any, Id, Var, held, freed, next_free, Op, Task, Program, arena_size, text_of, Finished, Cancelled, Request, queued, same_id, State, fresh, live_request, with_id, front_request, do_op, Next, Moves, Refuses, Content, digest_of, []}
use Rattle.uv_model.specs.Ops as ops
use Rattle.uv_model.specs.Next as step
use Rattle.uv_order.proofs.IdLists.{has_new_middle}
use Rattle.uv_order.proofs.Asked.{FrontRequest, TakesFront, RunsWork, request_turns, freed_turns}
use Rattle.uv_order.proofs.Works.{AllAsk, Works, works_same, works_queued, works_cancelled, works_taken, works_finished, works_collected, works_begun, none_run}
use Rattle.uv_order.proofs.OpCases.{cancel_both, make_both}
use Rattle.uv_order.proofs.Did.{Did}
use Rattle.uv_order.proofs.Keeping.{Kept, fills}
use Rattle.uv_order.proofs.Quiet.{SameWork, op_same, KeepsWork, did_same}

-- the requests of a state agree with its lists
abbrev pub Working : State → Type 0
Working s = Works s.arena.slots s.waiting s.running s.done

-- no request changes, and no list of requests
works_quiet : (s t : State) → SameWork s t → Working s → Working t
works_quiet s t q k = rw (q.waiting_is, q.running_is, q.done_is) (works_same s.arena.slots t.arena.slots s.waiting s.running s.done q.requests k)

-- ---- requests

queued_working : (s : State) (v : Var) (task : Task) (id : Id) → next_free s.arena ≡ Some id → Kept s → Working s →
    Working (ops.with_queued s v task id)
queued_working s v task id e kept k =
    works_queued s.arena.slots _ s.waiting s.running s.done id (queued v task)
    (fills s.arena s.arena.free id (Content.Request (queued v task)) refl kept.free e).0 refl k

cancelled_working : (s : State) (t : Id × Request) → held s.arena.slots t.0 ≡ Some (Content.Request t.1) →
    list_any (same_id t.0) s.waiting ≡ true → Working s → Working (ops.cancelled s t.0 t.1)
cancelled_working s t e on k =
    works_cancelled s.arena.slots _ s.waiting s.running s.done t.0 t.1 (record t.1 { outcome = Cancelled })
    (request_turns s.arena.slots t.0 t.1 (record t.1 { outcome = Cancelled }) e) on refl k

abbrev WorkingBy : ops.Done → Type 0
WorkingBy d = Working d.state

cancel_working : (s : State) (v : Var) → Working s → Working (ops.cancel s (live_request s v)).state
cancel_working s v k = cancel_both s v WorkingBy (λ c no_success. k) (λ t live on. cancelled_working s t live.holds on k)

-- ---- the ops

pub op_working : (s : State) (o : Op) → Kept s → Working s → Working (do_op s o).state
op_working s (Op.Queue v task) kept k =
    make_both s _ (ops.with_queued s v task) WorkingBy (λ c no_success. k) (λ id e. queued_working s v task id e kept k)
op_working s each kept k = search (make_both, queued_working, cancel_working, works_quiet, op_same)

-- ---- fronts of lists

-- each of a list is a request, so it has a front where it has a member
pub no_request : (s : State) (P : Request → Type 0) (xs ids : List Id) → AllAsk s.arena.slots P (xs ++ ids) → front_request s ids ≡ None → ids ≡ []
no_request s P xs [] k e = refl
no_request s P xs (id ∷ ids) k e = let a = k.each id (has_new_middle xs ids id) in cc (ap (with_id id) (sym a.holds) ∙ e)

-- ---- the rows

abbrev pub StaysWorking : Next → Type 0
StaysWorking (Moves t seen) = Working t
StaysWorking (Refuses why) = Unit {0}

quiet : (s : State) (n : Next) → KeepsWork s n → Working s → StaysWorking n
quiet s n q k = grind (arith, works_quiet)

collected_working : (p : Program) (s : State) (t : Id × Request) → FrontRequest s s.done.yet t → Working s →
    Works (freed (arena_size p).last_generation t.0 s.arena).slots s.waiting s.running (record s.done { yet = drop 1 s.done.yet })
collected_working p s t f k =
    works_collected s.arena.slots _ s.waiting s.running s.done t.0 (drop 1 s.done.yet) t.1
    (freed_turns (arena_size p).last_generation s.arena t.0 (Content.Request t.1) f.holds) f.are k

taken_working : (s : State) (n : ℕ) (t : Id × Request) → TakesFront s n t → Working s → StaysWorking (step.take s n (Ok t))
taken_working s n t f k = works_taken s.arena.slots t.0 (drop 1 s.waiting) s.running s.done n f.idle
    (subst (λ (ids : List Id). Works s.arena.slots ids s.running s.done) f.front.are k)

finished_working : (s : State) (n : ℕ) (t : Id × Request) → RunsWork s n t → Working s → StaysWorking (step.finish s n (Ok t))
finished_working s n t f k =
    let x : Request = record t.1 { outcome = Finished (digest_of t.1.task.rounds (text_of t.1.task)) } in
    works_finished s.arena.slots _ s.waiting s.running s.done n t.0 t.1 x (request_turns s.arena.slots t.0 t.1 x f.holds) f.busy refl k

pub did_working : (p : Program) (s : State) (n : Next) → Did p s n → Kept s → Working s → StaysWorking n
did_working p s n (Did.op x at o e) kept k = op_working s o kept k
did_working p s n (Did.begun_done run time e) kept k = works_begun s.arena.slots s.waiting s.running s.done e k
did_working p s n (Did.ended run t f) kept k = collected_working p s t f k
did_working p s n (Did.taken n' t f) kept k = taken_working s n' t f k
did_working p s n (Did.finished n' t f) kept k = finished_working s n' t f k
did_working p s n (Did.cancelled v) kept k = cancel_working s v k
did_working p s n each kept k = quiet s n (did_same p s n each tt kept) k

pub fresh_working : (p : Program) → Working (fresh p)
fresh_working p = grind (arith, none_run)
