-- What a session answers to a step, as a live run sees it.
use Rattle.uv_run.proofs.Names.{◌≡◌, inl, inr, ℕ, ◌+◌, List, [], ◌∷◌, ◌++◌, false, cond, Option, Some, None, Result, Ok, Err, refl, ap, ap₂, sym, subst, ◌∙◌, append-nil, arith, count_by, Event, Loop, Take, Finish, Send, Tick, Fault, Why, Seen, Id, Var, Program, worker_count, Job, PoolEvent, IsLegal, Outcome, Moves, Refuses, RefusesResult, NoWork, refusal_of, Shown, Responds, TakesEvent, TakesResult, pool_of, IsTakenAs, pools, take_is_taken, finish_is_taken, Course, stepped, Applies, StaysEnded, is_send, Steps, events_in, events_of_loop, IsOfLoop, course_of, refusal_in, polls_in, hours_in, SameSends, Sends, after}
use Rattle.uv_ids.specs.declared.fault.Fault.TheVariants as fault
use Rattle.uv_ids.specs.declared.seen.Seen.TheVariants as seen
use Rattle.uv_work.specs.declared.event.PoolEvent.TheVariants as event
use Rattle.uv_model.specs.Next.{next}
use Rattle.uv_run.specs.Events.{events_by, refusal_after, polls_after, hours_after}
use Rattle.uv_run.proofs.Counting.{count_push}
use Rattle.uv_run.proofs.Loops.{of_loop}
use Rattle.uv_run.proofs.Steps.{events_more, IsBeside, stays_ended, stays_polling, IsOutside, quiet, IsNoSend, ticked}

-- ---- nothing changed

abbrev the_course : Program → List Event → Course
the_course p es = record { steps = es; events = events_by p es }

pub record IsAsBefore (s t : Shown) : Type 0 where
  pub course : course_of t ≡ course_of s
  pub refusal : refusal_in t ≡ refusal_in s

as_before : (s t : Shown) → t.program ≡ s.program → t.standing ≡ s.standing → IsAsBefore s t
as_before s t p e = record { course = ap₂ the_course p e; refusal = ap₂ refusal_after p e }

-- a fault changes nothing
pub fault_keeps : (s t : Shown) (e : Event) (f : Fault) → TakesEvent s e (Err f) t → IsAsBefore s t
fault_keeps s t e fault.Memory h = as_before s t h.same_program h.answer.1
fault_keeps s t e (fault.Refused why) h = as_before s t h.same_program h.answer.1
fault_keeps s t e fault.StepsFull h = as_before s t h.same_program h.answer.1
fault_keeps s t e _ h = absurd h.answer

-- ---- a step stands

-- the course with one step more, whose events these are
more : (s t : Shown) (e : Event) (xs : List PoolEvent) (o : Outcome) → TakesEvent s e (Ok o) t →
    events_by s.program (s.standing ++ e ∷ []) ≡ events_by s.program s.standing ++ xs → course_of t ≡ stepped e xs (course_of s)
more s t e xs o h k = ap₂ the_course h.same_program h.answer.1
    ∙ ap (λ (events : List PoolEvent). record { steps = s.standing ++ e ∷ []; events = events }) k

-- a worker's step that can be taken
pub worker_ok : (s t : Shown) (e : Event) (x : PoolEvent) (o : Outcome) → IsTakenAs s.program s.standing e x → TakesEvent s e (Ok o) t →
    course_of t ≡ stepped e (x ∷ []) (course_of s)
worker_ok s t e x o i h = more s t e (x ∷ []) o h
    (events_more s.program s.standing e i.state (Some i.line) i.moves
    ∙ ap (λ (xs : List PoolEvent). events_by s.program s.standing ++ xs) i.is)

pub worker_ended : (s t : Shown) (e : Event) (o : Outcome) → IsBeside e → TakesEvent s e (Ok o) t → StaysEnded (refusal_in s) (refusal_in t)
worker_ended s t e o i h ended =
    ap₂ refusal_after h.same_program h.answer.1 ∙ stays_ended s.program s.standing e _ o.seen i h.answer.2 ended

pub worker_err : (s t : Shown) (e : Event) (x : PoolEvent) (f : Fault) → IsTakenAs s.program s.standing e x → TakesEvent s e (Err f) t →
    Applies x (course_of s) (Err f) (course_of t)
worker_err s t e x fault.Memory i h = (fault_keeps s t e fault.Memory h).course
worker_err s t e x fault.StepsFull i h = (fault_keeps s t e fault.StepsFull h).course
worker_err s t e x (fault.Refused why) i h = absurd (clash (sym i.moves ∙ h.answer.2)) where
  clash : Moves i.state (Some i.line) ≡ Refuses why → ⊥
  clash c = cc c
worker_err s t e x _ i h = absurd h.answer

-- a send from outside, and the clock
pub outside_ok : (s t : Shown) (e : Event) (o : Outcome) → IsOutside e → TakesEvent s e (Ok o) t → course_of t ≡ stepped e [] (course_of s)
outside_ok s t e o i h = more s t e [] o h (quiet s.program s.standing e _ o.seen i h.answer.2 ∙ sym (append-nil _))

pub outside_events : (s t : Shown) (e : Event) (o : Outcome) → IsOutside e → TakesEvent s e (Ok o) t →
    events_by t.program t.standing ≡ events_by s.program s.standing
outside_events s t e o i h = ap₂ events_by h.same_program h.answer.1 ∙ quiet s.program s.standing e _ o.seen i h.answer.2

pub outside_polls : (s t : Shown) (e : Event) (o : Outcome) → IsBeside e → TakesEvent s e (Ok o) t →
    polls_in t ≡ polls_in s
outside_polls s t e o i h =
    ap₂ polls_after h.same_program h.answer.1 ∙ stays_polling s.program s.standing e _ o.seen i h.answer.2

pub fault_polls : (s t : Shown) (e : Event) (f : Fault) → TakesEvent s e (Err f) t →
    polls_in t ≡ polls_in s
fault_polls s t e fault.Memory h = ap₂ polls_after h.same_program h.answer.1
fault_polls s t e (fault.Refused why) h = ap₂ polls_after h.same_program h.answer.1
fault_polls s t e fault.StepsFull h = ap₂ polls_after h.same_program h.answer.1
fault_polls s t e _ h = absurd h.answer

-- ---- sends

not_a_send : (e : Event) → IsNoSend e → (v : ℕ) → is_send v e ≡ false
not_a_send (Send name) i v = absurd i
not_a_send _ i v = refl

same_sends : (s t : Shown) → t.standing ≡ s.standing → SameSends s t
same_sends s t e = λ v. ap (count_by (is_send v)) e

-- a step that is no send
pub no_send : (s t : Shown) (e : Event) (r : Result Outcome Fault) → IsNoSend e → TakesEvent s e r t → SameSends s t
no_send s t e (Ok o) i h = λ v.
    ap (count_by (is_send v)) h.answer.1 ∙ (count_push (is_send v) s.standing e
    ∙ (ap (λ b. count_by (is_send v) s.standing + cond b 1 0) (not_a_send e i v) ∙ omega arith))
no_send s t e (Err f) i h = same_sends s t (ap (λ (c : Course). c.steps) (fault_keeps s t e f h).course)

pub send_more : (s t : Shown) (name : Var) (o : Outcome) → TakesEvent s (Send name) (Ok o) t → Sends name.0 s (Ok tt) t
send_more s t name o h = λ v. ap (count_by (is_send v)) h.answer.1 ∙ count_push (is_send v) s.standing (Send name)

pub send_none : (s t : Shown) (name : Var) (f : Fault) → TakesEvent s (Send name) (Err f) t → SameSends s t
send_none s t name f h = same_sends s t (ap (λ (c : Course). c.steps) (fault_keeps s t (Send name) f h).course)

-- ---- the clock

pub tick_more : (s t : Shown) (ms : ℕ) (o : Outcome) → TakesEvent s (Tick ms) (Ok o) t → hours_in t ≡ hours_in s + ms
tick_more s t ms o h = ap (λ (p : Program). hours_after p t.standing) h.same_program ∙ ticked s.program s.standing t.standing ms o.seen h.answer.2

-- ---- a step of the loop

pub loop_line : (s t : Shown) (o : Outcome) → TakesEvent s Loop (Ok o) t → IsOfLoop o.seen
loop_line s t o h = of_loop s.program (after s.program s.standing) _ o.seen h.answer.2

loops_events : (p : Program) (l : Option Seen) → IsOfLoop l → events_of_loop p l ≡ events_in p l
loops_events p None i = refl
loops_events p (Some (seen.Take k v id)) i = absurd i
loops_events p (Some (seen.Finish k v id)) i = absurd i
loops_events p (Some (seen.Cancel v a)) i = absurd i
loops_events p (Some _) i = refl

pub loop_ok : (s t : Shown) (o : Outcome) → TakesEvent s Loop (Ok o) t →
    Steps (refusal_in s) (course_of s) (Ok (events_of_loop s.program o.seen)) (course_of t)
unfolding refusal_after
loop_ok s t o h = (
  ap refusal_of h.answer.2,
  more s t Loop (events_of_loop s.program o.seen) o h (events_more s.program s.standing Loop _ o.seen h.answer.2
      ∙ ap (λ (xs : List PoolEvent). events_by s.program s.standing ++ xs) (sym (loops_events s.program o.seen (loop_line s t o h)))),
)

pub loop_err : (s t : Shown) (f : Fault) → TakesEvent s Loop (Err f) t → Steps (refusal_in s) (course_of s) (Err f) (course_of t)
unfolding refusal_after
loop_err s t fault.Memory h = (fault_keeps s t Loop fault.Memory h).course
loop_err s t fault.StepsFull h = (fault_keeps s t Loop fault.StepsFull h).course
loop_err s t (fault.Refused why) h = (ap refusal_of h.answer.2, (fault_keeps s t Loop (fault.Refused why) h).course)
loop_err s t _ h = absurd h.answer

-- ---- a finish with a result

-- where it is taken it is the event
pub result_ok : (s t : Shown) (k : ℕ) (job : Job) (o : Outcome) → TakesResult s k job (Ok o) t → TakesEvent s (Finish k) (Ok o) t
result_ok s t k job o h = record {
  same_program = h.same_program;
  same_limit = h.same_limit;
  same_breaks = h.same_breaks;
  answer = h.answer.1;
  taken_back = h.taken_back;
}

event_of : (s t : Shown) (k : ℕ) (job : Job) (f : Fault) → TakesResult s k job (Err f) t →
    Responds s.limit s.program s.standing (Finish k) (Err f) t.standing → TakesEvent s (Finish k) (Err f) t
event_of s t k job f h a = record {
  same_program = h.same_program;
  same_limit = h.same_limit;
  same_breaks = h.same_breaks;
  answer = a;
  taken_back = h.taken_back;
}

-- and where there is no memory, or no step left, or the worker may not finish at all
pub result_err : (s t : Shown) (k : ℕ) (job : Job) (f : Fault) → (f ≡ fault.Refused NoWork → ⊥) → TakesResult s k job (Err f) t →
    TakesEvent s (Finish k) (Err f) t
result_err s t k job (fault.Refused why) n h = event_of s t k job (fault.Refused why) h (h.answer.0, h.answer.1, refused h.answer.2) where
  refused : RefusesResult s.program (after s.program s.standing) k job why → next s.program (after s.program s.standing) (Finish k) ≡ Refuses why
  refused (inl same) = same
  refused (inr other) = absurd (n (ap (λ (w : Why). fault.Refused w) other.0))
result_err s t k job fault.Memory n h = event_of s t k job fault.Memory h h.answer
result_err s t k job fault.StepsFull n h = event_of s t k job fault.StepsFull h h.answer
result_err s t k job _ n h = absurd h.answer

-- where it is refused nothing changed
pub result_refused : (s t : Shown) (k : ℕ) (job : Job) (why : Why) → TakesResult s k job (Err (fault.Refused why)) t → t ≡ s
result_refused s t k job why h = λ l. record {
  program = h.same_program l;
  limit = h.same_limit l;
  standing = h.answer.1 l;
  taken_back = h.taken_back l;
  breaks = h.same_breaks l;
}

-- ---- the pool's rules

-- the events of the steps that stand follow them
pub events_legal : (s : Shown) (xs : List PoolEvent) → xs ≡ events_by s.program s.standing → IsLegal (worker_count s.program) xs
unfolding events_by
events_legal s xs e = subst (IsLegal (worker_count s.program)) (sym e) (pool_of (after s.program s.standing), pools s.program s.standing)

-- what a worker may do by them it may do as the next step
pub take_taken : (s : Shown) (k : ℕ) (id : Id) → IsLegal (worker_count s.program) (events_by s.program s.standing ++ event.Take k id ∷ []) →
    IsTakenAs s.program s.standing (Take k) (event.Take k id)
unfolding events_by
take_taken s k id h = take_is_taken s.program s.standing k id h

pub finish_taken : (s : Shown) (k : ℕ) (id : Id) → IsLegal (worker_count s.program) (events_by s.program s.standing ++ event.Finish k id ∷ []) →
    IsTakenAs s.program s.standing (Finish k) (event.Finish k id)
unfolding events_by
finish_taken s k id h = finish_is_taken s.program s.standing k id h

-- and the list of events with that of its line at its end
pub line_events : (s t : Shown) (e : Event) (o : Outcome) (p : Program) (was is : List PoolEvent) → p ≡ t.program → TakesEvent s e (Ok o) t →
    was ≡ events_by s.program s.standing → is ≡ was ++ events_in p o.seen → is ≡ events_by t.program t.standing
line_events s t e o p was is q h f g =
    g ∙ (ap₂ (λ (xs : List PoolEvent) (x : Program). xs ++ events_in x o.seen) f (q ∙ h.same_program)
    ∙ (sym (events_more s.program s.standing e _ o.seen h.answer.2) ∙ sym (ap₂ events_by h.same_program h.answer.1)))

pub ruleset answers = (
  no_send,
  send_more,
  send_none,
  tick_more,
  fault_keeps,
  worker_ok,
  worker_ended,
  worker_err,
  outside_ok,
  outside_events,
  outside_polls,
  fault_polls,
  loop_line,
  loop_ok,
  loop_err,
  result_ok,
  result_err,
  result_refused,
)

pub ruleset legal = (events_legal, take_taken, finish_taken)
