-- What happens once: a predicate over the lines of a trace alone, without a state. An `init` or a `queue` answers an id once. The id of
-- a handle has at most one `closed` line, which stands behind an accepted `close` of it, and no `call` line behind that `close`
-- (uv_close); and a handle that is called was started and not stopped since, a timer that doesn't repeat once a start. The id of a
-- request has at most one `after` line, behind the `queue` that answered it: with ECANCELED where no worker took it, else behind one
-- `out take` and one `out finish` line of it, with the digest of what was queued (uv_queue_work, uv_cancel).
use Rattle.std.specs.Prelude.{◌≡◌, ℕ, ◌==◌, ◌||◌, ◌&&◌, not, List, [], ◌∷◌, Bool, true, false, Option, Some, None, option_map, if◌then◌else◌}
use Rattle.uv_ids.specs.declared.id.Id.{Id}
use Rattle.uv_ids.specs.declared.id.Var.{Var}
use Rattle.uv_ids.specs.declared.code.Code.TheVariants.{Ok as Success}
use Rattle.uv_ids.specs.declared.code.Answer.{Answer}
use Rattle.uv_ids.specs.declared.code.Answer.TheVariants as answer
use Rattle.uv_ids.specs.declared.phase.Kind.{Kind}
use Rattle.uv_ids.specs.declared.seen.Seen.{Seen}
use Rattle.uv_ids.specs.declared.seen.Seen.TheVariants as seen
use Rattle.uv_script.specs.declared.op.Op.{Op}
use Rattle.uv_script.specs.declared.op.Op.TheVariants as op
use Rattle.uv_records.specs.Handles.{is_timer, is_async}
use Rattle.uv_work.specs.declared.task.Task.{Task}
use Rattle.uv_script.specs.Program.{Program, op_at}
use Rattle.uv_work.specs.Tasks.{text_of}
use Rattle.uv_work.specs.Digests.{digest_of}
use Rattle.uv_model.specs.Ids.{same_id}

-- an op with what was answered to it
pub record Answered : Type 0 where
  pub op : Op
  pub answer : Answer

-- the op of a line, if it is that of one
abbrev pub answered : Program → Seen → Option Answered
answered p (seen.Op place a) = option_map (λ (o : Op). record { op = o; answer = a }) (op_at p place)
answered p l = None

-- what the last line says, else what those before it do
abbrev pub first_of : {X : Type 0} → Option X → Option X → Option X
first_of (Some x) before = Some x
first_of None before = before

-- ---- names

-- the id that a name is bound to: that which its last `init` or `queue` answered. Lines stand with the last one first
abbrev pub binds : Op → Answer → Var → Option Id → Option Id
binds (op.Init u kind) (answer.Id id) v before = if u.0 == v.0 then Some id else before
binds (op.Queue u task) (answer.Id id) v before = if u.0 == v.0 then Some id else before
binds o a v before = before

abbrev pub bound_by : Option Answered → Var → Option Id → Option Id
bound_by None v before = before
bound_by (Some x) v before = binds x.op x.answer v before

abbrev pub bound : Program → List Seen → Var → Option Id
bound p [] v = None
bound p (l ∷ past) v = bound_by (answered p l) v (bound p past v)

-- the name under which an id was made: that of the `init` or `queue` that it answers
abbrev pub makes : Op → Answer → Id → Option Var
makes (op.Init v kind) (answer.Id i) id = if same_id i id then Some v else None
makes (op.Queue v task) (answer.Id i) id = if same_id i id then Some v else None
makes o a id = None

abbrev pub made_by : Option Answered → Id → Option Var
made_by None id = None
made_by (Some x) id = makes x.op x.answer id

abbrev pub made_as : Program → List Seen → Id → Option Var
made_as p [] id = None
made_as p (l ∷ past) id = first_of (made_by (answered p l) id) (made_as p past id)

-- ---- what was closed

-- the name that an accepted `close` closes
abbrev pub closes : Op → Answer → Option Var
closes (op.Close v) (answer.Code Success) = Some v
closes o a = None

abbrev pub closes_by : Option Answered → Option Var
closes_by None = None
closes_by (Some x) = closes x.op x.answer

abbrev pub is_some_id : Id → Option Id → Bool
is_some_id id None = false
is_some_id id (Some i) = same_id i id

abbrev pub is_bound : Program → List Seen → Id → Option Var → Bool
is_bound p past id None = false
is_bound p past id (Some v) = is_some_id id (bound p past v)

-- a `close` of the id was accepted
abbrev pub was_closed : Program → List Seen → Id → Bool
was_closed p [] id = false
was_closed p (l ∷ past) id = is_bound p past id (closes_by (answered p l)) || was_closed p past id

-- its close callback began
abbrev pub is_closed_line : Seen → Id → Bool
is_closed_line (seen.Closed v i) id = same_id i id
is_closed_line l id = false

abbrev pub has_closed_line : List Seen → Id → Bool
has_closed_line [] id = false
has_closed_line (l ∷ past) id = is_closed_line l id || has_closed_line past id

-- ---- who was started

-- what the lines tell of a handle: whether it is a timer, with which repeat, and whether it was started and not stopped since
pub record Activity : Type 0 where
  pub timer : Bool
  pub repeat : ℕ
  pub started : Bool

-- of a new handle: of all kinds an async one alone is started by its init (uv_async_init)
abbrev pub new_activity : Kind → Activity
new_activity k = record { timer = is_timer k; repeat = 0; started = is_async k }

abbrev pub no_activity : Activity
no_activity = record { timer = false; repeat = 0; started = false }

-- the name of the handle that an op starts or stops, or whose repeat it sets
abbrev pub handle_of : Op → Option Var
handle_of (op.Start v timeout repeat) = Some v
handle_of (op.StartWatcher v) = Some v
handle_of (op.Again v) = Some v
handle_of (op.SetRepeat v repeat) = Some v
handle_of (op.Stop v) = Some v
handle_of (op.Close v) = Some v
handle_of o = None

-- what that op makes of the handle, where it is accepted: `again` starts a timer that repeats, and stops another one (uv_timer_again)
abbrev pub activity_by : Op → Activity → Activity
activity_by (op.Start v timeout repeat) x = record x { repeat = repeat; started = true }
activity_by (op.StartWatcher v) x = record x { started = true }
activity_by (op.Again v) x = record x { started = not (x.repeat == 0) }
activity_by (op.SetRepeat v repeat) x = record x { repeat = repeat }
activity_by (op.Stop v) x = record x { started = false }
activity_by (op.Close v) x = record x { started = false }
activity_by o x = x

-- its callback stops a timer that doesn't repeat
abbrev pub activity_called : Activity → Activity
activity_called x = if x.timer && x.repeat == 0 then record x { started = false } else x

abbrev pub is_success : Answer → Bool
is_success (answer.Code Success) = true
is_success a = false

-- what an op makes of the handle of an id, by what was answered
abbrev pub activity_done : Program → List Seen → Op → Answer → Id → Activity → Activity
activity_done p past (op.Init v k) (answer.Id i) id x = if same_id i id then new_activity k else x
activity_done p past (op.Init v k) a id x = x
activity_done p past o a id x = if is_bound p past id (handle_of o) && is_success a then activity_by o x else x

abbrev pub activity_answered : Program → List Seen → Option Answered → Id → Activity → Activity
activity_answered p past None id x = x
activity_answered p past (Some d) id x = activity_done p past d.op d.answer id x

abbrev pub activity_told : Program → List Seen → Seen → Id → Activity → Activity
activity_told p past (seen.Call v i) id x = if same_id i id then activity_called x else x
activity_told p past l id x = activity_answered p past (answered p l) id x

-- by all these lines
abbrev pub activity : Program → List Seen → Id → Activity
activity p [] id = no_activity
activity p (l ∷ past) id = activity_told p past l id (activity p past id)

-- ---- requests

-- the task that an accepted `queue` asks for, whose answer is this id
abbrev pub queues : Op → Answer → Id → Option Task
queues (op.Queue v task) (answer.Id i) id = if same_id i id then Some task else None
queues o a id = None

abbrev pub queued_by : Option Answered → Id → Option Task
queued_by None id = None
queued_by (Some x) id = queues x.op x.answer id

-- what was queued under an id
abbrev pub queued_task : Program → List Seen → Id → Option Task
queued_task p [] id = None
queued_task p (l ∷ past) id = first_of (queued_by (answered p l) id) (queued_task p past id)

-- a worker took the request
abbrev pub is_take_line : Seen → Id → Bool
is_take_line (seen.Take k v i) id = same_id i id
is_take_line l id = false

abbrev pub has_take_line : List Seen → Id → Bool
has_take_line [] id = false
has_take_line (l ∷ past) id = is_take_line l id || has_take_line past id

-- a worker finished it
abbrev pub is_finish_line : Seen → Id → Bool
is_finish_line (seen.Finish k v i) id = same_id i id
is_finish_line l id = false

abbrev pub has_finish_line : List Seen → Id → Bool
has_finish_line [] id = false
has_finish_line (l ∷ past) id = is_finish_line l id || has_finish_line past id

-- its after callback began
abbrev pub is_after_line : Seen → Id → Bool
is_after_line (seen.After digest v i) id = same_id i id
is_after_line l id = false

abbrev pub has_after_line : List Seen → Id → Bool
has_after_line [] id = false
has_after_line (l ∷ past) id = is_after_line l id || has_after_line past id

-- a cancel of the request was accepted, by an op or from outside: its answer is the request's id
abbrev pub cancels : Op → Answer → Id → Bool
cancels (op.Cancel v) (answer.Cancelled i) id = same_id i id
cancels o a id = false

abbrev pub cancelled_by : Option Answered → Id → Bool
cancelled_by None id = false
cancelled_by (Some x) id = cancels x.op x.answer id

abbrev pub is_cancel_line : Program → Seen → Id → Bool
is_cancel_line p (seen.Cancel v a) id = cancels (op.Cancel v) a id
is_cancel_line p l id = cancelled_by (answered p l) id

abbrev pub has_cancel_line : Program → List Seen → Id → Bool
has_cancel_line p [] id = false
has_cancel_line p (l ∷ past) id = is_cancel_line p l id || has_cancel_line p past id

-- what an after callback says: with ECANCELED no worker took the request, and a cancel of it was accepted; else one took it and then finished
-- it, and the digest is that of the task that was queued
abbrev pub SaysTrue : Program → List Seen → Id → Task → Option (List ℕ) → Type 0
SaysTrue p past id task None = (has_take_line past id ≡ false) × (has_cancel_line p past id ≡ true)
SaysTrue p past id task (Some digest) =
    (has_take_line past id ≡ true) × (has_finish_line past id ≡ true) × (digest ≡ digest_of task.rounds (text_of task))

-- an after callback of a request: it was queued, it has had none, and what it says is true
pub record CallsBack (p : Program) (past : List Seen) (digest : Option (List ℕ)) (id : Id) : Type 0 where
  pub task : Task
  pub queued : queued_task p past id ≡ Some task
  pub first : has_after_line past id ≡ false
  pub says : SaysTrue p past id task digest

-- ---- cancels

-- a cancel is accepted: of the request that its name is bound to, which was queued, which no worker took, which wasn't cancelled before, and
-- which has had no after callback
pub record Cancels (p : Program) (past : List Seen) (v : Var) (id : Id) : Type 0 where
  pub names : bound p past v ≡ Some id
  pub task : Task
  pub queued : queued_task p past id ≡ Some task
  pub waits : has_take_line past id ≡ false
  pub once : has_cancel_line p past id ≡ false
  pub first : has_after_line past id ≡ false

-- so a cancel answers the id of what it cancelled, or why it is refused, and nothing else: no bare ok
abbrev pub CancelSays : Program → List Seen → Var → Answer → Type 0
CancelSays p past v (answer.Cancelled id) = Cancels p past v id
CancelSays p past v (answer.Code Success) = ⊥
CancelSays p past v (answer.Code c) = Unit {0}
CancelSays p past v a = ⊥

-- an id that is answered is a new one
abbrev pub MakesNew : Program → List Seen → Answer → Type 0
MakesNew p past (answer.Id id) = made_as p past id ≡ None
MakesNew p past a = Unit {0}

abbrev pub OpSays : Program → List Seen → Option Op → Answer → Type 0
OpSays p past (Some (op.Init v k)) a = MakesNew p past a
OpSays p past (Some (op.Queue v task)) a = MakesNew p past a
OpSays p past (Some (op.Cancel v)) a = CancelSays p past v a
OpSays p past o a = Unit {0}

-- ---- the lines

-- a line may follow these: who is called was started and wasn't closed; one worker takes a request once, and finishes it once after that
abbrev pub MayFollow : Program → List Seen → Seen → Type 0
MayFollow p past (seen.Call v id) = (was_closed p past id ≡ false) × ((activity p past id).started ≡ true)
MayFollow p past (seen.Io v id) = (was_closed p past id ≡ false) × ((activity p past id).started ≡ true)
MayFollow p past (seen.Closed v id) = (was_closed p past id ≡ true) × (has_closed_line past id ≡ false)
MayFollow p past (seen.Take k v id) =
    (has_take_line past id ≡ false) × (has_after_line past id ≡ false) × (has_cancel_line p past id ≡ false)
MayFollow p past (seen.Finish k v id) = (has_take_line past id ≡ true) × (has_finish_line past id ≡ false)
MayFollow p past (seen.After digest v id) = CallsBack p past digest id
MayFollow p past (seen.Op place a) = OpSays p past (op_at p place) a
MayFollow p past (seen.Cancel v a) = CancelSays p past v a
MayFollow p past l = Unit {0}

-- each of these may follow those before it
abbrev pub OnceFrom : Program → List Seen → List Seen → Type 0
OnceFrom p past [] = Unit {0}
OnceFrom p past (l ∷ ls) = MayFollow p past l × OnceFrom p (l ∷ past) ls

-- each handle closes once, and each request calls back once, by these lines
abbrev pub Once : Program → List Seen → Type 0
Once p ls = OnceFrom p [] ls
