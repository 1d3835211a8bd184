-- What ops answer, by the lines before them: EBOUND, ESTALE, EKIND and EINVAL where they hold, and else what is so. What a name stands for, of
-- which kind it is, whether it is referenced, active or closing: the lines tell it. The state is asked for the loop's time, which the documented
-- order carries from line to line, for the timers that are set aside to be called, and for whether the loop is alive.
use Rattle.std.specs.Prelude.{◌≡◌, ◌-◌, ◌||◌, ◌&&◌, not, Bool, true, false, List, [], ◌∷◌, Option, Some, None, length, nat_lt, if◌then◌else◌}
use Rattle.uv_ids.specs.declared.id.Id.{Id}
use Rattle.uv_ids.specs.declared.id.Var.{Var}
use Rattle.uv_ids.specs.declared.due.Due.{Due}
use Rattle.uv_ids.specs.declared.code.Code.TheVariants as code
use Rattle.uv_ids.specs.declared.code.Answer.{Answer}
use Rattle.uv_ids.specs.declared.code.Answer.TheVariants as answer
use Rattle.uv_ids.specs.declared.phase.Kind.{Kind}
use Rattle.uv_ids.specs.declared.seen.Seen.{Seen}
use Rattle.uv_ids.specs.declared.seen.Seen.TheVariants as seen
use Rattle.uv_script.specs.declared.op.Op.{Op}
use Rattle.uv_script.specs.declared.op.Op.TheVariants as op
use Rattle.uv_script.specs.Program.{Program, op_at, op_name}
use Rattle.uv_records.specs.Handles.{is_timer, is_async}
use Rattle.uv_model.specs.Ids.{has_some, same_id, without_id}
use Rattle.uv_model.specs.State.{State, with_id}
use Rattle.uv_order.specs.Line.{Line}
use Rattle.uv_order.specs.Active.{has_id, AreTimers}
use Rattle.uv_order.specs.Alive.{lives, waits}
use Rattle.uv_order.specs.Once.{Answered, activity, answered, bound, has_cancel_line, has_take_line, is_bound, is_success, was_closed}
use Rattle.uv_order.specs.Dues.{due_told, seens}

-- ---- what there is

-- an id that an `init` or a `queue` answers is one more of those that are held
abbrev pub holds_by : Op → Answer → List Id → List Id
holds_by (op.Init v k) (answer.Id id) ids = id ∷ ids
holds_by (op.Queue v task) (answer.Id id) ids = id ∷ ids
holds_by o a ids = ids

abbrev pub holds_answered : Option Answered → List Id → List Id
holds_answered None ids = ids
holds_answered (Some d) ids = holds_by d.op d.answer ids

-- and its close or after callback, as it begins, one less
abbrev pub holds_line : Program → Seen → List Id → List Id
holds_line p (seen.Closed v id) ids = without_id ids id
holds_line p (seen.After digest v id) ids = without_id ids id
holds_line p l ids = holds_answered (answered p l) ids

-- the ids of the handles and requests that there are
abbrev pub ids_held : Program → List Seen → List Id
ids_held p [] = []
ids_held p (l ∷ past) = holds_line p l (ids_held p past)

-- what the lines tell of one
pub record Facts : Type 0 where
  -- the kind of a handle; none of a request
  pub kind : Option Kind
  pub referenced : Bool
  -- a timer was started
  pub begun : Bool

abbrev pub new_facts : Option Kind → Facts
new_facts k = record { kind = k; referenced = true; begun = false }

-- the name of the handle of which an op changes that
abbrev pub changes : Op → Option Var
changes (op.Start v timeout repeat) = Some v
changes (op.Ref v) = Some v
changes (op.Unref v) = Some v
changes o = None

-- where it is accepted (uv_ref, uv_unref)
abbrev pub facts_by : Op → Facts → Facts
facts_by (op.Start v timeout repeat) x = record x { begun = true }
facts_by (op.Ref v) x = record x { referenced = true }
facts_by (op.Unref v) x = record x { referenced = false }
facts_by o x = x

abbrev pub facts_done : Program → List Seen → Op → Answer → Id → Facts → Facts
facts_done p past (op.Init v k) (answer.Id i) id x = if same_id i id then new_facts (Some k) else x
facts_done p past (op.Queue v task) (answer.Id i) id x = if same_id i id then new_facts None else x
facts_done p past o a id x = if is_bound p past id (changes o) && is_success a then facts_by o x else x

abbrev pub facts_answered : Program → List Seen → Option Answered → Id → Facts → Facts
facts_answered p past None id x = x
facts_answered p past (Some d) id x = facts_done p past d.op d.answer id x

abbrev pub facts : Program → List Seen → Id → Facts
facts p [] id = new_facts None
facts p (l ∷ past) id = facts_answered p past (answered p l) id (facts p past id)

-- of one that there is
abbrev pub facts_held : Program → List Seen → Id → Option Facts
facts_held p past id = if has_id (ids_held p past) id then Some (facts p past id) else None

-- ---- live names

abbrev pub held_as : Program → List Seen → Option Id → Option (Id × Facts)
held_as p past None = None
held_as p past (Some id) = with_id id (facts_held p past id)

-- what a live name of the script stands for: it is bound to one that there is
abbrev pub live_told : Program → List Seen → Var → Option (Id × Facts)
live_told p past v = held_as p past (if nat_lt v.0 (length p.callbacks) then bound p past v else None)

-- ---- ops on handles

-- the kinds of handles that an op is for
abbrev pub is_of : Op → Kind → Bool
is_of (op.Start v timeout repeat) k = is_timer k
is_of (op.StartWatcher v) k = not (is_timer k || is_async k)
is_of (op.Stop v) k = not (is_async k)
is_of (op.Again v) k = is_timer k
is_of (op.SetRepeat v repeat) k = is_timer k
is_of (op.DueIn v) k = is_timer k
is_of (op.Send v) k = is_async k
is_of o k = true

-- whether it is invalid, of a handle that closes or not, and that was started or not
abbrev pub is_invalid : Op → Bool → Bool → Bool
is_invalid (op.Start v timeout repeat) closing begun = closing
is_invalid (op.StartWatcher v) closing begun = closing
is_invalid (op.Again v) closing begun = closing || not begun
is_invalid (op.Close v) closing begun = closing
is_invalid (op.Send v) closing begun = closing
is_invalid o closing begun = false

-- a handle is active: it was started and not stopped since, and isn't set aside to be called
abbrev pub active_told : Program → List Seen → State → Id → Bool
active_told p past s id = (activity p past id).started && not (has_id s.ready id)

-- what is answered where nothing refuses it
abbrev pub asked : Program → List Line → State → Op → Id → Facts → Answer
asked p past s (op.DueIn v) id x =
    answer.Number (if active_told p (seens past) s id then (due_told p past id).at - s.time else 0)
asked p past s (op.HasRef v) id x = answer.Flag x.referenced
asked p past s (op.IsActive v) id x = answer.Flag (active_told p (seens past) s id)
asked p past s (op.IsClosing v) id x = answer.Flag (was_closed p (seens past) id)
asked p past s o id x = answer.Code code.Ok

abbrev pub says_of : Bool → Bool → Answer → Answer
says_of false invalid a = answer.Code code.Ekind
says_of true true a = answer.Code code.Einval
says_of true false a = a

abbrev pub says_kind : Program → List Line → State → Op → Id → Facts → Option Kind → Answer
says_kind p past s o id x None = answer.Code code.Ekind
says_kind p past s o id x (Some k) = says_of (is_of o k) (is_invalid o (was_closed p (seens past) id) x.begun) (asked p past s o id x)

-- an op on a handle, by what its name stands for
abbrev pub says : Program → List Line → State → Op → Option (Id × Facts) → Answer
says p past s o None = answer.Code code.Estale
says p past s o (Some t) = says_kind p past s o t.0 t.1 t.1.kind

-- ---- other ops

-- a `cancel`, by what its name stands for: EBUSY of a request that a worker took, or that was cancelled before (uv_cancel)
abbrev pub cancel_kind : Program → List Seen → Id → Option Kind → Answer
cancel_kind p past id (Some k) = answer.Code code.Ekind
cancel_kind p past id None = if has_take_line past id || has_cancel_line p past id then answer.Code code.Ebusy else answer.Cancelled id

abbrev pub cancel_says : Program → List Seen → Option (Id × Facts) → Answer
cancel_says p past None = answer.Code code.Estale
cancel_says p past (Some t) = cancel_kind p past t.0 t.1.kind

-- an `init` or a `queue`: EBOUND where its name is live, and only there; else an id, or EFULL
abbrev pub MakesAs : Option (Id × Facts) → Answer → Type 0
MakesAs (Some t) a = a ≡ answer.Code code.Ebound
MakesAs None (answer.Id id) = Unit {0}
MakesAs None (answer.Code code.Efull) = Unit {0}
MakesAs None a = ⊥

-- how long a poll might wait, by the active timers as the handles say
pub record MightWait (s : State) (a : Answer) : Type 0 where
  pub timers : List (Due × Id)
  pub are : AreTimers s timers
  pub is : a ≡ answer.Timeout (waits s timers)

-- ---- the lines

abbrev pub SaysOf : Program → List Line → State → Op → Option Var → Answer → Type 0
SaysOf p past s o None a = Unit {0}
SaysOf p past s o (Some v) a = a ≡ says p past s o (live_told p (seens past) v)

-- an op answers what the lines before tell
abbrev pub OpAnswers : Program → List Line → State → Op → Answer → Type 0
OpAnswers p past s (op.Init v k) a = MakesAs (live_told p (seens past) v) a
OpAnswers p past s (op.Queue v task) a = MakesAs (live_told p (seens past) v) a
OpAnswers p past s (op.Cancel v) a = a ≡ cancel_says p (seens past) (live_told p (seens past) v)
OpAnswers p past s op.StopLoop a = a ≡ answer.Code code.Ok
OpAnswers p past s op.UpdateTime a = a ≡ answer.Code code.Ok
OpAnswers p past s op.Now a = a ≡ answer.Number s.time
OpAnswers p past s op.IsAlive a = a ≡ answer.Flag (lives s)
OpAnswers p past s op.Timeout a = MightWait s a
OpAnswers p past s op.CloseLoop a = a ≡ answer.Code (if has_some (ids_held p (seens past)) then code.Ebusy else code.Ok)
OpAnswers p past s o a = SaysOf p past s o (op_name o) a

abbrev pub AnswersAt : Program → List Line → State → Option Op → Answer → Type 0
AnswersAt p past s None a = Unit {0}
AnswersAt p past s (Some o) a = OpAnswers p past s o a

-- so does an op of the script, a send and a cancel from outside
abbrev pub LineAnswers : Program → List Line → State → Seen → Type 0
LineAnswers p past s (seen.Op place a) = AnswersAt p past s (op_at p place) a
LineAnswers p past s (seen.Send v c) = OpAnswers p past s (op.Send v) (answer.Code c)
LineAnswers p past s (seen.Cancel v a) = OpAnswers p past s (op.Cancel v) a
LineAnswers p past s l = Unit {0}

abbrev pub AnswersFrom : Program → List Line → List Line → Type 0
AnswersFrom p past [] = Unit {0}
AnswersFrom p past (l ∷ ls) = LineAnswers p past l.before l.seen × AnswersFrom p (l ∷ past) ls

-- each line answers what those before it tell
abbrev pub AreAnswered : Program → List Line → Type 0
AreAnswered p ls = AnswersFrom p [] ls
