-- What the documented order and once refuse: lines that no trace has, whatever stands before and behind them. Each of these is a wrong
-- loop that a looser definition would let pass.
use Rattle.std.specs.Prelude.{Bool, ◌≡◌, ℕ, List, [], ◌∷◌, ◌++◌, true, false, Option, Some}
use Rattle.uv_ids.specs.declared.id.Id.{Id}
use Rattle.uv_ids.specs.declared.id.Var.{Var}
use Rattle.uv_ids.specs.declared.code.Code.TheVariants.{Ok as Success}
use Rattle.uv_ids.specs.declared.code.Answer.TheVariants as answer
use Rattle.uv_ids.specs.declared.phase.Phase.{Phase}
use Rattle.uv_ids.specs.declared.phase.Phase.TheVariants as phase
use Rattle.uv_ids.specs.declared.seen.Seen.{Seen}
use Rattle.uv_ids.specs.declared.seen.Seen.TheVariants as seen
use Rattle.uv_ids.specs.declared.seen.Site.{Site}
use Rattle.uv_script.specs.declared.op.Op.{Op}
use Rattle.uv_script.specs.declared.op.Op.TheVariants as op
use Rattle.uv_script.specs.Program.{Program, op_at, from_heap}
use Rattle.uv_order.specs.Line.{Line}
use Rattle.uv_order.specs.Alive.{closes_some}
use Rattle.uv_order.specs.Once.{bound, has_take_line, Once}
use Rattle.uv_order.specs.Documented.{Documented}

-- these lines, the last one first, in front of those
abbrev pub past_after : List Seen → List Line → List Seen
past_after past [] = past
past_after past (l ∷ ls) = past_after (l.seen ∷ past) ls

-- a line that may stand in a section: that of a callback, of an op, or from outside
abbrev pub is_within : Seen → Bool
is_within (seen.Run m) = false
is_within (seen.Section word) = false
is_within (seen.Poll timeout) = false
is_within (seen.End alive) = false
is_within l = true

abbrev pub AllWithin : List Line → Type 0
AllWithin [] = Unit {0}
AllWithin (l ∷ ls) = (is_within l.seen ≡ true) × AllWithin ls

-- a line of a `send`, of a script or from outside
abbrev pub is_send_op : Option Op → Bool
is_send_op (Some (op.Send v)) = true
is_send_op o = false

abbrev pub is_send : Program → Seen → Bool
is_send p (seen.Op place a) = is_send_op (op_at p place)
is_send p (seen.Send v code) = true
is_send p l = false

abbrev pub AllSilent : Program → List Line → Type 0
AllSilent p [] = Unit {0}
AllSilent p (l ∷ ls) = (is_send p l.seen ≡ false) × AllSilent p ls

-- a section in which a callback of I/O may begin
abbrev pub holds_io : Phase → Bool
holds_io phase.Pending = true
holds_io phase.Done = true
holds_io phase.Async = true
holds_io word = false

-- by the lines alone
pub record RefusedOnce (p : Program) (before more : List Seen) : Type 0 where
  -- a cancel answers ok without an id, from outside or as an op
  pub bare_ok : (v : Var) → Once p (before ++ seen.Cancel v (answer.Code Success) ∷ more) → ⊥
  pub bare_ok_op : (v : Var) (place : Site) → op_at p place ≡ Some (op.Cancel v) →
      Once p (before ++ seen.Op place (answer.Code Success) ∷ more) → ⊥
  -- a cancel is accepted of a request that a worker took
  pub late_cancel : (v : Var) (id : Id) → has_take_line before id ≡ true → Once p (before ++ seen.Cancel v (answer.Cancelled id) ∷ more) → ⊥

-- by the lines with their states
pub record RefusedOrder (p : Program) (before more : List Line) : Type 0 where
  -- a poll waits although a handle closes
  pub closing_waits : (l : Line) (timeout : Option ℕ) → closes_some l.before ≡ true → (timeout ≡ Some 0 → ⊥) → l.seen ≡ seen.Poll timeout →
      Documented p (before ++ l ∷ more) → ⊥
  -- where due timers are collected before the first is called, a timer that an op of a section of timers starts is called in that section, be
  -- its timeout zero
  pub early_timer : (s l k : Line) (front mid : List Line) (v x : Var) (id : Id) (place : Site) (timeout repeat : ℕ) → from_heap p ≡ false →
      s.seen ≡ seen.Section phase.Timers → AllWithin front → l.seen ≡ seen.Op place (answer.Code Success) →
      op_at p place ≡ Some (op.Start v timeout repeat) → bound p (past_after [] (before ++ s ∷ front)) v ≡ Some id → AllWithin mid →
      k.seen ≡ seen.Call x id → Documented p (before ++ s ∷ (front ++ l ∷ (mid ++ k ∷ more))) → ⊥
  -- an async handle is called again, and nobody has sent since its last call, however often they had before that
  pub second_call : (a s b : Line) (mid front : List Line) (v x : Var) (id : Id) → a.seen ≡ seen.Call v id → AllSilent p mid →
      s.seen ≡ seen.Section phase.Async → AllWithin front → AllSilent p front → b.seen ≡ seen.Call x id →
      Documented p (before ++ a ∷ (mid ++ s ∷ (front ++ b ∷ more))) → ⊥
  -- nor again in the same section
  pub called_again : (s a b : Line) (front mid : List Line) (v x : Var) (id : Id) → s.seen ≡ seen.Section phase.Async → AllWithin front →
      a.seen ≡ seen.Call v id → AllWithin mid → AllSilent p mid → b.seen ≡ seen.Call x id →
      Documented p (before ++ s ∷ (front ++ a ∷ (mid ++ b ∷ more))) → ⊥
  -- a callback of I/O begins in a section of timers, or of idle, prepare, check or closing handles
  pub io_elsewhere : (s l : Line) (front : List Line) (word : Phase) (v : Var) (id : Id) → holds_io word ≡ false →
      s.seen ≡ seen.Section word → AllWithin front → l.seen ≡ seen.Io v id → Documented p (before ++ s ∷ (front ++ l ∷ more)) → ⊥
