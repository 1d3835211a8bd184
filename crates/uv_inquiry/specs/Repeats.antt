-- Scripts whose states may have no end.
use Rattle.std.specs.Prelude.{◌≡◌, ◌==◌, ℕ, ◌<◌, List, [], length, Bool, true, false, nat_lt, Some, None}
use Rattle.std.specs.List.{list_any}
use Rattle.uv_ids.specs.declared.id.Var.{Var}
use Rattle.uv_ids.specs.declared.seen.Site.{Site}
use Rattle.uv_ids.specs.declared.phase.Kind.TheVariants as kind
use Rattle.uv_script.specs.declared.op.Op.{Op}
use Rattle.uv_script.specs.declared.op.Op.TheVariants as op
use Rattle.uv_script.specs.declared.op.MainOp.{MainOp}
use Rattle.uv_script.specs.declared.op.MainOp.TheVariants as main
use Rattle.uv_script.specs.declared.op.CallbackLine.{CallbackLine}
use Rattle.uv_script.specs.Program.{Program, op_at}
use Rattle.uv_asking.specs.Asked.{Asked}
use Rattle.uv_inquiry.specs.declared.repeats.Wanted.{Wanted}
use Rattle.uv_inquiry.specs.declared.repeats.Wanted.TheVariants as wanted

-- the script has this op somewhere
pub record HasOp (p : Program) (o : Op) : Type 0 where
  pub site : Site
  pub is : op_at p site ≡ Some o

-- an idle handle is started, of a name that is declared
pub record Idles (p : Program) : Type 0 where
  pub name : Var
  pub declared : name.0 < length p.names
  pub inits : HasOp p (op.Init name kind.Idle)
  pub starts : HasOp p (op.StartWatcher name)

-- the script starts a timer with a repeat, or sets a repeat
pub data Repeats (p : Program) : Type 0 where
  starts : (v : Var) (timeout repeat : ℕ) → HasOp p (op.Start v timeout repeat) → 0 < repeat → Repeats p
  sets : (v : Var) (repeat : ℕ) → HasOp p (op.SetRepeat v repeat) → 0 < repeat → Repeats p

-- callbacks may come without end: those of an idle handle in each iteration, those of a timer as long as the clock goes on. Where what came in a
-- recording is all that comes, the clock goes on no further than it did there
pub data GoesOn (p : Program) (a : Asked) : Type 0 where
  repeats : Repeats p → a.differ ≡ None → GoesOn p a
  idles : Idles p → GoesOn p a

-- neither the clock nor a name is bounded
pub record IsUnbounded (a : Asked) : Type 0 where
  pub no_clock : a.clock ≡ None
  pub no_name : a.most ≡ []

-- the states may have no end
pub record MayNeverEnd (p : Program) (a : Asked) : Type 0 where
  pub unbounded : IsUnbounded a
  pub goes_on : GoesOn p a

-- ---- as tests that the code computes

-- whether an op is one that is looked for
abbrev pub is_wanted : Wanted → Op → Bool
is_wanted wanted.Repeat (op.Start v timeout repeat) = nat_lt 0 repeat
is_wanted wanted.Repeat (op.SetRepeat v repeat) = nat_lt 0 repeat
is_wanted (wanted.InitIdle v) (op.Init w kind.Idle) = w.0 == v.0
is_wanted (wanted.StartWatcher v) (op.StartWatcher w) = w.0 == v.0
is_wanted w o = false

abbrev pub is_main : Wanted → MainOp → Bool
is_main w (main.Op o) = is_wanted w o
is_main w (main.Run mode) = false

abbrev pub in_lines : Wanted → List CallbackLine → Bool
in_lines w lines = list_any (λ (l : CallbackLine). is_wanted w l.op) lines

-- the script has such an op
pub record HasWanted (p : Program) (w : Wanted) : Type 0 where
  pub op : Op
  pub site : Site
  pub at : op_at p site ≡ Some op
  pub is : is_wanted w op ≡ true

-- none stands here
abbrev pub NoneAt : Program → Wanted → Site → Type 0
NoneAt p w site = (o : Op) → op_at p site ≡ Some o → is_wanted w o ≡ false
