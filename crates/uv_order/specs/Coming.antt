-- When a callback of I/O from outside is taken: where the lines have led to a place at which one may begin, and its name is that of an active
-- handle of I/O.
use Rattle.std.specs.Prelude.{◌≡◌, ◌+◌, true, List, [], Some, None, length}
use Rattle.uv_ids.specs.declared.id.Id.{Id}
use Rattle.uv_ids.specs.declared.id.Var.{Var}
use Rattle.uv_ids.specs.declared.event.Event.TheVariants.{Io}
use Rattle.uv_ids.specs.declared.phase.Kind.TheVariants as kind
use Rattle.uv_script.specs.Program.{Program, has_io}
use Rattle.uv_model.specs.After.{refusal_of}
use Rattle.uv_model.specs.Next.{next}
use Rattle.uv_model.specs.State.{State, named}
use Rattle.uv_order.specs.Line.{Line}
use Rattle.uv_order.specs.Active.{IsActive}
use Rattle.uv_order.specs.Documented.{at_first, nothing_told, Between, MayAnswer, Position, Running}
use Rattle.uv_order.specs.GettingOn.{quiet_at}
use Rattle.uv_order.specs.Waits.{LeadsTo}

-- a callback of I/O may begin where the lines have led
abbrev pub MayAnswerAt : Position → Type 0
MayAnswerAt (Between i) = ⊥
MayAnswerAt (Running mode i at) = MayAnswer at

-- the section of async handles has nobody left to walk, and no body is to be ended
abbrev pub IsSettled : State → Type 0
IsSettled s = length s.watchers.async.yet + quiet_at s.place ≡ 0

-- the name is bound to an active handle of I/O
pub record IsOfIo (s : State) (v : Var) : Type 0 where
  pub id : Id
  pub bound : (named s v).id ≡ Some id
  pub active : IsActive s kind.Io id

-- the documented order leads to a place, and where a callback of I/O may begin there, in a script with a line `io`, each that comes is taken
pub record TakesIoFrom (p : Program) (ls : List Line) (s : State) : Type 0 where
  pub at : Position
  pub leads : LeadsTo p at (Between 0) nothing_told [] at_first ls
  pub taken : has_io p ≡ true → MayAnswerAt at → IsSettled s → (v : Var) → IsOfIo s v → refusal_of (next p s (Io v)) ≡ None
