-- What an op finds, and what it answers.
use Rattle.std.specs.Prelude.{Result, Ok, Err}
use Rattle.uv_ids.specs.declared.code.Code.{Code}
use Rattle.uv_ids.specs.declared.code.Answer.{Answer}
use Rattle.uv_ids.specs.declared.code.Answer.TheVariants as answer
use Rattle.uv_model.specs.declared.place.Place.{Place}
use Rattle.uv_memory.specs.declared.memory.Memory.{Memory}
use Rattle.uv_memory.specs.Image.{held}
use Rattle.uv_stands.specs.Doing.{Returns}
use Rattle.uv_stands.specs.Ready.{IsReady}

-- the memory is ready, and its record is already that of an op that changes nothing
pub record HasPassed (m : Memory Place) : Type 0 where
  pub ready : IsReady (held m)
  pub passed : Returns m.step_record (held m) (held m)

-- the answer of an op, or the code with which it is refused
abbrev pub answered : Result Answer Code → Answer
answered (Ok a) = a
answered (Err code) = answer.Code code
