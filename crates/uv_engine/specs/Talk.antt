-- What the answers to some lines may come to.
use Rattle.std.specs.Prelude.{◌≡◌, ℕ, List, [], ◌++◌, Bool, Option, Some, None, Result, Ok, Err}
use Rattle.uv_ids.specs.declared.fault.Fault.{Fault}
use Rattle.uv_session.specs.Shown.{Shown}
use Rattle.uv_text.specs.declared.command.Asked.{Asked}
use Rattle.uv_text.specs.Commands.{Asks}
use Rattle.uv_engine.specs.Input.{TakesLine}
use Rattle.uv_engine.specs.declared.conversation.Ended.{Ended}
use Rattle.uv_script.specs.Writes.{CutShort}
use Rattle.uv_engine.specs.Out.{Talks}

-- a line is taken of what is left, and asks for this; or nothing is left
pub record TakesLineThatAsks (names : List (List ℕ)) (old : List ℕ) (asked : Asked) (new : List ℕ) : Type 0 where
  pub line : List ℕ
  pub fed : Bool
  pub takes : TakesLine old line fed new
  pub asks : Asks names line asked

abbrev pub TakesAsked : List (List ℕ) → List ℕ → Option Asked → List ℕ → Type 0
TakesAsked names old (Some asked) new = TakesLineThatAsks names old asked new
TakesAsked names old None new = old ≡ []

-- all was written
pub record TalksWhole (lines : List (List ℕ)) (s : Shown) (end : Ended) (old new : List ℕ) : Type 0 where
  pub text : List ℕ
  pub is : Talks lines s text end
  pub written : new ≡ old ++ text

-- a beginning was written
pub record TalksCut (lines : List (List ℕ)) (s : Shown) (old new : List ℕ) : Type 0 where
  pub text : List ℕ
  pub end : Ended
  pub is : Talks lines s text end
  pub cut : CutShort old text new

abbrev pub TalksOn : List (List ℕ) → Shown → Result Ended Fault → List ℕ → List ℕ → Type 0
TalksOn lines s (Ok end) old new = TalksWhole lines s end old new
TalksOn lines s (Err fault) old new = TalksCut lines s old new

-- what was gathered is written, or a beginning of it
abbrev pub Finishes : Result Ended Fault → Ended → List ℕ → List ℕ → List ℕ → Type 0
Finishes (Ok end) ended old gathered new = (end ≡ ended) × (new ≡ old ++ gathered)
Finishes (Err fault) ended old gathered new = CutShort old gathered new
