-- What a step of the memory does, seen by each state that the memory stands for and that steps lead to.
use Rattle.std.specs.Prelude.{◌≡◌, Option}
use Rattle.uv_ids.specs.declared.code.Answer.{Answer}
use Rattle.uv_ids.specs.declared.seen.Seen.{Seen}
use Rattle.uv_script.specs.declared.op.Op.{Op}
use Rattle.uv_model.specs.declared.place.Place.{Place}
use Rattle.uv_model.specs.State.{State}
use Rattle.uv_model.specs.Ops.{Done, do_op}
use Rattle.uv_model.specs.Next.{Next, Moves}
use Rattle.uv_order.specs.Reached.{IsReached}
use Rattle.uv_memory.specs.Record.{Record}
use Rattle.uv_memory.specs.Image.{Image, Held}
use Rattle.uv_memory.specs.Undo.{CanUnwind}
use Rattle.uv_memory.specs.Parts.{unwind}
use Rattle.uv_memory.specs.Fit.{IsFit}
use Rattle.uv_stands.specs.Stands.{StandsFor}

-- a step was done, and its record gives back the very memory from before
pub record Returns (r : Record Place) (old new : Held Place) : Type 0 where
  pub back : unwind r new.image ≡ old.image
  pub can : CanUnwind new.room r new.image
  pub fit : IsFit new.image
  pub room : new.room ≡ old.room

-- what holds of each state that the memory stands for and that steps lead to
abbrev pub OfEach : Image Place → (State → Type 0) → Type 0
OfEach i Q = (s : State) → StandsFor i s → IsReached s → Q s

-- an op, or a part of one, with its answer: the other memory stands for the state that it leaves
abbrev pub Does : (State → Done) → Image Place → Image Place → Answer → Type 0
Does f i j answer = OfEach i (λ s. (t : State) × (f s ≡ record { state = t; answer = answer }) × StandsFor j t)

abbrev pub Performs : Op → Image Place → Image Place → Answer → Type 0
Performs op i j answer = Does (λ s. do_op s op) i j answer

-- a step of the loop, with its line: the other memory stands for the state after it
abbrev pub Goes : (State → Next) → Image Place → Image Place → Option Seen → Type 0
Goes f i j line = OfEach i (λ s. (t : State) × (f s ≡ Moves t line) × StandsFor j t)
