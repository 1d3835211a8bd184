-- A loop over one memory: its steps, their records, and what all of it stands for.
use Rattle.std.specs.Prelude.{◌≡◌, ◌<◌, ◌≤◌, ◌-◌, ℕ, Bool, true, false, List, [], ◌∷◌, length, slice_get, take, Option, Some, Result, Ok, Err}
use Rattle.uv_ids.specs.declared.event.Event.{Event}
use Rattle.uv_ids.specs.declared.fault.Fault.{Fault}
use Rattle.uv_ids.specs.declared.seen.Seen.{Seen}
use Rattle.uv_script.specs.Program.{Program, arena_size, worker_count}
use Rattle.uv_model.specs.declared.place.Place.{Place}
use Rattle.uv_model.specs.declared.place.Place.TheVariants.{Main}
use Rattle.uv_model.specs.State as state
use Rattle.uv_model.specs.State.{State}
use Rattle.uv_model.specs.Next.{next}
use Rattle.uv_model.specs.After.{state_of, seen_by, IsMove, Answers, STEPS}
use Rattle.uv_memory.specs.Record.{Record}
use Rattle.uv_memory.specs.Image.{Image, Held, fresh}
use Rattle.uv_memory.specs.Trail.{Walk, unwound, AddsOne, DropsOne}
use Rattle.uv_memory.specs.Undo.{CanUnwind}
use Rattle.uv_memory.specs.Fit.{IsFit}
use Rattle.uv_stands.specs.Stands.{StandsFor}
use Rattle.uv_stands.specs.Doing.{Goes}

-- what a loop is seen as: its script, its standing steps, the memory with a record for each of them, and for how many slots there are
-- pieces, which are no part of the memory's image
pub record Course : Type 0 where
  pub program : Program
  pub standing : List Event
  pub walk : Walk Place
  pub pieces : ℕ

-- the memory in which a script begins
abbrev pub first_image : Program → Image Place
first_image p = fresh (Main 0) (length p.callbacks) (arena_size p).slots (arena_size p).last_generation (worker_count p)

-- From this state on, the memory and its records stand for these steps, one record a step: each record can be unwound where the
-- later ones are, and what it gives back stands for the state before its step.
abbrev pub StandFrom : Program → State → ℕ → Image Place → List (Record Place) → List Event → Type 0
StandFrom p s room i [] [] = StandsFor i s
StandFrom p s room i [] (e ∷ es) = ⊥
StandFrom p s room i (r ∷ rs) [] = ⊥
StandFrom p s room i (r ∷ rs) (e ∷ es) = StandsFor (unwound (r ∷ rs) i) s × CanUnwind room r (unwound rs i) × IsMove (next p s e)
    × StandFrom p (state_of s (next p s e)) room i rs es

-- where the memory stands for a state that steps lead to, an event leads to one for which the other memory stands, with this line
abbrev pub Leads : Program → Image Place → Image Place → Event → Option Seen → Type 0
Leads p i j e line = Goes (λ s. next p s e) i j line

-- what a loop keeps
pub record IsCourse (p : Program) (es : List Event) (seen : List (Option Seen)) (rs : List (Record Place)) (h : Held Place) : Type 0 where
  pub few : length es ≤ STEPS
  pub seen_is : seen ≡ seen_by p es
  pub fit : IsFit h.image
  -- unwinding all records, the last one first, gives the memory in which the script begins
  pub begins : unwound rs h.image ≡ first_image p
  pub stand : StandFrom p (state.fresh p) h.room h.image rs es

-- what may be answered to an event after these steps, and the steps that stand then: an accepted one is answered as `Answers` says, with the
-- line that lies at the end
abbrev pub Takes : Program → List Event → Event → Result (Unit {0}) Fault → List Event → Type 0
Takes p es e (Ok done) fs = (0 < length fs)
    × ((line : Option Seen) → slice_get (seen_by p fs) (length fs - 1) ≡ Some line → Answers STEPS p es e (Ok (record { seen = line })) fs)
Takes p es e (Err fault) fs = Answers STEPS p es e (Err fault) fs

-- an accepted step adds one record, which gives back the very memory from before, and maybe a piece; a refused one changes nothing
abbrev pub Adds : {A : Type 0} → Result A Fault → Course → Course → Type 0
Adds (Ok answer) old new = AddsOne old.walk new.walk × (old.pieces ≤ new.pieces)
Adds (Err fault) old new = new ≡ old

-- the last step is taken back by its record, which is dropped, and the pieces stay; false comes only where no step stands
abbrev pub Drops : Bool → Course → Course → Type 0
Drops true old new = (0 < length old.standing) × (new.standing ≡ take (length old.standing - 1) old.standing) × DropsOne old.walk new.walk
    × (new.pieces ≡ old.pieces)
Drops false old new = (old.standing ≡ []) × (new ≡ old)
