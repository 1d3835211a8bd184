-- Steps in a row, and taking all of them back.
use Rattle.std.specs.Prelude.{◌≡◌, ℕ, List, [], ◌∷◌, ◌++◌, length}
use Rattle.uv_memory.specs.Record.{Record}
use Rattle.uv_memory.specs.Image.{Image}
use Rattle.uv_memory.specs.Parts.{unwind}
use Rattle.uv_memory.specs.Undo.{CanUnwind}

-- the memory of a loop, and the records of the steps that made it so, the first step's first
pub record Walk (P : Type 0) : Type 0 where
  pub image : Image P
  pub records : List (Record P)

module _ {P : Type 0} where
  -- the records are unwound, the last one first
  abbrev pub unwound : List (Record P) → Image P → Image P
  unwound [] i = i
  unwound (r ∷ rs) i = unwind r (unwound rs i)

  -- each record can be unwound once those after it are
  abbrev pub CanGoBack : ℕ → List (Record P) → Image P → Type 0
  CanGoBack room [] i = Unit {0}
  CanGoBack room (r ∷ rs) i = CanUnwind room r (unwound rs i) × CanGoBack room rs i

  -- steps in a row, from one memory to another: the record of each gives back the one before it, where the heap has so much room
  abbrev pub AreSteps : ℕ → Image P → List (Record P) → Image P → Type 0
  AreSteps room i [] k = k ≡ i
  AreSteps room i (r ∷ rs) k = (j : Image P) × (unwind r j ≡ i) × CanUnwind room r j × AreSteps room j rs k

  -- one step more, whose record gives back the very image from before
  pub record AddsOne (old new : Walk P) : Type 0 where
    pub added : Record P
    pub records : new.records ≡ old.records ++ added ∷ []
    pub back : unwind added new.image ≡ old.image

  -- steps one after another, each from the memory that the last one left
  abbrev pub AddEach : Walk P → List (Walk P) → Walk P → Type 0
  AddEach old [] new = new ≡ old
  AddEach old (w ∷ ws) new = AddsOne old w × AddEach w ws new

  -- what so many steps added: their records stand behind the older ones, and all of them unwound, the last one first, give back the very
  -- image from before the first of these steps
  pub record AddsAll (old new : Walk P) (steps : ℕ) : Type 0 where
    pub added : List (Record P)
    pub count : length added ≡ steps
    pub records : new.records ≡ old.records ++ added
    pub back : unwound added new.image ≡ old.image

  -- the last step is taken back
  pub record DropsOne (old new : Walk P) : Type 0 where
    pub dropped : Record P
    pub records : old.records ≡ new.records ++ dropped ∷ []
    pub back : new.image ≡ unwind dropped old.image
