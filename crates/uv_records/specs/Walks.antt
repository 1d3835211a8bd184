-- A list that a section walks: its members, and those that the section under way has yet to run. The orders are own.
use Rattle.std.specs.Prelude.{List, [], ◌∷◌, ◌++◌, Bool, not, filter}

pub record Walk (X : Type 0) : Type 0 where
  -- front first, except those yet to run
  pub list : List X
  -- those that the section under way has yet to run, front first
  pub yet : List X

module _ {X : Type 0} where
  -- one more, at the front: a handle that is started, or one that closes
  abbrev pub with_first : Walk X → X → Walk X
  with_first w x = record w { list = x ∷ w.list }

  -- one more, at the end: an async handle, or a request that is done
  abbrev pub with_last : Walk X → X → Walk X
  with_last w x = record w { list = w.list ++ x ∷ [] }

  -- a list without one of its members
  abbrev pub without : (X → X → Bool) → List X → X → List X
  without same xs x = filter (λ y. not (same y x)) xs

  -- one that is stopped goes off the list, and isn't run any more
  abbrev pub walk_without : (X → X → Bool) → Walk X → X → Walk X
  walk_without same w x = record { list = without same w.list x; yet = without same w.yet x }

  -- a section begins: its whole list is yet to run
  abbrev pub all_yet : Walk X → Walk X
  all_yet w = record { list = []; yet = w.list }

  -- the front of those yet to run, which is called now, goes to the end of the list
  abbrev pub moved_on : Walk X → X → List X → Walk X
  moved_on w x rest = record { list = w.list ++ x ∷ []; yet = rest }

-- nothing listed
abbrev pub nothing_listed : (X : Type 0) → Walk X
nothing_listed X = record { list = []; yet = [] }
