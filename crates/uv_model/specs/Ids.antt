-- Lists of ids.
use Rattle.std.specs.Prelude.{◌==◌, ◌&&◌, List, [], ◌∷◌, Bool, true, false}
use Rattle.uv_ids.specs.declared.id.Id.{Id}
use Rattle.uv_records.specs.Walks as walks
use Rattle.uv_records.specs.Walks.{Walk}

abbrev pub same_id : Id → Id → Bool
same_id a b = (a.slot == b.slot) && (a.generation == b.generation)

-- a list of ids without one of them
abbrev pub without_id : List Id → Id → List Id
without_id ids id = walks.without same_id ids id

-- one that goes off a list that a section walks, and isn't run any more
abbrev pub walk_without_id : Walk Id → Id → Walk Id
walk_without_id w id = walks.walk_without same_id w id

-- there is an id on the list
abbrev pub has_some : List Id → Bool
has_some [] = false
has_some (id ∷ ids) = true
