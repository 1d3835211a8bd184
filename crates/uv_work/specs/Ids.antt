-- Ids told apart.
use Rattle.std.specs.Prelude.{◌==◌, ◌&&◌, Bool}
use Rattle.uv_ids.specs.declared.id.Id.{Id}

abbrev pub same_id : Id → Id → Bool
same_id a b = (a.slot == b.slot) && (a.generation == b.generation)
