-- What is done with something that may be found or not.
use Rattle.std.specs.Prelude.{Option, Some, None}

-- with something found this is done with it, and else that
abbrev pub found_or : {A B : Type 0} → Option A → (A → B) → B → B
found_or (Some x) f other = f x
found_or None f other = other
