-- The change of the last step, where it lies.
use Rattle.uv_memory.specs.Change.{Change}
use Rattle.uv_memory.specs.Forms.{smaller, change_of, larger}
use Rattle.uv_memory.specs.declared.last.Lying.{Lying}
use Rattle.uv_memory.specs.declared.last.Lying.TheVariants as lying

abbrev pub lain : Lying → Change
lain (lying.Small s) = smaller s.now
lain (lying.Medium m) = change_of m.now
lain (lying.Large l) = larger l.now
