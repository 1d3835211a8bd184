-- What the lines say that stand in two words each.
use Rattle.std.specs.Prelude.{◌≡◌, List, Bool, true, false, Option, Some, None, slice_get}
use Rattle.uv_ids.specs.declared.seen.Seen.{Seen}
use Rattle.uv_ids.specs.declared.seen.Seen.TheVariants as seen
use Rattle.uv_stands.specs.declared.packed_line.Line.{Line}
use Rattle.uv_stands.specs.declared.packed_line.Line.TheVariants as line

-- what a line says, where these are the wide ones
abbrev pub said : List Seen → Line → Option Seen
said wides line.Nothing = None
said wides (line.Run mode) = Some (seen.Run mode)
said wides (line.Section section) = Some (seen.Section section)
said wides (line.Poll ms) = Some (seen.Poll (Some ms))
said wides line.PollForever = Some (seen.Poll None)
said wides (line.Call name id) = Some (seen.Call name id)
said wides (line.Io name id) = Some (seen.Io name id)
said wides (line.Closed name id) = Some (seen.Closed name id)
said wides (line.End alive) = Some (seen.End alive)
said wides (line.Take worker name id) = Some (seen.Take worker name id)
said wides (line.Finish worker name id) = Some (seen.Finish worker name id)
said wides (line.Send name code) = Some (seen.Send name code)
said wides (line.Tick ms) = Some (seen.Tick ms)
said wides (line.Wide at) = slice_get wides at

abbrev pub is_wide : Line → Bool
is_wide (line.Wide at) = true
is_wide other = false

-- a line in two words says this, whatever the wide ones are
pub record Says (s : Option Seen) (l : Line) : Type 0 where
  pub says : (wides : List Seen) → said wides l ≡ s
  pub narrow : is_wide l ≡ false
