-- Names that are alike: those of requests, or of handles, whose callbacks do the same and of which nothing else speaks. The names of a state
-- may then stand in another order.
use Rattle.std.specs.Prelude.{◌≡◌, ◌≤◌, ℕ, List, length, map, option_map, slice_get}
use Rattle.uv_ids.specs.declared.id.Var.{Var}
use Rattle.uv_ids.specs.declared.seen.Callback.{Callback}
use Rattle.uv_records.specs.declared.slot.Slot.{Slot}
use Rattle.uv_script.specs.Program.{Program, lines_in}
use Rattle.uv_work.specs.declared.content.Content.{Content}
use Rattle.uv_work.specs.declared.content.Content.TheVariants as content
use Rattle.uv_model.specs.declared.place.Place.TheVariants.{Main}
use Rattle.uv_model.specs.State.{State}
use Rattle.uv_slots.specs.Arranged.{IsOrder, place_of, arranged_slots}
use Rattle.uv_alike.specs.Changed.{Change, unchanged, changed_callback, changed_main}

abbrev pub moved_var : List ℕ → Var → Var
moved_var o v = record { 0 = place_of o v.0 }

abbrev pub moved_content : List ℕ → Content → Content
moved_content o (content.Handle h) = content.Handle (record h { name = moved_var o h.name })
moved_content o (content.Request r) = content.Request (record r { name = moved_var o r.name })

abbrev pub moved_slot : List ℕ → Slot Content → Slot Content
moved_slot o slot = record slot { content = option_map (moved_content o) slot.content }

-- each name is told where another one was
abbrev pub by_names : List ℕ → Change
by_names o = record unchanged { var = moved_var o; slots = map (moved_slot o); names = arranged_slots o }

-- names that are alike where the state stands: a name has the lines of the one whose place it takes, so renamed, and the main program's
-- next line names none that takes another place
pub record AreAlike (p : Program) (o : List ℕ) (s : State) : Type 0 where
  pub order : IsOrder o
  pub within : length o ≤ length s.names
  pub lines : (kind : Callback) (v : Var) → lines_in p kind (moved_var o v) ≡ map (changed_callback (by_names o)) (lines_in p kind v)
  pub main : (line : ℕ) → s.place ≡ Main line → slice_get p.main line ≡ option_map (changed_main (by_names o)) (slice_get p.main line)
