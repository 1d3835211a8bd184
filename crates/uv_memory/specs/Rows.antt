-- Steps over three rows: each takes the next one of the row in which it lies.
use Rattle.std.specs.Prelude.{◌≡◌, ℕ, suc, List, [], ◌∷◌, length}
use Rattle.uv_memory.specs.Record.{Record}
use Rattle.uv_memory.specs.Forms.{smaller, change_of, larger}
use Rattle.uv_memory.specs.declared.entry.Entry.{Entry}
use Rattle.uv_memory.specs.declared.small.Small.{Small}
use Rattle.uv_memory.specs.declared.medium.Medium.{Medium}
use Rattle.uv_memory.specs.declared.large.Large.{Large}
use Rattle.uv_memory.specs.declared.row.Row.{Row}
use Rattle.uv_memory.specs.declared.row.Row.TheVariants as row

-- how many of the steps lie in each row
abbrev pub smalls_of : List Row → ℕ
smalls_of [] = 0
smalls_of (row.Smalls ∷ rows) = suc (smalls_of rows)
smalls_of (row.Mediums ∷ rows) = smalls_of rows
smalls_of (row.Larges ∷ rows) = smalls_of rows

abbrev pub mediums_of : List Row → ℕ
mediums_of [] = 0
mediums_of (row.Smalls ∷ rows) = mediums_of rows
mediums_of (row.Mediums ∷ rows) = suc (mediums_of rows)
mediums_of (row.Larges ∷ rows) = mediums_of rows

abbrev pub larges_of : List Row → ℕ
larges_of [] = 0
larges_of (row.Smalls ∷ rows) = larges_of rows
larges_of (row.Mediums ∷ rows) = larges_of rows
larges_of (row.Larges ∷ rows) = suc (larges_of rows)

module _ {P : Type 0} where
  -- the record of a step
  abbrev pub of_small : Entry P Small → Record P
  of_small e = record { place = e.place; naming = e.naming; change = smaller e.change }

  abbrev pub of_medium : Entry P Medium → Record P
  of_medium e = record { place = e.place; naming = e.naming; change = change_of e.change }

  abbrev pub of_large : Entry P Large → Record P
  of_large e = record { place = e.place; naming = e.naming; change = larger e.change }

  -- each row has an entry for each of its steps
  pub record Fits (rows : List Row) (ss : List (Entry P Small)) (ms : List (Entry P Medium)) (ls : List (Entry P Large)) : Type 0 where
    pub small : smalls_of rows ≡ length ss
    pub medium : mediums_of rows ≡ length ms
    pub large : larges_of rows ≡ length ls

  -- the records of the steps, the first one's first
  abbrev pub records_of : List Row → List (Entry P Small) → List (Entry P Medium) → List (Entry P Large) → List (Record P)
  records_of [] ss ms ls = []
  records_of (row.Smalls ∷ rows) [] ms ls = []
  records_of (row.Smalls ∷ rows) (s ∷ ss) ms ls = of_small s ∷ records_of rows ss ms ls
  records_of (row.Mediums ∷ rows) ss [] ls = []
  records_of (row.Mediums ∷ rows) ss (m ∷ ms) ls = of_medium m ∷ records_of rows ss ms ls
  records_of (row.Larges ∷ rows) ss ms [] = []
  records_of (row.Larges ∷ rows) ss ms (l ∷ ls) = of_large l ∷ records_of rows ss ms ls
