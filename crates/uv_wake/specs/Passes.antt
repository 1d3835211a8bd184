-- How the seats of the table stand behind the seats that clauses see.
use Rattle.std.specs.Prelude.{◌≡◌, ℕ, ◌+◌, List, [], length}
use Rattle.atomic_table.specs.Seated.{TableId}
use Rattle.atomic_table.specs.Table.{Me}
use Rattle.uv_wake.specs.declared.views.View.{View}
use Rattle.uv_wake.specs.declared.views.View.TheVariants.{Loop, Sender}
use Rattle.uv_wake.specs.Steps.{loop_of, sender_of}

-- the seat is the loop's, and knows these counts and this number of splits
pub record IsLoops (board : TableId) (id : ℕ) (me : Me ℕ View) (counts : List ℕ) (splits : ℕ) : Type 0 where
  pub first : id ≡ 0
  pub knows : me ≡ (Loop (loop_of me.0), [])
  pub counts_are : (loop_of me.0).counts ≡ counts
  pub splits_are : (loop_of me.0).splits ≡ splits
  pub wide : board.words ≡ length counts + 1

-- the seat is a sender's
abbrev pub IsSends : Me ℕ View → Type 0
IsSends me = me ≡ (Sender (sender_of me.0), [])
