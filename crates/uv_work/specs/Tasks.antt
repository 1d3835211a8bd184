-- What contracts see of a task: its rounds, and its text.
use Rattle.std.specs.Prelude.{◌≡◌, ℕ, List, take}
use Rattle.uv_work.specs.declared.task.Task.{Task}

-- the text of a task
abbrev pub text_of : Task → List ℕ
text_of t = take t.len t.bytes

-- the task of so many rounds over this text
pub record IsTask (rounds : ℕ) (text : List ℕ) (t : Task) : Type 0 where
  pub rounds_are : t.rounds ≡ rounds
  pub text_is : text_of t ≡ text
