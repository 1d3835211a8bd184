-- How the reader makes a task, as a function. It serves private clauses; that it agrees with the rule is proved.
use Rattle.std.specs.Prelude.{◌≡◌, ℕ, ◌-◌, ◌&&◌, Bool, true, false, nat_le, List, length, replicate, Option, Some, None}
use Rattle.std.proofs.Common.{refl, sym, ap, arith, length-append}
use Rattle.std.proofs.lemmas.List.{length-replicate}
use Rattle.std.proofs.Math.Seq.{take-append_seam}
use Rattle.std.proofs.lemmas.Bool.{and_parts, leb-true}
use Rattle.uv_work.specs.Limits.{LONGEST_TEXT, MOST_ROUNDS}
use Rattle.uv_work.specs.declared.task.Task.{Task}
use Rattle.uv_work.specs.TaskFields.{IsRoundCount, IsPadded, padded}

-- the limits of a task
abbrev pub is_task : ℕ → List ℕ → Bool
is_task rounds text = (nat_le 1 rounds && nat_le rounds MOST_ROUNDS) && nat_le (length text) LONGEST_TEXT

pub rounds_within : (rounds : ℕ) (text : List ℕ) → is_task rounds text ≡ true → IsRoundCount rounds
rounds_within rounds text e =
    let tests = and_parts (nat_le 1 rounds && nat_le rounds MOST_ROUNDS) (nat_le (length text) LONGEST_TEXT) e in
    let both = and_parts (nat_le 1 rounds) (nat_le rounds MOST_ROUNDS) tests.0 in
    record { some = leb-true 1 rounds both.0; few = leb-true rounds MOST_ROUNDS both.1 }

pub text_within : (rounds : ℕ) (text : List ℕ) → is_task rounds text ≡ true → IsPadded (length text) (padded text)
text_within rounds text e =
    let tests = and_parts (nat_le 1 rounds && nat_le rounds MOST_ROUNDS) (nat_le (length text) LONGEST_TEXT) e in
    let fits = leb-true (length text) LONGEST_TEXT tests.1 in
    record {
      fits = fits;
      whole = omega (arith, length-append text (replicate (LONGEST_TEXT - length text) 0), length-replicate {A = ℕ} (LONGEST_TEXT - length text) 0);
      text = ap padded (sym (take-append_seam text (replicate (LONGEST_TEXT - length text) 0)));
    }

-- the task of so many rounds over a text
abbrev pub made : (rounds : ℕ) (text : List ℕ) (fits : Bool) → is_task rounds text ≡ fits → Option Task
made rounds text true e = Some (record {
  rounds = rounds;
  len = length text;
  bytes = padded text;
  rounds_fit = rounds_within rounds text e;
  padded = text_within rounds text e;
})
made rounds text false e = None

unfoldable pub task_of : ℕ → List ℕ → Option Task
task_of rounds text = made rounds text (is_task rounds text) refl
