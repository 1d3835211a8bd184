-- Steps that are alike, of two states of which the same is told.
use Rattle.std.specs.Prelude.{◌≡◌, ◌+◌, ℕ, Bool, false, Option, Some, option_map}
use Rattle.uv_ids.specs.declared.id.Id.{Id}
use Rattle.uv_ids.specs.declared.code.Answer.{Answer}
use Rattle.uv_ids.specs.declared.code.Answer.TheVariants as answer
use Rattle.uv_ids.specs.declared.seen.Seen.{Seen}
use Rattle.uv_ids.specs.declared.seen.Seen.TheVariants as seen
use Rattle.uv_records.specs.Handles.{is_timer}
use Rattle.uv_records.specs.Slots.{held}
use Rattle.uv_work.specs.declared.content.Content.{Content}
use Rattle.uv_work.specs.declared.content.Content.TheVariants as content
use Rattle.uv_script.specs.Program.{Program, arena_size}
use Rattle.uv_model.specs.State.{State}
use Rattle.uv_model.specs.Next.{Next, Moves, Refuses}
use Rattle.uv_shift.specs.Earliest.{IsTimed, earliest, untimed_line}
use Rattle.uv_generations.specs.Renamed.{renaming}
use Rattle.uv_generations.specs.Youngest.{IsYoung, youngest}
use Rattle.uv_names.specs.Counts.{capped}
use Rattle.uv_names.specs.Stale.{staled}
use Rattle.uv_slots.specs.Buried.{CanBury}
use Rattle.uv_slots.specs.Relabeled.{relabeled_line}
use Rattle.uv_slots.specs.Tidy.{IsTidy}
use Rattle.uv_workers.specs.Workers.{orderly}

-- what holds of each state that few steps lead to, in a script whose numbers are small and whose ops name declared names
pub record IsRegular (p : Program) (s : State) : Type 0 where
  pub timed : IsTimed p s
  pub young : IsYoung p s
  pub tidy : IsTidy s
  pub buries : CanBury (arena_size p).slots s

-- where a step leads to one, if it is taken
abbrev pub LeadsRegular : Program → Next → Type 0
LeadsRegular p (Moves s line) = IsRegular p s
LeadsRegular p (Refuses why) = Unit {0}

-- ---- a line without the ids in it, and without the time that the op `now` answers

abbrev pub no_id : Id
no_id = record { slot = 0; generation = 0 }

abbrev pub idless_answer : Answer → Answer
idless_answer (answer.Id id) = answer.Id no_id
idless_answer (answer.Cancelled id) = answer.Cancelled no_id
idless_answer a = a

abbrev pub idless_line : Seen → Seen
idless_line (seen.Op site a) = seen.Op site (idless_answer a)
idless_line (seen.Call v id) = seen.Call v no_id
idless_line (seen.Io v id) = seen.Io v no_id
idless_line (seen.After digest v id) = seen.After digest v no_id
idless_line (seen.Closed v id) = seen.Closed v no_id
idless_line (seen.Take worker v id) = seen.Take worker v no_id
idless_line (seen.Finish worker v id) = seen.Finish worker v no_id
idless_line (seen.Cancel v a) = seen.Cancel v (idless_answer a)
idless_line line = line

abbrev pub told_line : Program → Seen → Seen
told_line p line = untimed_line p (idless_line line)

-- ---- the pooled form of a state, which keeps its slots, and a line that keeps them

-- counts go no further, and names forget earlier generations
abbrev pub reduced : ℕ → State → State
reduced n s = capped n (staled s)

-- times, numbers of starts and generations are as small as they can be
abbrev pub normal : ℕ → State → State
normal n s = youngest (earliest (reduced n s))

-- it is forgotten which worker runs which request
abbrev pub pooled : ℕ → State → State
pooled n s = orderly (normal n s)

-- a line whose ids have no generation, without the time that the op `now` answers
abbrev pub bare_line : Program → Seen → Seen
bare_line p line = untimed_line p (relabeled_line (renaming (λ slot generation. 0)) line)

-- ---- steps that are the same except for what a form of states, and one of lines, leave out

-- a slot holds a timer
abbrev pub holds_timer : Option Content → Bool
holds_timer (Some (content.Handle h)) = is_timer h.kind
holds_timer _ = false

-- the line calls a timer, in the state after it
abbrev pub calls_timer : State → Option Seen → Bool
calls_timer s (Some (seen.Call v id)) = holds_timer (held s.arena.slots id)
calls_timer s line = false

-- two steps, from s and t, led to these states with these lines
pub record StepsAlike {F : Type 0} (form : State → F) (tells : Seen → Seen) (s t a b : State) (line other : Option Seen) : Type 0 where
  pub same : form a ≡ form b
  pub same_line : option_map tells line ≡ option_map tells other
  -- the clock goes on by as much
  pub clocks : a.clock + t.clock ≡ b.clock + s.clock
  pub timers : calls_timer a line ≡ calls_timer b other

-- both are refused, and for the same reason, or both are taken
abbrev pub NextAlike : {F : Type 0} → (State → F) → (Seen → Seen) → State → State → Next → Next → Type 0
NextAlike form tells s t (Moves a line) (Moves b other) = StepsAlike form tells s t a b line other
NextAlike form tells s t (Refuses why) (Refuses other) = why ≡ other
NextAlike form tells s t x y = ⊥
