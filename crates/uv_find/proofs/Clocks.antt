-- How far the clock goes: by what a tick says, and by nothing else.
use Rattle.uv_find.proofs.Names.{◌≡◌, ℕ, ◌+◌, ◌*◌, ◌<◌, ◌≤◌, true, List, [], ◌∷◌, length, Option, Some, None, Result, refl, ap, arith, Event, Io, Tick, Seen, Id, Var, Why, Callback, Op, Request, Program, State, fresh, goes_on, state_of, Next, Moves, Refuses, LONG, is_brief, AreBrief, Holds, HoldsNext, holds_fresh, holds_next, loop_lines, Line, Names, Position, Between, Standing, Lasting, Goes, IsCallLine, names_by, lasting, nothing_told, told_by, after_op}
use Rattle.uv_ids.specs.declared.seen.Seen.TheVariants as seen
use Rattle.uv_model.specs.After.{after}
use Rattle.uv_model.specs.Next as step
use Rattle.uv_model.specs.Next.{next}
use Rattle.uv_order.specs.Documented.{Told}
use Rattle.uv_order.specs.Documented.{after_io, after_end}
use Rattle.uv_order.specs.Documented.Goes.{main_line, run, section, poll, ends, call, fires, answers, answer_op, body_op, sent, taken, finished, cancelled, outside}

-- the ms that the clock goes on by, as a line says
abbrev pub ms_of : Seen → ℕ
ms_of (seen.Tick ms) = ms
ms_of line = 0

abbrev pub ms_in : Option Seen → ℕ
ms_in None = 0
ms_in (Some line) = ms_of line

-- and as an event does
abbrev pub ms_by : Event → ℕ
ms_by (Tick ms) = ms
ms_by e = 0

op_clock : (o : Op) (s : State) → (after_op o s).clock ≡ s.clock
op_clock o s = grind arith

io_clock : (at : Standing) (s : State) → (after_io at s).clock ≡ s.clock
io_clock at s = grind arith

call_line : (s : State) (kind : Callback) (v : Var) (id : Id) (what : Seen) → IsCallLine s kind v id what → ms_of what ≡ 0
call_line s kind v id what is = grind arith

stands : (l : Line) (was : Lasting) → lasting l.after ≡ was → was.clock ≡ l.before.clock → ms_of l.seen ≡ 0 →
    l.after.clock ≡ l.before.clock + ms_of l.seen
stands l was last same none = grind arith

line_clock : (p : Program) (told : Told) (names : Names) (l : Line) (at to : Position) → Goes p told names at l to →
    l.after.clock ≡ l.before.clock + ms_of l.seen
line_clock p told names l at to (main_line o a is says last) = stands l (after_op o l.before) last (op_clock o l.before) (ap ms_of says)
line_clock p told names l at to (run m is says last) = grind arith
line_clock p told names l at to (section {at = here} part may is says opens last) = grind arith
line_clock p told names l at to (poll timeout may is polls says last) = stands l (lasting l.before) last refl (ap ms_of says)
line_clock p told names l at to (ends may is says last) = stands l (after_end l.before) last refl (ap ms_of says)
line_clock p told names l at to (call kind v id behind is calls made line last) =
    stands l (lasting l.before) last refl (call_line l.before kind v id l.seen line)
line_clock p told names l at to (fires v id due others heap word body are early made says last) =
    stands l (lasting l.before) last refl (ap ms_of says)
line_clock p told names l at to (answers {at = here} v id io may active made says last) =
    stands l (after_io here l.before) last (io_clock here l.before) (ap ms_of says)
line_clock p told names l at to (answer_op place rest o a is says last) = stands l (after_op o l.before) last (op_clock o l.before) (ap ms_of says)
line_clock p told names l at to (body_op place rest o a body is says last) = stands l (after_op o l.before) last (op_clock o l.before) (ap ms_of says)
line_clock p told names l at to (sent v code says last) = stands l (lasting l.before) last refl (ap ms_of says)
line_clock p told names l at to (taken k v id says made last) = stands l (lasting l.before) last refl (ap ms_of says)
line_clock p told names l at to (finished k v id says made last) = stands l (lasting l.before) last refl (ap ms_of says)
line_clock p told names l at to (cancelled v a says last) = stands l (lasting l.before) last refl (ap ms_of says)
line_clock p told names l at to (outside ms says last) = grind arith

still_clock : (p : Program) (told : Told) (past : List Seen) (s : State) (at : Position) (t : State) (line : Option Seen) →
    HoldsNext p told past s at (Moves t line) → t.clock ≡ s.clock + ms_in line
still_clock p told past s at t line h = grind (arith, line_clock)

-- a line without a time, of a step that isn't a tick
abbrev Timeless : Next → Type 0
Timeless (Moves t line) = ms_in line ≡ 0
Timeless (Refuses why) = Unit {0}

by_take : (s : State) (k : ℕ) (x : Result (Id × Request) Why) → Timeless (step.take s k x)
by_take s k x = grind arith

timeless : (p : Program) (s : State) (e : Event) (t : State) (line : Option Seen) → next p s e ≡ Moves t line → ms_in line ≤ ms_by e
unfolding next
timeless p s (Io v) t line is = grind arith
timeless p s each t line is = grind (arith, loop_lines, by_take)

-- ---- a step, and all steps

module _ (p : Program) where
  step_clock : (told : Told) (past : List Seen) (s : State) (at : Position) (e : Event) (t : State) (line : Option Seen) →
      Holds p told past s at → next p s e ≡ Moves t line → t.clock ≤ s.clock + ms_by e
  step_clock told past s at e t line h is = grind (arith, holds_next, still_clock, timeless)

  brief_ms : (n : ℕ) (e : Event) → is_brief (Some n) e ≡ true → ms_by e < LONG
  brief_ms n e brief = grind arith

  -- what is brief lets the clock go on by less than a long time for each step
  goes_on_clock : (n : ℕ) (told : Told) (past : List Seen) (s : State) (at : Position) (es : List Event) → Holds p told past s at →
      AreBrief (Some n) es → (goes_on p s es).clock ≤ s.clock + length es * LONG
  goes_on_clock n told past s at [] h brief = omega arith
  goes_on_clock n told past s at (e ∷ es) h brief =
      by (next p s e) refl (holds_next p told past s at e h)
      (λ told2 past2 t to k. goes_on_clock n told2 past2 t to es k brief.1)
    where
      few : ms_by e < LONG
      few = brief_ms n e brief.0

      by : (x : Next) → next p s e ≡ x → HoldsNext p told past s at x →
          ((told2 : Told) (past2 : List Seen) (t : State) (to : Position) → Holds p told2 past2 t to →
          (goes_on p t es).clock ≤ t.clock + length es * LONG) →
          (goes_on p (state_of s x) es).clock ≤ s.clock + length (e ∷ es) * LONG
      by (Refuses why) is k more = let l = more told past s at k in omega (arith, l)
      by (Moves t None) is k more = grind arith
      by (Moves t (Some line)) is k more =
          let l = more (told_by p told (names_by p past) line) (line ∷ past) t k.to k.holds in
          let one = step_clock told past s at e t (Some line) h is in
          omega (arith, l, one, few)

  pub after_clock : (n : ℕ) (es : List Event) → AreBrief (Some n) es → (after p es).clock ≤ length es * LONG
  unfolding after
  after_clock n es brief =
      let l = goes_on_clock n nothing_told [] (fresh p) (Between 0) es (holds_fresh p) brief in
      omega (arith, l)
