-- A step of the loop where all times are later.
use Rattle.uv_shift.proofs.Names.{◌≡◌, ℕ, ◌+◌, Option, ap, sym, ◌∙◌, arith, Event, Tick, Seen, Program, State, Moves, ◌≤◌, Next, Refuses, option_map, LATEST, By, shift, TimesFit, ClockFits, IsMoved, next_map, shift_line}
use Rattle.uv_model.specs.Next.{next}
use Rattle.uv_shift.proofs.Later.{CanShift, shift_handle}
use Rattle.uv_shift.proofs.Cases.{if_shift}
use Rattle.uv_shift.proofs.Slots.{shift_pair, handle_shift}
use Rattle.uv_shift.proofs.ByLater.{next_later}

-- where the due times of the later state fit, each part of the state itself can be moved
pub can_shift : (p : Program) (d : By) (s : State) → TimesFit p (shift d s) → CanShift p d s
can_shift p d s h = record {
  starts = h.starts;
  repeats = λ id its is. h.repeats id (shift_handle d its) (handle_shift d s id ∙ ap (option_map (shift_handle d)) is);
  ready = λ t is. h.ready (shift_pair d t) (grind (arith, handle_shift));
  first = λ t is. h.first (shift_pair d t) (grind (arith, if_shift, handle_shift));
}

pub next_shift : (p : Program) (d : By) (s : State) (e : Event) → TimesFit p (shift d s) → ClockFits (shift d s) e →
    next p (shift d s) e ≡ next_map (shift d) (shift_line p d) (next p s e)
next_shift p d s e h k = next_later d p s e (can_shift p d s h) k

-- ---- a step that is taken later is taken earlier, too, whatever the clock's limit

moved_as : (p : Program) (d : By) (x : Next) (t : State) (line : Option Seen) →
    next_map (shift d) (shift_line p d) x ≡ Moves t line → IsMoved p d x t line
moved_as p d (Refuses w) t line same = absurd (let f : ⊥ = cc in f)
moved_as p d (Moves u says) t line same = grind arith

fits_ticked : (p : Program) (s : State) (ms : ℕ) (t : State) (line : Option Seen) → next p s (Tick ms) ≡ Moves t line → s.clock + ms ≤ LATEST
unfolding next
fits_ticked p s ms t line e = grind arith

-- a step that is taken doesn't come to the clock's limit
pub fits_taken : (p : Program) (s : State) (e : Event) (t : State) (line : Option Seen) → next p s e ≡ Moves t line → ClockFits s e
fits_taken p s e t line e' = grind (arith, fits_ticked)

pub next_back : (p : Program) (d : By) (s : State) (e : Event) (t : State) (line : Option Seen) → TimesFit p (shift d s) →
    next p (shift d s) e ≡ Moves t line → IsMoved p d (next p s e) t line
next_back p d s e t line h taken = moved_as p d (next p s e) t line
    (sym (next_shift p d s e h (fits_taken p (shift d s) e t line taken)) ∙ taken)
