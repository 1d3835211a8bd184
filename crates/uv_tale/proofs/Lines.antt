-- What a line tells, it tells in other slots, later, with slots that were freed more often, and of another worker.
use Rattle.uv_tale.proofs.Names.{◌≡◌, ℕ, List, Option, Some, arith, Seen, Program, State, option_map, By, later, shift, Frees, more, arranged, Fits, held_arranged, Content, retimed_content, shift_line, by_frees, in_order, rename, renamed_slots, relabeled_line, held_renamed, line_by, holds_timer, calls_timer, bare_line, told_line}
use Rattle.uv_ids.specs.declared.seen.Seen.TheVariants as seen
use Rattle.uv_shift.proofs.Slots.{held_shift}

pub told_arranged : (p : Program) (o : List ℕ) (line : Option Seen) →
    option_map (told_line p) (option_map (relabeled_line (in_order o)) line) ≡ option_map (told_line p) line
told_arranged p o line = grind arith

pub calls_arranged : (o : List ℕ) (s : State) (line : Option Seen) → Fits o s.arena.slots →
    calls_timer (arranged o s) (option_map (relabeled_line (in_order o)) line) ≡ calls_timer s line
calls_arranged o s line fits = grind (arith, held_arranged)

-- ---- later, and freed more often

abbrev pub moved_line : Program → By → Frees → Option Seen → Option Seen
moved_line p d k line = option_map (shift_line p d) (option_map (relabeled_line (by_frees k)) line)

pub told_moved : (p : Program) (d : By) (k : Frees) (line : Option Seen) →
    option_map (told_line p) (moved_line p d k line) ≡ option_map (told_line p) line
told_moved p d k line = grind arith

pub bare_moved : (p : Program) (d : By) (k : Frees) (line : Option Seen) →
    option_map (bare_line p) (moved_line p d k line) ≡ option_map (bare_line p) line
bare_moved p d k line = grind arith

timer_later : (d : By) (o : Option Content) → holds_timer (option_map (retimed_content (later d)) o) ≡ holds_timer o
timer_later d o = grind arith

pub calls_moved : (p : Program) (d : By) (k : Frees) (s : State) (line : Option Seen) →
    calls_timer (shift d (more k s)) (moved_line p d k line) ≡ calls_timer s line
calls_moved p d k s (Some (seen.Call v id)) = simp (held_shift, renamed_slots, rename, timer_later, held_renamed)
calls_moved p d k s each = assumption

-- ---- of another worker

pub told_by : (p : Program) (j : ℕ) (line other : Option Seen) → option_map (told_line p) line ≡ option_map (told_line p) other →
    option_map (told_line p) (option_map (line_by j) line) ≡ option_map (told_line p) (option_map (line_by j) other)
told_by p j line other same = grind arith

pub bare_by : (p : Program) (j : ℕ) (line other : Option Seen) → option_map (bare_line p) line ≡ option_map (bare_line p) other →
    option_map (bare_line p) (option_map (line_by j) line) ≡ option_map (bare_line p) (option_map (line_by j) other)
bare_by p j line other same = grind arith

pub calls_by : (j : ℕ) (s : State) (line : Option Seen) → calls_timer s (option_map (line_by j) line) ≡ calls_timer s line
calls_by j s line = grind arith
