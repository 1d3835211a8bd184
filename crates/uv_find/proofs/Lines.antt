-- What a search reads of a line is the same of a line that leaves out times, ids and the numbers of workers.
use Rattle.uv_find.proofs.Names.{◌≡◌, ◌==◌, Bool, true, false, Option, ap, sym, ◌∙◌, arith, option_map, Code, Var, Seen, Program, told_line, line_by, answers_code, begins_section, begins_poll, caller, begun, answered_name, Phase}
use Rattle.uv_ids.specs.declared.seen.Seen.TheVariants as seen

-- the line without them
abbrev pub plain_line : Program → Seen → Seen
plain_line p line = line_by 0 (told_line p line)

-- two lines that leave out the same, or none
abbrev pub LinesAlike : Program → Option Seen → Option Seen → Type 0
LinesAlike p x y = option_map (plain_line p) x ≡ option_map (plain_line p) y

-- by a function that sees none of these
pub lines_read : {X : Type 0} (f : Seen → X) (p : Program) → ((l : Seen) → f (plain_line p l) ≡ f l) → (l m : Seen) → plain_line p l ≡ plain_line p m
    → f l ≡ f m
lines_read f p same l m e = sym (same l) ∙ ap f e ∙ same m

pub plain_caller : (p : Program) (l : Seen) → caller (plain_line p l) ≡ caller l
plain_caller p l = grind arith

pub plain_begun : (p : Program) (l : Seen) → begun (plain_line p l) ≡ begun l
plain_begun p l = grind arith

pub plain_answered : (p : Program) (l : Seen) → answered_name p (plain_line p l) ≡ answered_name p l
plain_answered p l = grind arith

pub plain_code : (p : Program) (code : Code) (l : Seen) → answers_code code (plain_line p l) ≡ answers_code code l
plain_code p code l = grind arith

pub plain_section : (p : Program) (word : Phase) (l : Seen) → begins_section word (plain_line p l) ≡ begins_section word l
plain_section p word l = grind arith

pub plain_poll : (p : Program) (l : Seen) → begins_poll (plain_line p l) ≡ begins_poll l
plain_poll p l = grind arith

-- a tick, in which a callback's time goes by
abbrev pub is_tick : Seen → Bool
is_tick (seen.Tick ms) = true
is_tick l = false

pub plain_tick : (p : Program) (l : Seen) → is_tick (plain_line p l) ≡ is_tick l
plain_tick p l = grind arith

-- the callback of this name begins, that of a handle
abbrev pub calls_name : Var → Seen → Bool
calls_name name (seen.Call v id) = v.0 == name.0
calls_name name l = false
