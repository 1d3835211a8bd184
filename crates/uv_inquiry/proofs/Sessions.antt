-- The session that an answer shows is read as that script and those steps.
use Rattle.uv_inquiry.proofs.Names.{◌≡◌, ◌≢◌, ℕ, ◌+◌, ◌==◌, Bool, true, false, List, [], ◌∷◌, ◌++◌, map, refl, sym, subst, arith, append_assoc, codes, AllByRecursion, ne_eqb, Var, Event, Callback, CallbackLine, MainOp, Program, lines_in, order_of, worker_count, arena_size, has_io, from_heap, fields_of, IsLine, var_line, main_line, callback_line, name_lines, callback_lines, thread_line, script_lines, lines_text, line_if, io_line, heap_line, order_line, workers_line, slots_line, setting_lines, IsScript, step_line, NoFeed, Begins, here, later, IsReadBack, is_line_decides, lines_back, read_lines, IsStep, IsCommand, has_step, Loop, Step, Do, SaysStep, loop, outside, unread_in, AllTaken}
use Rattle.uv_ids.specs.declared.event.Event.TheVariants as event
use Rattle.uv_ids.specs.declared.seen.Callback.TheVariants as kinds
use Rattle.uv_script.specs.declared.op.MainOp.TheVariants as main
use Rattle.uv_script.specs.Text.{script_text}
use Rattle.uv_text.specs.Commands as is
use Rattle.uv_text.specs.Commands.{Asks}
use Rattle.uv_engine.proofs.Remade.{Said, is_made}
use Rattle.uv_inquiry.specs.Session.{command_of, AsksFor, IsSession}
use Rattle.uv_inquiry.specs.Texts.{session_text}

-- ---- no line of a script's text is `begin`

abbrev NoBegin : List ℕ → Type 0
NoBegin line = line ≢ codes "begin"

every_append : (P : List ℕ → Type 0) (xs ys : List (List ℕ)) → AllByRecursion P xs → AllByRecursion P ys → AllByRecursion P (xs ++ ys)
every_append P [] ys h k = k
every_append P (x ∷ xs) ys h k = (h.0, every_append P xs ys h.1 k)

every_mapped : {A : Type 0} (P : List ℕ → Type 0) (f : A → List ℕ) (xs : List A) → ((x : A) → P (f x)) → AllByRecursion P (map f xs)
every_mapped P f [] each = tt
every_mapped P f (x ∷ xs) each = (each x, every_mapped P f xs each)

-- it begins with another byte
other : (b : ℕ) (bytes : List ℕ) → (b == 98) ≡ false → NoBegin (b ∷ bytes)
other b bytes e h = cc

main_other : (names : List (List ℕ)) (o : MainOp) → NoBegin (main_line names o)
main_other names o = grind arith

callback_other : (names : List (List ℕ)) (kind : Callback) (v : Var) (line : CallbackLine) → NoBegin (callback_line names kind v line)
callback_other names each v line = grind arith

callbacks_other : (p : Program) (n : ℕ) (names : List (List ℕ)) → AllByRecursion NoBegin (callback_lines p n names)
callbacks_other p n [] = tt
callbacks_other p n (name ∷ names) =
    search (map, callback_line, lines_in, every_mapped, callback_other, every_append, name_lines, callback_lines, (callbacks_other p (n + 1) names))

settings_other : (p : Program) → AllByRecursion NoBegin (setting_lines p)
settings_other p = grind arith

script_other : (p : Program) → AllByRecursion NoBegin (script_lines p)
script_other p =
    let settings = setting_lines p in
    let names = map var_line p.names in
    let ops = map (main_line p.names) p.main in
    let called = callback_lines p 0 p.names in
    let sent = map (thread_line p.names) p.threads in
    every_append NoBegin (settings ++ names ++ ops ++ called) sent
    (every_append NoBegin (settings ++ names ++ ops) called
    (search (every_append, settings_other, every_mapped, var_line, other, main_line, main_other))
    (callbacks_other p 0 p.names)) (every_mapped NoBegin (thread_line p.names) p.threads (λ line. other _ _ refl))

unfed : (line : List ℕ) → IsLine line → NoFeed line
unfed line is = λ k d inside. ne_eqb _ 10 (λ e. omega (arith, (is.printable k d inside).0, e))

-- so the line `begin` behind them is the first one
begins_behind : (lines : List (List ℕ)) (rest : List ℕ) → AllByRecursion IsLine lines → AllByRecursion NoBegin lines →
    Begins (lines_text lines ++ (codes "begin\n" ++ rest)) (lines_text lines) rest
begins_behind [] rest each others = here
begins_behind (line ∷ lines) rest each others = search (lines_text, append_assoc, codes, later, unfed, (begins_behind lines rest each.1 others.1))

-- ---- the lines of steps

step_is_line : (p : Program) (line : List ℕ) (e : Event) → SaysStep p line e → IsLine line
step_is_line p line e e3 = grind arith

steps_are_lines : (p : Program) (es : List Event) → AllByRecursion (Said p) es → AllByRecursion IsLine (map (step_line p.names) es)
steps_are_lines p [] h = tt
steps_are_lines p (e ∷ es) h = (step_is_line p (step_line p.names e) e h.0, steps_are_lines p es h.1)

no_loop : {names : List (List ℕ)} {word argument : List ℕ} {e : Event} → IsStep names word argument e → e ≡ event.Loop → ⊥
no_loop each z = grind arith

outside_asks : (names : List (List ℕ)) (line : List ℕ) (e : Event) → IsLine line → IsCommand names (fields_of line) (Step e) →
    Asks names line (Do (command_of e))
outside_asks names line event.Loop l (is.step word argument _ f h) = absurd (no_loop h refl)
outside_asks names line (event.Take k) l h = is.command (Step (event.Take k)) l h
outside_asks names line (event.Finish k) l h = is.command (Step (event.Finish k)) l h
outside_asks names line (event.Cancel v) l h = is.command (Step (event.Cancel v)) l h
outside_asks names line (event.Send v) l h = is.command (Step (event.Send v)) l h
outside_asks names line (event.Io v) l h = is.command (Step (event.Io v)) l h
outside_asks names line (event.Tick ms) l h = is.command (Step (event.Tick ms)) l h

loop_asks : (names : List (List ℕ)) → Asks names (codes "loop") (Do (Loop 1))
loop_asks names = is.command (Loop 1) ((is_line_decides (codes "loop")).0 refl) (is.one_step refl)

one_asks : (p : Program) (line : List ℕ) (e : Event) → SaysStep p line e → Asks p.names line (Do (command_of e)) × (has_step p e ≡ true)
one_asks p line e e3 = grind (arith, loop_asks, outside_asks)

all_ask : (p : Program) (es : List Event) → AllByRecursion (Said p) es → AsksFor p (map (step_line p.names) es) es
all_ask p [] h = tt
all_ask p (e ∷ es) h = let one = one_asks p (step_line p.names e) e h.0 in (one.0, one.1, all_ask p es h.1)

pub session_is : (text : List ℕ) (p : Program) (es : List Event) → IsScript text p → IsReadBack p → AllTaken p es → IsSession (session_text p es) p es
unfolding session_text script_text
session_is text p es is back taken =
    let made = is_made text p es is taken in
    let steps = map (step_line p.names) es in
    let lines = script_lines p in
    let whole = append_assoc (lines_text lines) (codes "begin\n") (lines_text steps) in
    record {
      script = script_text p;
      commands = lines_text steps;
      begins = subst (λ (t : List ℕ). Begins t (lines_text lines) (lines_text steps)) (sym whole)
          (search (begins_behind, lines_text, read_lines, unread_in, script_other));
      is = back.script;
      asks = search (lines_back, steps_are_lines, all_ask);
    }
