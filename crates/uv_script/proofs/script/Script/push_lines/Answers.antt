use Rattle.uv_script.proofs.ProofNames.{err_from_is_err_and, ◌≡◌, ◌++◌, ℕ, List, [], map, refl, subst, append_assoc, arith, Program, setting_lines, var_line, main_line, callback_lines, thread_line, lines_text}
use Rattle.uv_script.specs.Text.{script_text}
use Rattle.uv_script.proofs.Writing.{Begins, begins_itself, begins_less, cut_at, writing}
use Rattle.uv_script.proofs.Texts.{whole_text}
use Rattle.uv_script.proofs.script.Script.push_lines.Goals as goal

pub returns-clause-text : goal.returns-clause-text
returns-clause-text c = rw (
  c.in_ok-push_threads.ensures,
  c.in_ok-push_callbacks.ensures,
  c.in_ok-push_main.ensures,
  c.in_ok-push_declarations.ensures,
  c.in_ok-push_settings.ensures,
  c.main-main.ensures.main,
  c.names.ensures.names,
  c.names-2.ensures.names,
  c.names-3.ensures.names,
  c.thread_lines.ensures.lines,
) (whole_text c.args.text.now.items c.args.self.now)

pub returns-in_err-push_settings-clause-text : goal.returns-in_err-push_settings-clause-text
returns-in_err-push_settings-clause-text c = grind (arith, writing, (whole_text [] c.args.self.now))

pub returns-in_err-push_declarations-clause-text : goal.returns-in_err-push_declarations-clause-text
returns-in_err-push_declarations-clause-text c = grind (arith, writing, (whole_text [] c.args.self.now))

-- what stands behind each piece
abbrev to_names : Program → List ℕ
to_names p = lines_text (setting_lines p) ++ lines_text (map var_line p.names)

abbrev to_main : Program → List ℕ
to_main p = to_names p ++ lines_text (map (main_line p.names) p.main)

abbrev to_callbacks : Program → List ℕ
to_callbacks p = to_main p ++ lines_text (callback_lines p 0 p.names)

module _ (p : Program) where
  begins_threads : Begins (to_callbacks p ++ lines_text (map (thread_line p.names) p.threads)) (script_text p)
  begins_threads = subst (Begins (to_callbacks p ++ lines_text (map (thread_line p.names) p.threads))) (whole_text [] p)
      (begins_itself (to_callbacks p ++ lines_text (map (thread_line p.names) p.threads)))

  begins_callbacks : Begins (to_callbacks p) (script_text p)
  begins_callbacks = begins_less (to_callbacks p) (lines_text (map (thread_line p.names) p.threads)) (script_text p) begins_threads

  begins_main : Begins (to_main p) (script_text p)
  begins_main = begins_less (to_main p) (lines_text (callback_lines p 0 p.names)) (script_text p) begins_callbacks

pub returns-in_err-push_main-clause-text : goal.returns-in_err-push_main-clause-text
returns-in_err-push_main-clause-text c =
    let s = c.args.self.now in
    let old = c.args.text.now.items in
    let before : c.push_declarations.new.text.items ≡ old ++ to_names s = grind (arith, append_assoc) in
    let exit = c.from_residual-in_err-push_main in
    let p = err_from_is_err_and exit.result exit.ensures.1 in
    rw (p.1) (cut_at old (to_names s) _ (lines_text (map (main_line s.names) s.main)) _ c.push_declarations.new.text.items _
    c.in_err-push_main.ensures before (grind arith) (begins_main s))

pub returns-in_err-push_callbacks-clause-text : goal.returns-in_err-push_callbacks-clause-text
returns-in_err-push_callbacks-clause-text c =
    let s = c.args.self.now in
    let old = c.args.text.now.items in
    let before : c.push_main.new.text.items ≡ old ++ to_main s = grind (arith, append_assoc) in
    let exit = c.from_residual-in_err-push_callbacks in
    let p = err_from_is_err_and exit.result exit.ensures.1 in
    rw (p.1) (cut_at old (to_main s) _ (lines_text (callback_lines s 0 s.names)) _ c.push_main.new.text.items _
    c.in_err-push_callbacks.ensures before refl (begins_callbacks s))

pub returns-in_err-push_threads-clause-text : goal.returns-in_err-push_threads-clause-text
returns-in_err-push_threads-clause-text c =
    let s = c.args.self.now in
    let old = c.args.text.now.items in
    let before : c.push_callbacks.new.text.items ≡ old ++ to_callbacks s = grind (arith, append_assoc) in
    let exit = c.from_residual-in_err-push_threads in
    let p = err_from_is_err_and exit.result exit.ensures.1 in
    rw (p.1) (cut_at old (to_callbacks s) _ (lines_text (map (thread_line s.names) s.threads)) _ c.push_callbacks.new.text.items _
    c.in_err-push_threads.ensures before (grind arith) (begins_threads s))
