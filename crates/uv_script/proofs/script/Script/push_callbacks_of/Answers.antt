use Rattle.uv_ids.specs.declared.seen.Callback.TheVariants as callback
use Rattle.uv_script.proofs.ProofNames.{◌≡◌, ◌++◌, [], map, subst, append_assoc, arith, Var, Program, callback_line, lines_in, lines_text, name_lines, err_from_is_err_and}
use Rattle.uv_script.proofs.Writing.{Begins, begins_itself, cut_at, writing}
use Rattle.uv_script.proofs.Texts.{three_lists}
use Rattle.uv_script.proofs.script.Script.push_callbacks_of.Goals as goal

pub returns : goal.returns
returns c = rw (
  c.in_ok-push_callback-3.ensures,
  c.in_ok-push_callback-2.ensures,
  c.in_ok-push_callback.ensures,
  c.lines_in-handle.ensures,
  c.lines_in-after.ensures,
  c.lines_in-close.ensures,
  c.names-names.ensures.names,
) (three_lists _ _ _ _)

parts : (p : Program) (v : Var) →
    lines_text (map (callback_line p.names callback.Handle v) (lines_in p callback.Handle v))
    ++ lines_text (map (callback_line p.names callback.After v) (lines_in p callback.After v))
    ++ lines_text (map (callback_line p.names callback.Close v) (lines_in p callback.Close v)) ≡ lines_text (name_lines p v)
parts p v =
    three_lists [] (map (callback_line p.names callback.Handle v) (lines_in p callback.Handle v))
    (map (callback_line p.names callback.After v) (lines_in p callback.After v))
    (map (callback_line p.names callback.Close v) (lines_in p callback.Close v))

pub returns-in_err-push_callback : goal.returns-in_err-push_callback
returns-in_err-push_callback c = grind (arith, writing, (parts c.args.self.now c.args.name))

pub returns-in_err-push_callback-2 : goal.returns-in_err-push_callback-2
returns-in_err-push_callback-2 c = grind (arith, writing, (parts c.args.self.now c.args.name))

pub returns-in_err-push_callback-3 : goal.returns-in_err-push_callback-3
returns-in_err-push_callback-3 c =
    let s = c.args.self.now in
    let v = c.args.name in
    let old = c.args.text.now.items in
    let front = lines_text (map (callback_line s.names callback.Handle v) (lines_in s callback.Handle v))
    ++ lines_text (map (callback_line s.names callback.After v) (lines_in s callback.After v)) in
    let last = lines_text (map (callback_line s.names callback.Close v) (lines_in s callback.Close v)) in
    let before : c.push_callback-2.new.text.items ≡ old ++ front = grind (arith, append_assoc) in
    let exit = c.from_residual-in_err-push_callback-3 in
    let p = err_from_is_err_and exit.result exit.ensures.1 in
    rw (p.1) (cut_at old front _ last _ c.push_callback-2.new.text.items _ c.in_err-push_callback-3.ensures before (grind arith)
    (subst (Begins (front ++ last)) (parts s v) (begins_itself (front ++ last))))
