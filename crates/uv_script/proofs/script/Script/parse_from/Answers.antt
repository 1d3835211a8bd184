use Rattle.uv_script.proofs.ProofNames.{◌+◌, [], ◌∷◌, refl, ap, sym, ◌∙◌, subst, arith, length-append, Draft, ReadsAll, none, blank, Program, err_from_is_err_and}
use Rattle.uv_script.proofs.AfterLines.{distinct_none, line_number, lines_step, reads_step, all_read, line_fault}
use Rattle.uv_script.proofs.script.Script.parse_from.Goals as goal

pub loop-line-init : goal.loop-line-init
loop-line-init c = record {
  can = tt;
  finite = tt;
  read = subst (λ (p : Program). ReadsAll (record { program = blank; said = c.args.said }) [] (record { program = p; said = c.args.said }))
      (sym c.blank-script.ensures) none;
  counted = refl;
  rest = c.into_iter-line-iterator.ensures.into_iter_gives ∙ c.of-line-items.ensures;
}

pub overflow_add-number : goal.overflow_add-number
overflow_add-number c =
    let loop = c.loop-line in
    let n = line_number (λ line. line.now) c.args.text.now loop.yielded c.in-Some.line.now loop.line-iterator c.next.new.self loop.invariant.rest
    c.in-Some.ensures.steps in
    omega (arith, loop.invariant.counted)

pub loop-line-preserved : goal.loop-line-preserved
loop-line-preserved c =
    let loop = c.loop-line in
    let start : Draft = record { program = blank; said = c.args.said } in
    let before : Draft = record { program = loop.script; said = loop.settings } in
    let after : Draft = record { program = c.read_line.new.self; said = c.read_line.new.settings } in
    record {
      can = tt;
      finite = tt;
      read = reads_step (λ line. line.now) start before after loop.yielded c.in-Some.line loop.invariant.read c.in_ok-read_line.ensures;
      counted = ap (λ n. n + 1) loop.invariant.counted ∙ sym (length-append loop.yielded (c.in-Some.line ∷ []));
      rest = lines_step (λ line. line.now) _ loop.yielded c.in-Some.line loop.line-iterator c.next.new.self loop.invariant.rest
          c.in-Some.ensures.steps;
    }

pub returns : goal.returns
returns c =
    let loop = c.loop-line in
    let start : Draft = record { program = blank; said = c.args.said } in
    let d : Draft = record { program = loop.script; said = loop.settings } in
    record {
      said = loop.settings;
      read = all_read (λ line. line.now) c.args.text.now start d loop.yielded _ loop.invariant.read loop.invariant.rest c.in-None.ensures.steps.0;
    }

pub returns-in_err-read_line : goal.returns-in_err-read_line
returns-in_err-read_line c =
    let loop = c.loop-line in
    let start : Draft = record { program = blank; said = c.args.said } in
    let before : Draft = record { program = loop.script; said = loop.settings } in
    let after : Draft = record { program = c.read_line.new.self; said = c.read_line.new.settings } in
    let p = err_from_is_err_and c.from_residual.result c.from_residual.ensures.1 in
    rw (p.1, p.2) (line_fault (λ line. line.now) c.args.text.now
    (loop.number + 1) start before after loop.yielded c.in-Some.line loop.line-iterator c.next.new.self c.in_err-read_line.field-0.0
    distinct_none loop.invariant.read loop.invariant.rest c.in-Some.ensures.steps (ap (λ n. n + 1) loop.invariant.counted) c.in_err-read_line.ensures)
