use Rattle.uv_inquiry.proofs.Names.{◌+◌, [], ◌∷◌, ap, sym, ◌∙◌, subst, arith, err_from_is_err_and, Draft, unsaid, ReadsAll, none, line_number, lines_step}
use Rattle.std.proofs.Common.{length-append}
use Rattle.uv_inquiry.proofs.Lines.{reads_step, all_read, line_fault}
use Rattle.uv_inquiry.proofs.draft.read_lines.Goals as goal

pub loop-line-init : goal.loop-line-init
loop-line-init c = record {
  can = tt;
  finite = tt;
  read = subst (λ (d : Draft). ReadsAll c.args.names.now unsaid [] d) (sym c.new-draft.ensures) none;
  counted = omega arith;
  rest = c.into_iter-line-iterator.ensures.into_iter_gives ∙ c.of-line-items.ensures;
}

pub overflow_add-number : goal.overflow_add-number
overflow_add-number c =
    let loop = c.loop-line in
    let n = line_number (λ line. line.now) c.args.text.now loop.yielded c.in-Some.line.now loop.line-iterator c.next.new.self loop.invariant.rest
    c.in-Some.ensures.steps in
    omega (arith, loop.invariant.counted, c.requires.few)

pub loop-line-preserved : goal.loop-line-preserved
loop-line-preserved c =
    let loop = c.loop-line in
    record {
      can = tt;
      finite = tt;
      read = reads_step (λ line. line.now) c.args.names.now unsaid loop.draft c.read_line.new.self loop.yielded c.in-Some.line loop.invariant.read
          c.in_ok-read_line.ensures;
      counted = omega (arith, loop.invariant.counted, length-append loop.yielded (c.in-Some.line ∷ []));
      rest = lines_step (λ line. line.now) _ loop.yielded c.in-Some.line loop.line-iterator c.next.new.self loop.invariant.rest
          c.in-Some.ensures.steps;
    }

pub returns : goal.returns
returns c =
    let loop = c.loop-line in
    all_read (λ line. line.now) c.args.names.now c.args.text.now unsaid loop.draft loop.yielded _ loop.invariant.read loop.invariant.rest
    c.in-None.ensures.steps.0

pub returns-in_err-read_line : goal.returns-in_err-read_line
returns-in_err-read_line c =
    let loop = c.loop-line in
    let is = err_from_is_err_and c.from_residual.result c.from_residual.ensures.1 in
    rw (is.1, is.2) (line_fault (λ line. line.now) c.args.names.now c.args.text.now c.args.before (loop.number + 1) loop.draft
    c.read_line.new.self loop.yielded c.in-Some.line loop.line-iterator c.next.new.self c.in_err-read_line.field-0.0
    loop.invariant.read loop.invariant.rest c.in-Some.ensures.steps (ap (λ n. n + 1) loop.invariant.counted) c.in_err-read_line.ensures)
