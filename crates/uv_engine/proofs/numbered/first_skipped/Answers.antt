use Rattle.uv_engine.proofs.Names.{◌+◌, [], ◌∷◌, ap, sym, ◌∙◌, arith, length-append, both_ways, line_number, lines_step, is_skipped_decides}
use Rattle.uv_engine.proofs.Recordings.{none_step, skipped_here}
use Rattle.uv_engine.proofs.numbered.first_skipped.Goals as goal

pub loop-line-init : goal.loop-line-init
loop-line-init c = grind arith

pub overflow_add-number : goal.overflow_add-number
overflow_add-number c =
    let loop = c.loop-line in
    let n = line_number (λ line. line.now) c.args.text.now loop.yielded c.in-Some.line.now loop.line-iterator c.next.new.self loop.invariant.rest
    c.in-Some.ensures.steps in
    omega (arith, loop.invariant.counted)

pub returns-then-is_skipped-clause-found : goal.returns-then-is_skipped-clause-found
returns-then-is_skipped-clause-found c =
    let loop = c.loop-line in
    skipped_here (λ line. line.now) _ (loop.number + 1) loop.yielded c.in-Some.line loop.line-iterator c.next.new.self loop.invariant.say
    loop.invariant.rest c.in-Some.ensures.steps (ap (λ n. n + 1) loop.invariant.counted)
    ((is_skipped_decides c.in-Some.line.now).0 (sym c.if-is_skipped.ensures.test))

pub returns-then-is_skipped-clause-few : goal.returns-then-is_skipped-clause-few
returns-then-is_skipped-clause-few c =
    let loop = c.loop-line in
    let n = line_number (λ line. line.now) c.args.text.now loop.yielded c.in-Some.line.now loop.line-iterator c.next.new.self loop.invariant.rest
    c.in-Some.ensures.steps in
    omega (arith, loop.invariant.counted)

pub loop-line-preserved : goal.loop-line-preserved
loop-line-preserved c =
    let loop = c.loop-line in
    let line = c.in-Some.line in
    record {
      can = tt;
      finite = tt;
      say = grind (arith, none_step, both_ways, is_skipped_decides);
      counted = ap (λ n. n + 1) loop.invariant.counted ∙ sym (length-append loop.yielded (line ∷ []));
      rest = lines_step (λ line. line.now) _ loop.yielded line loop.line-iterator c.next.new.self loop.invariant.rest c.in-Some.ensures.steps;
    }
