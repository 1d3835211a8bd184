use Rattle.uv_engine.proofs.Names.{[], ◌∙◌, arith, err_from_is_err_and}
use Rattle.uv_engine.proofs.Gathers.{gathered_more, gathered_by, cut_here, cut_by, first_part, part_next}
use Rattle.uv_engine.proofs.showing.show_parts.Goals as goal

pub loop-number-init : goal.loop-number-init
loop-number-init g c = search first_part

pub returns-in_err-push_part-clause-text : goal.returns-in_err-push_part-clause-text
returns-in_err-push_part-clause-text g c = grind (arith, err_from_is_err_and, cut_here)

pub returns-in_err-spill-clause-text : goal.returns-in_err-spill-clause-text
returns-in_err-spill-clause-text g c = λ tells.
    let before = part_next (g.P.Parts.part c.args.parts.now) (g.P.Parts.parts c.args.parts.now) c.loop-number.number
    (omega (arith, c.loop-number-test.true, c.part_count-number-end.ensures)) (c.loop-number.invariant.text tells) in
    rw ((err_from_is_err_and c.from_residual-in_err-spill.result c.from_residual-in_err-spill.ensures.1).1)
    (cut_by [] _ (gathered_more _ before c.in_ok-push_part.ensures) (c.in_err-spill.ensures.text tells))

pub loop-number-preserved : goal.loop-number-preserved
loop-number-preserved g c = record {
  text = λ tells.
      let before = part_next (g.P.Parts.part c.args.parts.now) (g.P.Parts.parts c.args.parts.now) c.loop-number.number
      (omega (arith, c.loop-number-test.true, c.part_count-number-end.ensures)) (c.loop-number.invariant.text tells) in
      gathered_by [] (gathered_more _ before c.in_ok-push_part.ensures) (c.in_ok-spill.ensures.text tells);
  few = λ less. c.in_ok-spill.ensures.few;
  none_failed = c.in_ok-spill.ensures.writer ∙ c.loop-number.invariant.none_failed;
}
