use Rattle.uv_text.proofs.Names.{◌≡◌, ◌++◌, ap, ◌∙◌, arith, parts_from, err_from_is_err_and}
use Rattle.uv_text.specs.Parts.{in_parts}
use Rattle.uv_text.proofs.Pieces.{one_more}
use Rattle.uv_text.proofs.Wholes.{parts_more}
use Rattle.uv_text.proofs.Cuts.{turn_cut}
use Rattle.uv_text.proofs.parts.push_parts.Goals as goal

pub loop-number-preserved : goal.loop-number-preserved
loop-number-preserved g c =
    let part = g.P.Parts.part c.args.parts.now in
    let n = c.loop-number.number in
    c.in_ok-push_part.ensures
    ∙ one_more (parts_from part 0) n c.args.text.now.items c.loop-number.text.items _ (parts_more part n) c.loop-number.invariant

pub returns : goal.returns
unfolding in_parts
returns g c =
    let part = g.P.Parts.part c.args.parts.now in
    let all : c.loop-number.number ≡ g.P.Parts.parts c.args.parts.now = omega (arith, c.loop-number-test.false, c.part_count-number-end.ensures) in
    c.loop-number.invariant ∙ ap (λ n. c.args.text.now.items ++ parts_from part 0 n) all

pub returns-in_err-push_part : goal.returns-in_err-push_part
unfolding in_parts
returns-in_err-push_part g c =
    let part = g.P.Parts.part c.args.parts.now in
    let exit = c.from_residual in
    let q = err_from_is_err_and exit.result exit.ensures.1 in
    rw (q.1) (turn_cut (parts_from part 0) part (g.P.Parts.parts c.args.parts.now) c.loop-number.number c.args.text.now.items
    c.loop-number.text.items _ (λ n l. parts_more part n) (omega (arith, c.loop-number-test.true, c.part_count-number-end.ensures))
    c.loop-number.invariant c.in_err-push_part.ensures)
