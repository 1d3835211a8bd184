use Rattle.uv_inquiry.proofs.Names.{ℕ, ◌+◌, List, Err, arith, ap, subst, err_from_is_err_and, ReadsAsking}
use Rattle.uv_inquiry.proofs.Cuts.{parts_few}
use Rattle.uv_inquiry.proofs.Inquiries.{never_begun, bad_script, bad_asking}
use Rattle.uv_inquiry.proofs.inquiry.Inquiry.parse.Goals as goal

pub returns-in_default : goal.returns-in_default
returns-in_default c = never_begun c.args.input.now c.without_begin.result (rw c.in_default.is at c.cut_begin.ensures.none) c.without_begin.ensures

pub returns-in_err-script : goal.returns-in_err-script
returns-in_err-script c = grind (arith, err_from_is_err_and, bad_script)

pub read_asking-requires : goal.read_asking-requires
read_asking-requires c =
    let few = parts_few (rw c.in-Some.is at c.cut_begin.ensures.some) in
    omega (arith, few, c.line_count.ensures.few)

pub returns-in_err-asking : goal.returns-in_err-asking
returns-in_err-asking c = grind (arith, err_from_is_err_and, bad_asking)
