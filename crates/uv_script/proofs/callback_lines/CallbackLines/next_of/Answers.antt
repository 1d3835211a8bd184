use Rattle.uv_script.proofs.ProofNames.{List, slice_get, sym, ap, ◌∙◌, subst, CallbackLine, Spot, IsIndex}
use Rattle.uv_script.proofs.Indexed.{first_found, other_found, none_found}
use Rattle.uv_script.proofs.callback_lines.CallbackLines.next_of.Goals as goal

pub returns-in_err-its : goal.returns-in_err-its
returns-in_err-its c =
    let is = subst (λ (lines : List CallbackLine). IsIndex lines c.self.inside.spots) c.self.view_is c.self.invariant in
    c.from_residual.ensures
    ∙ none_found c.args.self.now c.self.inside.spots c.args.call c.args.from c.range.result is c.requires (c.range.ensures.in_range tt)
    c.in_err-its.ensures.steps.0

pub returns-then-eq : goal.returns-then-eq
returns-then-eq c =
    let is = subst (λ (lines : List CallbackLine). IsIndex lines c.self.inside.spots) c.self.view_is c.self.invariant in
    first_found c.args.self.now c.self.inside.spots c.args.call c.args.from c.range.result is c.requires (c.range.ensures.in_range tt)
    c.in_ok-its.field-0.now (ap (λ (spots : List Spot). slice_get spots 0) c.in_ok-its.ensures.steps) (sym c.eq.ensures ∙ c.if-eq.true)

pub returns-else-eq : goal.returns-else-eq
returns-else-eq c =
    let is = subst (λ (lines : List CallbackLine). IsIndex lines c.self.inside.spots) c.self.view_is c.self.invariant in
    other_found c.args.self.now c.self.inside.spots c.args.call c.args.from c.range.result is c.requires (c.range.ensures.in_range tt)
    c.in_ok-its.field-0.now (ap (λ (spots : List Spot). slice_get spots 0) c.in_ok-its.ensures.steps) (sym c.eq.ensures ∙ c.if-eq.false)
