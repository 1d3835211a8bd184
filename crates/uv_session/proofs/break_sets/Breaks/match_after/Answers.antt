-- An after callback matches a break by its name or by the code that it says.
use Rattle.uv_session.proofs.Names.{◌∙◌, ◌||◌, Bool, ap, list_any, is_of_code}
use Rattle.uv_ids.specs.declared.code.Code.TheVariants as code
use Rattle.uv_session.proofs.Matching.{finished_matches, cancelled_matches}
use Rattle.uv_session.proofs.break_sets.Breaks.match_after.Goals as goal

pub returns-then-is_of_name : goal.returns-then-is_of_name
returns-then-is_of_name c = λ id.
    let bs = c.args.self.now.listed.items in
    rw c.in-Some.is (c.if-is_of_name.true ∙ ap (λ (b : Bool). b || list_any (is_of_code code.Ok) bs) c.if-is_of_name.ensures
    ∙ finished_matches c.in-Some.field-0 c.args.name id bs)

pub returns-else-is_of_name : goal.returns-else-is_of_name
returns-else-is_of_name c = λ id.
    let bs = c.args.self.now.listed.items in
    rw c.in-Some.is (c.match_code.ensures ∙ ap (λ (b : Bool). b || list_any (is_of_code code.Ok) bs) c.if-is_of_name.ensures
    ∙ finished_matches c.in-Some.field-0 c.args.name id bs)

pub returns-then-is_of_name-2 : goal.returns-then-is_of_name-2
returns-then-is_of_name-2 c = λ id.
    let bs = c.args.self.now.listed.items in
    rw c.in-None.is (c.if-is_of_name-2.true ∙ ap (λ (b : Bool). b || list_any (is_of_code code.Ecanceled) bs) c.if-is_of_name-2.ensures
    ∙ cancelled_matches c.args.name id bs)

pub returns-else-is_of_name-2 : goal.returns-else-is_of_name-2
returns-else-is_of_name-2 c = λ id.
    let bs = c.args.self.now.listed.items in
    rw c.in-None.is (c.match_code-else-is_of_name-2.ensures
    ∙ ap (λ (b : Bool). b || list_any (is_of_code code.Ecanceled) bs) c.if-is_of_name-2.ensures
    ∙ cancelled_matches c.args.name id bs)
