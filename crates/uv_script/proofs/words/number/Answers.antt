use Rattle.uv_script.proofs.ProofNames.{ℕ, sym}
use Rattle.uv_script.proofs.Checks.{number_of-exact, no_number_front, no_number_text, no_number_parse, number_parse}
use Rattle.uv_script.proofs.words.number.Goals as goal

pub returns-then-not-is_canonical-clause-none : goal.returns-then-not-is_canonical-clause-none
returns-then-not-is_canonical-clause-none c = no_number_front c.args.field.now (sym c.if-not-is_canonical.ensures)

pub returns-then-not-is_canonical-clause-value : goal.returns-then-not-is_canonical-clause-value
returns-then-not-is_canonical-clause-value c = search (number_of-exact, returns-then-not-is_canonical-clause-none)

pub returns-in_default-clause-none : goal.returns-in_default-clause-none
returns-in_default-clause-none c = no_number_text c.args.field.now c.in_default.ensures.cases.0

pub returns-in_default-clause-value : goal.returns-in_default-clause-value
returns-in_default-clause-value c = search (number_of-exact, returns-in_default-clause-none)

pub returns-in_default-parse-clause-none : goal.returns-in_default-parse-clause-none
returns-in_default-parse-clause-none c =
    no_number_parse c.args.field.now c.in_default-parse.field-0 (rw c.in-Ok.ensures.cases.0 at c.in_default-parse.ensures.value.0)

pub returns-in_default-parse-clause-value : goal.returns-in_default-parse-clause-value
returns-in_default-parse-clause-value c = search (number_of-exact, returns-in_default-parse-clause-none)

pub returns-clause-some : goal.returns-clause-some
returns-clause-some c =
    number_parse ℕ c.args.field.now c.in-Ok-parse.number (sym c.if-not-is_canonical.ensures)
    (rw c.in-Ok.ensures.cases.0 at c.in-Ok-parse.ensures.value.0)

pub returns-clause-value : goal.returns-clause-value
returns-clause-value c = search (number_of-exact, returns-clause-some)
