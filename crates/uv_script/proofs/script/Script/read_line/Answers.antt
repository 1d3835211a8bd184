use Rattle.uv_script.proofs.ProofNames.{ap, sym, ◌∙◌, fields_of, said}
use Rattle.uv_script.specs.Reading.{statement_of}
use Rattle.uv_script.proofs.Agrees.{statement_sound}
use Rattle.uv_script.proofs.AfterLines.{may_sound}
use Rattle.uv_script.proofs.Checks.{is_line_decides}
use Rattle.uv_script.proofs.script.Script.read_line.Goals as goal

pub add-requires-clause-said : goal.add-requires-clause-said
add-requires-clause-said c =
    let line = c.args.line.now in
    let fields = fields_of line in
    let read = ap (λ names. statement_of names fields) (sym c.names.ensures.names) ∙ sym c.in-Some.ensures in
    record {
      line = line;
      is = (is_line_decides line).0 (sym c.if-not-is_line.ensures.test);
      says = statement_sound c.args.self.now.names fields (said c.in-Some.statement) read;
      may = may_sound c.args.self.now (said c.in-Some.statement) (sym c.if-not-may_make.ensures);
    }
