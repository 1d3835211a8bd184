use Rattle.uv_script.proofs.ProofNames.{drop, sym, ap₂, ◌∙◌, earlier}
use Rattle.uv_script.proofs.Indexed.{first_of_both}
use Rattle.uv_script.proofs.callback_lines.CallbackLines.by_index.Goals as goal

pub returns : goal.returns
returns c =
    c.earlier.ensures ∙ ap₂ earlier c.next_of.ensures c.next_of-2.ensures
    ∙ sym (first_of_both c.args.call c.args.from (drop c.args.from c.args.self.now))
