use Rattle.uv_engine.proofs.Names.{rules, append_assoc, writing}
use Rattle.uv_engine.proofs.verdict.Verdict.push_text.Goals as goal

pub returns-in_ok-push_number-in-Differs : goal.returns-in_ok-push_number-in-Differs
returns-in_ok-push_number-in-Differs c = rw c.in-Differs.is (search (rules, writing, append_assoc))
