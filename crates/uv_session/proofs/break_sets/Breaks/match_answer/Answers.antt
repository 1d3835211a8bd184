-- An answer that is no code matches no break.
use Rattle.uv_session.proofs.Names.{refl}
use Rattle.uv_ids.specs.declared.code.Answer.TheVariants as answer
use Rattle.uv_session.proofs.Matching.{op_matches_none, cancel_matches_none}
use Rattle.uv_session.proofs.break_sets.Breaks.match_answer.Goals as goal

pub returns-in-Id-clause-op : goal.returns-in-Id-clause-op
returns-in-Id-clause-op c = λ site.
    rw c.in-Id.is (op_matches_none site (answer.Id c.in-Id.field-0) c.args.self.now.listed.items (λ d. refl))

pub returns-in-Id-clause-cancel : goal.returns-in-Id-clause-cancel
returns-in-Id-clause-cancel c = λ name.
    rw c.in-Id.is (cancel_matches_none name (answer.Id c.in-Id.field-0) c.args.self.now.listed.items (λ d. refl))

pub returns-in-Number-clause-op : goal.returns-in-Number-clause-op
returns-in-Number-clause-op c = λ site.
    rw c.in-Number.is (op_matches_none site (answer.Number c.in-Number.field-0) c.args.self.now.listed.items (λ d. refl))

pub returns-in-Number-clause-cancel : goal.returns-in-Number-clause-cancel
returns-in-Number-clause-cancel c = λ name.
    rw c.in-Number.is (cancel_matches_none name (answer.Number c.in-Number.field-0) c.args.self.now.listed.items (λ d. refl))

pub returns-in-Flag-clause-op : goal.returns-in-Flag-clause-op
returns-in-Flag-clause-op c = λ site.
    rw c.in-Flag.is (op_matches_none site (answer.Flag c.in-Flag.field-0) c.args.self.now.listed.items (λ d. refl))

pub returns-in-Flag-clause-cancel : goal.returns-in-Flag-clause-cancel
returns-in-Flag-clause-cancel c = λ name.
    rw c.in-Flag.is (cancel_matches_none name (answer.Flag c.in-Flag.field-0) c.args.self.now.listed.items (λ d. refl))

pub returns-in-Timeout-clause-op : goal.returns-in-Timeout-clause-op
returns-in-Timeout-clause-op c = λ site.
    rw c.in-Timeout.is (op_matches_none site (answer.Timeout c.in-Timeout.field-0) c.args.self.now.listed.items (λ d. refl))

pub returns-in-Timeout-clause-cancel : goal.returns-in-Timeout-clause-cancel
returns-in-Timeout-clause-cancel c = λ name.
    rw c.in-Timeout.is (cancel_matches_none name (answer.Timeout c.in-Timeout.field-0) c.args.self.now.listed.items (λ d. refl))
