-- What a line is held against.
use Rattle.uv_session.proofs.Matching.{run_matches, end_matches, take_matches, finish_matches, tick_matches}
use Rattle.uv_session.proofs.break_sets.Breaks.match_line.Goals as goal

pub returns-in-Op : goal.returns-in-Op
returns-in-Op c = rw c.in-Op.is (c.match_answer.ensures.op c.in-Op.field-0)

pub returns-in-Run : goal.returns-in-Run
returns-in-Run c = rw c.in-Run.is (run_matches c.in-Run.field-0 c.args.self.now.listed.items)

pub returns-in-After : goal.returns-in-After
returns-in-After c = rw c.in-After.is (c.match_after.ensures c.in-After.field-2)

pub returns-in-End : goal.returns-in-End
returns-in-End c = rw c.in-End.is (end_matches c.in-End.field-0 c.args.self.now.listed.items)

pub returns-in-Take : goal.returns-in-Take
returns-in-Take c = rw c.in-Take.is (take_matches c.in-Take.field-0 c.in-Take.field-1 c.in-Take.field-2 c.args.self.now.listed.items)

pub returns-in-Finish : goal.returns-in-Finish
returns-in-Finish c = rw c.in-Finish.is (finish_matches c.in-Finish.field-0 c.in-Finish.field-1 c.in-Finish.field-2 c.args.self.now.listed.items)

pub returns-in-Cancel : goal.returns-in-Cancel
returns-in-Cancel c = rw c.in-Cancel.is (c.match_answer-in-Cancel.ensures.cancel c.in-Cancel.field-0)

pub returns-in-Tick : goal.returns-in-Tick
returns-in-Tick c = rw c.in-Tick.is (tick_matches c.in-Tick.field-0 c.args.self.now.listed.items)
