use Rattle.uv_loop.proofs.planning.plan_of.Goals as goal

pub returns-in-Take : goal.returns-in-Take
returns-in-Take c = rw c.in-Take.is (c.take_plan.ensures _)

pub returns-in-Finish : goal.returns-in-Finish
returns-in-Finish c = rw c.in-Finish.is (c.finish_plan.ensures _)

pub returns-in-Cancel : goal.returns-in-Cancel
returns-in-Cancel c = rw c.in-Cancel.is (c.cancel_plan.ensures _)

pub returns-in-Send : goal.returns-in-Send
returns-in-Send c = rw c.in-Send.is (c.send_plan.ensures _)

pub returns-in-Tick : goal.returns-in-Tick
returns-in-Tick c = rw c.in-Tick.is (c.tick_plan.ensures _)
