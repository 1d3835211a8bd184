use Rattle.uv_loop.proofs.acting.act.Goals as goal

pub returns-in-Take-clause-leads : goal.returns-in-Take-clause-leads
returns-in-Take-clause-leads c = rw c.in-Take.is (c.take_work.ensures.leads _)

pub returns-in-Finish-clause-leads : goal.returns-in-Finish-clause-leads
returns-in-Finish-clause-leads c = rw c.in-Finish.is (c.finish_work.ensures.leads _)

pub returns-in-Cancel-clause-leads : goal.returns-in-Cancel-clause-leads
returns-in-Cancel-clause-leads c = rw c.in-Cancel.is (c.cancel_named-answer.ensures.leads _)

pub returns-in-Send-clause-leads : goal.returns-in-Send-clause-leads
returns-in-Send-clause-leads c = rw c.in-Send.is (c.send_to-code.ensures.leads _)

pub returns-in-Tick-clause-leads : goal.returns-in-Tick-clause-leads
returns-in-Tick-clause-leads c = rw c.in-Tick.is (c.go_on.ensures.leads _)
