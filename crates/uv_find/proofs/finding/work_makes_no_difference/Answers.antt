use Rattle.uv_find.proofs.SameOrders as orders
use Rattle.uv_find.proofs.finding.work_makes_no_difference.Goals as goal

pub returns-clause-answers : goal.returns-clause-answers
returns-clause-answers c = λ p a q es t differ. orders.answers_stand c.work_is_free.ensures.steps c.work_is_free.ensures.begins p a q differ es t

pub returns-clause-never : goal.returns-clause-never
returns-clause-never c = λ p a q differ. orders.never_stands c.work_is_free.ensures.steps c.work_is_free.ensures.begins p a q differ

pub returns-clause-depth : goal.returns-clause-depth
returns-clause-depth c = λ p a q differ. orders.depth_stands c.work_is_free.ensures.steps c.work_is_free.ensures.begins p a q differ
