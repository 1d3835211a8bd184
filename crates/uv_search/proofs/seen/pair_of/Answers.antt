use Rattle.uv_search.proofs.Cutting.{kept_twice}
use Rattle.uv_search.proofs.seen.pair_of.Goals as goal

pub returns-in_err-back-clause-kept : goal.returns-in_err-back-clause-kept
returns-in_err-back-clause-kept c = kept_twice c.args.halves.now c.enter.new.self c.enter-2.new.self c.enter.ensures.kept c.enter-2.ensures.kept

pub returns-clause-kept : goal.returns-clause-kept
returns-clause-kept c = kept_twice c.args.halves.now c.enter.new.self c.enter-2.new.self c.enter.ensures.kept c.enter-2.ensures.kept

pub returns-clause-front : goal.returns-clause-front
returns-clause-front c = c.enter-2.ensures.kept c.in_ok-front.front _ (rw c.split_at.ensures.front at c.in_ok-front.ensures.ok)

pub returns-clause-back : goal.returns-clause-back
returns-clause-back c = rw c.split_at.ensures.back at c.in_ok-back.ensures.ok
