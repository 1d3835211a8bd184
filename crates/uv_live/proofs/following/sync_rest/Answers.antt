use Rattle.uv_live.proofs.Names.{◌∙◌, ap, subst, List, Err, get_or, slice_get-get_or, PoolEvent, Queue, Plan, Syncs}
use Rattle.uv_live.proofs.Legal.{book_legal}
use Rattle.uv_live.proofs.Places.{next_legal, may_more, more_taken, some_applied, full_there, never_refused}
use Rattle.uv_live.proofs.following.sync_rest.Goals as goal

-- what stands past the end of a log
abbrev nothing : PoolEvent
nothing = Queue record { slot = 0; generation = 0 }

pub rest-preserved : goal.rest-preserved
rest-preserved g c =
    let log = c.log-log.result.now in
    let within = c.rest-test.true in
    record {
      applied = λ follows.
          let before = c.rest.invariant.applied follows in
          let legal = book_legal c.args.book.now.hold.contents log c.log-log.ensures.replay c.log-log.ensures.log in
          let workers = ap (λ (p : Plan g.F.Follower.Script). p.workers) c.rest.invariant.plan ∙ follows.0 in
          let next = next_legal _ _ log _ _ c.rest.n _ workers legal before.course within in
          record {
            may = may_more log _ c.rest.n _ within (slice_get-get_or log c.rest.n _ within) c.if-not-is_workers.ensures before.may;
            course = more_taken log _ _ _ c.rest.n _ before.may.from within before.course (c.in-Ok.ensures.answer next);
          };
      plan = c.apply.ensures.plan ∙ c.rest.invariant.plan;
      ended = λ before. c.apply.ensures.ended (c.rest.invariant.ended before);
    }

pub returns-in-Err-clause-synced : goal.returns-in-Err-clause-synced
returns-in-Err-clause-synced g c = λ follows.
    let log = c.log-log.result.now in
    let before = c.rest.invariant.applied follows in
    let legal = book_legal c.args.book.now.hold.contents log c.log-log.ensures.replay c.log-log.ensures.log in
    let workers = ap (λ (p : Plan g.F.Follower.Script). p.workers) c.rest.invariant.plan ∙ follows.0 in
    let next = next_legal _ _ log _ _ c.rest.n _ workers legal before.course c.rest-test.true in
    let S : List PoolEvent → Type 0 =
    λ xs. Syncs xs (g.F.Follower.course c.args.session.now) (Err c.in-Err.fault) (g.F.Follower.course c.apply.new.session) in
    subst S c.log-log.ensures.log (some_applied (get_or log c.rest.n nothing) _ _ _ _ _ _ c.rest-test.true before (c.in-Err.ensures.answer next))

pub returns-in-Err-Refused-clause-synced : goal.returns-in-Err-Refused-clause-synced
returns-in-Err-Refused-clause-synced g c = λ follows.
    let log = c.log-log.result.now in
    let before = c.rest.invariant.applied follows in
    let legal = book_legal c.args.book.now.hold.contents log c.log-log.ensures.replay c.log-log.ensures.log in
    let workers = ap (λ (p : Plan g.F.Follower.Script). p.workers) c.rest.invariant.plan ∙ follows.0 in
    let next = next_legal _ _ log _ _ c.rest.n _ workers legal before.course c.rest-test.true in
    absurd (never_refused (get_or log c.rest.n nothing) _ _ _ _ c.in-Err-Refused.field-0-is (c.in-Err-Refused.ensures.answer next))

pub returns-in-Err-clause-full : goal.returns-in-Err-clause-full
returns-in-Err-clause-full g c = λ follows.
    let log = c.log-log.result.now in
    let before = c.rest.invariant.applied follows in
    let legal = book_legal c.args.book.now.hold.contents log c.log-log.ensures.replay c.log-log.ensures.log in
    let workers = ap (λ (p : Plan g.F.Follower.Script). p.workers) c.rest.invariant.plan ∙ follows.0 in
    let next = next_legal _ _ log _ _ c.rest.n _ workers legal before.course c.rest-test.true in
    let most = ap (λ (p : Plan g.F.Follower.Script). g.F.Follower.most p.script) c.rest.invariant.plan in
    full_there (get_or log c.rest.n nothing) _ _ _ _ _ most (c.in-Err.ensures.answer next) c.in-Err.ensures.full
