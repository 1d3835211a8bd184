use Rattle.uv_sections.proofs.Names.{ℕ, Option, Some, sym, ap, ◌∙◌, subst, Place, Poll, deadline_of, Moves, at, image_of, MemoryParts, StandsFor}
use Rattle.uv_ids.specs.declared.seen.Seen.TheVariants as seen
use Rattle.uv_sections.proofs.polling.begin_poll.Goals as goal

pub returns-clause-goes : goal.returns-clause-goes
returns-clause-goes c s h reached =
    let timeout = c.poll_timeout-timeout.ensures.timeout s h reached in
    let deadline = c.deadline_of-deadline.ensures s h reached in (
      at s c.args.run (Poll c.deadline_of-deadline.result),
      rw (c.poll.ensures) (ap (λ (t : Option ℕ). Moves (at s c.args.run (Poll (deadline_of s t))) (Some (seen.Poll t))) timeout
          ∙ ap (λ (d : Option ℕ). Moves (at s c.args.run (Poll d)) (Some (seen.Poll c.poll_timeout-timeout.result))) deadline),
      c.stand_in.ensures.stands _ (subst (λ (m : MemoryParts Place). StandsFor (image_of m) s) (sym c.pass.ensures.passed) h),
    )
