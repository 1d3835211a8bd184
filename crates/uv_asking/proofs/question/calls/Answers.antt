use Rattle.uv_asking.proofs.Names.{refl}
use Rattle.uv_asking.proofs.question.calls.Goals as goal

pub returns : goal.returns
returns c =
    rw (c.or-5.ensures, c.or-4.ensures, c.or-3.ensures, c.or-2.ensures, c.or.ensures)
    (rw (c.call.ensures, c.nth_call.ensures, c.late.ensures, c.never.ensures, c.before-2.ensures, c.behind.ensures)
    (rw (c.of.ensures, c.of-2.ensures, c.of-3.ensures, c.of-4.ensures, c.of-5.ensures, c.of-6.ensures) refl))
