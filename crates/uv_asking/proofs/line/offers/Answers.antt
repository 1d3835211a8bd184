use Rattle.uv_asking.proofs.Names.{refl}
use Rattle.uv_asking.proofs.line.offers.Goals as goal

pub returns : goal.returns
returns c =
    let names = c.args.names.now in
    rw (c.or-4.ensures, c.or-3.ensures, c.or-2.ensures, c.or.ensures)
    (rw (c.may.ensures, c.may_during.ensures, c.may_wait.ensures names, c.may_differ.ensures names, c.recorded.ensures)
    (rw (c.of.ensures, c.of-2.ensures, c.of-3.ensures, c.of-4.ensures, c.of-5.ensures) refl))
