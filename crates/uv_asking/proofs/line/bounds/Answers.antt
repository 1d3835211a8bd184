use Rattle.uv_asking.proofs.Names.{refl}
use Rattle.uv_asking.proofs.line.bounds.Goals as goal

pub returns : goal.returns
returns c =
    let names = c.args.names.now in
    rw (c.or-5.ensures, c.or-4.ensures, c.or-3.ensures, c.or-2.ensures, c.or.ensures)
    (rw (c.takes.ensures, c.takes_once.ensures, c.most_clock.ensures names, c.most_states.ensures names, c.most_calls.ensures, c.full.ensures names)
    (rw (c.of.ensures, c.of-2.ensures, c.of-3.ensures, c.of-4.ensures, c.of-5.ensures, c.of-6.ensures) refl))
