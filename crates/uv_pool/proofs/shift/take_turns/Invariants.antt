use Rattle.uv_pool.proofs.Names.{◌≡◌, TellsOf}
use Rattle.uv_pool.proofs.Turns.{Turned}
use Rattle.uv_pool.proofs.shift.take_turns.Given as goal

abbrev pub invariant-turns : goal.invariant-turns
invariant-turns g l = record {
  parts : l.share.parts ≡ 1;
  worker : l.teller.worker ≡ l.k;
  turned : Turned l.k l.share.amount l.events.items (g.B.Bench.answered l.initial.bench) (g.B.Bench.answered l.bench);
  told : TellsOf g.G.Gate.begins g.G.Gate.ends (g.B.Bench.answered l.initial.bench) (g.B.Bench.answered l.bench) l.initial.teller.gate l.teller.gate;
}
