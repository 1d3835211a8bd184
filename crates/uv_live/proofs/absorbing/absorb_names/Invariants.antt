use Rattle.uv_live.proofs.Names.{◌≡◌, true, take, Absorbs, AbsorbsEach}
use Rattle.uv_live.proofs.Absorbed.{CarriedBelow}
use Rattle.uv_live.proofs.absorbing.absorb_names.Given as goal

abbrev pub invariant-names : goal.invariant-names
invariant-names g l = record {
  board : l.seat.board ≡ l.initial.seat.board;
  absorbs : Absorbs l.initial.seat.knows l.seat.knows;
  below : CarriedBelow l.seat.knows l.names l.n;
  plan : g.S.Follower.plan l.session ≡ g.S.Follower.plan l.initial.session;
  polling : g.S.Follower.polling l.session ≡ true;
  records : AbsorbsEach (take l.n l.names) l.initial.seat.knows (g.S.Follower.course l.initial.session) l.seat.knows (g.S.Follower.course l.session);
}
