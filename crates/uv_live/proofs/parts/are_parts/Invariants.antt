use Rattle.uv_live.proofs.Names.{◌≡◌, ◌↔◌, length, drop, map, worked, AreLeft, AreParts}
use Rattle.uv_live.proofs.parts.are_parts.Given as goal

-- what is left of the shifts is what is left of the log, just where they are its parts
abbrev pub invariant-entries : goal.invariant-entries
invariant-entries g l = record {
  long : length l.met ≡ 1024;
  left : AreLeft (map (λ s. worked s.worker s.events.items s.share.amount) l.shifts) l.met (drop l.n l.log)
      ↔ AreParts l.log (map (λ s. worked s.worker s.events.items s.share.amount) l.shifts);
}
