use Rattle.uv_live.proofs.Names.{◌≡◌, ◌+◌, vec_len}
use Rattle.uv_live.proofs.crew.start_workers.Given as goal

-- so many were started, and none was joined
abbrev pub invariant-workers : goal.invariant-workers
invariant-workers g l = record {
  workers : l.crew.workers ≡ l.initial.crew.workers;
  started : vec_len l.crew.started ≡ l.k;
  answers : vec_len l.crew.answers ≡ vec_len l.initial.crew.answers;
}
