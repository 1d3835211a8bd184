use Rattle.uv_live.proofs.Names.{◌≡◌, ◌+◌, ◌≤◌, length, vec_len, vec_capacity, into_iter_items}
use Rattle.uv_live.proofs.crew.join_workers.Given as goal

-- there is room for the answers of those that are left, and each of those that were joined has answered
abbrev pub invariant-left : goal.invariant-left
invariant-left g l = record {
  room : vec_len l.answers + length (into_iter_items l.worker-iterator) ≤ vec_capacity l.answers;
  each : vec_len l.answers + length (into_iter_items l.worker-iterator) ≡ vec_len l.fn.crew.answers + vec_len l.fn.crew.started;
}
