-- What was written, with what is left, is the number, and there is room for it.
use Rattle.std.proofs.Common.{◌≡◌, ◌+◌, ◌≤◌, ◌++◌, length, vec_len, vec_capacity}
use Rattle.uv_key.specs.Codes.{number_code}
use Rattle.uv_key.proofs.put_long.Given as goal

abbrev pub invariant-loop-rest : goal.invariant-loop-rest
invariant-loop-rest l = record {
  items : l.out.items ++ number_code l.rest ≡ l.initial.out.items ++ number_code l.fn.n;
  few : vec_len l.out + length (number_code l.rest) ≤ vec_len l.initial.out + 10;
  room : vec_capacity l.out ≡ vec_capacity l.initial.out;
}

abbrev pub decreases-loop-rest : goal.decreases-loop-rest
decreases-loop-rest l = l.rest
