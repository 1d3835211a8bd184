use Rattle.uv_live.proofs.Names.{◌≡◌, ℕ, [], map, get_or, vec_len}
use Rattle.uv_live.proofs.outside.OwnNames.new.Given as goal

-- there are so many, and none has a name
abbrev pub invariant-empty : goal.invariant-empty
invariant-empty l = record {
  count : vec_len l.lists ≡ l.counter;
  none : (k : ℕ) → get_or (map (λ names. names.items) l.lists.items) k [] ≡ [];
}
