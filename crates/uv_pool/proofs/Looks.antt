-- A look at the log past its first entries.
use Rattle.uv_pool.proofs.Names.{◌≡◌, ◌≤◌, ◌<◌, ℕ, List, Some, false, slice_get, PoolEvent, is_finish}

-- no finish stands from the n-th entry on and before this place
abbrev pub NoneFinished : ℕ → ℕ → List PoolEvent → Type 0
NoneFinished n end log = (k : ℕ) (e : PoolEvent) → n ≤ k → k < end → slice_get log k ≡ Some e → is_finish e ≡ false
