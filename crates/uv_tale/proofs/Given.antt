-- Requests that workers run.
use Rattle.uv_tale.proofs.Names.{◌≡◌, ℕ, suc, ◌++◌, List, [], ◌∷◌, true, Option, Some, None, arith, slice_get, or_right, Id, same_id, State, has_id, run_ids, IsInSlot}

-- they are told apart by their slots
pub one_in_slot : (s : State) (a b : Id) → a.slot ≡ b.slot → IsInSlot s a → IsInSlot s b → a ≡ b
one_in_slot s a b e h k = grind arith

pub has_at : (ids : List Id) (xs : List (Option Id)) (k : ℕ) (id : Id) → slice_get xs k ≡ Some (Some id) → has_id (ids ++ run_ids xs) id ≡ true
has_at (x ∷ ids) xs k id e = or_right (same_id x id) (has_id (ids ++ run_ids xs) id) (has_at ids xs k id e)
has_at [] (None ∷ xs) (suc k) id e = has_at [] xs k id e
has_at [] (Some x ∷ xs) (suc k) id e = or_right (same_id x id) (has_id (run_ids xs) id) (has_at [] xs k id e)
has_at each e1 e2 id e = grind arith
