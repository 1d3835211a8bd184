-- An arena without slots, and workers that run nothing.
use Rattle.uv_requests.proofs.Names.{◌≡◌, ℕ, zero, suc, Option, Some, None, replicate, slice_get, refl, arith, Id, fresh_image, Request, busy, working, idle_workers, IsWork}
use Rattle.uv_arena.specs.Chains.{list_of, walk}

none_busy : (n : ℕ) → busy (replicate n None) ≡ 0
none_busy zero = refl
none_busy (suc n) = none_busy n

none_runs : (n k : ℕ) (d : Id) → slice_get (replicate n None) k ≡ Some (Some d) → ⊥
none_runs (suc n) (suc k) d e = none_runs n k d e
none_runs each e1 d e = grind arith

module _ {X : Type 0} (read : X → Option Request) (capacity last workers : ℕ) where
  pub fresh_work : IsWork read (working (fresh_image X capacity last) (idle_workers workers))
  unfolding list_of walk
  fresh_work = record {
    waiting = λ x h. absurd h;
    done = λ x h. absurd h;
    yet = λ x h. absurd h;
    listed = λ d h on. cc;
    running = λ k d e. absurd (none_runs workers k d e);
    apart = λ j k d e f. absurd (none_runs workers j d e);
    digests = λ d r e. cc;
    count = let none = none_busy workers in omega (arith, none);
  }
