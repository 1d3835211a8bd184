-- Each beginning of a log that follows the pool's rules follows them.
use Rattle.uv_live.proofs.Names.{◌≡◌, ◌∙◌, ℕ, List, [], ◌∷◌, ◌++◌, Option, Some, None, take, drop, length, refl, sym, subst, events_both, take-append-drop, Pool, empty_pool, after_events, IsLegal, PoolEvent, Contents, pool_of, IsReplay}
use Rattle.uv_work.specs.Pool.{replay}

none_after : (es : List PoolEvent) → after_events None es ≡ None
none_after [] = refl
none_after (e ∷ es) = none_after es

-- where a pool is left after the rest, there was one before it
some_before : (o : Option Pool) (es : List PoolEvent) (p : Pool) → after_events o es ≡ Some p → (q : Pool) × (o ≡ Some q)
some_before None es p h = absurd (let e : None ≡ Some p = sym (none_after es) ∙ h in cc)
some_before (Some q) es p h = (q, refl)

legal_front : (workers : ℕ) (xs ys : List PoolEvent) → IsLegal workers (xs ++ ys) → IsLegal workers xs
unfolding replay
legal_front workers xs ys (p, h) =
    some_before (after_events (Some (empty_pool workers)) xs) ys p (sym (events_both (Some (empty_pool workers)) xs ys) ∙ h)

pub legal_take : (workers n : ℕ) (log : List PoolEvent) → IsLegal workers log → IsLegal workers (take n log)
legal_take workers n log h =
    let P : List PoolEvent → Type 0 = λ xs. IsLegal workers xs in
    legal_front workers (take n log) (drop n log) (subst P (sym (take-append-drop n log)) h)

-- the log of a book follows the rules
pub book_legal : (c : Contents) (log : List PoolEvent) → IsReplay c → log ≡ c.log → IsLegal (length c.running) log
book_legal c log h same = let P : List PoolEvent → Type 0 = λ xs. IsLegal (length c.running) xs in subst P (sym same) (pool_of c, h)
