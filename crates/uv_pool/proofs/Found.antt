-- What the place of a request says of the pool.
use Rattle.uv_pool.proofs.Names.{◌+◌, ◌<◌, ◌≤◌, ◌⊎◌, length, ◌≡◌, ◌-◌, ◌||◌, ℕ, zero, suc, List, [], ◌∷◌, Bool, true, false, Option, Some, None, cond, map, set, slice_get, inl, inr, refl, ap, sym, ◌∙◌, arith, or_right, list_any, Id, same_id, Pool, Done, has, waits, runs, is_done, is_run, Job, same_itself, same_when, id_run, jobs_without, member, result_in, MatchOption, IsKept, Finds, contents_of, rows_of, place_of, Held, jobs_of, Rows, at_number, id_of_job, id_of_done, id_at, IsNowhere, IsIndexed, Collected, Place}
use Rattle.uv_pool.specs.declared.places.Place.TheVariants as place
use Rattle.uv_pool.proofs.Numbers.{number_front, number_popped, number_rest, number_nothing, number_within, from_first}
use Rattle.uv_pool.proofs.Standing.{same_place}

-- the pool of the rows
abbrev pub pool_in : Rows → Pool
pool_in r = record { waiting = map (λ (job : Job). job.req) (jobs_of r.waiting); running = map id_run r.running; done = map member r.done }

abbrev pub job_is : Id → Option Job → Bool
job_is id o = is_run (id_run o) id

abbrev pub done_is : Id → Collected → Bool
done_is id c = same_id c.id id

any_none : {X : Type 0} (t : X → Bool) (first : ℕ) (xs : List X) → ((n : ℕ) (x : X) → at_number first xs n ≡ Some x → t x ≡ true → ⊥)
    → list_any t xs ≡ false
any_none t first [] h = refl
any_none t first (x ∷ xs) h = at (t x) refl (any_none t (suc first) xs (λ n y e k. h n y (number_popped first x xs n y e).0 k)) where
  at : (b : Bool) → t x ≡ b → list_any t xs ≡ false → (b || list_any t xs) ≡ false
  at true e more = absurd (h first x (number_front first x xs) e)
  at false e more = more

any_some : {X : Type 0} (t : X → Bool) (first : ℕ) (xs : List X) (n : ℕ) (x : X) → at_number first xs n ≡ Some x → t x ≡ true → list_any t xs ≡ true
any_some t first [] n x h k = absurd (number_nothing first n x h)
any_some t first (y ∷ xs) n x h k = at (t y) refl (number_rest first y xs n x h) (λ s. any_some t (suc first) xs n x s k) where
  at : (b : Bool) → t y ≡ b → ((n ≡ first) × (y ≡ x)) ⊎ (at_number (suc first) xs n ≡ Some x)
      → (at_number (suc first) xs n ≡ Some x → list_any t xs ≡ true) → (b || list_any t xs) ≡ true
  at b e e2 more = grind arith

wait_any : (xs : List (Option Job)) (id : Id) → waits (map (λ (job : Job). job.req) (jobs_of xs)) id ≡ list_any (job_is id) xs
wait_any [] id = refl
wait_any (None ∷ xs) id = wait_any xs id
wait_any (Some job ∷ xs) id = ap (λ b. same_id job.req id || b) (wait_any xs id)

any_mapped : {X Y : Type 0} (t : Y → Bool) (f : X → Y) (xs : List X) → list_any t (map f xs) ≡ list_any (λ x. t (f x)) xs
any_mapped t f [] = refl
any_mapped t f (x ∷ xs) = ap (λ b. t (f x) || b) (any_mapped t f xs)

run_any : (xs : List (Option Job)) (id : Id) → runs (map id_run xs) id ≡ list_any (job_is id) xs
run_any xs id = any_mapped (λ (x : Option Id). is_run x id) id_run xs

done_any : (xs : List Collected) (id : Id) → is_done (map member xs) id ≡ list_any (done_is id) xs
done_any xs id = any_mapped (λ (x : Done). same_id x.id id) member xs

-- the tests, by the id that stands there
job_id : (o : Option Job) (id : Id) → job_is id o ≡ true → id_of_job (Some o) ≡ Some id
job_id o id h = grind arith

job_test : (o : Option (Option Job)) (id : Id) → id_of_job o ≡ Some id → (w : Option Job) × (o ≡ Some w) × (job_is id w ≡ true)
job_test o id h = grind arith

-- a request that stands nowhere isn't in the pool
waits_none : (r : Rows) (id : Id) → ((n : ℕ) → id_at r (place.Waiting n) ≡ Some id → ⊥) → waits (pool_in r).waiting id ≡ false
waits_none r id h =
    wait_any r.waiting id ∙ any_none (job_is id) r.first r.waiting (λ n o e k. h n (ap id_of_job e ∙ job_id o id k))

runs_none : (r : Rows) (id : Id) → ((k : ℕ) → id_at r (place.Running k) ≡ Some id → ⊥) → runs (pool_in r).running id ≡ false
runs_none r id h =
    run_any r.running id ∙ any_none (job_is id) 0 r.running (λ n o e k. h n (ap id_of_job e ∙ job_id o id k))

pub not_done : (r : Rows) (id : Id) → ((n : ℕ) → id_at r (place.Done n) ≡ Some id → ⊥) → list_any (done_is id) r.done ≡ false
not_done r id h =
    any_none (done_is id) r.collected r.done (λ n c e k. h n (ap id_of_done e ∙ ap (λ (x : Id). Some x) (same_when c.id id k)))

pub nowhere_has : (r : Rows) (id : Id) → IsNowhere r id → has (pool_in r) id ≡ false
nowhere_has r id h = simp (waits_none, runs_none, done_any, not_done)

-- one that stands somewhere is in it
pub waits_there : (r : Rows) (n : ℕ) (id : Id) → id_at r (place.Waiting n) ≡ Some id → waits (pool_in r).waiting id ≡ true
waits_there r n id h =
    let t = job_test (at_number r.first r.waiting n) id h in
    wait_any r.waiting id ∙ any_some (job_is id) r.first r.waiting n t.0 t.1 t.2

pub has_there : (r : Rows) (p : Place) (id : Id) → id_at r p ≡ Some id → has (pool_in r) id ≡ true
has_there r (place.Running k) id h =
    let t = job_test (slice_get r.running k) id h in
    let e : runs (pool_in r).running id ≡ true = run_any r.running id ∙ any_some (job_is id) 0 r.running k t.0 t.1 t.2 in
    or_right (waits (pool_in r).waiting id) (runs (pool_in r).running id || is_done (pool_in r).done id) (rw e refl)
has_there r each id h = grind (arith, waits_there, job_test, run_any, any_some, or_right, done_any)

-- one that stands elsewhere doesn't wait
pub elsewhere_waits : (r : Rows) (at : Id → Option Place) (p : Place) (id : Id) → IsIndexed r at → id_at r p ≡ Some id
    → ((n : ℕ) → p ≡ place.Waiting n → ⊥) → waits (pool_in r).waiting id ≡ false
elsewhere_waits r at p id i there not =
    waits_none r id (λ n k. not n (same_place at id p (place.Waiting n) (i.stands p id there) (i.stands (place.Waiting n) id k)))

-- its result is that of its place
result_at : (first : ℕ) (xs : List Collected) (n : ℕ) (c : Collected) (id : Id) → at_number first xs n ≡ Some c → done_is id c ≡ true
    → ((m : ℕ) (d : Collected) → at_number first xs m ≡ Some d → done_is id d ≡ true → m ≡ n) → result_in xs id ≡ c.result
result_at first [] n c id h k one = absurd (number_nothing first n c h)
result_at first (x ∷ xs) n c id h k one = at (same_id x.id id) refl (number_rest first x xs n c h)
    (λ s. result_at (suc first) xs n c id s k (λ m d t u. one m d (number_popped first x xs m d t).0 u)) where
      at : (b : Bool) → same_id x.id id ≡ b → ((n ≡ first) × (x ≡ c)) ⊎ (at_number (suc first) xs n ≡ Some c)
          → (at_number (suc first) xs n ≡ Some c → result_in xs id ≡ c.result) → cond b x.result (result_in xs id) ≡ c.result
      at true e (inl s) more = ap (λ (d : Collected). d.result) s.1
      at true e (inr s) more =
          let m : first ≡ n = one first x (number_front first x xs) e in
          absurd ((number_popped first x xs n c s).1 (sym m))
      at false e (inl s) more = cc
      at false e (inr s) more = more s

pub result_there : (r : Rows) (at : Id → Option Place) (n : ℕ) (c : Collected) (id : Id) → IsIndexed r at
    → at_number r.collected r.done n ≡ Some c → c.id ≡ id → result_in r.done id ≡ c.result
result_there r at n c id i there same =
    let yes : done_is id c ≡ true = ap (λ (x : Id). same_id c.id x) (sym same) ∙ same_itself c.id in
    let known = λ (m : ℕ) (d : Collected) (t : at_number r.collected r.done m ≡ Some d) (u : done_is id d ≡ true). i.stands (place.Done m) id
    (ap id_of_done t ∙ ap (λ (x : Id). Some x) (same_when d.id id u)) in
    result_at r.collected r.done n c id there yes (λ m d t u. grind arith)

pub no_result : (xs : List Collected) (id : Id) → list_any (done_is id) xs ≡ false → result_in xs id ≡ None
no_result [] id h = refl
no_result (c ∷ xs) id h = at (same_id c.id id) h (λ k. no_result xs id k) where
  at : (b : Bool) → (b || list_any (done_is id) xs) ≡ false → (list_any (done_is id) xs ≡ false → result_in xs id ≡ None)
      → cond b c.result (result_in xs id) ≡ None
  at b k more = grind arith

pub result_nowhere : (r : Rows) (id : Id) → ((n : ℕ) → id_at r (place.Done n) ≡ Some id → ⊥) → result_in r.done id ≡ None
result_nowhere r id h = no_result r.done id (not_done r id h)

-- those that wait, without the one of a place
jobs_removed : (xs : List (Option Job)) (i : ℕ) (id : Id) → id_of_job (slice_get xs i) ≡ Some id
    → ((j : ℕ) → id_of_job (slice_get xs j) ≡ Some id → j ≡ i) → jobs_of (set xs i None) ≡ jobs_without (jobs_of xs) id
jobs_removed (None ∷ xs) (suc i) id h one = jobs_removed xs i id h (λ j k. let e : suc j ≡ suc i = one (suc j) k in omega (arith, e))
jobs_removed (Some job ∷ xs) (suc i) id h one = at (same_id job.req id) refl
    (jobs_removed xs i id h (λ j k. let f : suc j ≡ suc i = one (suc j) k in omega (arith, f))) where
      at : (b : Bool) → same_id job.req id ≡ b → jobs_of (set xs i None) ≡ jobs_without (jobs_of xs) id
          → job ∷ jobs_of (set xs i None) ≡ cond b (jobs_of xs) (job ∷ jobs_without (jobs_of xs) id)
      at true e more = absurd (let z : zero ≡ suc i = one zero (ap (λ (x : Id). Some x) (same_when job.req id e)) in omega (arith, z))
      at false e more = ap (λ (js : List Job). job ∷ js) more
jobs_removed each e1 id h one = grind arith

pub removed : (r : Rows) (at : Id → Option Place) (n : ℕ) (id : Id) → IsIndexed r at → id_at r (place.Waiting n) ≡ Some id
    → jobs_of (set r.waiting (n - r.first) None) ≡ jobs_without (jobs_of r.waiting) id
removed r at n id i there =
    let t = job_test (at_number r.first r.waiting n) id there in
    let low = (number_within r.first r.waiting n t.0 t.1).0 in
    let here : id_of_job (slice_get r.waiting (n - r.first)) ≡ Some id = ap id_of_job (sym (from_first r.first r.waiting n low)) ∙ there in
    jobs_removed r.waiting (n - r.first) id here (λ j k. index j k low) where
      index : (j : ℕ) → id_of_job (slice_get r.waiting j) ≡ Some id → r.first ≤ n → j ≡ n - r.first
      index j k low =
          let back : j ≡ (r.first + j) - r.first = omega arith in
          let number : at_number r.first r.waiting (r.first + j) ≡ slice_get r.waiting j = from_first r.first r.waiting (r.first + j)
          (omega arith) ∙ ap (λ m. slice_get r.waiting m) (sym back) in
          let e : place.Waiting (r.first + j) ≡ place.Waiting n = same_place at id (place.Waiting (r.first + j)) (place.Waiting n)
          (i.stands (place.Waiting (r.first + j)) id (ap id_of_job number ∙ k)) (i.stands (place.Waiting n) id there) in
          let same : r.first + j ≡ n = cc in
          omega (arith, same)

pub waits_within : (r : Rows) (n : ℕ) (id : Id) → id_at r (place.Waiting n) ≡ Some id → (r.first ≤ n) × (n < r.first + length r.waiting)
waits_within r n id h = let t = job_test (at_number r.first r.waiting n) id h in number_within r.first r.waiting n t.0 t.1

pub finds : (h : Held) (p : Option Place) (id : Id) → IsKept h → MatchOption p (IsNowhere (rows_of h) id) (λ q. id_at (rows_of h) q ≡ Some id)
    → Finds (contents_of h) id p
finds h None id k there = (nowhere_has (rows_of h) id there, result_nowhere (rows_of h) id (λ n. there (place.Done n)))
finds h (Some (place.Waiting n)) id k there =
    let r : Rows = rows_of h in (
      has_there r (place.Waiting n) id there,
      waits_there r n id there,
      result_nowhere r id (λ m e. let f : place.Waiting n ≡ place.Done m = same_place (place_of h) id (place.Waiting n) (place.Done m)
          (k.indexed.stands (place.Waiting n) id there) (k.indexed.stands (place.Done m) id e) in cc),
    )
finds h (Some (place.Running j)) id k there =
    let r : Rows = rows_of h in (
      has_there r (place.Running j) id there,
      elsewhere_waits r (place_of h) (place.Running j) id k.indexed there (λ n e. let f : place.Running j ≡ place.Waiting n = e in cc),
      result_nowhere r id (λ m e. let f : place.Running j ≡ place.Done m = same_place (place_of h) id (place.Running j) (place.Done m)
          (k.indexed.stands (place.Running j) id there) (k.indexed.stands (place.Done m) id e) in cc),
    )
finds h (Some (place.Done n)) id k there =
    let r : Rows = rows_of h in (
      has_there r (place.Done n) id there,
      elsewhere_waits r (place_of h) (place.Done n) id k.indexed there
          (λ m e. let f : place.Done n ≡ place.Waiting m = e in cc),
    )
