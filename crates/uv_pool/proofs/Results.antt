-- The results after a change of those that are done.
use Rattle.uv_pool.proofs.Names.{◌≡◌, ◌||◌, ℕ, suc, List, [], ◌∷◌, ◌++◌, Bool, true, false, Option, Some, None, cond, slice_get, refl, ap, sym, ◌∙◌, list_any, Id, same_id, WorkResult, same_itself, same_when, result_in, Rows, id_of_job, id_at, IsIndexed, Collected, Place}
use Rattle.uv_pool.specs.declared.places.Place.TheVariants as place
use Rattle.uv_pool.proofs.Standing.{same_place, collect_leaves}
use Rattle.uv_pool.proofs.Found.{done_is, not_done, result_nowhere}

-- a member more at the end is found where no other one of its id is there
added_found : (xs : List Collected) (c : Collected) (id : Id) → list_any (done_is id) xs ≡ false → result_in (xs ++ c ∷ []) id ≡ result_in (c ∷ []) id
added_found [] c id h = refl
added_found (x ∷ xs) c id h = at (same_id x.id id) h (λ k. added_found xs c id k) where
  at : (b : Bool) → (b || list_any (done_is id) xs) ≡ false → (list_any (done_is id) xs ≡ false
      → result_in (xs ++ c ∷ []) id ≡ result_in (c ∷ []) id) → cond b x.result (result_in (xs ++ c ∷ []) id) ≡ result_in (c ∷ []) id
  at true k more = absurd (cc k)
  at false k more = more k

-- it changes nothing for another request, nor where it has no result
added_other : (xs : List Collected) (c : Collected) (id : Id) → same_id c.id id ≡ false → result_in (xs ++ c ∷ []) id ≡ result_in xs id
added_other [] c id h = ap (λ b. cond b c.result None) h
added_other (x ∷ xs) c id h = ap (λ (r : Option WorkResult). cond (same_id x.id id) x.result r) (added_other xs c id h)

cond_none : (b : Bool) (r : Option WorkResult) → r ≡ None → cond b r None ≡ None
cond_none true r h = h
cond_none false r h = refl

pub added_none : (xs : List Collected) (c : Collected) → c.result ≡ None → (id : Id) → result_in (xs ++ c ∷ []) id ≡ result_in xs id
added_none [] c h id = cond_none (same_id c.id id) c.result h
added_none (x ∷ xs) c h id = ap (λ (r : Option WorkResult). cond (same_id x.id id) x.result r) (added_none xs c h id)

-- what a worker ran has its result now
pub finish_sets : (r : Rows) (at : Id → Option Place) (k : ℕ) (work : WorkResult) → IsIndexed r at → slice_get r.running k ≡ Some (Some work.job)
    → (other : Id) → result_in (r.done ++ record { id = work.job.req; result = Some work } ∷ []) other ≡ cond (same_id work.job.req other)
    (Some work) (result_in r.done other)
finish_sets r at k work i runs other = by_id (same_id work.job.req other) refl where
  there : id_at r (place.Running k) ≡ Some work.job.req
  there = ap id_of_job runs

  by_id : (b : Bool) → same_id work.job.req other ≡ b → result_in (r.done ++ record { id = work.job.req; result = Some work } ∷ []) other ≡ cond
      b (Some work) (result_in r.done other)
  by_id true e =
      let same : work.job.req ≡ other = same_when work.job.req other e in
      let absent : list_any (done_is other) r.done ≡ false = not_done r other
      (λ n h. let p : place.Running k ≡ place.Done n = same_place at other (place.Running k) (place.Done n)
      (i.stands (place.Running k) other (there ∙ ap (λ (x : Id). Some x) same)) (i.stands (place.Done n) other h) in cc) in
      added_found r.done (record { id = work.job.req; result = Some work }) other absent ∙ ap (λ b. cond b (Some work) None) e
  by_id false e = added_other r.done (record { id = work.job.req; result = Some work }) other e

-- one that was collected has no result any more
pub collect_clears : (r : Rows) (at : Id → Option Place) (c : Collected) (rest : List Collected) → IsIndexed r at → r.done ≡ c ∷ rest
    → (other : Id) → result_in rest other ≡ cond (same_id c.id other) None (result_in r.done other)
collect_clears r at c rest i front other = by_id (same_id c.id other) refl where
  later : Rows
  later = record r { collected = suc r.collected; done = rest }

  by_id : (b : Bool) → same_id c.id other ≡ b → result_in rest other ≡ cond b None (result_in r.done other)
  by_id true e =
      result_nowhere (record r { collected = suc r.collected; done = rest }) other
      (λ n h. (collect_leaves r at c rest i front (place.Done n) other h).1 (sym (same_when c.id other e)))
  by_id false e = sym (ap (λ (xs : List Collected). result_in xs other) front ∙ ap (λ b. cond b c.result (result_in rest other)) e)

pub front_result : (done rest : List Collected) (c : Collected) → done ≡ c ∷ rest → c.result ≡ result_in done c.id
front_result done rest c h =
    sym (ap (λ (xs : List Collected). result_in xs c.id) h ∙ ap (λ b. cond b c.result (result_in rest c.id)) (same_itself c.id))
