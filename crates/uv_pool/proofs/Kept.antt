-- What the book knows of its requests stays right.
use Rattle.uv_pool.proofs.Names.{◌≡◌, ◌+◌, ◌≤◌, ℕ, List, [], ◌∷◌, ◌++◌, Option, Some, None, length, slice_get, set, cond, sym, subst, ◌∙◌, arith, length-append, suc, ap, Id, same_id, Job, PoolEvent, Held, Collected, Place, IsKept, rows_of, place_of, Leaves, Pops, Rows, IsIndexed, IsNowhere, id_at}
use Rattle.uv_pool.specs.declared.places.Place.TheVariants as place
use Rattle.uv_pool.proofs.Standing.{still_indexed, Moved, moved, left, queue_moves, take_moves, finish_moves, cancel_moves, collect_leaves}

-- the lists are the same, and the places that are known
pub kept_same : (s t : Held) → IsKept s → t.log.items ≡ s.log.items → rows_of t ≡ rows_of s → ((q : Id) → place_of t q ≡ place_of s q) → IsKept t
kept_same s t k log rows known = grind (arith, still_indexed)

-- one request stands at a new place, and the log has an entry more
kept_moved : (s t : Held) (later : Rows) (id : Id) (new : Place) (e : PoolEvent) → IsKept s → rows_of t ≡ later
    → t.log.items ≡ s.log.items ++ e ∷ [] → ((q : Id) → place_of t q ≡ cond (same_id id q) (Some new) (place_of s q))
    → ((p : Place) (q : Id) → id_at later p ≡ Some q → Moved (rows_of s) id new p q)
    → later.first + length later.waiting ≤ s.waiting.first + length s.waiting.places.items + 1
    → later.collected + length later.done ≤ s.collected + length s.done.items + 1 → IsKept t
kept_moved s t later id new e k rows log known where_ queued done =
    let first = ap (λ (x : Rows). x.first) rows in
    let waiting = ap (λ (x : Rows). length x.waiting) rows in
    let collected = ap (λ (x : Rows). x.collected) rows in
    let end = ap (λ (x : Rows). length x.done) rows in
    let entries : length t.log.items ≡ length s.log.items + 1 = ap (λ (x : List PoolEvent). length x) log ∙ length-append s.log.items (e ∷ []) in
    record {
      indexed = subst (λ (x : Rows). IsIndexed x (place_of t)) (sym rows)
          (moved (rows_of s) later (place_of s) (place_of t) id new k.indexed known where_);
      queued = omega (arith, first, waiting, entries, queued, k.queued);
      done = omega (arith, collected, end, entries, done, k.done);
    }

pub kept_queue : (s t : Held) (job : Job) (number : ℕ) (e : PoolEvent) → IsKept s → IsNowhere (rows_of s) job.req
    → number ≡ s.waiting.first + length s.waiting.places.items
    → rows_of t ≡ record (rows_of s) { waiting = s.waiting.places.items ++ Some job ∷ [] } → t.log.items ≡ s.log.items ++ e ∷ []
    → ((q : Id) → place_of t q ≡ cond (same_id job.req q) (Some (place.Waiting number)) (place_of s q)) → IsKept t
kept_queue s t job number e k nowhere is rows log known =
    let r : Rows = rows_of s in
    let at_end : (q : Id) → place_of t q ≡ cond (same_id job.req q) (Some (place.Waiting (r.first + length r.waiting))) (place_of s q) = rw is at
    known in
    kept_moved s t (record r { waiting = r.waiting ++ Some job ∷ [] }) job.req (place.Waiting (r.first + length r.waiting)) e k rows log at_end
    (queue_moves r job nowhere) (omega (arith, length-append r.waiting (Some job ∷ []))) (omega arith)

pub kept_take : (s t : Held) (n : ℕ) (job : Job) (first : ℕ) (ys : List (Option Job)) (e : PoolEvent) → IsKept s
    → slice_get s.running.items n ≡ Some None → Pops s.waiting.first s.waiting.places.items (Some job) first ys
    → rows_of t ≡ record (rows_of s) { first = first; waiting = ys; running = set s.running.items n (Some job) }
    → t.log.items ≡ s.log.items ++ e ∷ [] → ((q : Id) → place_of t q ≡ cond (same_id job.req q) (Some (place.Running n)) (place_of s q))
    → IsKept t
kept_take s t n job first ys e k idle pops rows log known =
    let r : Rows = rows_of s in
    let leaves : Leaves r.first r.waiting r.first first ys = pops.2 in
    kept_moved s t (record r { first = first; waiting = ys; running = set r.running n (Some job) }) job.req (place.Running n) e k rows log known
    (take_moves r (place_of s) n job first ys k.indexed idle pops.1 leaves) (omega (arith, leaves.next)) (omega arith)

pub kept_finish : (s t : Held) (n : ℕ) (job : Job) (c : Collected) (number : ℕ) (e : PoolEvent) → IsKept s
    → slice_get s.running.items n ≡ Some (Some job) → job.req ≡ c.id → number ≡ s.collected + length s.done.items
    → rows_of t ≡ record (rows_of s) { running = set s.running.items n None; done = s.done.items ++ c ∷ [] }
    → t.log.items ≡ s.log.items ++ e ∷ [] → ((q : Id) → place_of t q ≡ cond (same_id c.id q) (Some (place.Done number)) (place_of s q)) → IsKept t
kept_finish s t n job c number e k runs same is rows log known =
    let r : Rows = rows_of s in
    let at_end : (q : Id) → place_of t q ≡ cond (same_id c.id q) (Some (place.Done (r.collected + length r.done))) (place_of s q) = rw is at known in
    kept_moved s t (record r { running = set r.running n None; done = r.done ++ c ∷ [] }) c.id (place.Done (r.collected + length r.done)) e k
    rows log at_end (finish_moves r (place_of s) n job c k.indexed runs same) (omega arith) (omega (arith, length-append r.done (c ∷ [])))

pub kept_cancel : (s t : Held) (n first : ℕ) (ys : List (Option Job)) (c : Collected) (number : ℕ) (e : PoolEvent) → IsKept s
    → id_at (rows_of s) (place.Waiting n) ≡ Some c.id → Leaves s.waiting.first s.waiting.places.items n first ys
    → number ≡ s.collected + length s.done.items → rows_of t ≡ record (rows_of s) { first = first; waiting = ys; done = s.done.items ++ c ∷ [] }
    → t.log.items ≡ s.log.items ++ e ∷ [] → ((q : Id) → place_of t q ≡ cond (same_id c.id q) (Some (place.Done number)) (place_of s q)) → IsKept t
kept_cancel s t n first ys c number e k there leaves is rows log known =
    let r : Rows = rows_of s in
    let at_end : (q : Id) → place_of t q ≡ cond (same_id c.id q) (Some (place.Done (r.collected + length r.done))) (place_of s q) = rw is at known in
    kept_moved s t (record r { first = first; waiting = ys; done = r.done ++ c ∷ [] }) c.id (place.Done (r.collected + length r.done)) e k rows
    log at_end (cancel_moves r (place_of s) n first ys c k.indexed there leaves) (omega (arith, leaves.next))
    (omega (arith, length-append r.done (c ∷ [])))

pub kept_collect : (s t : Held) (c : Collected) (rest : List Collected) (e : PoolEvent) → IsKept s → s.done.items ≡ c ∷ rest
    → rows_of t ≡ record (rows_of s) { collected = suc s.collected; done = rest } → t.log.items ≡ s.log.items ++ e ∷ []
    → ((q : Id) → place_of t q ≡ cond (same_id c.id q) None (place_of s q)) → IsKept t
kept_collect s t c rest e k front rows log known =
    let r : Rows = rows_of s in
    let later : Rows = record r { collected = suc r.collected; done = rest } in
    let first = ap (λ (x : Rows). x.first) rows in
    let waiting = ap (λ (x : Rows). length x.waiting) rows in
    let collected = ap (λ (x : Rows). x.collected) rows in
    let end = ap (λ (x : Rows). length x.done) rows in
    let one = ap (λ (x : List Collected). length x) front in
    let entries : length t.log.items ≡ length s.log.items + 1 = ap (λ (x : List PoolEvent). length x) log ∙ length-append s.log.items (e ∷ []) in
    record {
      indexed = subst (λ (x : Rows). IsIndexed x (place_of t)) (sym rows)
          (left r later (place_of s) (place_of t) c.id k.indexed known (collect_leaves r (place_of s) c rest k.indexed front));
      queued = omega (arith, first, waiting, entries, k.queued);
      done = omega (arith, collected, end, entries, one, k.done);
    }
