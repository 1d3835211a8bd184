-- Where requests stand, and that it is known.
use Rattle.uv_pool.proofs.Names.{◌≡◌, ◌+◌, ◌⊎◌, ℕ, zero, suc, List, [], ◌∷◌, ◌++◌, Bool, true, false, Option, Some, None, length, cond, set, slice_get, replicate, inl, inr, refl, ap, sym, ◌∙◌, Id, same_id, Job, same_itself, same_when, Collected, Place, Leaves, Rows, at_number, id_of_job, id_of_done, id_at, IsNowhere, IsIndexed}
use Rattle.uv_pool.specs.declared.places.Place.TheVariants as place
use Rattle.uv_pool.proofs.Numbers.{number_appended, number_popped, number_front, get_set}

pub same_place : (at : Id → Option Place) (id : Id) (p q : Place) → at id ≡ Some p → at id ≡ Some q → p ≡ q
same_place at id p q h k = let e : Some p ≡ Some q = sym h ∙ k in cc

pub unknown_nowhere : (r : Rows) (at : Id → Option Place) (id : Id) → IsIndexed r at → at id ≡ None → IsNowhere r id
unknown_nowhere r at id i none p h = let e : None ≡ Some p = sym none ∙ i.stands p id h in cc

pub elsewhere_nowhere : (r : Rows) (at : Id → Option Place) (id : Id) (p : Place) → IsIndexed r at → at id ≡ Some p → (id_at r p ≡ Some id → ⊥)
    → IsNowhere r id
elsewhere_nowhere r at id p i known not q h =
    let e : q ≡ p = same_place at id q p (i.stands q id h) known in
    not (ap (λ (x : Place). id_at r x) (sym e) ∙ h)

pub other_id : (there id : Id) (o : Option Id) → o ≡ Some there → same_id there id ≡ false → o ≡ Some id → ⊥
other_id there id o h differ k =
    let e : Some there ≡ Some id = sym h ∙ k in
    let same : there ≡ id = cc in
    let yes : same_id there id ≡ true = ap (λ (x : Id). same_id there x) (sym same) ∙ same_itself there in
    let both : true ≡ false = sym yes ∙ differ in
    cc

-- two requests at two places are two
pub apart : (r : Rows) (at : Id → Option Place) (p q : Place) (a b : Id) → IsIndexed r at → id_at r p ≡ Some a → id_at r q ≡ Some b → (q ≡ p → ⊥)
    → b ≡ a → ⊥
apart r at p q a b i ha hb not same =
    not (same_place at a q p (ap at (sym same) ∙ i.stands q b hb) (i.stands p a ha))

-- A place that has a request after a change: the new place of the one that moved, or an old place of another one.
abbrev pub Moved : Rows → Id → Place → Place → Id → Type 0
Moved r id new p q = ((p ≡ new) × (q ≡ id)) ⊎ ((id_at r p ≡ Some q) × (q ≡ id → ⊥))

known_still : (at later : Id → Option Place) (id q : Id) (new : Option Place) → ((x : Id) → later x ≡ cond (same_id id x) new (at x))
    → (q ≡ id → ⊥) → later q ≡ at q
known_still at later id q new put not = at' (same_id id q) refl where
  at' : (b : Bool) → same_id id q ≡ b → later q ≡ at q
  at' true e = absurd (not (sym (same_when id q e)))
  at' false e = put q ∙ ap (λ b. cond b new (at q)) e

-- one request stands at a new place now
pub moved : (r later : Rows) (at known : Id → Option Place) (id : Id) (new : Place) → IsIndexed r at
    → ((x : Id) → known x ≡ cond (same_id id x) (Some new) (at x)) → ((p : Place) (q : Id) → id_at later p ≡ Some q → Moved r id new p q)
    → IsIndexed later known
moved r later at known id new i put where_ = record {
  stands = λ p q h. elim (where_ p q h) [
    | inl e ↦
        (let here : known q ≡ Some new = ap known e.1 ∙ (put id ∙ ap (λ b. cond b (Some new) (at id)) (same_itself id)) in
        here ∙ ap (λ (x : Place). Some x) (sym e.0))
    | inr e ↦ known_still at known id q (Some new) put e.1 ∙ i.stands p q e.0
  ];
}

-- one request stands nowhere now
pub left : (r later : Rows) (at known : Id → Option Place) (id : Id) → IsIndexed r at → ((x : Id) → known x ≡ cond (same_id id x) None (at x))
    → ((p : Place) (q : Id) → id_at later p ≡ Some q → (id_at r p ≡ Some q) × (q ≡ id → ⊥)) → IsIndexed later known
left r later at known id i put still = record {
  stands = λ p q h. let e = still p q h in known_still at known id q None put e.1 ∙ i.stands p q e.0;
}

-- what is known is the same
pub still_indexed : (r : Rows) (at known : Id → Option Place) → IsIndexed r at → ((x : Id) → known x ≡ at x) → IsIndexed r known
still_indexed r at known i same = record { stands = λ p id h. same id ∙ i.stands p id h }

-- what a place has, seen from its id
job_there : (o : Option (Option Job)) (id : Id) → id_of_job o ≡ Some id → (job : Job) × (o ≡ Some (Some job)) × (job.req ≡ id)
job_there None id h = absurd (cc)
job_there (Some None) id h = absurd (cc)
job_there (Some (Some job)) id h = (job, refl, cc)

done_there : (o : Option Collected) (id : Id) → id_of_done o ≡ Some id → (c : Collected) × (o ≡ Some c) × (c.id ≡ id)
done_there None id h = absurd (cc)
done_there (Some c) id h = (c, refl, cc)

job_at : (o : Option (Option Job)) (job : Job) → o ≡ Some (Some job) → id_of_job o ≡ Some job.req
job_at o job h = ap id_of_job h

pub queue_moves : (r : Rows) (job : Job) → IsNowhere r job.req → (p : Place) (q : Id)
    → id_at (record r { waiting = r.waiting ++ Some job ∷ [] }) p ≡ Some q → Moved r job.req (place.Waiting (r.first + length r.waiting)) p q
queue_moves r job new (place.Waiting n) q h =
    let t = job_there (at_number r.first (r.waiting ++ Some job ∷ []) n) q h in
    elim (number_appended r.first r.waiting (Some job) n (Some t.0) t.1) [
      | inl e ↦ inr (
        job_at _ t.0 e ∙ ap (λ (x : Id). Some x) t.2,
        (λ same. new (place.Waiting n)
            (job_at _ t.0 e ∙ ap (λ (x : Id). Some x) (t.2 ∙ same))),
      )
      | inr e ↦ inl (search (sym))
    ]
queue_moves r job new (place.Running k) q h = inr (h, (λ same. new (place.Running k) (h ∙ ap (λ (x : Id). Some x) same)))
queue_moves r job new (place.Done n) q h = inr (h, (λ same. new (place.Done n) (h ∙ ap (λ (x : Id). Some x) same)))

nothing_run : (n k : ℕ) (id : Id) → id_of_job (slice_get (replicate n None) k) ≡ Some id → ⊥
nothing_run zero k id h = cc
nothing_run (suc n) zero id h = cc
nothing_run (suc n) (suc k) id h = nothing_run n k id h

pub nothing_stands : (workers : ℕ) (r : Rows) (at : Id → Option Place) → r.first ≡ 0 → r.waiting ≡ [] → r.running ≡ replicate workers None
    → r.collected ≡ 0 → r.done ≡ [] → IsIndexed r at
nothing_stands workers r at first waiting running collected done = record { stands = stands } where
  stands : (p : Place) (id : Id) → id_at r p ≡ Some id → at id ≡ Some p
  stands (place.Waiting n) id h = cc
  stands (place.Running k) id h =
      absurd (nothing_run workers k id (rw running at h))
  stands (place.Done n) id h = cc

pub take_moves : (r : Rows) (at : Id → Option Place) (k : ℕ) (job : Job) (first : ℕ) (ys : List (Option Job)) → IsIndexed r at
    → slice_get r.running k ≡ Some None → at_number r.first r.waiting r.first ≡ Some (Some job) → Leaves r.first r.waiting r.first first ys
    → (p : Place) (q : Id) → id_at (record r { first = first; waiting = ys; running = set r.running k (Some job) }) p ≡ Some q
    → Moved r job.req (place.Running k) p q
take_moves r at k job first ys i idle front leaves (place.Waiting n) q h =
    let t = job_there (at_number first ys n) q h in
    let s = leaves.still n t.0 t.1 in
    let old : id_at r (place.Waiting n) ≡ Some q = job_at _ t.0 s.0 ∙ ap (λ (x : Id). Some x) t.2 in
    inr (
      old,
      apart r at (place.Waiting r.first) (place.Waiting n) job.req q i (job_at _ job front) old
          (λ same. s.1 (let e : place.Waiting n ≡ place.Waiting r.first = same in cc)),
    )
take_moves r at k job first ys i idle front leaves (place.Running j) q h =
    let t = job_there (slice_get (set r.running k (Some job)) j) q h in
    elim (get_set r.running k (Some job) j (Some t.0) t.1) [
      | inl e ↦ inl (search (sym))
      | inr e ↦
          (let old : id_at r (place.Running j) ≡ Some q = job_at _ t.0 e.1 ∙ ap (λ (x : Id). Some x) t.2 in
          inr (
            old,
            apart r at (place.Waiting r.first) (place.Running j) job.req q i (job_at _ job front) old
                (λ same. let e' : place.Running j ≡ place.Waiting r.first = same in cc),
          ))
    ]
take_moves r at k job first ys i idle front leaves (place.Done n) q h =
    inr (
      h,
      apart r at (place.Waiting r.first) (place.Done n) job.req q i (job_at _ job front) h
          (λ same. let e : place.Done n ≡ place.Waiting r.first = same in cc),
    )

-- one goes to the end of those that are done: where it stood nothing stands now, and elsewhere what stood there
pub done_moves : (r later : Rows) (at : Id → Option Place) (from : Place) (c : Collected) → IsIndexed r at → id_at r from ≡ Some c.id
    → later.collected ≡ r.collected → later.done ≡ r.done ++ c ∷ [] → ((n : ℕ) → from ≡ place.Done n → ⊥)
    → ((n : ℕ) (q : Id) → id_at later (place.Waiting n) ≡ Some q → (id_at r (place.Waiting n) ≡ Some q) × (place.Waiting n ≡ from → ⊥))
    → ((k : ℕ) (q : Id) → id_at later (place.Running k) ≡ Some q → (id_at r (place.Running k) ≡ Some q) × (place.Running k ≡ from → ⊥))
    → (p : Place) (q : Id) → id_at later p ≡ Some q → Moved r c.id (place.Done (r.collected + length r.done)) p q
done_moves r later at from c i there first done other waiting running (place.Waiting n) q h =
    let s = waiting n q h in inr (s.0, apart r at from (place.Waiting n) c.id q i there s.0 s.1)
done_moves r later at from c i there first done other waiting running (place.Running k) q h =
    let s = running k q h in inr (s.0, apart r at from (place.Running k) c.id q i there s.0 s.1)
done_moves r later at from c i there first done other waiting running (place.Done n) q h =
    let k : id_of_done (at_number r.collected (r.done ++ c ∷ []) n) ≡ Some q = rw (← first, ← done) h in
    let t = done_there (at_number r.collected (r.done ++ c ∷ []) n) q k in
    elim (number_appended r.collected r.done c n t.0 t.1) [
      | inl e ↦
          (let old : id_at r (place.Done n) ≡ Some q = ap id_of_done e ∙ ap (λ (x : Id). Some x) t.2 in
          inr (old, apart r at from (place.Done n) c.id q i there old (λ same. other n (sym same))))
      | inr e ↦ inl (ap (λ (x : ℕ). let w : Place = place.Done x in w) e.0, sym t.2 ∙ ap (λ (x : Collected). x.id) (sym e.1))
    ]

-- what a worker ran is done
pub finish_moves : (r : Rows) (at : Id → Option Place) (k : ℕ) (job : Job) (c : Collected) → IsIndexed r at
    → slice_get r.running k ≡ Some (Some job) → job.req ≡ c.id → (p : Place) (q : Id)
    → id_at (record r { running = set r.running k None; done = r.done ++ c ∷ [] }) p ≡ Some q
    → Moved r c.id (place.Done (r.collected + length r.done)) p q
finish_moves r at k job c i runs same =
    done_moves r (record r { running = set r.running k None; done = r.done ++ c ∷ [] }) at (place.Running k) c i
    (job_at _ job runs ∙ ap (λ (x : Id). Some x) same) refl refl (λ n e. let e' : place.Running k ≡ place.Done n = e in cc)
    (λ n q h. (h, (λ e. let e' : place.Waiting n ≡ place.Running k = e in cc))) still where
      still : (j : ℕ) (q : Id) → id_of_job (slice_get (set r.running k None) j) ≡ Some q → (id_at r (place.Running j) ≡ Some q)
          × (place.Running j ≡ place.Running k → ⊥)
      still j q h =
          let t = job_there (slice_get (set r.running k None) j) q h in
          elim (get_set r.running k None j (Some t.0) t.1) [
            | inl e ↦ absurd (let e' : None ≡ Some t.0 = e.1 in cc)
            | inr e ↦ (job_at _ t.0 e.1 ∙ ap (λ (x : Id). Some x) t.2, (λ same'. e.0 (let e' : place.Running j ≡ place.Running k = same' in cc)))
          ]

-- one that waited is done
pub cancel_moves : (r : Rows) (at : Id → Option Place) (n first : ℕ) (ys : List (Option Job)) (c : Collected) → IsIndexed r at
    → id_at r (place.Waiting n) ≡ Some c.id → Leaves r.first r.waiting n first ys → (p : Place) (q : Id)
    → id_at (record r { first = first; waiting = ys; done = r.done ++ c ∷ [] }) p ≡ Some q
    → Moved r c.id (place.Done (r.collected + length r.done)) p q
cancel_moves r at n first ys c i there leaves =
    done_moves r (record r { first = first; waiting = ys; done = r.done ++ c ∷ [] }) at (place.Waiting n) c i there refl refl
    (λ m e. let e' : place.Waiting n ≡ place.Done m = e in cc) still
    (λ k q h. (h, (λ e. let e' : place.Running k ≡ place.Waiting n = e in cc))) where
      still : (m : ℕ) (q : Id) → id_of_job (at_number first ys m) ≡ Some q → (id_at r (place.Waiting m) ≡ Some q)
          × (place.Waiting m ≡ place.Waiting n → ⊥)
      still m q h =
          let t = job_there (at_number first ys m) q h in
          let s = leaves.still m t.0 t.1 in
          (job_at _ t.0 s.0 ∙ ap (λ (x : Id). Some x) t.2, (λ same. s.1 (let e : place.Waiting m ≡ place.Waiting n = same in cc)))

-- the one that was done first left
pub collect_leaves : (r : Rows) (at : Id → Option Place) (c : Collected) (rest : List Collected) → IsIndexed r at → r.done ≡ c ∷ rest
    → (p : Place) (q : Id) → id_at (record r { collected = suc r.collected; done = rest }) p ≡ Some q → (id_at r p ≡ Some q) × (q ≡ c.id → ⊥)
collect_leaves r at c rest i front p q h = at' p h where
  there : id_at r (place.Done r.collected) ≡ Some c.id
  there = rw (front, number_front r.collected c rest) refl

  at' : (p : Place) → id_at (record r { collected = suc r.collected; done = rest }) p ≡ Some q → (id_at r p ≡ Some q) × (q ≡ c.id → ⊥)
  at' (place.Waiting n) k = (
    k,
    apart r at (place.Done r.collected) (place.Waiting n) c.id q i there k
        (λ e. let e' : place.Waiting n ≡ place.Done r.collected = e in cc),
  )
  at' (place.Running n) k = (
    k,
    apart r at (place.Done r.collected) (place.Running n) c.id q i there k
        (λ e. let e' : place.Running n ≡ place.Done r.collected = e in cc),
  )
  at' (place.Done n) k =
      let t = done_there (at_number (suc r.collected) rest n) q k in
      let s = number_popped r.collected c rest n t.0 t.1 in
      let old : id_at r (place.Done n) ≡ Some q = rw (front, s.0) (ap (λ (x : Id). Some x) t.2) in (
        old,
        apart r at (place.Done r.collected) (place.Done n) c.id q i there old
            (λ same. s.1 (let e : place.Done n ≡ place.Done r.collected = same in cc)),
      )
