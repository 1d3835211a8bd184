-- The rules of the pool, where its lists are known, and how many requests are in it.
use Rattle.uv_requests.proofs.Names.{◌≡◌, ℕ, suc, ◌+◌, ◌||◌, Bool, true, false, cond, eqb, List, [], ◌∷◌, ◌++◌, map, length, set, slice_get, Option, Some, None, refl, sym, ap, ◌∙◌, subst, inl, inr, arith, length-append, false_from_ne_true, list_any, or-true, eqb_tells, Id, slots_without, IsIn, IsApart, without_none, same_id, Pool, Done, has, waits, runs, without, size, after_queue, taken_by, after_take, finished_by, after_finish, after_cancel, collected_from, after_collect, busy_set_some, busy_set_none, without_one, same_itself, same_when}
pub use Rattle.uv_arena.proofs.Contents.{set_back}

pub not_same : (a b : Id) → (a ≡ b → ⊥) → same_id a b ≡ false
not_same a b n = false_from_ne_true (same_id a b) (λ e. n (same_when a b e))

-- ---- who is in the pool

pub none_of : {A : Type 0} (p : A → Bool) (f : ℕ → A) (xs : List ℕ) → ((x : ℕ) → IsIn x xs → p (f x) ≡ false) → list_any p (map f xs) ≡ false
none_of p f [] h = refl
none_of p f (x ∷ xs) h = ap (λ u. u || list_any p (map f xs)) (h x (inl refl)) ∙ none_of p f xs (λ y k. h y (inr k))

pub none_runs : (ws : List (Option Id)) (d : Id) → ((k : ℕ) (e : Id) → slice_get ws k ≡ Some (Some e) → e ≡ d → ⊥) → runs ws d ≡ false
none_runs [] d h = refl
none_runs (None ∷ ws) d h = none_runs ws d (λ k. h (suc k))
none_runs (Some e ∷ ws) d h = ap (λ u. u || runs ws d) (not_same e d (h 0 e refl)) ∙ none_runs ws d (λ k. h (suc k))

module _ (f : ℕ → Id) (x : ℕ) where
  pub waits_in : (xs : List ℕ) → IsIn x xs → waits (map f xs) (f x) ≡ true
  waits_in [] h = absurd h
  waits_in (y ∷ ys) (inl e) = ap (λ b. b || waits (map f ys) (f x)) (ap (λ z. same_id (f z) (f x)) (sym e) ∙ same_itself (f x))
  waits_in (y ∷ ys) (inr h) = ap (λ b. same_id (f y) (f x) || b) (waits_in ys h) ∙ or-true (same_id (f y) (f x))

  pub without_in : (xs : List ℕ) → IsApart xs → ((y : ℕ) → f y ≡ f x → y ≡ x) → without (map f xs) (f x) ≡ map f (slots_without eqb xs x)
  without_in [] a n = refl
  without_in (y ∷ ys) a n =
      elim (eqb_tells y x) [
        | inl e ↦ rw (ap (λ z. same_id (f z) (f x)) e.1 ∙ same_itself (f x), e.0)
            (ap (map f) (sym (without_none ys x (λ h. a.0 (subst (λ z. IsIn z ys) (sym e.1) h)))))
        | inr m ↦ rw (not_same (f y) (f x) (λ e. m.1 (n y e)), m.0) (ap (λ l. f y ∷ l) (without_in ys a.1 n))
      ]

-- ---- each rule, and how many are in the pool after it

module _ (p : Pool) where
  abbrev pub queued : Id → Pool
  queued d = record p { waiting = p.waiting ++ d ∷ [] }

  pub queue_rule : (d : Id) → has p d ≡ false → after_queue p d ≡ Some (queued d)
  queue_rule d n = ap (λ u. cond u None (Some (queued d))) n

  pub queue_size : (d : Id) → size (queued d) ≡ size p + 1
  queue_size d = omega (arith, length-append p.waiting (d ∷ []))

  module _ (k : ℕ) (d : Id) (rest : List Id) (idle : slice_get p.running k ≡ Some None) (first : p.waiting ≡ d ∷ rest) where
    abbrev pub taken : Pool
    taken = record p { waiting = rest; running = set p.running k (Some d) }

    pub take_rule : after_take p k d ≡ Some taken
    take_rule = (λ l. taken_by p k d (idle l) (first l)) ∙ ap (λ u. cond u (Some taken) None) (same_itself d)

    pub take_size : size taken ≡ size p
    take_size = let more = busy_set_some p.running k d idle in let less = ap length first in omega (arith, more, less)

  module _ (k : ℕ) (d : Id) (runs : slice_get p.running k ≡ Some (Some d)) where
    abbrev pub finished : Pool
    finished = record p { running = set p.running k None; done = p.done ++ record { id = d; finished = true } ∷ [] }

    pub finish_rule : after_finish p k d ≡ Some finished
    finish_rule = (λ l. finished_by p k d (runs l)) ∙ ap (λ u. cond u (Some finished) None) (same_itself d)

    pub finish_size : size finished ≡ size p
    finish_size =
        let less = busy_set_none p.running k d runs in let more = length-append p.done (record { id = d; finished = true } ∷ []) in
        omega (arith, less, more)

  module _ (d : Id) (rest : List Id) (waiting : waits p.waiting d ≡ true) (is : without p.waiting d ≡ rest) where
    abbrev pub cancelled : Pool
    cancelled = record p { waiting = rest; done = p.done ++ record { id = d; finished = false } ∷ [] }

    pub cancel_rule : after_cancel p d ≡ Some cancelled
    cancel_rule = λ l. cond (waiting l) (Some (record p { waiting = is l; done = p.done ++ record { id = d; finished = false } ∷ [] })) None

    pub cancel_size : size cancelled ≡ size p
    cancel_size =
        let less = without_one p.waiting d waiting in let same = ap length is in
        let more = length-append p.done (record { id = d; finished = false } ∷ []) in omega (arith, less, same, more)

  module _ (d : Id) (m : Done) (rest : List Done) (its : m.id ≡ d) (first : p.done ≡ m ∷ rest) where
    abbrev pub collected : Pool
    collected = record p { done = rest }

    pub collect_rule : after_collect p d ≡ Some collected
    collect_rule = (λ l. collected_from p d (first l)) ∙ ap (λ u. cond (same_id u d) (Some collected) None) its
        ∙ ap (λ u. cond u (Some collected) None) (same_itself d)

    pub collect_size : size collected + 1 ≡ size p
    collect_size = let less = ap length first in omega (arith, less)
