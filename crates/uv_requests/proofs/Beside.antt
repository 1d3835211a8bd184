-- A call that changes what one slot holds, where that slot stands, and what one worker runs: all else of the requests stays, and all of
-- them do where the slot holds no request.
use Rattle.uv_requests.proofs.Names.{◌≡◌, ◌≢◌, ℕ, ◌⊎◌, Bool, true, false, eqb, List, [], ◌∷◌, ◌++◌, map, slice_get, Option, Some, not, option_and_then, refl, sym, ap, ◌∙◌, subst, inl, inr, ◌||◌, None, eqb_tells, filter-append, Id, Waiting, Ended, EndedYet, IsIn, Image, members, held, on_list, plain_slots, in_left, in_right, in_either, Request, is_open, IsDigest, Pool, Done, size, has, Running, working, id_in, request_in, done_in, was_finished, pool_of, IsHeld, IsRun, IsWork, InsertUndo, IsInserted, next_slot, or_none, without_none, same_id}
use Rattle.uv_records.specs.Walks.{without}
use Rattle.uv_requests.proofs.Holding.{held_id, one_held, one_id}
use Rattle.uv_requests.proofs.Rules.{not_same, none_of, none_runs}

-- ---- one more at the end of a list, or none

abbrev pub plus : {A : Type 0} → Bool → List A → A → List A
plus false xs y = xs
plus true xs y = xs ++ y ∷ []

in_plus : (c : Bool) (x : ℕ) (xs : List ℕ) (y : ℕ) → IsIn x (plus c xs y) → IsIn x xs ⊎ ((c ≡ true) × (x ≡ y))
in_plus false x xs y h = inl h
in_plus true x xs y h = elim (in_either x xs (y ∷ []) h) [ inl m ↦ inl m | inr m ↦ elim m [ inl e ↦ inr (refl, e) | inr n ↦ absurd n ] ]

plus_in : (c : Bool) (x : ℕ) (xs : List ℕ) (y : ℕ) → IsIn x xs ⊎ ((c ≡ true) × (x ≡ y)) → IsIn x (plus c xs y)
plus_in false x xs y h = elim h [ inl m ↦ m | inr e ↦ absurd (let no = e.0 in cc) ]
plus_in true x xs y h = elim h [ inl m ↦ in_left x xs (y ∷ []) m | inr e ↦ in_right x xs (y ∷ []) (inl e.1) ]

map_plus : {A : Type 0} (f g : ℕ → A) (c : Bool) (xs : List ℕ) (y : ℕ) (b : A) → ((x : ℕ) → IsIn x xs → f x ≡ g x) → (c ≡ true → f y ≡ b)
    → map f (plus c xs y) ≡ plus c (map g xs) b
map_plus f g false (x ∷ xs) y b h e = λ l. h x (inl refl) l ∷ map_plus f g false xs y b (λ z k. h z (inr k)) e l
map_plus f g true (x ∷ xs) y b h e = λ l. h x (inl refl) l ∷ map_plus f g true xs y b (λ z k. h z (inr k)) e l
map_plus f g each e3 y b h e = search (sym)

-- ---- a list without a slot

rest_in : (x y : ℕ) (xs : List ℕ) → IsIn x (without eqb xs y) → (x ≢ y) × IsIn x xs
rest_in x y [] h = absurd h
rest_in x y (z ∷ zs) h = elim (eqb_tells z y) [
  | inl e ↦ let r = rest_in x y zs (rw e.0 at h) in (r.0, inr r.1)
  | inr n ↦ elim (rw n.0 at h) [ inl s ↦ ((λ q. n.1 (sym s ∙ q)), inl s) | inr m ↦ let r = rest_in x y zs m in (r.0, inr r.1) ]
]

in_rest : (x y : ℕ) (xs : List ℕ) → x ≢ y → IsIn x xs → IsIn x (without eqb xs y)
in_rest x y [] n h = absurd h
in_rest x y (z ∷ zs) n h = elim (eqb_tells z y) [
  | inl e ↦ rw e.0 (elim h [ inl s ↦ absurd (n (s ∙ e.1)) | inr m ↦ in_rest x y zs n m ])
  | inr k ↦ rw k.0 (elim h [ inl s ↦ inl s | inr m ↦ inr (in_rest x y zs n m) ])
]

-- ---- the frame

module _ {X : Type 0} (read : X → Option Request) (i j : Image X) (r q : Running) where
  -- all else stays: wait and ends are the members of the lists except d's slot, a says that d waits now, and b that it is done, as m
  pub record Leaves (d : Id) (k : ℕ) (wait ends : List ℕ) (a b : Bool) (m : Done) : Type 0 where
    pub same : (e : Id) → e.slot ≢ d.slot → held j e ≡ held i e
    pub kept : (e : Id) → e.slot ≢ d.slot → on_list j e ≡ on_list i e
    pub wait_is : without eqb (members i Waiting) d.slot ≡ wait
    pub ends_is : without eqb (members i EndedYet ++ members i Ended) d.slot ≡ ends
    pub waiting : members j Waiting ≡ plus a wait d.slot
    pub ended : members j EndedYet ++ members j Ended ≡ plus b ends d.slot
    pub waits : a ≡ true → IsHeld read j d true
    pub is_done : b ≡ true → IsHeld read j d false × (done_in read j d.slot ≡ m)
    pub listed : (e : Id) → e.slot ≡ d.slot → IsHeld read j e true → on_list j e ≡ true → a ≡ true
    -- a request in d's slot was finished with its task's digest, if it was
    pub told : (e : Id) (x : Request) → e.slot ≡ d.slot → request_in read j e ≡ Some x → IsDigest x.task x.outcome
    -- worker k runs d now, and each other one what it ran before
    pub runs : (c : ℕ) (e : Id) → slice_get q.workers c ≡ Some (Some e)
        → ((c ≡ k) × (e ≡ d) × IsRun read j d) ⊎ ((e.slot ≢ d.slot) × (slice_get r.workers c ≡ Some (Some e)))

-- what is told of the request in a slot, of whatever id that slot has
pub told_by : {X : Type 0} (read : X → Option Request) (j : Image X) (d : Id) (y : Request) → request_in read j d ≡ Some y
    → IsDigest y.task y.outcome → (e : Id) (x : Request) → e.slot ≡ d.slot → request_in read j e ≡ Some x → IsDigest x.task x.outcome
told_by read j d y is told e x s h =
    let one : e ≡ d = one_held read j d e (is_open y.outcome) (is_open x.outcome) (record { request = y; is = is; outcome = refl })
    (record { request = x; is = h; outcome = refl }) s in
    let there : request_in read j d ≡ Some x = subst (λ z. request_in read j z ≡ Some x) one h in
    let same : y ≡ x = cc (is, there) in
    subst (λ (z : Request). IsDigest z.task z.outcome) same told

pub ends_stay : {X : Type 0} (i : Image X) (d : Id) {ys es : List ℕ} → without eqb (members i EndedYet) d.slot ≡ ys
    → without eqb (members i Ended) d.slot ≡ es → without eqb (members i EndedYet ++ members i Ended) d.slot ≡ ys ++ es
ends_stay i d a b = filter-append (λ y. not (eqb y d.slot)) (members i EndedYet) (members i Ended) ∙ (λ l. a l ++ b l)

-- the members of the two lists of those that are done
pub end_held : {X : Type 0} {read : X → Option Request} {i : Image X} {r : Running} → IsWork read (working i r) → (x : ℕ)
    → IsIn x (members i EndedYet ++ members i Ended) → IsHeld read i (id_in i x) false
end_held {i = i} w x h = elim (in_either x (members i EndedYet) (members i Ended) h) [ inl k ↦ w.yet x k | inr k ↦ w.done x k ]

module _ {X : Type 0} {read : X → Option Request} {i j : Image X} {r q : Running} {d : Id} {k : ℕ} {wait ends : List ℕ} {a b : Bool} {m : Done}
    (w : IsWork read (working i r)) (f : Leaves read i j r q d k wait ends a b m) where
  held_same : (e : Id) (o : Bool) → e.slot ≢ d.slot → IsHeld read i e o → IsHeld read j e o
  held_same e o n h = record { request = h.request; is = ap (option_and_then read) (f.same e n) ∙ h.is; outcome = h.outcome }

  held_before : (e : Id) (o : Bool) → e.slot ≢ d.slot → IsHeld read j e o → IsHeld read i e o
  held_before e o n h = record { request = h.request; is = sym (ap (option_and_then read) (f.same e n)) ∙ h.is; outcome = h.outcome }

  id_same : (x : ℕ) (o : Bool) → x ≢ d.slot → IsHeld read i (id_in i x) o → id_in j x ≡ id_in i x
  id_same x o n h = held_id read j (id_in i x) o (held_same (id_in i x) o n h)

  done_same : (x : ℕ) → x ≢ d.slot → IsHeld read i (id_in i x) false → done_in read j x ≡ done_in read i x
  done_same x n h =
      let one = id_same x false n h in let was = ap (request_in read j) one ∙ ap (option_and_then read) (f.same (id_in i x) n) in
      λ l. record { id = one l; finished = was_finished (was l) }

  -- who stays on a list was there before, in another slot
  stays : (old xs : List ℕ) → without eqb old d.slot ≡ xs → (x : ℕ) → IsIn x xs → (x ≢ d.slot) × IsIn x old
  stays old xs is x h = rest_in x d.slot old (subst (IsIn x) (sym is) h)

  -- the members of a list on which xs stay, and d joins them
  members_held : (c o : Bool) (old xs : List ℕ) → without eqb old d.slot ≡ xs → ((x : ℕ) → IsIn x old → IsHeld read i (id_in i x) o)
      → (c ≡ true → IsHeld read j d o) → (x : ℕ) → IsIn x (plus c xs d.slot) → IsHeld read j (id_in j x) o
  members_held c o old xs is was now x h = elim (in_plus c x xs d.slot h) [
    | inl g ↦
        let t = stays old xs is x g in let y = was x t.1 in
        subst (λ z. IsHeld read j z o) (sym (id_same x o t.0 y)) (held_same (id_in i x) o t.0 y)
    | inr g ↦ let y = now g.0 in subst (λ z. IsHeld read j z o) (sym (ap (id_in j) g.1 ∙ held_id read j d o y)) y
  ]

  end_now : (x : ℕ) → IsIn x (members j EndedYet ++ members j Ended) → IsHeld read j (id_in j x) false
  end_now x h = members_held b false (members i EndedYet ++ members i Ended) ends f.ends_is (end_held w) (λ e. (f.is_done e).0) x
      (subst (IsIn x) f.ended h)

  -- the pool
  abbrev pub next : Pool
  next = record { waiting = plus a (map (id_in i) wait) d; running = q.workers; done = plus b (map (done_in read i) ends) m }

  pub pool_now : pool_of read (working j q) ≡ next
  pool_now =
      let waiting = ap (map (id_in j)) f.waiting ∙ map_plus (id_in j) (id_in i) a wait d.slot d
      (λ x h. let t = stays (members i Waiting) wait f.wait_is x h in id_same x true t.0 (w.waiting x t.1))
      (λ e. held_id read j d true (f.waits e)) in
      let done = ap (map (done_in read j)) f.ended ∙ map_plus (done_in read j) (done_in read i) b ends d.slot m
      (λ x h. let t = stays (members i EndedYet ++ members i Ended) ends f.ends_is x h in done_same x t.0 (end_held w x t.1))
      (λ e. (f.is_done e).1) in
      λ l. record { waiting = waiting l; running = q.workers; done = done l }

  pub work_now : q.count ≡ size next → IsWork read (working j q)
  work_now count = record {
    waiting = λ x h. members_held a true (members i Waiting) wait f.wait_is w.waiting f.waits x (subst (IsIn x) f.waiting h);
    done = λ x h. end_now x (in_right x (members j EndedYet) (members j Ended) h);
    yet = λ x h. end_now x (in_left x (members j EndedYet) (members j Ended) h);
    listed = λ e h on. subst (IsIn e.slot) (sym f.waiting) (plus_in a e.slot wait d.slot (elim (eqb_tells e.slot d.slot) [
      | inl y ↦ inr (f.listed e y.1 h on, y.1)
      | inr n ↦ inl (subst (IsIn e.slot) f.wait_is (in_rest e.slot d.slot (members i Waiting) n.1
          (w.listed e (held_before e true n.1 h) (sym (f.kept e n.1) ∙ on))))
    ]));
    running = λ c e g. elim (f.runs c e g) [
      | inl y ↦ subst (IsRun read j) (sym y.1) y.2
      | inr n ↦ let was = w.running c e n.1 in
          record { request = held_same e true n.0 was.request; loose = f.kept e n.0 ∙ was.loose }
    ];
    apart = λ b c e g h. elim (f.runs b e g) [
      | inl y ↦ elim (f.runs c e h) [ inl z ↦ y.0 ∙ sym z.0 | inr n ↦ absurd (n.0 (ap (λ (z : Id). z.slot) y.1)) ]
      | inr n ↦ elim (f.runs c e h) [ inl z ↦ absurd (n.0 (ap (λ (u : Id). u.slot) z.1)) | inr o ↦ w.apart b c e n.1 o.1 ]
    ];
    digests = λ e x h. elim (eqb_tells e.slot d.slot) [
      | inl y ↦ f.told e x y.1 h
      | inr n ↦ w.digests e x (sym (ap (option_and_then read) (f.same e n.1)) ∙ h)
    ];
    count = count ∙ ap size (sym pool_now);
  }

-- ---- a slot without a request is on none of the lists, and its id isn't in the pool
module _ {X : Type 0} {read : X → Option Request} {i : Image X} {r : Running} (w : IsWork read (working i r)) (d : Id)
    (none : (e : Id) → e.slot ≡ d.slot → request_in read i e ≡ None) where
  pub elsewhere : (e : Id) (b : Bool) → IsHeld read i e b → e.slot ≢ d.slot
  elsewhere e b h s = let no = none e s in cc (h.is, no)

  pub none_waits : without eqb (members i Waiting) d.slot ≡ members i Waiting
  none_waits = without_none (members i Waiting) d.slot (λ h. elsewhere (id_in i d.slot) true (w.waiting d.slot h) refl)

  pub none_ends : without eqb (members i EndedYet ++ members i Ended) d.slot ≡ members i EndedYet ++ members i Ended
  none_ends = without_none (members i EndedYet ++ members i Ended) d.slot
      (λ h. elsewhere (id_in i d.slot) false (end_held w d.slot h) refl)

  pub not_in : has (pool_of read (working i r)) d ≡ false
  not_in =
      let other : (e : Id) (b : Bool) → IsHeld read i e b → e ≡ d → ⊥ = λ e b h s. elsewhere e b h (ap (λ (z : Id). z.slot) s) in
      let a = none_of (λ z. same_id z d) (id_in i) (members i Waiting) (λ x h. not_same (id_in i x) d (other (id_in i x) true (w.waiting x h))) in
      let b = none_runs r.workers d (λ k e g. other e true (w.running k e g).request) in
      let c = none_of (λ (z : Done). same_id z.id d) (done_in read i) (members i EndedYet ++ members i Ended)
      (λ x h. not_same (id_in i x) d (other (id_in i x) false (end_held w x h))) in
      λ l. a l || (b l || c l)

module _ {X : Type 0} (read : X → Option Request) (i j : Image X) (d : Id) (r : Running) (w : IsWork read (working i r))
    (same : (e : Id) → e.slot ≢ d.slot → held j e ≡ held i e) (kept : (e : Id) → e.slot ≢ d.slot → on_list j e ≡ on_list i e)
    (before : (e : Id) → e.slot ≡ d.slot → request_in read i e ≡ None) (after : (e : Id) → e.slot ≡ d.slot → request_in read j e ≡ None)
    (waits : members j Waiting ≡ members i Waiting) where
  pub beside : members j EndedYet ++ members j Ended ≡ members i EndedYet ++ members i Ended
      → (pool_of read (working j r) ≡ pool_of read (working i r)) × IsWork read (working j r)
  beside ends = (pool_now w left, work_now w left w.count) where
    left : Leaves read i j r r d 0 (members i Waiting) (members i EndedYet ++ members i Ended) false false (done_in read j d.slot)
    left = record {
      same = same;
      kept = kept;
      wait_is = none_waits w d before;
      ends_is = none_ends w d before;
      waiting = waits;
      ended = ends;
      waits = λ e. cc;
      is_done = λ e. cc;
      listed = λ e s h on. let none = after e s in cc (h.is, none);
      told = λ e x s h. let none = after e s in cc (h, none);
      runs = λ c e g. inr (elsewhere w d before e true (w.running c e g).request, g);
    }

  pub kept_beside : members j Ended ≡ members i Ended → members j EndedYet ≡ members i EndedYet → IsWork read (working j r)
  kept_beside done yet = (beside (λ l. yet l ++ done l)).1

-- what is put in a new slot
module _ {X : Type 0} (read : X → Option Request) (i j : Image X) (d : Id) (r : Running) (w : IsWork read (working i r)) (v : X)
    (u : InsertUndo) where
  pub none_before : IsInserted i j v d u → (e : Id) → e.slot ≡ d.slot → request_in read i e ≡ None
  none_before put e s = ap (option_and_then read)
      (next_slot (plain_slots i).slots d e (plain_slots i).unused (plain_slots i).free put.next put.vacant s)

  none_after : read v ≡ None → IsInserted i j v d u → (e : Id) → e.slot ≡ d.slot → request_in read j e ≡ None
  none_after none put e s = elim (or_none (held j e)) [
    | inl n ↦ ap (option_and_then read) n
    | inr x ↦ ap (request_in read j) (one_id j d e v x.0 put.now x.1 s) ∙ ap (option_and_then read) put.now ∙ none
  ]

  -- and is no request
  pub kept_by_insert : read v ≡ None → IsInserted i j v d u → IsWork read (working j r)
  kept_by_insert none put = kept_beside read i j d r w put.contents put.kept (none_before put) (none_after none put)
      (put.lists Waiting) (put.lists Ended) (put.lists EndedYet)
