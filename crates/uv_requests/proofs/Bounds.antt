-- The open requests are a number of slots.
use Rattle.uv_requests.proofs.Names.{◌≡◌, ℕ, suc, ◌<◌, Bool, true, false, List, [], ◌∷◌, ◌++◌, length, slice_get, Option, Some, None, refl, sym, ap, ◌∙◌, subst, inl, inr, arith, length-append, length-map, slice_get_within, Id, Waiting, Ended, EndedYet, IsIn, IsApart, Image, members, IsSound, in_either, apart_join, held_tells, one_list, few, Request, busy, Working, id_in, done_in, IsHeld, IsRun, IsWork}
use Rattle.uv_requests.proofs.Beside.{end_held}
use Rattle.uv_requests.proofs.Holding.{content_of, held_id, one_held, not_both, member, list_apart}

-- ---- the slots of the requests that run

abbrev run_slots : List (Option Id) → List ℕ
run_slots [] = []
run_slots (None ∷ ws) = run_slots ws
run_slots (Some d ∷ ws) = d.slot ∷ run_slots ws

run_length : (ws : List (Option Id)) → length (run_slots ws) ≡ busy ws
run_length [] = refl
run_length (None ∷ ws) = run_length ws
run_length (Some d ∷ ws) = let rest = run_length ws in omega (arith, rest)

-- who runs in a slot
run_of : (x : ℕ) (ws : List (Option Id)) → IsIn x (run_slots ws) → (k : ℕ) × (d : Id) × (slice_get ws k ≡ Some (Some d)) × (d.slot ≡ x)
run_of x [] h = absurd h
run_of x (None ∷ ws) h = let r = run_of x ws h in (suc r.0, r.1, r.2, r.3)
run_of x (Some d ∷ ws) h = elim h [ inl e ↦ (0, d, refl, sym e) | inr m ↦ let r = run_of x ws m in (suc r.0, r.1, r.2, r.3) ]

abbrev SlotsApart : List (Option Id) → Type 0
SlotsApart ws = (j k : ℕ) (a b : Id) → slice_get ws j ≡ Some (Some a) → slice_get ws k ≡ Some (Some b) → a.slot ≡ b.slot → j ≡ k

run_apart : (ws : List (Option Id)) → SlotsApart ws → IsApart (run_slots ws)
run_apart [] h = tt
run_apart (None ∷ ws) h = run_apart ws (λ j k a b e f s. let one = h (suc j) (suc k) a b e f s in omega (arith, one))
run_apart (Some d ∷ ws) h = (
  λ m. let r = run_of d.slot ws m in let no = h 0 (suc r.0) d r.1 refl r.2 (sym r.3) in absurd (omega (arith, no)),
  run_apart ws (λ j k a b e f s. let one = h (suc j) (suc k) a b e f s in omega (arith, one)),
)

module _ {X : Type 0} (read : X → Option Request) (w : Working X) (s : IsSound w.arena) (h : IsWork read w) where
  abbrev i : Image X
  i = w.arena

  abbrev ends : List ℕ
  ends = members i EndedYet ++ members i Ended

  abbrev runs : List ℕ
  runs = run_slots w.running.workers

  below : (e : Id) (o : Bool) → IsHeld read i e o → e.slot < length i.memory.row.items
  below e o q =
      let c = content_of read i e q.request q.is in let t = held_tells i.memory e c.0 c.1 in
      slice_get_within i.memory.row.items e.slot t.0 t.1

  run_in : (x : ℕ) → IsIn x runs → IsRun read i (id_in i x)
  run_in x m =
      let r = run_of x w.running.workers m in let q = h.running r.0 r.1 r.2 in
      subst (IsRun read i) (sym (ap (id_in i) (sym r.3) ∙ held_id read i r.1 true q.request)) q

  slots_apart : SlotsApart w.running.workers
  slots_apart j k a b e f same =
      let one = one_held read i b a true true (h.running k b f).request (h.running j a e).request same in
      h.apart j k b (e ∙ ap (λ z. Some (Some z)) one) f

  apart : IsApart (members i Waiting ++ (ends ++ runs))
  apart =
      let done = apart_join (members i EndedYet) (members i Ended) (list_apart i s EndedYet) (list_apart i s Ended)
      (λ y a b. one_list i s EndedYet Ended y a b (λ e. cc)) in
      let rest = apart_join ends runs done (run_apart w.running.workers slots_apart)
      (λ y a b. not_both read i (id_in i y) (run_in y b).request (end_held h y a)) in
      apart_join (members i Waiting) (ends ++ runs) (list_apart i s Waiting) rest (λ y a b. elim (in_either y ends runs b) [
        | inl m ↦ not_both read i (id_in i y) (h.waiting y a) (end_held h y m)
        | inr m ↦ let on = (member i s Waiting y a).listed in let off = (run_in y m).loose in cc
      ])

  all_below : (x : ℕ) → IsIn x (members i Waiting ++ (ends ++ runs)) → x < length i.memory.row.items
  all_below x m = elim (in_either x (members i Waiting) (ends ++ runs) m) [
    | inl a ↦ below (id_in i x) true (h.waiting x a)
    | inr a ↦ elim (in_either x ends runs a) [
      | inl b ↦ below (id_in i x) false (end_held h x b)
      | inr b ↦ below (id_in i x) true (run_in x b).request
    ]
  ]

  -- at most as many requests are open as there are slots
  pub pool_fits : w.running.count < 4294967296
  pool_fits =
      let most = few (members i Waiting ++ (ends ++ runs)) (length i.memory.row.items) apart all_below in
      let one = length-append (members i Waiting) (ends ++ runs) in let two = length-append ends runs in
      let three = run_length w.running.workers in let four = length-map (members i Waiting) (id_in i) in
      let five = length-map ends (done_in read i) in let within = s.linked.within in let under = s.linked.few in let count = h.count in
      omega (arith, most, one, two, three, four, five, within, under, count)
