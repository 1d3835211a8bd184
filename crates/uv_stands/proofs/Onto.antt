-- A slot that is on a list is a member of one of the fourteen.
use Rattle.uv_stands.proofs.ProofNames.{◌≡◌, ◌≢◌, ◌⊎◌, inl, inr, ℕ, zero, suc, ◌<◌, true, cond, eqb, refl, sym, ap, ◌∙◌, subst, arith, eqb_tells, Id, LIST_COUNT, ListName, number, IsIn, IsSound, chain, name_at, on_list, get-links, is_on}
use Rattle.uv_records.specs.declared.lists.ListName.TheVariants as name
use Rattle.uv_arena.specs.Image.{Image, members}

-- ---- so many numbers, each smaller than that and no two alike, are all of them

module _ (n : ℕ) (f : ℕ → ℕ) (below : (k : ℕ) → k < suc n → f k < suc n)
    (apart : (j k : ℕ) → j < suc n → k < suc n → f j ≡ f k → j ≡ k) where
  -- the number that is one too large gives way to that of the last place
  g : ℕ → ℕ
  g k = cond (eqb (f k) n) (f n) (f k)

  g_is : (k : ℕ) → ((f k ≡ n) × (g k ≡ f n)) ⊎ ((f k ≢ n) × (g k ≡ f k))
  unfolding g
  g_is k = elim (eqb_tells (f k) n) [
    | inl q ↦ inl (q.1, ap (λ b. cond b (f n) (f k)) q.0)
    | inr q ↦ inr (q.1, ap (λ b. cond b (f n) (f k)) q.0)
  ]

  g_below : (k : ℕ) → k < n → g k < n
  g_below k l = elim (g_is k) [
    | inl q ↦ (let last : f n ≢ n = λ e. (let one = apart k n (omega (arith, l)) (omega arith) (q.0 ∙ sym e) in omega (arith, one, l)) in
        let small = below n (omega arith) in let is = q.1 in omega (arith, last, small, is))
    | inr q ↦ (let small = below k (omega (arith, l)) in let is = q.1 in let other = q.0 in omega (arith, small, is, other))
  ]

  g_apart : (j k : ℕ) → j < n → k < n → g j ≡ g k → j ≡ k
  g_apart j k lj lk e = elim (g_is j) [
    | inl a ↦ elim (g_is k) [
      | inl b ↦ apart j k (omega (arith, lj)) (omega (arith, lk)) (a.0 ∙ sym b.0)
      | inr b ↦ (let one = apart k n (omega (arith, lk)) (omega arith) (sym b.1 ∙ sym e ∙ a.1) in absurd (omega (arith, one, lk)))
    ]
    | inr a ↦ elim (g_is k) [
      | inl b ↦ (let one = apart j n (omega (arith, lj)) (omega arith) (sym a.1 ∙ e ∙ b.1) in absurd (omega (arith, one, lj)))
      | inr b ↦ apart j k (omega (arith, lj)) (omega (arith, lk)) (sym a.1 ∙ e ∙ b.1)
    ]
  ]

  -- a number that isn't the last place's is found among the others
  found_below : (y : ℕ) → y < suc n → y ≢ f n → ((z : ℕ) → z < n → (x : ℕ) × (x < n) × (g x ≡ z)) → (x : ℕ) × (x < suc n) × (f x ≡ y)
  found_below y l ne find = elim (eqb_tells y n) [
    | inl q ↦ (let small = below n (omega arith) in let is = q.1 in
        let x = find (f n) (omega (arith, small, is, ne)) in let lx = x.1 in (
          x.0,
          omega (arith, lx),
          elim (g_is x.0) [
            | inl a ↦ a.0 ∙ sym is
            | inr a ↦ (let one = apart x.0 n (omega (arith, lx)) (omega arith) (sym a.1 ∙ x.2) in absurd (omega (arith, one, lx)))
          ],
        ))
    | inr q ↦ (let other = q.1 in let x = find y (omega (arith, l, other)) in let lx = x.1 in (
      x.0,
      omega (arith, lx),
      elim (g_is x.0) [
        | inl a ↦ absurd (ne (sym x.2 ∙ a.1))
        | inr a ↦ sym a.1 ∙ x.2
      ],
    ))
  ]

all_of : (n : ℕ) (f : ℕ → ℕ) → ((k : ℕ) → k < n → f k < n) → ((j k : ℕ) → j < n → k < n → f j ≡ f k → j ≡ k) → (y : ℕ) → y < n
    → (x : ℕ) × (x < n) × (f x ≡ y)
all_of zero f below apart y l = absurd (omega (arith, l))
all_of (suc n) f below apart y l = elim (eqb_tells y (f n)) [
  | inl q ↦ (n, omega arith, sym q.1)
  | inr q ↦ found_below n f below apart y l q.1 (all_of n (g n f below apart) (g_below n f below apart) (g_apart n f below apart))
]

-- ---- lists by number

list_at : (x : ℕ) → x < LIST_COUNT → (l : ListName) × (number l ≡ x)
list_at zero h = (name.Ready, refl)
list_at (suc zero) h = (name.Idle, refl)
list_at (suc (suc zero)) h = (name.IdleYet, refl)
list_at (suc (suc (suc zero))) h = (name.Prepare, refl)
list_at (suc (suc (suc (suc zero)))) h = (name.PrepareYet, refl)
list_at (suc (suc (suc (suc (suc zero))))) h = (name.Check, refl)
list_at (suc (suc (suc (suc (suc (suc zero)))))) h = (name.CheckYet, refl)
list_at (suc (suc (suc (suc (suc (suc (suc zero))))))) h = (name.Async, refl)
list_at (suc (suc (suc (suc (suc (suc (suc (suc zero)))))))) h = (name.AsyncYet, refl)
list_at (suc (suc (suc (suc (suc (suc (suc (suc (suc zero))))))))) h = (name.Closing, refl)
list_at (suc (suc (suc (suc (suc (suc (suc (suc (suc (suc zero)))))))))) h = (name.ClosingYet, refl)
list_at (suc (suc (suc (suc (suc (suc (suc (suc (suc (suc (suc zero))))))))))) h = (name.Waiting, refl)
list_at (suc (suc (suc (suc (suc (suc (suc (suc (suc (suc (suc (suc zero)))))))))))) h = (name.Done, refl)
list_at (suc (suc (suc (suc (suc (suc (suc (suc (suc (suc (suc (suc (suc zero))))))))))))) h = (name.DoneYet, refl)
list_at (suc (suc (suc (suc (suc (suc (suc (suc (suc (suc (suc (suc (suc (suc x)))))))))))))) h = absurd (omega (arith, h))

module _ {X : Type 0} where
  -- each of the fourteen chains is a list
  pub list_named : (i : Image X) → IsSound i → (k : ℕ) → k < LIST_COUNT → (l : ListName) × (name_at i.names (number l) ≡ k)
  list_named i s k h =
      let x = all_of LIST_COUNT (name_at i.names) s.names.below s.names.apart k h in
      let l = list_at x.0 x.1 in
      (l.0, ap (name_at i.names) l.1 ∙ x.2)

  -- what is on a list is a member of one
  pub listed_somewhere : (i : Image X) → IsSound i → (d : Id) → on_list i d ≡ true → (l : ListName) × IsIn d.slot (members i l)
  listed_somewhere i s d h =
      let on = is_on i s d h in
      let l = list_named i s on.list on.below in
      let there = s.linked.stands.listed d.slot on.there.cell.links on.list
      (get-links i.memory.row.items d.slot on.there.cell on.there.at) on.on in
      (l.0, subst (λ k. IsIn d.slot (chain i.memory k)) (sym l.1) there.1)
