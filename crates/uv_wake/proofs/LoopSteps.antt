-- What the table asks of each step of the loop's seat, and what its seat then is.
use Rattle.uv_wake.proofs.ProofNames.{◌≡◌, ℕ, zero, suc, ◌+◌, ◌*◌, ◌%◌, ◌^◌, ◌<◌, List, [], ◌∷◌, ◌++◌, length, replicate, get_or, set, sym, refl, ap, ◌∙◌, subst, inl, arith, Bool, true, Some, None, Contains, length-replicate, get_or-set_same, set-get_or, get_or-replicate, eq-eqb, ne_eqb, dite, none, some, some-injective, some-ne-none, ℕ_discrete, get_elem?, State, Me, step, keeps, Allows, Splits, Joins, opening, set_else, set_again, Var, Ticket, LoopView, SenderView, View, Loop, Sender, Joined, list_of, Has, NameKept, Kept, at_first, starting, AllCarried, HasEach, after_look, after_absorb, loop_of, sender_of, is_odd, Looked, looked, absorbed, learned, split_left, split_right, joined, IsLoops}
use Rattle.atomic_table.specs.Seated.{TableId}
use Rattle.uv_wake.proofs.Lists.{var_ext, set_there}
use Rattle.uv_wake.proofs.LoopKeeps.{none_is_left, complete, look_finds, look_keeps, absorb_keeps, split_keeps, join_keeps}

abbrev me_of : LoopView → Me ℕ View
me_of l = (Loop l, [])

abbrev Knows : Me ℕ View → Type 0
Knows me = me ≡ me_of (loop_of me.0)

is_loop : (names : ℕ) (s : State ℕ View) (kept : Kept names s) (v : View) → get_elem? s.views 0 ≡ some v → Loop kept.loop ≡ v
is_loop names s kept v at = some-injective (Loop kept.loop) v (sym kept.first ∙ at)

-- the words and the views as they were
same_state : (names : ℕ) (s : State ℕ View) (i : ℕ) (v : View) → get_elem? s.views 0 ≡ some v → Kept names s
    → Kept names (record { words = set s.words i (get_or s.words i 0); homes = s.homes; views = set s.views 0 v })
same_state names s i v at kept = search (set-get_or, set_again)

pub looks : (names slots id : ℕ) (me : Me ℕ View) (v : Var) → id ≡ 0 → Knows me → v.0 < names
    → Allows (Kept names) slots id me (v.0 + 1) (λ n. n) (looked (step slots (v.0 + 1) 0 0 none) me)
looks names slots id me v first knows small = subst
    (λ (k : ℕ). Allows (Kept names) slots k me (v.0 + 1) (λ n. n) (looked (step slots (v.0 + 1) 0 0 none) me)) (sym first) go
  where
    go : Allows (Kept names) slots 0 me (v.0 + 1) (λ n. n) (looked (step slots (v.0 + 1) 0 0 none) me)
    go s kept deep at fits =
        let n : ℕ = get_or s.words (v.0 + 1) 0 in
        let is = is_loop names s kept me.0 at in
        let same : kept.loop ≡ loop_of me.0 = ap loop_of is in
        let finds : (u : Var) → u.0 + 1 ≡ v.0 + 1 → Looked (loop_of me.0) u (is_odd n) =
        (λ u e. subst (λ (x : LoopView × Var). Looked x.0 x.1 (is_odd n)) (λ i. (same i, var_ext v u (omega arith) i))
        (look_finds names s kept v small)) in
        let here : LoopView → Me ℕ View = (λ l. (Loop l, me.1)) in
        let view : (u : Var) → u.0 + 1 ≡ v.0 + 1 → here (after_look kept.loop v true) ≡ me_of (after_look (loop_of me.0) u true) =
        (λ u e i. (Loop (after_look (same i) (var_ext v u (omega arith) i) true), (knows i).1)) in
        dite (ℕ_discrete (n % 2) 1)
        (λ odd. (
          Loop (after_look kept.loop v true),
          keeps,
          tt,
          look_keeps names s kept v small (omega arith),
          λ u e. (view u e ∙ ap (λ (b : Bool). me_of (after_look (loop_of me.0) u b)) (sym (eq-eqb (n % 2) 1 odd)), finds u e),
        ))
        (λ even. (
          me.0,
          keeps,
          tt,
          same_state names s (v.0 + 1) me.0 at kept,
          λ u e. (knows ∙ ap (λ (b : Bool). me_of (after_look (loop_of me.0) u b)) (sym (ne_eqb (n % 2) 1 even)), finds u e),
        ))

pub absorbs : (names slots id : ℕ) (me : Me ℕ View) (v : Var) → id ≡ 0 → Knows me → v.0 < names → (loop_of me.0).seen ≡ Some v
    → get_or (loop_of me.0).counts v.0 0 < 2 ^ 62
    → Allows (Kept names) slots id me (v.0 + 1) (λ n. (n + 1) % 2 ^ 64) (absorbed (step slots (v.0 + 1) 1 0 none) me)
absorbs names slots id me v first knows small seen room = subst
    (λ (k : ℕ). Allows (Kept names) slots k me (v.0 + 1) (λ n. (n + 1) % 2 ^ 64) (absorbed (step slots (v.0 + 1) 1 0 none) me)) (sym first) go
  where
    go : Allows (Kept names) slots 0 me (v.0 + 1) (λ n. (n + 1) % 2 ^ 64) (absorbed (step slots (v.0 + 1) 1 0 none) me)
    go s kept deep at fits =
        let n : ℕ = get_or s.words (v.0 + 1) 0 in
        let same : kept.loop ≡ loop_of me.0 = ap loop_of (is_loop names s kept me.0 at) in
        let count : get_or kept.loop.counts v.0 0 ≡ get_or (loop_of me.0).counts v.0 0 = ap (λ (l : LoopView). get_or l.counts v.0 0) same in
        let odd : n ≡ 2 * get_or kept.loop.counts v.0 0 + 1 = (kept.each v small).is_seen (ap (λ (l : LoopView). l.seen) same ∙ seen) in
        let plain : n + 1 ≡ (n + 1) % 18446744073709551616 = omega arith in
        let wide = kept.wide in
        let after : State ℕ View = record {
          words = set s.words (v.0 + 1) (n + 1);
          homes = s.homes;
          views = set s.views 0
              (Loop (after_absorb kept.loop v true));
        } in
        let held : Kept names after = absorb_keeps names s kept v small odd in
        let here_word : get_or (set s.words (v.0 + 1) (n + 1)) (v.0 + 1) 0 ≡ n + 1 = get_or-set_same s.words (v.0 + 1) (n + 1) 0 (omega arith) in
        let even : get_or after.words (v.0 + 1) 0 % 2 ≡ 0 = omega arith in
        let there : get_elem? after.views 0 ≡ some (Loop (after_absorb kept.loop v true)) = set_there s.views 0
        (Loop (after_absorb kept.loop v true)) me.0 at in (
          Loop (after_absorb kept.loop v true),
          keeps,
          tt,
          subst (λ (w : ℕ). Kept names (record {
            words = set s.words (v.0 + 1) w;
            homes = s.homes;
            views = assumption;
          })) plain held,
          λ u e. let told = subst (λ (x : LoopView × Var). AllCarried (after_absorb x.0 x.1 true) x.1 × HasEach (after_absorb x.0 x.1 true))
              (λ i. (same i, var_ext v u (omega arith) i))
              (subst (λ (l : LoopView). AllCarried l v × HasEach l)
              (ap loop_of (is_loop names after held (Loop (after_absorb kept.loop v true)) there))
              (none_is_left names after held v small even, complete names after held)) in
              ((λ i. (Loop (after_absorb (same i) (var_ext v u (omega arith) i) true), (knows i).1)), told.0, told.1),
        )

pub learns : (names slots id : ℕ) (me : Me ℕ View) → id ≡ 0 → Knows me
    → Allows (Kept names) slots id me 0 (λ n. n) (learned (step slots 0 0 0 none) me)
learns names slots id me first knows = subst (λ (k : ℕ). Allows (Kept names) slots k me 0 (λ n. n) (learned (step slots 0 0 0 none) me))
    (sym first) go
  where
    go : Allows (Kept names) slots 0 me 0 (λ n. n) (learned (step slots 0 0 0 none) me)
    go s kept deep at fits = (
      me.0,
      keeps,
      tt,
      same_state names s 0 me.0 at kept,
      (knows, subst (λ (l : LoopView). HasEach l) (ap loop_of (is_loop names s kept me.0 at)) (complete names s kept)),
    )

pub splits : (names id : ℕ) (v : View) → id ≡ 0 → Splits (Kept names) id v (split_left v) (split_right v)
splits names id v first s kept at = let at_0 : get_elem? s.views 0 ≡ some v = (λ i. get_elem? s.views (sym first i)) ∙ at in
    subst (λ (x : ℕ × View). Kept names (record {
      words = s.words;
      homes = s.homes;
      views = set s.views x.0 (split_left x.1)
          ++ split_right x.1 ∷ [];
    })) (λ i. (sym first i, is_loop names s kept v at_0 i)) (split_keeps names s kept)

pub joins : (names id other : ℕ) (v w : View) → id ≡ 0 → w ≡ Sender (sender_of w) → Joins (Kept names) id v other w (joined v w) Joined
joins names id other v w first sender s kept at apart there = let at_0 : get_elem? s.views 0 ≡ some v = (λ i. get_elem? s.views (sym first i)) ∙ at in
    let at_other : get_elem? s.views other ≡ some (Sender (sender_of w)) = sym (set_else s.views id other (joined v w) apart)
    ∙ (there ∙ ap (λ (x : View). some x) sender) in
    let whole = join_keeps names s kept other (sender_of w) (λ z. apart (z ∙ sym first)) at_other in
    grind arith

first_only : (l : LoopView) (seat : ℕ) (k : LoopView) → get_elem? (Loop l ∷ []) seat ≡ some (Loop k) → seat ≡ 0
first_only l seat k e = grind arith

no_sender : (l : LoopView) (seat : ℕ) (k : SenderView) → get_elem? (Loop l ∷ []) seat ≡ some (Sender k) → ⊥
no_sender l seat k e = grind arith

pub opens : (names : ℕ) (words : List ℕ) → words ≡ replicate (names + 1) 0 → Kept names (opening {S = ℕ} words [] (at_first names))
opens names words is = record {
  loop = starting names;
  first = refl;
  alone = λ seat l e. first_only (starting names) seat l e;
  wide = ap length is ∙ length-replicate (names + 1) 0;
  further = (λ i. get_or (is i) 0 0) ∙ get_or-replicate (names + 1) 0 0 0 (omega arith);
  counted = length-replicate names 0;
  each = grind (arith, get_or-replicate, no_sender);
  senders = refl;
}

-- the loop's seat after a step that leaves it l
pub settles : {board board' : TableId} {id id' : ℕ} {me me' : Me ℕ View} {counts counts' : List ℕ} {turns turns' : ℕ} (l : LoopView)
    → IsLoops board id me counts turns → board' ≡ board → id' ≡ id → me' ≡ (Loop l, [])
    → l.counts ≡ counts' → l.splits ≡ turns' → length counts' ≡ length counts → IsLoops board' id' me' counts' turns'
settles {board'} {me'} l old t i m c k w =
    let is : loop_of me'.0 ≡ l = ap (λ (x : Me ℕ View). loop_of x.0) m in
    let wide = old.wide in
    grind arith
