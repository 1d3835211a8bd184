-- The views of all seats: which tickets their lists have, how many are of senders, and when those were split off.
use Rattle.uv_wake.proofs.ProofNames.{◌≡◌, ◌≢◌, ◌⊎◌, ℕ, zero, suc, ◌+◌, ◌<◌, ◌≤◌, List, [], ◌∷◌, ◌++◌, get_or, set, sym, refl, ap, ◌∙◌, subst, inl, inr, ⊎_elim, arith, Contains, dite, some, some-injective, some-ne-none, ℕ_discrete, get_elem?, at_set, set_else, at_longer, at_snoc, Var, Ticket, LoopView, SenderView, View, Loop, Sender, Joined, list_of, senders_in, sender_count, Has, NoneIsAhead}

pub var_ext : (u v : Var) → u.0 ≡ v.0 → u ≡ v
var_ext u v e = λ i. record { 0 = e i }

pub set_there : {A : Type 0} (l : List A) (i : ℕ) (a b : A) → get_elem? l i ≡ some b → get_elem? (set l i a) i ≡ some a
set_there (x ∷ xs) (suc i) a b e = set_there xs i a b e
set_there each e1 a b e = grind arith

pub none_in : (t : Ticket) → Contains [] t → ⊥
none_in t c = let h : c.0 < 0 = c.1 in omega arith

-- a seat's view changes, and its list loses no ticket
pub has_after : (views : List View) (me : ℕ) (v w : View) (t : Ticket) → get_elem? views me ≡ some v
    → (Contains (list_of v) t → Contains (list_of w) t) → Has views t → Has (set views me w) t
has_after views me v w t at more h = dite (ℕ_discrete h.0 me)
    (λ e. grind (arith, set_there))
    (λ n. (h.0, h.1, set_else views me h.0 w n ∙ h.2, h.3))

pub has_before : (views : List View) (me : ℕ) (w : View) (t : Ticket) → Has (set views me w) t → Contains (list_of w) t ⊎ Has views t
has_before views me w t h = grind (arith, at_set)

pub has_longer : (views : List View) (w : View) (t : Ticket) → Has views t → Has (views ++ w ∷ []) t
has_longer views w t h = (h.0, h.1, at_longer views (w ∷ []) h.0 h.1 h.2, h.3)

pub has_shorter : (views : List View) (w : View) (t : Ticket) → Has (views ++ w ∷ []) t → Contains (list_of w) t ⊎ Has views t
has_shorter views w t h = grind (arith, at_snoc)

pub count_set : (views : List View) (me : ℕ) (v w : View) → get_elem? views me ≡ some v
    → sender_count (set views me w) + senders_in v ≡ sender_count views + senders_in w
count_set (x ∷ xs) (suc me) v w e = let ih = count_set xs me v w e in omega arith
count_set each e1 v w e = grind arith

pub count_push : (views : List View) (w : View) → sender_count (views ++ w ∷ []) ≡ sender_count views + senders_in w
count_push [] w = omega arith
count_push (x ∷ xs) w = let ih = count_push xs w in omega arith

pub count_at : (views : List View) (i : ℕ) (v : View) → get_elem? views i ≡ some v → senders_in v ≤ sender_count views
count_at (x ∷ xs) (suc i) v e = let ih = count_at xs i v e in omega arith
count_at each e1 v e = grind arith

-- no seat but the first is the loop's
abbrev pub IsAlone : List View → Type 0
IsAlone views = (seat : ℕ) (l : LoopView) → get_elem? views seat ≡ some (Loop l) → seat ≡ 0

pub alone_set : (views : List View) (me : ℕ) (w : View) → ((l : LoopView) → w ≡ Loop l → me ≡ 0) → IsAlone views → IsAlone (set views me w)
alone_set views me w mine others seat l e = grind (arith, at_set)

pub alone_push : (views : List View) (w : View) → ((l : LoopView) → w ≢ Loop l) → IsAlone views → IsAlone (views ++ w ∷ [])
alone_push views w none others seat l e = grind (arith, at_snoc)

pub ahead_set : (views : List View) (me : ℕ) (w : View) (name : Var) (count : ℕ) → ((s : SenderView) → w ≡ Sender s → get_or s.since name.0 0 ≤ count)
    → NoneIsAhead views name count → NoneIsAhead (set views me w) name count
ahead_set views me w name count mine others seat s e = grind (arith, at_set)

pub ahead_push : (views : List View) (w : View) (name : Var) (count : ℕ) → ((s : SenderView) → w ≡ Sender s → get_or s.since name.0 0 ≤ count)
    → NoneIsAhead views name count → NoneIsAhead (views ++ w ∷ []) name count
ahead_push views w name count mine others seat s e = grind (arith, at_snoc)

-- where no view is a sender's, each ticket is in the loop's list
pub all_home : (views : List View) (l : LoopView) (t : Ticket) → get_elem? views 0 ≡ some (Loop l) → IsAlone views → sender_count views ≡ 0
    → Has views t → Contains l.tickets t
all_home views l t first alone none h = go h.1 h.2 h.3
  where
    go : (v : View) → get_elem? views h.0 ≡ some v → Contains (list_of v) t → Contains l.tickets t
    go (Loop k) at c = grind arith
    go (Sender s) at c = let one = count_at views h.0 (Sender s) at in absurd (omega arith)
    go Joined at c = absurd (none_in t c)
