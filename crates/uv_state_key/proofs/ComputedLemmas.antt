-- What the code computes of a state is by how much its times are later than they have to be.
use Rattle.uv_state_key.proofs.Names.{arith, ◌≡◌, inl, inr, ℕ, suc, ◌+◌, ◌<◌, List, [], ◌∷◌, length, take, get_or, refl, ap, sym, ◌∙◌, add-one, Option, Some, map, min, Id, Due, HandleRecord, held, Content, handle_in, State, Has, IsTimer, or_first, least_start, due_of, due_at, first_at, least_among}

-- ---- when timers are due

of_handle : (c : Option Content) (h : HandleRecord) → handle_in c ≡ Some h → due_of c ≡ h.due
of_handle each h e = grind arith

timer_due : (s : State) (due : Due) (id : Id) → IsTimer s due id → due_at s id ≡ due
timer_due s due id k = of_handle (held s.arena.slots id) k.its k.holds ∙ k.due

abbrev Each : State → List (Due × Id) → Type 0
Each s ts = (due : Due) (id : Id) → Has ts due id → IsTimer s due id

pub first_same : (s : State) (ts : List (Due × Id)) (at : ℕ) → Each s ts → first_at s (map (λ (t : Due × Id). t.1) ts) at ≡ or_first ts at
first_same s [] at each = refl
first_same s (t ∷ ts) at each = ap (λ (due : Due). min due.at at) (timer_due s t.0 t.1 (each t.0 t.1 (inl (refl, refl))))

pub least_same : (s : State) (ts : List (Due × Id)) (start : ℕ) → Each s ts →
    least_among s (map (λ (t : Due × Id). t.1) ts) start ≡ least_start ts start
least_same s [] start each = refl
least_same s (t ∷ ts) start each =
    ap (λ (due : Due). min due.start (least_among s (map (λ (u : Due × Id). u.1) ts) start)) (timer_due s t.0 t.1 (each t.0 t.1 (inl (refl, refl))))
    ∙ ap (min t.0.start) (least_same s ts start (λ due id h. each due id (inr h)))

min_turn : (a b c : ℕ) → min a (min b c) ≡ min b (min a c)
min_turn a b c = omega arith

least_next : (s : State) (ids : List Id) (i : ℕ) (d : Id) (start : ℕ) → i < length ids →
    min (due_at s (get_or ids i d)).start (least_among s (take i ids) start) ≡ least_among s (take (suc i) ids) start
least_next s (id ∷ ids) (suc i) d start l = simp (min_turn, (least_next s ids i d start (omega arith)))
least_next s each e2 d start l = grind arith

-- one more behind those before it
pub least_turn : (s : State) (ids : List Id) (i : ℕ) (d : Id) (start : ℕ) → i < length ids →
    min (due_at s (get_or ids i d)).start (least_among s (take i ids) start) ≡ least_among s (take (i + 1) ids) start
least_turn s ids i d start l = least_next s ids i d start l ∙ sym (ap (λ n. least_among s (take n ids) start) (add-one i))
