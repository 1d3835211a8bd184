-- The entries of a log, each met by the shift of its worker.
use Rattle.uv_live.proofs.Names.{◌≡◌, ◌∙◌, ◌<◌, ◌≤◌, ◌==◌, ◌↔◌, ℕ, ◌+◌, zero, suc, replicate, Bool, true, false, List, [], ◌∷◌, Some, length, drop, get_or, set, slice_get, refl, sym, ap, ap₂, subst, arith, cond, eq-eqb, ne_eqb, eqb-true, eqb-false, get_or-set_same, get_or-set_other, drop-cons, drop_all, length-drop, add-one, slice_get_within, PoolEvent, Decides, Worked, is_of, part_of, AreLeft, AreParts}

-- the part of a log with one entry more in front
part_other : (k : ℕ) (entry : PoolEvent) (rest : List PoolEvent) → is_of k entry ≡ false → part_of k (entry ∷ rest) ≡ part_of k rest
part_other k entry rest e = ap (λ (b : Bool). cond b (entry ∷ part_of k rest) (part_of k rest)) e

part_here : (k : ℕ) (entry : PoolEvent) (rest : List PoolEvent) → is_of k entry ≡ true → part_of k (entry ∷ rest) ≡ entry ∷ part_of k rest
part_here k entry rest e = ap (λ (b : Bool). cond b (entry ∷ part_of k rest) (part_of k rest)) e

drop_at : (events : List PoolEvent) (at : ℕ) (d : PoolEvent) → at < length events → drop at events ≡ get_or events at d ∷ drop (at + 1) events
drop_at events at d l = drop-cons events at d l ∙ ap (λ (n : ℕ). get_or events at d ∷ drop n events) (sym (add-one at))

module _ (shifts : List Worked) (met : List ℕ) (entry : PoolEvent) (a : ℕ) (y : Worked) (there : slice_get shifts a ≡ Some y)
    (room : a < length met) (is : (j : ℕ) → is_of j entry ≡ (a == j)) where
  same : (k : ℕ) (x : Worked) → k ≡ a → slice_get shifts k ≡ Some x → x ≡ y
  same k x e at = let both : Some x ≡ Some y = sym at ∙ ap (slice_get shifts) e ∙ there in cc

  is_here : is_of a entry ≡ true
  is_here = is a ∙ eq-eqb a a refl

  not_here : (k : ℕ) → (k == a) ≡ false → is_of k entry ≡ false
  not_here k e = is k ∙ ne_eqb a k (λ (same : a ≡ k). eqb-false k a e (sym same))

  -- the entry is the next event of its worker's shift
  pub is_met : (rest : List PoolEvent) (d : PoolEvent) → get_or met a 0 < length y.events → get_or y.events (get_or met a 0) d ≡ entry
      → AreLeft shifts (set met a (get_or met a 0 + 1)) rest ↔ AreLeft shifts met (entry ∷ rest)
  is_met rest d within next = (λ h k x at. on h k x at (k == a) refl, λ h k x at. back h k x at (k == a) refl) where
    place : ℕ
    place = get_or met a 0

    front : drop place y.events ≡ entry ∷ drop (place + 1) y.events
    front = drop_at y.events place d within ∙ ap (λ (e : PoolEvent). e ∷ drop (place + 1) y.events) next

    on : AreLeft shifts (set met a (place + 1)) rest → (k : ℕ) (x : Worked) → slice_get shifts k ≡ Some x → (b : Bool) → (k == a) ≡ b
        → drop (get_or met k 0) x.events ≡ part_of k (entry ∷ rest)
    on h k x at true e =
        let here : k ≡ a = eqb-true k a e in
        let left : drop (place + 1) y.events ≡ part_of a rest =
        ap (λ (n : ℕ). drop n y.events) (sym (get_or-set_same met a (place + 1) 0 room)) ∙ h a y there in
        ap₂ (λ (n : ℕ) (z : Worked). drop (get_or met n 0) z.events) here (same k x here at)
        ∙ front ∙ ap (λ (es : List PoolEvent). entry ∷ es) left ∙ sym (part_here a entry rest is_here)
        ∙ ap (λ (n : ℕ). part_of n (entry ∷ rest)) (sym here)
    on h k x at false e =
        ap (λ (n : ℕ). drop n x.events) (sym (get_or-set_other met a k (place + 1) 0 (eqb-false k a e))) ∙ h k x at
        ∙ sym (part_other k entry rest (not_here k e))

    back : AreLeft shifts met (entry ∷ rest) → (k : ℕ) (x : Worked) → slice_get shifts k ≡ Some x → (b : Bool) → (k == a) ≡ b
        → drop (get_or (set met a (place + 1)) k 0) x.events ≡ part_of k rest
    back h k x at true e =
        let here : k ≡ a = eqb-true k a e in
        let both : entry ∷ drop (place + 1) y.events ≡ entry ∷ part_of a rest = sym front ∙ h a y there ∙ part_here a entry rest is_here in
        let left : drop (place + 1) y.events ≡ part_of a rest = cc in
        ap₂ (λ (n : ℕ) (z : Worked). drop (get_or (set met a (place + 1)) n 0) z.events) here (same k x here at)
        ∙ ap (λ (n : ℕ). drop n y.events) (get_or-set_same met a (place + 1) 0 room) ∙ left ∙ ap (λ (n : ℕ). part_of n rest) (sym here)
    back h k x at false e =
        ap (λ (n : ℕ). drop n x.events) (get_or-set_other met a k (place + 1) 0 (eqb-false k a e)) ∙ h k x at
        ∙ part_other k entry rest (not_here k e)

  -- the shift has no event more
  pub is_past : (rest : List PoolEvent) → length y.events ≤ get_or met a 0 → AreLeft shifts met (entry ∷ rest) → ⊥
  is_past rest past h =
      let none : [] ≡ entry ∷ part_of a rest = sym (drop_all (get_or met a 0) y.events past) ∙ h a y there ∙ part_here a entry rest is_here in
      cc

  -- the shift's next event is another one
  pub is_other : (rest : List PoolEvent) (d : PoolEvent) → get_or met a 0 < length y.events
      → (get_or y.events (get_or met a 0) d ≡ entry → ⊥) → AreLeft shifts met (entry ∷ rest) → ⊥
  is_other rest d within other h =
      let both : get_or y.events (get_or met a 0) d ∷ drop (get_or met a 0 + 1) y.events ≡ entry ∷ part_of a rest =
      sym (drop_at y.events (get_or met a 0) d within) ∙ h a y there ∙ part_here a entry rest is_here in
      let heads : get_or y.events (get_or met a 0) d ≡ entry = cc in
      other heads

-- nothing was met yet
pub none_met : (shifts : List Worked) (met : List ℕ) (log : List PoolEvent) → ((k : ℕ) → get_or met k 0 ≡ 0) →
    AreLeft shifts met log ↔ AreParts log shifts
none_met shifts met log zeros = (
  λ h k x at. sym (ap (λ (n : ℕ). drop n x.events) (zeros k)) ∙ h k x at,
  λ h k x at. ap (λ (n : ℕ). drop n x.events) (zeros k) ∙ h k x at,
)

abbrev none_yet : ℕ → List ℕ
none_yet n = replicate n 0

zeros : (n k : ℕ) → get_or (none_yet n) k 0 ≡ 0
zeros zero k = refl
zeros (suc n) zero = refl
zeros (suc n) (suc k) = zeros n k

pub no_event : (k : ℕ) → get_or (none_yet 1024) k 0 ≡ 0
no_event k = zeros 1024 k

-- an event that wasn't met is left
pub is_left : (events : List PoolEvent) (n : ℕ) → n < length events → drop n events ≡ [] → ⊥
is_left events n within none = let long : length (drop n events) ≡ 0 = ap length none in omega (arith, length-drop n events, long, within)

-- the next entry of a log
pub next_entry : (shifts : List Worked) (met : List ℕ) (log : List PoolEvent) (n : ℕ) (d : PoolEvent) → n < length log
    → AreLeft shifts met (drop n log) → AreLeft shifts met (get_or log n d ∷ drop (n + 1) log)
next_entry shifts met log n d within h = subst (λ (es : List PoolEvent). AreLeft shifts met es) (drop_at log n d within) h

pub back_entry : (shifts : List Worked) (met : List ℕ) (log : List PoolEvent) (n : ℕ) (d : PoolEvent) → n < length log
    → AreLeft shifts met (get_or log n d ∷ drop (n + 1) log) → AreLeft shifts met (drop n log)
back_entry shifts met log n d within h = subst (λ (es : List PoolEvent). AreLeft shifts met es) (sym (drop_at log n d within)) h

-- the log is at its end
pub all_entries : (shifts : List Worked) (met : List ℕ) (log : List PoolEvent) (n : ℕ) (answer : Bool) → length log ≤ n
    → AreLeft shifts met (drop n log) ↔ AreParts log shifts → Decides answer (AreLeft shifts met []) → Decides answer (AreParts log shifts)
all_entries shifts met log n true past h none =
    h.0 (subst (λ (es : List PoolEvent). AreLeft shifts met es) (sym (drop_all n log past)) none)
all_entries shifts met log n false past h none =
    λ parts. none (subst (λ (es : List PoolEvent). AreLeft shifts met es) (drop_all n log past) (h.1 parts))
