-- One place further along a log.
use Rattle.uv_live.proofs.Names.{◌≡◌, ◌∙◌, ◌<◌, ◌≤◌, ⊎_elim, ℕ, ◌+◌, List, [], ◌∷◌, ◌++◌, Option, Some, Err, take, drop, map, length, get_or, slice_get, sym, ap, subst, arith, append_assoc, cases_lt, take_more, length-take-le, drop_all, drop-append-le, map-append, append-nil, Event, IsLegal, PoolEvent, Course, step_of, stepped, taken, Fault, Why, Applies, IsWorkers, MayTake, OnFull, Syncs}
use Rattle.uv_ids.specs.declared.fault.Fault.TheVariants as fault
use Rattle.uv_live.proofs.Legal.{legal_take}

-- the next entry may follow the session's events
pub next_legal : (workers asked : ℕ) (log : List PoolEvent) (s t : Course) (n : ℕ) (d : PoolEvent) → asked ≡ workers → IsLegal workers log
    → t ≡ taken n log s → n < length log → IsLegal asked (t.events ++ get_or log n d ∷ [])
next_legal workers asked log s t n d same legal done within =
    let P : List PoolEvent → Type 0 = λ xs. IsLegal workers xs in
    let Q : ℕ → Type 0 = λ k. IsLegal k (t.events ++ get_or log n d ∷ []) in
    let more : take (n + 1) log ≡ t.events ++ get_or log n d ∷ [] =
    take_more log n d within ∙ ap (λ (u : Course). u.events ++ get_or log n d ∷ []) (sym done) in
    subst Q (sym same) (subst P more (legal_take workers (n + 1) log legal))

theirs_more : (log : List PoolEvent) (from n : ℕ) (e : PoolEvent) → ((m : ℕ) → from ≤ m → m < n → IsWorkers (slice_get log m))
    → slice_get log n ≡ Some e → IsWorkers (Some e) → (m : ℕ) → from ≤ m → m < n + 1 → IsWorkers (slice_get log m)
theirs_more log from n e before here is m low high =
    let P : Option PoolEvent → Type 0 = λ o. IsWorkers o in
    let Q : ℕ → Type 0 = λ k. IsWorkers (slice_get log k) in
    let same : n ≤ m → n ≡ m = λ past. omega arith in
    ⊎_elim (λ (less : m < n). before m low less) (λ (past : n ≤ m). subst Q (same past) (subst P (sym here) is)) (cases_lt m n)

pub may_more : (log events : List PoolEvent) (n : ℕ) (e : PoolEvent) → n < length log → slice_get log n ≡ Some e → IsWorkers (Some e)
    → MayTake n log events → MayTake (n + 1) log events
may_more log events n e within here is h = record {
  begins = h.begins;
  from = omega (arith, h.from);
  within = omega (arith, within);
  theirs = theirs_more log (length events) n e h.theirs here is;
}

same_course : (s t : Course) → s.steps ≡ t.steps → s.events ≡ t.events → s ≡ t
same_course s t a b = λ l. record { steps = a l; events = b l }

steps_more : (log : List PoolEvent) (from n : ℕ) (d : PoolEvent) (steps : List Event) → from ≤ n → n < length log
    → (steps ++ map step_of (drop from (take n log))) ++ step_of (get_or log n d) ∷ [] ≡ steps ++ map step_of (drop from (take (n + 1) log))
steps_more log from n d steps low within =
    let long : from ≤ length (take n log) = rw (length-take-le n log (omega arith)) low in
    let rest : drop from (take (n + 1) log) ≡ drop from (take n log) ++ get_or log n d ∷ [] =
    ap (λ (xs : List PoolEvent). drop from xs) (take_more log n d within) ∙ drop-append-le from (take n log) (get_or log n d ∷ []) long in
    let more : map step_of (drop from (take (n + 1) log)) ≡ map step_of (drop from (take n log)) ++ step_of (get_or log n d) ∷ [] =
    ap (map step_of) rest ∙ map-append step_of (drop from (take n log)) (get_or log n d ∷ []) in
    append_assoc steps (map step_of (drop from (take n log))) (step_of (get_or log n d) ∷ []) ∙ ap (λ (xs : List Event). steps ++ xs) (sym more)

-- one entry more
pub more_taken : (log : List PoolEvent) (s t u : Course) (n : ℕ) (d : PoolEvent) → length s.events ≤ n → n < length log → t ≡ taken n log s
    → u ≡ stepped (step_of (get_or log n d)) (get_or log n d ∷ []) t → u ≡ taken (n + 1) log s
more_taken log s t u n d low within before more =
    more ∙ (ap (stepped (step_of (get_or log n d)) (get_or log n d ∷ [])) before
    ∙ same_course (stepped (step_of (get_or log n d)) (get_or log n d ∷ []) (taken n log s)) (taken (n + 1) log s)
    (steps_more log (length s.events) n d s.steps low within) (sym (take_more log n d within)))

-- the entries before place n were applied
pub record AreApplied (n : ℕ) (log : List PoolEvent) (s t : Course) : Type 0 where
  pub may : MayTake n log s.events
  pub course : t ≡ taken n log s

-- the entry was not applied, for want of memory or of a step
pub some_applied : (e : PoolEvent) (log : List PoolEvent) (s t u : Course) (n : ℕ) (f : Fault) → n < length log → AreApplied n log s t
    → Applies e t (Err f) u → Syncs log s (Err f) u
some_applied e log s t u n fault.Memory within h a = (n, h.may, a ∙ h.course)
some_applied e log s t u n fault.StepsFull within h a = (n, within, h.may, a ∙ h.course)
some_applied e log s t u n f within h a = absurd a

-- where that was for want of a step, as many steps stand as may
pub full_there : (e : PoolEvent) (t u : Course) (f : Fault) (asked most : ℕ) → asked ≡ most → Applies e t (Err f) u
    → OnFull {X = Unit {0}} (Err f) (asked ≤ length t.steps) → OnFull {X = ℕ} (Err f) (most ≤ length u.steps)
full_there e t u fault.StepsFull asked most same a full =
    subst (λ (n : ℕ). n ≤ length u.steps) same (subst (λ (c : Course). asked ≤ length c.steps) (sym a) full)
full_there e t u fault.Memory asked most same a full = tt
full_there e t u f asked most same a full = absurd a

-- an entry that may follow isn't refused
pub never_refused : (e : PoolEvent) (s t : Course) (f : Fault) (w : Why) → f ≡ fault.Refused w → Applies e s (Err f) t → ⊥
never_refused e s t f w is a = let P : Fault → Type 0 = λ x. Applies e s (Err x) t in subst P is a
