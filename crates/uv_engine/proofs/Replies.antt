-- What a session answers, as a reply.
use Rattle.uv_engine.proofs.Names.{◌≡◌, ℕ, suc, zero, inl, inr, ◌<◌, ◌≤◌, List, [], ◌∷◌, length, true, false, take, codes, ◌-◌, ◌++◌, length-take, length-append, Some, None, Ok, Err, refl, ap, sym, subst, ◌∙◌, arith, cases_order, nat_tests, Event, Outcome, Why, Program, Break, Shown, TakesEvent, moved_back, moved_forward, BREAKS, stops_at, NoneFrom, IsLastBreak, Took, Full, reply, break_text, at_text, back_text, back_after, forward_text, forward_after, add_text, add_after, last_match, last_break, break_back_text, break_back_after, append_assoc, append-nil, Option, Seen, stops, appended_text, stop_text, nat_lt, nat_le}
use Rattle.uv_ids.specs.declared.fault.Fault.TheVariants as fault
use Rattle.uv_engine.specs.Reply.{Refused}

below : (m n : ℕ) → m < n → nat_lt m n ≡ true
below m n h = grind (arith, nat_tests)

above : (m n : ℕ) → n ≤ m → nat_lt m n ≡ false
above m n h = grind (arith, nat_tests)

abbrev shown : Program → ℕ → List Event → List Event → List Break → Shown
shown p l xs us bs = record { program = p; limit = l; standing = xs; taken_back = us; breaks = bs }

pub same_shown : (s t : Shown) → s.program ≡ t.program → s.limit ≡ t.limit → s.standing ≡ t.standing → s.taken_back ≡ t.taken_back →
    s.breaks ≡ t.breaks → s ≡ t
same_shown s t a b c d e = grind arith

pub took : (s t : Shown) (e : Event) (outcome : Outcome) → TakesEvent s e (Ok outcome) t → reply s e ≡ Took t outcome.seen
took s t e outcome h = grind arith

pub refused : (s t : Shown) (e : Event) (why : Why) → TakesEvent s e (Err (fault.Refused why)) t → (reply s e ≡ Refused why) × (t ≡ s)
refused s t e why h = grind arith

pub full : (s t : Shown) (e : Event) → TakesEvent s e (Err fault.StepsFull) t → (reply s e ≡ Full) × (t ≡ s)
full s t e h = grind arith

-- ---- one step

-- its line is told, and that it matches a break
pub told_stop : (p : Program) (t : Shown) (seen : Option Seen) (old mid new : List ℕ) → stops t.breaks seen ≡ true →
    mid ≡ old ++ appended_text p seen → new ≡ mid ++ break_text (length t.standing) → new ≡ old ++ (appended_text p seen ++ stop_text t seen)
told_stop p t seen old mid new on e f = rw (f, e, on) (append_assoc old (appended_text p seen) (break_text (length t.standing)))

-- its line is told, and it matches none
pub told_on : (p : Program) (t : Shown) (seen : Option Seen) (old mid : List ℕ) → stops t.breaks seen ≡ false → mid ≡ old ++ appended_text p seen →
    mid ≡ old ++ (appended_text p seen ++ stop_text t seen)
told_on p t seen old mid off e = rw (e, off, append-nil (appended_text p seen)) refl

pub ruleset replies = (took, refused, full)

-- ---- moves

nat_le_true : (m n : ℕ) → m ≤ n → nat_le m n ≡ true
nat_le_true m n h = grind (arith, nat_tests)

nat_le_false : (m n : ℕ) → n < m → nat_le m n ≡ false
nat_le_false m n h = grind (arith, nat_tests)

-- so many steps were taken back
pub back_text-taken : (n : ℕ) (s t : Shown) → n ≤ length s.standing → t ≡ moved_back n s
    → back_text n s ≡ at_text (length t.standing)
back_text-taken n s t l e = grind (arith, length-take, nat_le_true)

pub back_after-taken : (n : ℕ) (s t : Shown) → n ≤ length s.standing → t ≡ moved_back n s → t ≡ back_after n s
back_after-taken n s t l e = rw (nat_le_true n (length s.standing) l) e

-- there are not so many
pub back_text-refused : (n : ℕ) (s : Shown) → length s.standing < n → back_text n s ≡ codes "refused range\n"
back_text-refused n s l = rw (nat_le_false n (length s.standing) l) refl

pub back_after-refused : (n : ℕ) (s : Shown) → length s.standing < n → s ≡ back_after n s
back_after-refused n s l = rw (nat_le_false n (length s.standing) l) refl

pub ruleset backs = (back_text-taken, back_after-taken, back_text-refused, back_after-refused)

-- so many steps were run again
pub forward_text-taken : (n : ℕ) (s t : Shown) → n ≤ length s.taken_back → t ≡ moved_forward n s → forward_text n s ≡ at_text (length t.standing)
forward_text-taken n s t l e = grind (arith, length-append, length-take, nat_le_true)

pub forward_after-taken : (n : ℕ) (s t : Shown) → n ≤ length s.taken_back → t ≡ moved_forward n s → t ≡ forward_after n s
forward_after-taken n s t l e = rw (nat_le_true n (length s.taken_back) l) e

-- not so many were taken back
pub forward_text-refused : (n : ℕ) (s : Shown) → length s.taken_back < n → forward_text n s ≡ codes "refused range\n"
forward_text-refused n s l = rw (nat_le_false n (length s.taken_back) l) refl

pub forward_after-refused : (n : ℕ) (s : Shown) → length s.taken_back < n → s ≡ forward_after n s
forward_after-refused n s l = rw (nat_le_false n (length s.taken_back) l) refl

pub ruleset forwards = (forward_text-taken, forward_after-taken, forward_text-refused, forward_after-refused)

-- one break more
pub add_text-added : (s : Shown) → length s.breaks < BREAKS → add_text s ≡ codes "break ok\n"
add_text-added s l = rw (below (length s.breaks) BREAKS l) refl

pub add_after-added : (b : Break) (s t : Shown) → length s.breaks < BREAKS → t ≡ record s { breaks = s.breaks ++ b ∷ [] } → t ≡ add_after b s
add_after-added b s t l e = rw (below (length s.breaks) BREAKS l) e

pub add_text-refused : (s : Shown) → BREAKS ≤ length s.breaks → add_text s ≡ codes "refused limit\n"
add_text-refused s l = rw (above (length s.breaks) BREAKS l) refl

pub add_after-refused : (b : Break) (s : Shown) → BREAKS ≤ length s.breaks → s ≡ add_after b s
add_after-refused b s l = rw (above (length s.breaks) BREAKS l) refl

pub ruleset adds = (add_text-added, add_after-added, add_text-refused, add_after-refused)

-- ---- back to a break

-- of the first n steps none behind this one matches
abbrev NoneBehind : Shown → ℕ → ℕ → Type 0
NoneBehind s step n = (k : ℕ) → step < k → k ≤ n → stops_at s k ≡ false

last_match-none : (s : Shown) (n : ℕ) → NoneBehind s 0 n → last_match s n ≡ None
last_match-none s zero h = refl
last_match-none s (suc n) h = rw (h (suc n) (omega arith) (omega arith)) (last_match-none s n (λ k l m. h k l (omega arith)))

last_match-some : (s : Shown) (n step : ℕ) → 1 ≤ step → step ≤ n → stops_at s step ≡ true → NoneBehind s step n → last_match s n ≡ Some step
last_match-some s zero step l u m h = absurd (omega arith)
last_match-some s (suc n) step l u m h = elim (cases_order step (suc n)) [
  | inl e ↦ let here : stops_at s (suc n) ≡ true = subst (λ (k : ℕ). stops_at s k ≡ true) e m in rw (here, e) refl
  | inr (inl less) ↦ rw (h (suc n) less (omega arith)) (last_match-some s n step l (omega arith) m (λ k a b. h k a (omega arith)))
  | inr (inr more) ↦ absurd (omega arith)
]

pub break_back-found : (s : Shown) (step : ℕ) → IsLastBreak s step → last_break s ≡ Some step
break_back-found s step h = grind (arith, last_match-some)

pub break_back-none : (s : Shown) → NoneFrom s 1 → last_break s ≡ None
break_back-none s h = last_match-none s (length s.standing - 1) (λ k a b. h k (omega arith) (omega arith))

pub break_text-found : (s : Shown) (step : ℕ) → IsLastBreak s step → break_back_text (last_break s) ≡ break_text step
break_text-found s step h = ap break_back_text (break_back-found s step h)

pub break_after-found : (s t : Shown) (step : ℕ) → IsLastBreak s step → t ≡ moved_back (length s.standing - step) s →
    t ≡ break_back_after s (last_break s)
break_after-found s t step h e = e ∙ sym (ap (break_back_after s) (break_back-found s step h))

pub break_text-none : (s : Shown) → NoneFrom s 1 → break_back_text (last_break s) ≡ codes "refused range\n"
break_text-none s h = ap break_back_text (break_back-none s h)

pub break_after-none : (s : Shown) → NoneFrom s 1 → s ≡ break_back_after s (last_break s)
break_after-none s h = sym (ap (break_back_after s) (break_back-none s h))

pub ruleset breaks_back = (break_text-found, break_after-found, break_text-none, break_after-none)
