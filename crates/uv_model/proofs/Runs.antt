-- A list of events with one more, and the first of a list.
use Rattle.uv_model.proofs.Names.{◌≡◌, ℕ, suc, ◌+◌, ◌<◌, zero, List, [], ◌∷◌, ◌++◌, length, take, slice_get, Option, Some, refl, ap, ◌∙◌, get_or, subst, arith, take_more, slice_get_read, Event, Seen, Program, State, fresh, Next, Moves, Refuses, goes_on, seen_from, state_of, seen_of, IsMove, AcceptsFrom, Answers, Fault, Why, Err}
use Rattle.uv_model.specs.Next.{next}
use Rattle.uv_model.specs.After.{after, seen_by, Accepts}
use Rattle.uv_ids.specs.declared.fault.Fault.TheVariants as fault

pub after-nil : (p : Program) → after p [] ≡ fresh p
unfolding after
after-nil p = refl

pub seen_by-nil : (p : Program) → seen_by p [] ≡ []
unfolding seen_by
seen_by-nil p = refl

goes_on-push : (p : Program) (s : State) (es : List Event) (e : Event) →
    goes_on p s (es ++ e ∷ []) ≡ state_of (goes_on p s es) (next p (goes_on p s es) e)
goes_on-push p s [] e = refl
goes_on-push p s (x ∷ es) e = goes_on-push p (state_of s (next p s x)) es e

pub after-push : (p : Program) (es : List Event) (e : Event) → after p (es ++ e ∷ []) ≡ state_of (after p es) (next p (after p es) e)
unfolding after
after-push p es e = goes_on-push p (fresh p) es e

seen_from-push : (p : Program) (s : State) (es : List Event) (e : Event) →
    seen_from p s (es ++ e ∷ []) ≡ seen_from p s es ++ seen_of (next p (goes_on p s es) e) ∷ []
seen_from-push p s [] e = refl
seen_from-push p s (x ∷ es) e = ap (λ (ls : List (Option Seen)). seen_of (next p s x) ∷ ls) (seen_from-push p (state_of s (next p s x)) es e)

pub seen_by-push : (p : Program) (es : List Event) (e : Event) → seen_by p (es ++ e ∷ []) ≡ seen_by p es ++ seen_of (next p (after p es) e) ∷ []
unfolding seen_by after
seen_by-push p es e = seen_from-push p (fresh p) es e

length-seen_from : (p : Program) (s : State) (es : List Event) → length (seen_from p s es) ≡ length es
length-seen_from p s [] = refl
length-seen_from p s (x ∷ es) = ap suc (length-seen_from p (state_of s (next p s x)) es)

pub length-seen_by : (p : Program) (es : List Event) → length (seen_by p es) ≡ length es
unfolding seen_by
length-seen_by p es = length-seen_from p (fresh p) es

seen_from-take : (p : Program) (s : State) (k : ℕ) (es : List Event) → seen_from p s (take k es) ≡ take k (seen_from p s es)
seen_from-take p s (suc k) (x ∷ es) = ap (λ (ls : List (Option Seen)). seen_of (next p s x) ∷ ls) (seen_from-take p (state_of s (next p s x)) k es)
seen_from-take p s each e3 = assumption

pub seen_by-take : (p : Program) (k : ℕ) (es : List Event) → seen_by p (take k es) ≡ take k (seen_by p es)
unfolding seen_by
seen_by-take p k es = seen_from-take p (fresh p) k es

-- what a standing step appended, read from a list of what each of them appended
pub seen_at : (p : Program) (es : List Event) (xs : List (Option Seen)) (k : ℕ) (x : Option Seen) → xs ≡ seen_by p es → k < length es →
    x ≡ get_or xs k x → slice_get (seen_by p es) k ≡ Some x
seen_at p es xs k x same within is = grind (arith, length-seen_by, slice_get_read)

-- an accepted event is one more step
pub after-moves : (p : Program) (es : List Event) (e : Event) (t : State) (seen : Option Seen) → next p (after p es) e ≡ Moves t seen →
    after p (es ++ e ∷ []) ≡ t
after-moves p es e t seen h = after-push p es e ∙ ap (state_of (after p es)) h

pub seen_by-moves : (p : Program) (es : List Event) (e : Event) (t : State) (seen : Option Seen) → next p (after p es) e ≡ Moves t seen →
    seen_by p (es ++ e ∷ []) ≡ seen_by p es ++ seen ∷ []
seen_by-moves p es e t seen h = seen_by-push p es e ∙ ap (λ (x : Next). seen_by p es ++ seen_of x ∷ []) h

pub after-refused : (p : Program) (es : List Event) (e : Event) (why : _) → next p (after p es) e ≡ Refuses why → after p (es ++ e ∷ []) ≡ after p es
after-refused p es e why h = after-push p es e ∙ ap (state_of (after p es)) h

-- one more event of a list, as a loop takes it
pub after-take : (p : Program) (es : List Event) (k : ℕ) (d : Event) → k < length es →
    after p (take (k + 1) es) ≡ state_of (after p (take k es)) (next p (after p (take k es)) (get_or es k d))
after-take p es k d h = rw (take_more es k d h) (after-push p (take k es) (get_or es k d))

accepts_from-push : (p : Program) (s : State) (es : List Event) (e : Event) → AcceptsFrom p s es → IsMove (next p (goes_on p s es) e) →
    AcceptsFrom p s (es ++ e ∷ [])
accepts_from-push p s [] e h k = (k, tt)
accepts_from-push p s (x ∷ es) e h k = (h.0, accepts_from-push p (state_of s (next p s x)) es e h.1 k)

pub accepts-nil : (p : Program) → Accepts p []
unfolding Accepts
accepts-nil p = tt

pub accepts-push : (p : Program) (es : List Event) (e : Event) (t : State) (seen : Option Seen) → Accepts p es →
    next p (after p es) e ≡ Moves t seen → Accepts p (es ++ e ∷ [])
unfolding Accepts after
accepts-push p es e t seen h k = accepts_from-push p (fresh p) es e h (grind arith)

accepts_from-take : (p : Program) (s : State) (k : ℕ) (es : List Event) → AcceptsFrom p s es → AcceptsFrom p s (take k es)
accepts_from-take p s (suc k) (x ∷ es) h = (h.0, accepts_from-take p (state_of s (next p s x)) k es h.1)
accepts_from-take p s each e3 h = assumption

pub accepts-take : (p : Program) (k : ℕ) (es : List Event) → Accepts p es → Accepts p (take k es)
unfolding Accepts
accepts-take p k es h = accepts_from-take p (fresh p) k es h

accepts_from-at : (p : Program) (s : State) (k : ℕ) (es : List Event) (d : Event) → AcceptsFrom p s es → k < length es →
    IsMove (next p (goes_on p s (take k es)) (get_or es k d))
accepts_from-at p s zero [] d h l = absurd (omega arith)
accepts_from-at p s (suc k) [] d h l = absurd (omega arith)
accepts_from-at p s zero (x ∷ es) d h l = h.0
accepts_from-at p s (suc k) (x ∷ es) d h l = accepts_from-at p (state_of s (next p s x)) k es d h.1 (omega arith)

-- an accepted event is accepted again where it stood
pub accepts-at : (p : Program) (es : List Event) (k : ℕ) (d : Event) → Accepts p es → k < length es →
    IsMove (next p (after p (take k es)) (get_or es k d))
unfolding Accepts after
accepts-at p es k d h l = accepts_from-at p (fresh p) k es d h l

-- so it is not refused
pub not_refused : (p : Program) (es : List Event) (k : ℕ) (d e : Event) (why : Why) → Accepts p es → k < length es → e ≡ get_or es k d →
    next p (after p (take k es)) e ≡ Refuses why → ⊥
not_refused p es k d e why h l same r = subst IsMove r (rw same (accepts-at p es k d h l))

pub ruleset runs = (after-nil, seen_by-nil, after-moves, seen_by-moves, after-refused, length-seen_by, seen_by-take)

-- a step that is taken can fail for memory alone
pub only_memory : (limit : ℕ) (p : Program) (es : List Event) (e : Event) (f : Fault) (fs : List Event) → length es < limit →
    IsMove (next p (after p es) e) → Answers limit p es e (Err f) fs → (f ≡ fault.Memory) × (fs ≡ es)
only_memory limit p es e f fs l m h = grind arith

pub ruleset accepting = (accepts-nil, accepts-push, accepts-take, not_refused)
