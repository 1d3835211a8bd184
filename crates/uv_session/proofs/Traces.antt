-- The lines of the first steps, one step after another.
use Rattle.uv_session.proofs.Names.{◌≡◌, ℕ, ◌+◌, ◌<◌, ◌≤◌, List, [], ◌∷◌, ◌++◌, length, take, Option, Some, refl, ap, sym, subst, ◌∙◌, append_assoc, append-nil, take_more, take_all, get_or_from_slice_get, slice_get, option_to_list, flat_map, Event, Seen, Program, worker_count, IsLegal, lines, length-seen_by, lines-history, Once, pool_events, pool_of, documented, once, pools, Shown, replay, after, seen_by}
use Rattle.uv_session.specs.Shown.{IsDocumented}

-- the lines that are there
abbrev pub those : List (Option Seen) → List Seen
those xs = flat_map option_to_list xs

those-append : (xs ys : List (Option Seen)) → those (xs ++ ys) ≡ those xs ++ those ys
those-append [] ys = refl
those-append (x ∷ xs) ys = simp (option_to_list, append_assoc, (those-append xs ys))

-- one step more
pub those_more : (xs : List (Option Seen)) (i : ℕ) (x : Option Seen) → slice_get xs i ≡ Some x → i < length xs →
    those (take (i + 1) xs) ≡ those (take i xs) ++ option_to_list x
those_more xs i x h l = rw (take_more xs i x l, get_or_from_slice_get xs i x x h)
    (those-append (take i xs) (x ∷ []) ∙ ap (λ (zs : List Seen). those (take i xs) ++ zs) (append-nil (option_to_list x)))

-- all of them
pub those_all : (p : Program) (es : List Event) (i : ℕ) → length es ≤ i → those (take i (seen_by p es)) ≡ lines p es
those_all p es i l = let m : length (seen_by p es) ≤ i = rw length-seen_by l in rw (take_all i (seen_by p es) m) refl

-- the lines of the standing steps are documented
pub is_documented : (s : Shown) (trace : List Seen) → trace ≡ lines s.program s.standing → IsDocumented s trace
unfolding IsDocumented
is_documented s trace e = (e ∙ lines-history s.program s.standing, documented s.program s.standing)

-- by the lines of the standing steps each handle closes once
pub is_once : (s : Shown) (trace : List Seen) → trace ≡ lines s.program s.standing → Once s.program trace
is_once s trace e = subst (Once s.program) (sym e) (once s.program s.standing)

-- the events of the pool that these lines say are possible one after another
pub is_legal : (s : Shown) (trace : List Seen) → trace ≡ lines s.program s.standing →
    IsLegal (worker_count s.program) (pool_events s.program trace)
is_legal s trace e = (
  pool_of (after s.program s.standing),
  ap (λ (ls : List Seen). replay (worker_count s.program) (pool_events s.program ls)) e ∙ pools s.program s.standing,
)

pub ruleset traces = (those_more, length-seen_by)
