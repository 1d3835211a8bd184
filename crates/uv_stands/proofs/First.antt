-- The first timer: the least entry of the heap.
use Rattle.uv_stands.proofs.ProofNames.{◌≡◌, ◌-◌, ◌∷◌, [], List, min, map, Option, Some, None, slice_get, refl, ap, arith, is_lt, Ordering, Entry, IsInOrder, IsBeforeAll, counts_itself, LONGEST_POLL, Place, State, until_first, IsReached, Before, Content, Image, StandsFor, timer_in}
use Rattle.uv_arena.specs.Image as arena

-- an entry whose timer comes before each of the others comes before their entries
pub before_all : (a : arena.Image Content) (f : Entry) (fs : List Entry) → Before f.due (map (timer_in a) fs) → IsBeforeAll f fs
before_all a f [] b = tt
before_all a f (x ∷ fs) b = (ap (λ (o : Ordering). is_lt o) b.0, before_all a f fs b.1)

-- an array without entries in order is empty
empty_array : (array : List Entry) → IsInOrder array [] → slice_get array 0 ≡ None
empty_array [] o = refl
empty_array (x ∷ xs) o = absurd (let none = o.same x in let one = counts_itself x xs in omega (arith, none, one))

-- the timer of the array's first entry is the first one
pub first_timer : (i : Image Place) (s : State) (o : Option Entry) → StandsFor i s → IsReached s → o ≡ slice_get i.heap 0
    → ((f : Entry) (fs : List Entry) → IsInOrder i.heap (f ∷ fs) → IsBeforeAll f fs → o ≡ Some f)
    → until_first s.time s.timers ≡ (elim o [ None ↦ None | Some e ↦ Some (min (e.due.at - i.times.time) LONGEST_POLL) ])
first_timer i s o h r root first = at h.timers.entries h.timers.ordered h.timers.same where
  at : (es : List Entry) → IsInOrder i.heap es → s.timers ≡ map (timer_in i.arena) es
      → until_first s.time s.timers ≡ (elim o [ None ↦ None | Some e ↦ Some (min (e.due.at - i.times.time) LONGEST_POLL) ])
  at [] ordered same = grind (arith, empty_array)
  at (f ∷ fs) ordered same = grind (arith, before_all)
