-- What is offered where one name and the next one have changed places: the same events, those of workers by other ranks.
use Rattle.uv_find.proofs.Names.{◌≡◌, ℕ, zero, suc, ◌+◌, ◌≤◌, ◌&&◌, not, Bool, true, List, [], ◌∷◌, length, drop, slice_get, is_some, if◌then◌else◌, refl, ap, ap₂, ◌∙◌, Option, Some, None, arith, map, option_map, list_all, and_parts, Event, Loop, Take, Finish, Cancel, Send, Io, Tick, Id, Var, Callback, MainOp, Program, lines_in, Named, held, Content, line_of, Next, State, named, changed_callback, changed_event, changed_main, changed_place, moved_var, moved_content, by_names, Offer, Offered, Kept, Left, offer_spares, main_spares, is_beside, spares, of_main, Rules, aim, is_made, is_free, spending, step_of, is_blocked, refused_as_blocked, deadline_at, wait_until, may_last, ends_within, wait_for, is_quiet, is_closing, closes, event_of, timed, brief, offered_by, ranked, AreMates}
use Rattle.uv_model.specs.Next.{next}
use Rattle.uv_model.specs.declared.place.Place as loop
use Rattle.uv_slots.specs.Alike as slots
use Rattle.uv_asking.specs.declared.asking.Offer.TheVariants as offers
use Rattle.uv_find.proofs.Equal.{lines_turned}
use Rattle.uv_find.proofs.Swap.{swap, swap_length, swap_order}
use Rattle.uv_find.proofs.Mirrored.{NamesChange, mirrored, mirrored_next, next_mirrored, held_mirrored, named_same}
use Rattle.uv_find.proofs.Twins.{beside_stays, beside_var}

-- ---- the script says the same

main_same : (a : ℕ) (m : MainOp) → of_main (spares a) m ≡ true → changed_main (by_names (swap a)) m ≡ m
main_same a m e = grind (arith, beside_var)

all_behind : {X : Type 0} (f : X → Bool) (xs : List X) (k : ℕ) (x : X) → list_all f (drop k xs) ≡ true → slice_get xs k ≡ Some x → f x ≡ true
all_behind f (y ∷ ys) (suc k) x e at = all_behind f ys k x e at
all_behind f each e2 x e at = grind arith

all_further : {X : Type 0} (f : X → Bool) (xs : List X) (k m : ℕ) → k ≤ m → list_all f (drop k xs) ≡ true → list_all f (drop m xs) ≡ true
all_further f [] zero zero l e = e
all_further f [] zero (suc m) l e = refl
all_further f [] (suc k) zero l e = absurd (omega (arith, l))
all_further f [] (suc k) (suc m) l e = refl
all_further f (x ∷ xs) zero zero l e = e
all_further f (x ∷ xs) zero (suc m) l e = all_further f xs 0 m (omega arith) (from_all xs (and_parts (f x) (list_all f xs) e).1)
  where
    from_all : (ys : List _) → list_all f ys ≡ true → list_all f (drop 0 ys) ≡ true
    from_all ys e = assumption
all_further f (x ∷ xs) (suc k) zero l e = absurd (omega (arith, l))
all_further f (x ∷ xs) (suc k) (suc m) l e = all_further f xs k m (omega (arith, l)) e

pub spares_further : (a : ℕ) (p : Program) (q u : loop.Place) → line_of q ≤ line_of u → main_spares a p q ≡ true → main_spares a p u ≡ true
spares_further a p q u l e = all_further (of_main (spares a)) p.main (line_of q) (line_of u) l e

module _ (r : Rules) (a : ℕ) (mates : AreMates r a) where
  pub lines_moved : (kind : Callback) (v : Var)
      → lines_in r.program kind (moved_var (swap a) v) ≡ map (changed_callback (by_names (swap a))) (lines_in r.program kind v)
  lines_moved = lines_turned a r.program mates.within mates.turned

  -- where no line that is ahead of the main program names either, the names are alike
  pub are_alike : (s : State) → a + 2 ≤ length s.names → main_spares a r.program s.place ≡ true → slots.AreAlike r.program (swap a) s
  are_alike s wide clear =
      grind (arith, swap_order, swap_length, lines_moved, slice_get, option_map, changed_main, list_all, drop, line_of, main_same, all_behind)

-- ---- what a search reads

quiet_same : (a : ℕ) (q : loop.Place) → is_quiet (changed_place (by_names (swap a)) q) ≡ is_quiet q
quiet_same a q = grind arith

deadline_same : (a : ℕ) (q : loop.Place) → deadline_at (changed_place (by_names (swap a)) q) ≡ deadline_at q
deadline_same a q = grind arith

closing_same : (a : ℕ) (c : Option Content) → is_closing (option_map (moved_content (swap a)) c) ≡ is_closing c
closing_same a c = grind arith

closes_same : (a : ℕ) (s : State) (o : Option Id) → closes (mirrored a s) o ≡ closes s o
closes_same a s o = grind (arith, held_mirrored, closing_same, held)

-- an event that isn't a worker's finish, and names neither
abbrev pub IsPlain : ℕ → Option Event → Type 0
IsPlain a None = Unit {0}
IsPlain a (Some (Finish k)) = ⊥
IsPlain a (Some e) = changed_event (by_names (swap a)) e ≡ e

pub plain_stays : (a : ℕ) (e : Event) → IsPlain a (Some e) → changed_event (by_names (swap a)) e ≡ e
plain_stays a e is = grind arith

ranked_plain : (f : Option ℕ) (s : State) (a : ℕ) (o : Option Event) → IsPlain a o → ranked f s o ≡ o
ranked_plain each s a e3 is = grind arith

if_plain : (a : ℕ) (b : Bool) (e : Event) → IsPlain a (Some e) → IsPlain a (if b then Some e else None)
if_plain a b e is = grind arith

brief_plain : (f : Option ℕ) (a : ℕ) (o : Option Event) → IsPlain a o → IsPlain a (brief f o)
brief_plain f a o is = grind arith

timed_plain : (most : Option ℕ) (clock a : ℕ) (o : Option Event) → IsPlain a o → IsPlain a (timed most clock o)
timed_plain most clock a o is = grind arith

-- an offer that isn't one
abbrev pub IsFree : Offer → Type 0
IsFree (offers.Step (Finish k)) = ⊥
IsFree (offers.SendDuring v job) = ⊥
IsFree offer = Unit {0}

module _ (change : NamesChange) (r : Rules) (a : ℕ) (mates : AreMates r a) (s : State) (k : Kept) (wide : a + 2 ≤ length s.names)
    (clear : main_spares a r.program s.place ≡ true) where
  abbrev m : State
  m = mirrored a s

  blocked_next : (x : Next) → refused_as_blocked (mirrored_next r.program a x) ≡ refused_as_blocked x
  blocked_next x = grind arith

  pub blocked_same : is_blocked r.program m ≡ is_blocked r.program s
  blocked_same =
      ap refused_as_blocked (next_mirrored a change r.program s Loop (are_alike r a mates s wide clear)) ∙ blocked_next (next r.program s Loop)

  made_same : (o : Option Var) → is_beside a o ≡ true → is_made m o ≡ is_made s o
  made_same o e = grind (arith, is_some, named_same, beside_stays)

  free_same : (e : Event) → is_beside a (aim e) ≡ true → is_free m k e ≡ is_free s k e
  free_same (Send v) e =
      ap₂ (λ x y. not x && not y) (quiet_same a s.place)
      (ap (λ (n : Named). closes m n.id) (named_same a s wide v (beside_stays a v e)) ∙ closes_same a s (named s v).id)
  free_same (Io v) e = refl
  free_same (Tick ms) e = refl
  free_same Loop e = refl
  free_same (Take w) e = refl
  free_same (Finish w) e = refl
  free_same (Cancel v) e = refl

  step_same : (e : Event) → is_beside a (aim e) ≡ true → step_of m k e ≡ step_of s k e
  step_same e beside = ap₂ (λ x y. if x && y then Some (spending k e) else None) (made_same (aim e) beside) (free_same e beside)

  wait_same : wait_until r.program m (deadline_at m.place) ≡ wait_until r.program s (deadline_at s.place)
  wait_same = grind (arith, deadline_same, blocked_same)

  lasts_same : (ms : ℕ) → may_last m ms ≡ may_last s ms
  lasts_same ms = ap₂ (λ x o. x && ends_within o s.clock ms) (grind arith) (deadline_same a s.place)

  wait_for_same : (ms : ℕ) → wait_for r.program m ms ≡ wait_for r.program s ms
  wait_for_same ms = ap₂ (λ x y. if x then (if y then Some (Tick ms) else None) else None) (lasts_same ms) blocked_same

  event_same : (offer : Offer) → IsFree offer → offer_spares a offer ≡ true → event_of r.program m k offer ≡ event_of r.program s k offer
  event_same (offers.Step Loop) free e = step_same Loop refl
  event_same (offers.Step (Take w)) free e = step_same (Take w) refl
  event_same (offers.Step (Finish w)) free e = absurd free
  event_same (offers.Step (Cancel v)) free e = step_same (Cancel v) e
  event_same (offers.Step (Send v)) free e = step_same (Send v) e
  event_same (offers.Step (Io v)) free e = step_same (Io v) e
  event_same (offers.Step (Tick ms)) free e = step_same (Tick ms) refl
  event_same (offers.SendDuring v job) free e = absurd free
  event_same offers.Take free e = refl
  event_same offers.Wait free e = wait_same
  event_same (offers.WaitFor ms) free e = wait_for_same ms

  event_plain : (offer : Offer) → IsFree offer → offer_spares a offer ≡ true → IsPlain a (event_of r.program s k offer)
  event_plain (offers.Step (Send v)) free e = if_plain a (is_made s (Some v) && is_free s k (Send v)) (Send v) (ap Send (beside_var a v e))
  event_plain each free e = grind (arith, if_plain, beside_var)

  -- such an offer is the same event, and names neither
  pub offered_same : (xs : List Left) (o : Offered) (x : Option Left) → IsFree o.offer → offer_spares a o.offer ≡ true
      → offered_by r (record { state = m; left = xs; kept = k }) (Some o) x ≡ offered_by r (record { state = s; left = xs; kept = k }) (Some o) x
  offered_same xs o x free e = grind (arith, timed, timed_plain, event_plain, event_same, ranked_plain)

  pub offered_plain : (xs : List Left) (o : Offered) (x : Option Left) → IsFree o.offer → offer_spares a o.offer ≡ true
      → IsPlain a (offered_by r (record { state = s; left = xs; kept = k }) (Some o) x)
  offered_plain xs o None free e = tt
  offered_plain xs o (Some x) free e = grind (arith, timed, timed_plain, event_plain, brief_plain, ranked_plain)
