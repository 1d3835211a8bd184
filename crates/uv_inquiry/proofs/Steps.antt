-- What is said for the first time.
use Rattle.uv_inquiry.proofs.Names.{◌≡◌, ℕ, ◌==◌, ◌&&◌, ◌||◌, Bool, true, false, not, nat_lt, nat_eq, List, [], ◌∷◌, length, Option, Some, None, refl, ap, ap₂, sym, subst, arith, ◌⊎◌, inl, inr, is_none, is_some, list_any, list_all, AllByRecursion, and_parts, and_from, ltb-true, lt-ltb, eqb-true, both_ways, Var, Event, Draft, IsNew, same_step, same_offer, has_offer, same_calls, has_time, has_bound, is_new, option_eq, Decides-eqb}
use Rattle.uv_ids.specs.declared.event.Event.TheVariants as event
use Rattle.uv_asking.specs.declared.asking.Offer.{Offer}
use Rattle.uv_asking.specs.declared.asking.Offer.TheVariants.{Step, SendDuring, Take, Wait, WaitFor}
use Rattle.uv_asking.specs.declared.asking.Offered.{Offered}
use Rattle.uv_asking.specs.declared.asking.Takes as asking
use Rattle.uv_asking.specs.declared.asking.Most.{Most}
use Rattle.uv_asking.specs.declared.part.Part.{Part}
use Rattle.uv_asking.specs.declared.part.Part.TheVariants.{Offers, Differ, Recorded, Takes, Clock, Calls, States, Full, Finds, Latest}
use Rattle.uv_asking.specs.Limits.{MOST_OFFERS}

abbrev var_of : ℕ → Var
var_of n = record { 0 = n }

pub var_is : (v w : Var) → (v.0 == w.0) ≡ true → v ≡ w
var_is v w e = ap var_of (eqb-true v.0 w.0 e)

pub itself : (n : ℕ) → (n == n) ≡ true
itself n = (Decides-eqb n n).1 refl

offer_is : (a b : Offer) → same_offer a b ≡ true → a ≡ b
offer_is a b e = grind arith

pub neither : (a b : Bool) → (a || b) ≡ false → (a ≡ false) × (b ≡ false)
neither a b e = grind arith

both_false : (a b : Bool) → a ≡ false → b ≡ false → (a || b) ≡ false
both_false a b e f = cc

not_true : (b : Bool) → not b ≡ true → b ≡ false
not_true b e = grind arith

is_false : (b : Bool) → (b ≡ true → ⊥) → b ≡ false
is_false b h = grind arith

-- where a test finds none, none is so; and the other way round
none_so : {A : Type 0} (test : A → Bool) (So : A → Type 0) → ((x : A) → So x → test x ≡ true) → (xs : List A) → list_any test xs ≡ false →
    AllByRecursion (λ (x : A). So x → ⊥) xs
none_so test So says [] e = tt
none_so test So says (x ∷ xs) e =
    let parts = neither (test x) (list_any test xs) e in
    (λ h. both_ways _ parts.0 (says x h), none_so test So says xs parts.1)

none_found : {A : Type 0} (test : A → Bool) (So : A → Type 0) → ((x : A) → test x ≡ true → So x) → (xs : List A) →
    AllByRecursion (λ (x : A). So x → ⊥) xs → list_any test xs ≡ false
none_found test So says [] h = refl
none_found test So says (x ∷ xs) (first, rest) = search (both_false, list_any, is_false, (none_found test So says xs rest))

some_is : {A : Type 0} (o : Option A) → is_some o ≡ true → (x : A) × (o ≡ Some x)
some_is o e = grind arith

is_offer : (o : Offer) (p : Offered) → p.offer ≡ o → same_offer p.offer o ≡ true
is_offer o p e = subst (λ (x : Offer). same_offer x o ≡ true) (sym e) (grind arith)

-- the times of the same calls
abbrev AreSame : asking.Takes → asking.Takes → Type 0
AreSame t u = (u.name ≡ t.name) × (u.call ≡ t.call)

times_same : (t u : asking.Takes) → AreSame t u → same_calls u t ≡ true
times_same t u e2 = grind arith

is_bound : (v : Var) (m : Most) → m.name ≡ v → (m.name.0 == v.0) ≡ true
is_bound v m e = subst (λ (w : Var). (w.0 == v.0) ≡ true) (sym e) (itself v.0)

-- no recording was said, or that is the wait
alone_or_wait : {A : Type 0} (d : Option A) (o : Offer) (b : Bool) → is_none d ≡ b → (b || same_offer o Wait) ≡ true → (d ≡ None) ⊎ (o ≡ Wait)
alone_or_wait d o b is e = grind arith

or_wait : {A : Type 0} (d : Option A) (o : Offer) → (d ≡ None) ⊎ (o ≡ Wait) → (is_none d || same_offer o Wait) ≡ true
or_wait d o e2 = grind arith

-- each offer is the wait
all_so : (xs : List Offered) → list_all (λ (p : Offered). same_offer p.offer Wait) xs ≡ true → AllByRecursion (λ (p : Offered). p.offer ≡ Wait) xs
all_so [] e = tt
all_so (x ∷ xs) e =
    let parts = and_parts (same_offer x.offer Wait) (list_all (λ (p : Offered). same_offer p.offer Wait) xs) e in
    (offer_is x.offer Wait parts.0, all_so xs parts.1)

so_all : (xs : List Offered) → AllByRecursion (λ (p : Offered). p.offer ≡ Wait) xs → list_all (λ (p : Offered). same_offer p.offer Wait) xs ≡ true
so_all [] h = refl
so_all (x ∷ xs) (first, rest) = simp (and_from, list_all, is_offer, (so_all xs rest))

pub new_sound : (d : Draft) (part : Part) → is_new d part ≡ true → IsNew d part
new_sound d (Offers o) e =
    let all = and_parts (nat_lt (length d.offers) MOST_OFFERS && not (has_offer o.offer d.offers)) (is_none d.differ || same_offer o.offer Wait) e in
    let tests = and_parts (nat_lt (length d.offers) MOST_OFFERS) (not (has_offer o.offer d.offers)) all.0 in (
      ltb-true (length d.offers) MOST_OFFERS tests.0,
      none_so (λ (p : Offered). same_offer p.offer o.offer) (λ (p : Offered). p.offer ≡ o.offer) (is_offer o.offer) d.offers
          (not_true (has_offer o.offer d.offers) tests.1),
      alone_or_wait d.differ o.offer (is_none d.differ) refl all.1,
    )
new_sound d (Takes t) e =
    none_so (λ (u : asking.Takes). same_calls u t) (AreSame t) (times_same t) d.takes (not_true (has_time t d.takes) e)
new_sound d (Calls m) e =
    none_so (λ (n : Most). n.name.0 == m.name.0) (λ (n : Most). n.name ≡ m.name) (is_bound m.name) d.most
    (not_true (has_bound m.name.0 d.most) e)
new_sound d each e =
    grind (
      arith,
      and_parts,
      nat_lt,
      length,
      not,
      is_none,
      ltb-true,
      none_so,
      is_offer,
      not_true,
      alone_or_wait,
      list_all,
      all_so,
      some_is,
      times_same,
      is_bound,
    )

pub new_complete : (d : Draft) (part : Part) → IsNew d part → is_new d part ≡ true
new_complete d (Offers o) (few, none, alone) =
    and_from (nat_lt (length d.offers) MOST_OFFERS && not (has_offer o.offer d.offers)) (is_none d.differ || same_offer o.offer Wait)
    (and_from (nat_lt (length d.offers) MOST_OFFERS) (not (has_offer o.offer d.offers)) (lt-ltb (length d.offers) MOST_OFFERS few)
    (ap not (none_found (λ (p : Offered). same_offer p.offer o.offer) (λ (p : Offered). p.offer ≡ o.offer) (λ p e. offer_is p.offer o.offer e)
    d.offers none))) (or_wait d.differ o.offer alone)
new_complete d (Differ k) (none, waits) =
    and_from (is_none d.differ) (list_all (λ (p : Offered). same_offer p.offer Wait) d.offers) (ap is_none none) (so_all d.offers waits)
new_complete d (Takes t) none =
    ap not (none_found (λ (u : asking.Takes). same_calls u t) (AreSame t) (grind arith) d.takes none)
new_complete d (Calls m) h =
    ap not (none_found (λ (n : Most). n.name.0 == m.name.0) (λ (n : Most). n.name ≡ m.name) (λ n e. var_is n.name m.name e) d.most h)
new_complete d each e2 = grind arith
