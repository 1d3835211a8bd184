-- Where workers run two requests that are alike, the same is told of the state as of that in which their names have changed places.
use Rattle.uv_find.proofs.Names.{◌≡◌, ℕ, zero, suc, ◌+◌, ◌<◌, ◌≤◌, ◌==◌, ◌||◌, Bool, true, false, List, [], ◌∷◌, ◌++◌, length, slice_get, refl, ap, ap₂, sym, subst, ◌∙◌, Option, Some, None, arith, map, option_map, unwrap_or, or_right, length-map, none-some, same_Some, slice_get-map, Id, Var, Program, HandleRecord, WatcherKind, Named, Slot, held, Walk, Content, Request, request_in, State, named, handle, request, watched, has_id, AreDistinct, run_ids, IsReached, By, base, earlier, retimed_place, capped_calls, capped_place, changed_place, moved_var, moved_content, moved_slot, by_names, place_of, name_in, Fits, get_arranged, with_run, ordered, swapped, has_at, IsRegular, Told, as_id, bound_by, bound_to, name_at, names_at, number_of, runs_at, tale, tale_by, told_name, walk_at, is_beside, place_spares, Open, is_open, same_id}
use Rattle.uv_records.specs.declared.lists.WatcherKind.TheVariants as watcher
use Rattle.uv_records.specs.Names as names
use Rattle.uv_work.specs.declared.content.Content.TheVariants as content
use Rattle.uv_work.specs.declared.outcome.Outcome.{Outcome}
use Rattle.uv_model.specs.declared.place.Place.{Place}
use Rattle.uv_order.proofs.IdLists as ids
use Rattle.uv_find.proofs.Ranking.{Run}
use Rattle.uv_find.proofs.Swap.{swap, is_equal, differs, swap_length, swap_order, first_goes, second_goes, other_stays, twice_stays}
use Rattle.uv_find.proofs.Mirrored.{mirrored, held_mirrored}

-- ---- what workers run, in order

less_at : ℕ → List Run → List Run
less_at k [] = []
less_at zero (x ∷ xs) = xs
less_at (suc k) (x ∷ xs) = x ∷ less_at k xs

run_same : (f h : Id → Id) (run : Run) → ((id : Id) → run ≡ Some id → h id ≡ f id) → option_map h run ≡ option_map f run
run_same f h None same = refl
run_same f h (Some id) same = ap Some (same id refl)

all_same : (f h : Id → Id) (xs : List Run) → ((k : ℕ) (id : Id) → slice_get xs k ≡ Some (Some id) → h id ≡ f id)
    → map (option_map h) xs ≡ map (option_map f) xs
all_same f h [] same = refl
all_same f h (x ∷ xs) same =
    ap₂ (λ y (ys : List Run). y ∷ ys) (run_same f h x (λ id e. same 0 id (ap Some e))) (all_same f h xs (λ k. same (suc k)))

-- all but one are the same
one_out : (f h : Id → Id) (xs : List Run) (j : ℕ) (y : Id) → slice_get xs j ≡ Some (Some y)
    → ((k : ℕ) (id : Id) → slice_get xs k ≡ Some (Some id) → (k ≡ j → ⊥) → h id ≡ f id)
    → ordered (map (option_map h) xs) ≡ with_run (Some (h y)) (ordered (map (option_map f) (less_at j xs)))
unfolding less_at
one_out f h [] j y at same = absurd (none-some (Some y) at)
one_out f h (x ∷ xs) zero y at same =
    let one : x ≡ Some y = same_Some x (Some y) at in
    ap₂ (λ (r : Run) rs. with_run (option_map h r) (ordered rs)) one (all_same f h xs (λ k id e. same (suc k) id e (λ eq. omega (arith, eq))))
one_out f h (x ∷ xs) (suc j) y at same =
    ap (with_run (option_map h x)) (one_out f h xs j y at (λ k id e no. same (suc k) id e (λ eq. no (omega (arith, eq)))))
    ∙ swapped (option_map h x) (Some (h y)) (ordered (map (option_map f) (less_at j xs)))
    ∙ ap (λ (r : Run). with_run (Some (h y)) (with_run r (ordered (map (option_map f) (less_at j xs)))))
    (run_same f h x (λ id e. same 0 id (ap Some e) (λ eq. omega (arith, eq))))

module _ (f g : Id → Id) where
  front_out : (z : Run) (zs : List Run) (j : ℕ) (x y : Id) → z ≡ Some x → slice_get zs j ≡ Some (Some y)
      → ((k : ℕ) (id : Id) → slice_get zs k ≡ Some (Some id) → (k ≡ j → ⊥) → g id ≡ f id) → g x ≡ f y → g y ≡ f x
      → ordered (map (option_map g) (z ∷ zs)) ≡ ordered (map (option_map f) (z ∷ zs))
  front_out z zs j x y here there same one two =
      let rest = ordered (map (option_map f) (less_at j zs)) in
      let h = one_out f g zs j y there same in
      let k = one_out f f zs j y there (λ k id e no. refl) in
      grind (arith, with_run, option_map, ordered, map, swapped)

  -- where two have changed places it is the same list in order
  exchanged : (xs : List Run) (i j : ℕ) (x y : Id) → slice_get xs i ≡ Some (Some x) → slice_get xs j ≡ Some (Some y) → (i ≡ j → ⊥)
      → ((k : ℕ) (id : Id) → slice_get xs k ≡ Some (Some id) → (k ≡ i → ⊥) → (k ≡ j → ⊥) → g id ≡ f id) → g x ≡ f y → g y ≡ f x
      → ordered (map (option_map g) xs) ≡ ordered (map (option_map f) xs)
  exchanged (z ∷ zs) zero (suc j) x y here there differ same one two =
      front_out z zs j x y (same_Some z (Some x) here) there
      (λ k id e no. same (suc k) id e (λ eq. omega (arith, eq)) (λ eq. no (omega (arith, eq)))) one two
  exchanged (z ∷ zs) (suc i) zero x y here there differ same one two =
      front_out z zs i y x (same_Some z (Some y) there) here
      (λ k id e no. same (suc k) id e (λ eq. no (omega (arith, eq))) (λ eq. omega (arith, eq))) two one
  exchanged (z ∷ zs) (suc i) (suc j) x y here there differ same one two =
      ap₂ (λ (r : Run) rs. with_run r rs) (run_same f g z (λ id e. same 0 id (ap Some e) (λ eq. omega (arith, eq)) (λ eq. omega (arith, eq))))
      (exchanged zs i j x y here there (λ e. differ (ap suc e))
      (λ k id e no other. same (suc k) id e (λ eq. no (omega (arith, eq))) (λ eq. other (omega (arith, eq)))) one two)
  exchanged each e1 e2 x y here there differ same one two = grind arith

-- ---- lists

same_lists : {X : Type 0} (xs ys : List X) → ((k : ℕ) → slice_get xs k ≡ slice_get ys k) → xs ≡ ys
same_lists [] [] same = refl
same_lists [] (y ∷ ys) same = absurd (none-some y (same 0))
same_lists (x ∷ xs) [] same = absurd (none-some x (sym (same 0)))
same_lists (x ∷ xs) (y ∷ ys) same = ap₂ (λ z zs. z ∷ zs) (same_Some x y (same 0)) (same_lists xs ys (λ k. same (suc k)))

in_both : (xs ys : List Id) (id : Id) → AreDistinct (xs ++ ys) → has_id xs id ≡ true → has_id ys id ≡ true → ⊥
in_both [] ys id h one two = absurd (let f : false ≡ true = one in cc)
in_both (x ∷ xs) ys id h one two = by (in_both xs ys id h.1) (same_id x id) refl one where
  by : (has_id xs id ≡ true → has_id ys id ≡ true → ⊥) → (b : Bool) → same_id x id ≡ b → (b || has_id xs id) ≡ true → ⊥
  by more true is first =
      let absent : has_id ys x ≡ false = ids.has_back xs ys x h.0 in
      let f : true ≡ false = sym two ∙ ap (has_id ys) (sym (ids.same x id is)) ∙ absent in
      cc
  by more false is first = more first two

run_has : (xs : List Run) (k : ℕ) (id : Id) → slice_get xs k ≡ Some (Some id) → has_id (run_ids xs) id ≡ true
run_has (None ∷ xs) (suc k) id e = run_has xs k id e
run_has (Some x ∷ xs) (suc k) id e = or_right (same_id x id) (has_id (run_ids xs) id) (run_has xs k id e)
run_has each e1 id e = grind arith

held_request : (o : Option Content) (r : Request) → request_in o ≡ Some r → o ≡ Some (content.Request r)
held_request each r e = grind arith

open_is : (o : Outcome) → is_open o ≡ true → o ≡ Open
open_is each e = grind arith

-- ---- the state

-- workers run two requests of these names that say the same
pub record AreTwins (s : State) (a : ℕ) : Type 0 where
  pub i : ℕ
  pub j : ℕ
  pub x : Id
  pub y : Id
  pub here : slice_get s.running i ≡ Some (Some x)
  pub there : slice_get s.running j ≡ Some (Some y)
  pub one : Request
  pub two : Request
  pub holds_x : request s x ≡ Some one
  pub holds_y : request s y ≡ Some two
  pub name_x : one.name.0 ≡ a
  pub name_y : two.name.0 ≡ a + 1
  pub task : one.task ≡ two.task
  pub calls : (named s (record { 0 = a })).calls ≡ (named s (record { 0 = a + 1 })).calls
  pub place : place_spares a s.place ≡ true

beside_first : (a : ℕ) (v : Var) → is_beside a (Some v) ≡ true → (v.0 ≡ a → ⊥) × (v.0 ≡ a + 1 → ⊥)
beside_first a v e = grind arith

pub beside_stays : (a : ℕ) (v : Var) → is_beside a (Some v) ≡ true → place_of (swap a) v.0 ≡ v.0
beside_stays a v e = let no = beside_first a v e in other_stays a v.0 no.0 no.1

pub beside_var : (a : ℕ) (v : Var) → is_beside a (Some v) ≡ true → moved_var (swap a) v ≡ v
beside_var a v e = λ i. record { 0 = beside_stays a v e i }

-- ---- where no callback of theirs is under way

place_same : (a : ℕ) (place : Place) → place_spares a place ≡ true → changed_place (by_names (swap a)) place ≡ place
place_same a place e = grind (arith, beside_var)

module _ (p : Program) (s : State) (a : ℕ) (h : IsReached s) (regular : IsRegular p s) (wide : a + 2 ≤ length s.names) (t : AreTwins s a) where
  abbrev slots : List (Slot Content)
  slots = s.arena.slots

  abbrev others : List (Slot Content)
  others = (mirrored a s).arena.slots

  abbrev first : Var
  first = record { 0 = a }

  abbrev second : Var
  second = record { 0 = a + 1 }

  held_x : held slots t.x ≡ Some (content.Request t.one)
  held_x = held_request (held slots t.x) t.one t.holds_x

  held_y : held slots t.y ≡ Some (content.Request t.two)
  held_y = held_request (held slots t.y) t.two t.holds_y

  bound_x : (named s first).id ≡ Some t.x
  bound_x = ap (λ v. (named s (record { 0 = v })).id) (sym t.name_x) ∙ regular.tidy.bound t.x (content.Request t.one) held_x

  bound_y : (named s second).id ≡ Some t.y
  bound_y = ap (λ v. (named s (record { 0 = v })).id) (sym t.name_y) ∙ regular.tidy.bound t.y (content.Request t.two) held_y

  open_at : (k : ℕ) (id : Id) (r : Request) → slice_get s.running k ≡ Some (Some id) → request s id ≡ Some r → r.outcome ≡ Open
  open_at k id r at holds =
      let its = h.opened.each id (has_at s.waiting s.running k id at) in
      let one : its.its ≡ r = same_Some its.its r (sym its.holds ∙ holds) in
      open_is r.outcome (subst (λ (q : Request). is_open q.outcome ≡ true) one its.opened)

  open_both : t.one.outcome ≡ t.two.outcome
  open_both = open_at t.i t.x t.one t.here t.holds_x ∙ sym (open_at t.j t.y t.two t.there t.holds_y)

  moved_y : moved_content (swap a) (content.Request t.two) ≡ content.Request t.one
  moved_y = grind (arith, place_of, second_goes, open_both)

  moved_x : moved_content (swap a) (content.Request t.one) ≡ content.Request t.two
  moved_x = grind (arith, place_of, first_goes, open_both)

  -- ---- names of ids

  moved_name : (c : Content) → (name_in (moved_content (swap a) c)).0 ≡ place_of (swap a) (name_in c).0
  moved_name c = grind arith

  at_other : (id : Id) → name_at others id ≡ number_of (option_map (moved_content (swap a)) (held slots id))
  at_other id = ap number_of (held_mirrored a s id)

  other_name : (id : Id) → (id ≡ t.x → ⊥) → (id ≡ t.y → ⊥) → name_at others id ≡ name_at slots id
  other_name id no_x no_y = at_other id ∙ by (held slots id) refl where
    by : (c : Option Content) → held slots id ≡ c → number_of (option_map (moved_content (swap a)) c) ≡ number_of c
    by None e = refl
    by (Some c) e =
        let binds = regular.tidy.bound id c e in
        moved_name c ∙ other_stays a (name_in c).0
        (λ is. no_x (same_Some id t.x (sym binds ∙ ap (λ v. (named s (record { 0 = v })).id) is ∙ bound_x)))
        (λ is. no_y (same_Some id t.y (sym binds ∙ ap (λ v. (named s (record { 0 = v })).id) is ∙ bound_y)))

  pub at_x : name_at slots t.x ≡ a
  at_x = ap number_of held_x ∙ t.name_x

  at_y : name_at slots t.y ≡ a + 1
  at_y = ap number_of held_y ∙ t.name_y

  pub turned_x : name_at others t.x ≡ a + 1
  turned_x = at_other t.x ∙ ap (λ c. number_of (option_map (moved_content (swap a)) c)) held_x ∙ ap (place_of (swap a)) t.name_x ∙ first_goes a

  pub turned_y : name_at others t.y ≡ a
  turned_y = at_other t.y ∙ ap (λ c. number_of (option_map (moved_content (swap a)) c)) held_y ∙ ap (place_of (swap a)) t.name_y ∙ second_goes a

  -- ---- lists

  abbrev IsOther : Id → Type 0
  IsOther id = (id ≡ t.x → ⊥) × (id ≡ t.y → ⊥)

  list_same : (L : List Id) → ((id : Id) → has_id L id ≡ true → IsOther id) → names_at others L ≡ names_at slots L
  list_same [] other = refl
  list_same (id ∷ L) other =
      let no = other id (ap (λ b. b || has_id L id) (ids.itself id id refl)) in
      ap₂ (λ m (ms : List ℕ). m ∷ ms) (other_name id no.0 no.1) (list_same L (λ x e. other x (or_right (same_id id x) (has_id L x) e)))

  walk_same : (w : Walk Id) → ((id : Id) → has_id (w.list ++ w.yet) id ≡ true → IsOther id) → walk_at others w ≡ walk_at slots w
  walk_same w other =
      let list = list_same w.list (λ id e. other id (ids.has_both w.list w.yet id ∙ ap (λ b. b || has_id w.yet id) e)) in
      let yet = list_same w.yet (λ id e. other id (ids.has_both w.list w.yet id ∙ or_right (has_id w.list id) (has_id w.yet id) e)) in
      λ i. record { list = list i; yet = yet i }

  no_handle : (id : Id) (g : HandleRecord) → handle s id ≡ Some g → IsOther id
  no_handle id g e = grind arith

  watchers_other : (q : WatcherKind) (id : Id) → has_id ((watched s q).list ++ (watched s q).yet) id ≡ true → IsOther id
  watchers_other q id e = let its = (h.watchers q).each id e in no_handle id its.its its.holds

  ready_other : (id : Id) → has_id s.ready id ≡ true → IsOther id
  ready_other id e = let its = h.ready.each id e in no_handle id its.its its.holds

  closing_other : (id : Id) → has_id (s.closing.list ++ s.closing.yet) id ≡ true → IsOther id
  closing_other id e = let its = h.closing.each id e in no_handle id its.its its.holds

  ended_no : (k : ℕ) (id z : Id) (r q : Request) → slice_get s.running k ≡ Some (Some z) → request s z ≡ Some r → request s id ≡ Some q
      → is_open q.outcome ≡ false → id ≡ z → ⊥
  ended_no k id z r q at holds ends shut is =
      let one : q ≡ r = same_Some q r (sym ends ∙ ap (request s) is ∙ holds) in
      let f : true ≡ false = ap is_open (sym (open_at k z r at holds)) ∙ ap (λ (x : Request). is_open x.outcome) (sym one) ∙ shut in
      cc

  done_other : (id : Id) → has_id (s.done.list ++ s.done.yet) id ≡ true → IsOther id
  done_other id e =
      let its = h.done.each id e in (search ended_no)

  waiting_other : (id : Id) → has_id s.waiting id ≡ true → IsOther id
  waiting_other id e = grind (arith, in_both, run_ids, has_id, run_has)

  -- ---- what workers run

  run_other : (k m : ℕ) (id z : Id) → slice_get s.running k ≡ Some (Some id) → slice_get s.running m ≡ Some (Some z) → (k ≡ m → ⊥) → id ≡ z → ⊥
  run_other k m id z at there differ is = differ (once k m z (subst (λ x. slice_get s.running k ≡ Some (Some x)) is at) there) where
    apart : AreDistinct (run_ids s.running)
    apart = ids.distinct_back s.waiting (run_ids s.running) h.opened.distinct

    one_place : (xs : List Run) → AreDistinct (run_ids xs) → (k m : ℕ) → slice_get xs k ≡ Some (Some z) → slice_get xs m ≡ Some (Some z) → k ≡ m
    one_place [] d k m e f = absurd (none-some (Some z) e)
    one_place (x ∷ xs) d zero zero e f = refl
    one_place (None ∷ xs) d zero (suc m) e f = absurd (none-some z (same_Some None (Some z) e))
    one_place (None ∷ xs) d (suc k) zero e f = absurd (none-some z (same_Some None (Some z) f))
    one_place (None ∷ xs) d (suc k) (suc m) e f = ap suc (one_place xs d k m e f)
    one_place (Some x ∷ xs) d zero (suc m) e f = grind (arith, same_Some, run_has, has_id, run_ids)
    one_place (Some x ∷ xs) d (suc k) zero e f =
        let same : x ≡ z = same_Some x z (same_Some (Some x) (Some z) f) in
        absurd (let g : true ≡ false = sym (run_has xs k z e) ∙ ap (has_id (run_ids xs)) (sym same) ∙ d.0 in cc)
    one_place (Some x ∷ xs) d (suc k) (suc m) e f = ap suc (one_place xs d.1 k m e f)

    once : (k m : ℕ) (y : Id) → slice_get s.running k ≡ Some (Some z) → slice_get s.running m ≡ Some (Some z) → k ≡ m
    once k m y e f = one_place s.running apart k m e f

  differ : t.i ≡ t.j → ⊥
  differ e = grind arith

  runs_same : runs_at others s.running ≡ runs_at slots s.running
  runs_same = exchanged (λ id. as_id (name_at slots id)) (λ id. as_id (name_at others id)) s.running t.i t.j t.x t.y t.here t.there differ
      (λ k id at no_i no_j. ap as_id (other_name id (run_other k t.i id t.x at t.here no_i) (run_other k t.j id t.y at t.there no_j)))
      (ap as_id (turned_x ∙ sym at_y)) (ap as_id (turned_y ∙ sym at_x))

  -- ---- names

  content_stays : (c : Content) → place_of (swap a) (name_in c).0 ≡ (name_in c).0 → moved_content (swap a) c ≡ c
  content_stays c e = grind arith

  fits : Fits (swap a) s.names
  fits = record { order = swap_order a; within = (let long = swap_length a in omega (arith, wide, long)) }

  there_is : (k : ℕ) → k < length s.names → slice_get s.names k ≡ Some (named s (record { 0 = k }))
  there_is k below = some_at s.names k below where
    some_at : (xs : List Named) (k : ℕ) → k < length xs → slice_get xs k ≡ Some (unwrap_or (slice_get xs k) names.unbound)
    some_at [] k below = absurd (omega (arith, below))
    some_at (x ∷ xs) zero below = refl
    some_at (x ∷ xs) (suc k) below = some_at xs k (omega (arith, below))

  module _ (d : By) (n : ℕ) where
    abbrev told : Named → Told
    told = told_name d n slots

    abbrev turned : Named → Told
    turned = told_name d n others

    told_first : turned (named s second) ≡ told (named s first)
    told_first = grind (arith, bound_to, named, bound_y, bound_by, held_mirrored, option_map, held_y, moved_y, held_x, bound_x, capped_calls)

    told_second : turned (named s first) ≡ told (named s second)
    told_second =
        grind (arith, bound_to, named, bound_x, bound_by, held_mirrored, option_map, held_x, moved_x, held_y, bound_y, capped_calls)

    told_other : (k : ℕ) → (k ≡ a → ⊥) → (k ≡ a + 1 → ⊥) → option_map turned (slice_get s.names k) ≡ option_map told (slice_get s.names k)
    told_other k no_a no_b = by (slice_get s.names k) refl where
      held_same : (x : Named) (id : Id) → slice_get s.names k ≡ Some x → x.id ≡ Some id → (c : Option Content) → held slots id ≡ c
          → option_map (moved_content (swap a)) c ≡ c
      held_same x id at binds None e = refl
      held_same x id at binds (Some c) e =
          let named_k : (named s (record { 0 = k })).id ≡ Some id = ap (λ y. (unwrap_or y names.unbound).id) at ∙ binds in
          let name = regular.tidy.alone (record { 0 = k }) id c named_k e in
          ap Some (content_stays c (ap (λ (v : Var). place_of (swap a) v.0) name ∙ other_stays a k no_a no_b ∙ sym (ap (λ (v : Var). v.0) name)))

      bound_same : (x : Named) (o : Option Id) → slice_get s.names k ≡ Some x → x.id ≡ o → bound_to d others o ≡ bound_to d slots o
      bound_same x None at binds = refl
      bound_same x (Some id) at binds = ap (bound_by d) (held_mirrored a s id ∙ held_same x id at binds (held slots id) refl)

      by : (x : Option Named) → slice_get s.names k ≡ x → option_map turned x ≡ option_map told x
      by None at = refl
      by (Some x) at = let bound = bound_same x x.id at refl in λ i. Some (record { bound = bound i; calls = capped_calls n x.calls })

    names_same : map turned (mirrored a s).names ≡ map told s.names
    names_same = same_lists (map turned (mirrored a s).names) (map told s.names) (λ k.
        slice_get-map turned (mirrored a s).names k ∙ ap (option_map turned) (got k) ∙ by k (k == a) (k == a + 1) refl refl
        ∙ sym (slice_get-map told s.names k))
      where
        got : (k : ℕ) → slice_get (mirrored a s).names k ≡ slice_get s.names (place_of (swap a) k)
        got k = ap (slice_get (mirrored a s).names) (sym (twice_stays a k)) ∙ get_arranged (swap a) s.names (place_of (swap a) k) fits

        by : (k : ℕ) (b c : Bool) → (k == a) ≡ b → (k == a + 1) ≡ c
            → option_map turned (slice_get s.names (place_of (swap a) k)) ≡ option_map told (slice_get s.names k)
        by k true c is other = grind (arith, is_equal, option_map, slice_get, place_of, first_goes, there_is, told_first)
        by k false true is other =
            let one : k ≡ a + 1 = is_equal k (a + 1) other in
            ap (λ m. option_map turned (slice_get s.names (place_of (swap a) m))) one
            ∙ ap (λ m. option_map turned (slice_get s.names m)) (second_goes a)
            ∙ ap (option_map turned) (there_is a (omega (arith, wide))) ∙ ap Some told_second
            ∙ sym (ap (option_map told) (there_is (a + 1) (omega (arith, wide)))) ∙ ap (λ m. option_map told (slice_get s.names m)) (sym one)
        by k false false is other =
            let no_a : k ≡ a → ⊥ = differs k a is in
            let no_b : k ≡ a + 1 → ⊥ = differs k (a + 1) other in
            ap (λ m. option_map turned (slice_get s.names m)) (other_stays a k no_a no_b) ∙ told_other k no_a no_b

    tale_same : tale_by d n (mirrored a s) ≡ tale_by d n s
    tale_same =
        let place = place_same a s.place t.place in
        let used = length-map slots (moved_slot (swap a)) in
        let ready = list_same s.ready ready_other in
        let idle = walk_same s.watchers.idle (watchers_other watcher.Idle) in
        let prepare = walk_same s.watchers.prepare (watchers_other watcher.Prepare) in
        let check = walk_same s.watchers.check (watchers_other watcher.Check) in
        let async = walk_same s.watchers.async (watchers_other watcher.Async) in
        let closing = walk_same s.closing closing_other in
        let waiting = list_same s.waiting waiting_other in
        let done = walk_same s.done done_other in
        grind (arith, retimed_place, earlier, capped_place, names_same, runs_same)

  base_same : base (mirrored a s) ≡ base s
  base_same = grind arith

  pub twins_alike : (n : ℕ) → tale n (mirrored a s) ≡ tale n s
  twins_alike n = ap (λ d. tale_by d n (mirrored a s)) base_same ∙ tale_same (base s) n
