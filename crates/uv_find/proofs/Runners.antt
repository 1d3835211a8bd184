-- Workers of two states of which the same is told: of each rank they run requests of one name.
use Rattle.uv_find.proofs.Names.{◌≡◌, ℕ, zero, suc, ◌⊎◌, inl, inr, ◌<◌, List, [], ◌∷◌, true, false, length, is_none, slice_get, slice_set, refl, ap, sym, subst, ◌∙◌, Option, Some, None, Result, Ok, Err, map, option_map, eqb-true, length-map, length-replicate, none-some, same_Some, slice_get-map, Event, Loop, Take, Finish, Cancel, Send, Io, Tick, Why, Id, Program, worker_count, Request, goes_on, state_of, Next, Moves, Refuses, State, fresh, named, is_of_worker, ordered, name_in, has_at, IsRegular, found_alike, number_of, name_at, as_id, Tale, tale, take_by, key_at, keys_run, idle_worker, rank_in, rank_of, is_of_rank, runner, finish_by, state_map}
use Rattle.uv_model.specs.After.{after}
use Rattle.uv_model.specs.Next as steps
use Rattle.uv_model.specs.Next.{next}
use Rattle.uv_workers.proofs.Frame.{put, next_same}
use Rattle.uv_find.proofs.Ranking.{Run, equal_is, first_at, first_some, rank_ordered, rank_one, rank_within, called, rank_by_name}

-- ---- how many they are

set_long : (xs : List Run) (k : ℕ) (x : Run) → length (slice_set xs k x) ≡ length xs
set_long (y ∷ ys) (suc k) x = ap suc (set_long ys k x)
set_long each e1 x = assumption

abbrev workers_in : ℕ → Next → ℕ
workers_in n (Moves s line) = length s.running
workers_in n (Refuses why) = n

take_long : (s : State) (k : ℕ) (r : Result (Id × Request) Why) → workers_in (length s.running) (steps.take s k r) ≡ length s.running
take_long s k (Err why) = refl
take_long s k (Ok t) = set_long s.running k (Some t.0)

finish_long : (s : State) (k : ℕ) (r : Result (Id × Request) Why) → workers_in (length s.running) (steps.finish s k r) ≡ length s.running
finish_long s k (Err why) = refl
finish_long s k (Ok t) = set_long s.running k None

other_long : (p : Program) (s : State) (e : Event) → is_of_worker e ≡ false → workers_in (length s.running) (next p s e) ≡ length s.running
other_long p s e other = ap (workers_in (length s.running)) (next_same s.running p s e other) ∙ put_long (next p s e) where
  put_long : (x : Next) → workers_in (length s.running) (state_map (put s.running) x) ≡ length s.running
  put_long (Moves a line) = refl
  put_long (Refuses why) = refl

next_long : (p : Program) (s : State) (e : Event) → workers_in (length s.running) (next p s e) ≡ length s.running
unfolding next
next_long p s (Take k) = take_long s k (steps.next_work s (slice_get s.running k))
next_long p s (Finish k) = finish_long s k (steps.work_of s (slice_get s.running k))
next_long p s Loop = other_long p s Loop refl
next_long p s (Cancel v) = other_long p s (Cancel v) refl
next_long p s (Send v) = other_long p s (Send v) refl
next_long p s (Io v) = other_long p s (Io v) refl
next_long p s (Tick ms) = other_long p s (Tick ms) refl

goes_long : (p : Program) (s : State) (es : List Event) → length (goes_on p s es).running ≡ length s.running
goes_long p s [] = refl
goes_long p s (e ∷ es) = goes_long p (state_of s (next p s e)) es ∙ by (next p s e) (next_long p s e) where
  by : (x : Next) → workers_in (length s.running) x ≡ length s.running → length (state_of s x).running ≡ length s.running
  by (Moves a line) same = same
  by (Refuses why) same = refl

pub after_long : (p : Program) (es : List Event) → length (after p es).running ≡ worker_count p
unfolding after
after_long p es = goes_long p (fresh p) es ∙ length-replicate (worker_count p) None

-- ---- events that do alike

-- two workers run requests of one name, or nothing
abbrev pub RunAlike : State → State → ℕ → ℕ → Type 0
RunAlike a b k j = slice_get (called a) k ≡ slice_get (called b) j

-- such workers take requests
pub record BothTake (a b : State) (e f : Event) : Type 0 where
  pub worker : ℕ
  pub other : ℕ
  pub one : e ≡ Take worker
  pub two : f ≡ Take other
  pub same : RunAlike a b worker other

-- or finish what they run
pub record BothFinish (a b : State) (e f : Event) : Type 0 where
  pub worker : ℕ
  pub other : ℕ
  pub one : e ≡ Finish worker
  pub two : f ≡ Finish other
  pub same : RunAlike a b worker other

-- or it is one event, and no worker's
abbrev pub EventsAlike : State → State → Event → Event → Type 0
EventsAlike a b e f = ((e ≡ f) × (is_of_worker e ≡ false)) ⊎ (BothTake a b e f ⊎ BothFinish a b e f)

abbrev pub OffersAlike : State → State → Option Event → Option Event → Type 0
OffersAlike a b None None = Unit {0}
OffersAlike a b (Some e) (Some f) = EventsAlike a b e f
OffersAlike a b x y = ⊥

-- ---- what workers run

was_run : (f : Id → Id) (xs : List Run) (j : ℕ) (z : Id) → slice_get (map (option_map f) xs) j ≡ Some (Some z)
    → (c : Id) × (slice_get xs j ≡ Some (Some c)) × (f c ≡ z)
was_run f [] j z e = absurd (none-some (Some z) e)
was_run f (None ∷ xs) zero z e = absurd (let g : ⊥ = cc in g)
was_run f (Some c ∷ xs) zero z e = (c, refl, let same : f c ≡ z = cc in same)
was_run f (x ∷ xs) (suc j) z e = was_run f xs j z e

was_none : (f : Id → Id) (xs : List Run) (j : ℕ) → slice_get (map (option_map f) xs) j ≡ Some None → slice_get xs j ≡ Some None
was_none f [] j e = absurd (none-some None e)
was_none f (None ∷ xs) zero e = refl
was_none f (Some c ∷ xs) zero e = absurd (let g : ⊥ = cc in g)
was_none f (x ∷ xs) (suc j) e = was_none f xs j e

pub run_at : (s : State) (k : ℕ) (run : Run) → slice_get s.running k ≡ Some run
    → slice_get (called s) k ≡ Some (option_map (λ (id : Id). as_id (name_at s.arena.slots id)) run)
run_at s k run there =
    let f = option_map (λ (id : Id). as_id (name_at s.arena.slots id)) in
    slice_get-map f s.running k ∙ ap (option_map f) there

-- ---- names and ranks

-- requests of one name are one, since it is bound to each
pub same_request : (p : Program) (s : State) (i j : ℕ) (x y : Id) → IsRegular p s → slice_get s.running i ≡ Some (Some x)
    → slice_get s.running j ≡ Some (Some y) → name_at s.arena.slots x ≡ name_at s.arena.slots y → x ≡ y
same_request p s i j x y h one two same =
    let its = h.young.opened x (has_at s.waiting s.running i x one) in
    let other = h.young.opened y (has_at s.waiting s.running j y two) in
    let name : (name_in its.its).0 ≡ (name_in other.its).0 =
    sym (ap number_of its.holds) ∙ same ∙ ap number_of other.holds in
    same_Some x y (sym (h.tidy.bound x its.its its.holds) ∙ ap (λ (v : ℕ). (named s (record { 0 = v })).id) name
    ∙ h.tidy.bound y other.its other.holds)

pub rank_slot : (s : State) (rank k : ℕ) → runner s rank ≡ Some k
    → (id : Id) × (slice_get s.running k ≡ Some (Some id)) × (rank_of s id ≡ rank)
rank_slot s rank k e =
    let first = first_at (is_of_rank s rank) s.running k e in
    by first.0 first.1 first.2
  where
    by : (run : Run) → slice_get s.running k ≡ Some run → is_of_rank s rank run ≡ true
        → (id : Id) × (slice_get s.running k ≡ Some (Some id)) × (rank_of s id ≡ rank)
    by None there is = absurd (let f : false ≡ true = is in cc)
    by (Some id) there is = (id, there, eqb-true (rank_of s id) rank is)

-- where a worker runs a request of this rank, there is a first that does
pub slot_rank : (s : State) (j : ℕ) (id : Id) (rank : ℕ) → slice_get s.running j ≡ Some (Some id) → rank_of s id ≡ rank
    → (k : ℕ) × (runner s rank ≡ Some k)
slot_rank s j id rank there is = first_some (is_of_rank s rank) s.running 0 j (Some id) there (equal_is (rank_of s id) rank is)

-- what a worker runs, by its key
pub key_there : (s : State) (j : ℕ) (id : Id) → slice_get s.running j ≡ Some (Some id)
    → slice_get (keys_run s) j ≡ Some (Some (key_at s.arena.slots id))
key_there s j id there =
    slice_get-map (option_map (key_at s.arena.slots)) s.running j ∙ ap (option_map (option_map (key_at s.arena.slots))) there

-- there are more workers than its rank
pub rank_below : (s : State) (j : ℕ) (id : Id) → slice_get s.running j ≡ Some (Some id) → rank_of s id < length s.running
rank_below s j id there = subst (λ n. rank_of s id < n) (length-map s.running (option_map (key_at s.arena.slots)))
    (rank_within (keys_run s) j (key_at s.arena.slots id) (key_there s j id there))

-- its rank is that of its name
pub rank_named : (p : Program) (s : State) (j : ℕ) (id : Id) → IsRegular p s → slice_get s.running j ≡ Some (Some id)
    → rank_of s id ≡ rank_in (called s) (as_id (name_at s.arena.slots id))
rank_named p s j id h there = rank_by_name s.arena.slots s.running (name_at s.arena.slots id) id.slot
    (λ i other at same. ap (λ (x : Id). x.slot) (same_request p s i j other id h at there same))

-- what is said of the one is said of the other
module _ (n : ℕ) (a b : State) (same : tale n a ≡ tale n b) where
  runs_same : ordered (called a) ≡ ordered (called b)
  runs_same = ap (λ (t : Tale). t.running) same

  pub rank_same : (name : Id) → rank_in (called a) name ≡ rank_in (called b) name
  rank_same name =
      sym (rank_ordered (called a) name) ∙ ap (λ (runs : List Run). rank_in runs name) runs_same ∙ rank_ordered (called b) name

module _ (n : ℕ) (p : Program) where
  module _ (a b : State) (ra : IsRegular p a) (rb : IsRegular p b) (same : tale n a ≡ tale n b) where
    runner_there : (rank k : ℕ) → runner a rank ≡ Some k → (j : ℕ) × (runner b rank ≡ Some j) × RunAlike a b k j
    runner_there rank k e =
        let here = rank_slot a rank k e in
        let id = here.0 in
        let name = as_id (name_at a.arena.slots id) in
        let turned = run_at a k (Some id) here.1 in
        let there = found_alike (called a) (called b) k (Some name) (runs_same n a b same) turned in
        let was = was_run (λ (x : Id). as_id (name_at b.arena.slots x)) b.running there.0 name there.1 in
        let c = was.0 in
        let rank_is : rank_of b c ≡ rank =
        rank_named p b there.0 c rb was.1 ∙ ap (rank_in (called b)) was.2
        ∙ sym (rank_same n a b same name) ∙ sym (rank_named p a k id ra here.1) ∙ here.2 in
        let first = slot_rank b there.0 c rank was.1 rank_is in
        let found = rank_slot b rank first.0 first.1 in
        let d = found.0 in
        let key : key_at b.arena.slots d ≡ key_at b.arena.slots c =
        rank_one (keys_run b) first.0 there.0 (key_at b.arena.slots d) (key_at b.arena.slots c) (key_there b first.0 d found.1)
        (key_there b there.0 c was.1) (found.2 ∙ sym rank_is) in
        let one : d ≡ c = same_request p b first.0 there.0 d c rb found.1 was.1 (ap (λ (x : Id). x.slot) key) in (
          first.0,
          first.1,
          turned ∙ sym (run_at b first.0 (Some d) found.1
              ∙ ap (λ x. Some (Some (as_id (name_at b.arena.slots x)))) one ∙ ap (λ x. Some (Some x)) was.2),
        )

    idle_there : (k : ℕ) → idle_worker a ≡ Some k → (j : ℕ) × (idle_worker b ≡ Some j) × RunAlike a b k j
    idle_there k e =
        let none = λ (run : Run). is_none run in
        let here = first_at none a.running k e in
        let idle : slice_get a.running k ≡ Some None = here.1 ∙ ap Some (is_idle here.0 here.2) in
        let turned = run_at a k None idle in
        let there = found_alike (called a) (called b) k None (runs_same n a b same) turned in
        let was = was_none (λ (x : Id). as_id (name_at b.arena.slots x)) b.running there.0 there.1 in
        let first = first_some none b.running 0 there.0 None was refl in
        let found = first_at none b.running first.0 first.1 in
        let free : slice_get b.running first.0 ≡ Some None = found.1 ∙ ap Some (is_idle found.0 found.2) in
        (first.0, first.1, turned ∙ sym (run_at b first.0 None free))
      where
        is_idle : (run : Run) → is_none run ≡ true → run ≡ None
        is_idle None is = refl
        is_idle (Some id) is = absurd (let f : false ≡ true = is in cc)

  module _ (a b : State) (one : IsRegular p a) (two : IsRegular p b) (same : tale n a ≡ tale n b) where
    -- of each rank a worker of the one and a worker of the other finish alike
    pub finishes_alike : (rank : ℕ) → OffersAlike a b (finish_by (runner a rank)) (finish_by (runner b rank))
    finishes_alike rank = by (runner a rank) (runner b rank) refl refl where
      by : (x y : Option ℕ) → runner a rank ≡ x → runner b rank ≡ y → OffersAlike a b (finish_by x) (finish_by y)
      by None None e f = tt
      by (Some k) y e f =
          let there = runner_there a b one two same rank k e in
          subst (λ o. OffersAlike a b (Some (Finish k)) (finish_by o)) (sym there.1 ∙ f)
          (inr (inr (record { worker = k; other = there.0; one = refl; two = refl; same = there.2 })))
      by None (Some j) e f =
          let there = runner_there b a two one (sym same) rank j f in
          absurd (none-some there.0 (sym e ∙ there.1))

    -- and so do the first that are idle take
    pub takes_alike : OffersAlike a b (take_by (idle_worker a)) (take_by (idle_worker b))
    takes_alike = by (idle_worker a) (idle_worker b) refl refl where
      by : (x y : Option ℕ) → idle_worker a ≡ x → idle_worker b ≡ y → OffersAlike a b (take_by x) (take_by y)
      by None None e f = tt
      by (Some k) y e f =
          let there = idle_there a b one two same k e in
          subst (λ o. OffersAlike a b (Some (Take k)) (take_by o)) (sym there.1 ∙ f)
          (inr (inl (record { worker = k; other = there.0; one = refl; two = refl; same = there.2 })))
      by None (Some j) e f =
          let there = idle_there b a two one (sym same) j f in
          absurd (none-some there.0 (sym e ∙ there.1))
