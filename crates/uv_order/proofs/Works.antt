-- The requests: those that wait for a worker or are run by one are open, those that are done are ended; none stands twice, and no other
-- request is held.
use Rattle.uv_order.proofs.Names.{arith, ◌≡◌, ◌⊎◌, ℕ, zero, suc, List, ◌∷◌, ◌++◌, true, false, Option, Some, None, slice_get, slice_set, replicate, refl, ap, sym, subst, ◌∙◌, append_assoc, append-nil, list_any, or-true, both_ways, same_Some, Id, HandleRecord, Slot, held, Walk, is_open, Content, Request, request_in, same_id, without_id, has_id, AreDistinct, run_ids, not, ◌&&◌, [], AreAll}
use Rattle.uv_order.proofs.IdLists.{has_both, has_but_one, on_list, same, has_new_middle, distinct_middle, distinct_but, all_alike, all_less, all_more, once_middle, but_middle}
use Rattle.uv_order.proofs.Contents.{Turns}
use Rattle.uv_order.proofs.Holding.{held_at, put, put_turns}

-- ---- requests of which something holds

abbrev pub asked_at : List (Slot Content) → Id → Option Request
asked_at slots id = request_in (held slots id)

pub record Asks (slots : List (Slot Content)) (P : Request → Type 0) (id : Id) : Type 0 where
  pub request : Request
  pub holds : asked_at slots id ≡ Some request
  pub fits : P request

-- these are all of them and no others, and none twice
abbrev pub AllAsk : List (Slot Content) → (Request → Type 0) → List Id → Type 0
AllAsk slots P ids = AreAll (Asks slots P) ids

-- what is held there is no such request
abbrev pub FitsNot : (Request → Type 0) → Option Content → Type 0
FitsNot P c = (r : Request) → request_in c ≡ Some r → P r → ⊥

-- no request changes
abbrev pub SameRequests : List (Slot Content) → List (Slot Content) → Type 0
SameRequests more slots = (i : Id) → asked_at more i ≡ asked_at slots i

-- one id turns, which stands for no request before and after
pub same_requests : (slots more : List (Slot Content)) (id : Id) (was is : Option Content) → Turns slots more id was is → request_in was ≡ None →
    request_in is ≡ None → SameRequests more slots
same_requests slots more id was is t e f i = grind arith

-- the record of a handle changes
pub same_put : (slots : List (Slot Content)) (id : Id) (h x : HandleRecord) → held_at slots id ≡ Some h → SameRequests (put slots id x) slots
same_put slots id h x e = same_requests slots (put slots id x) id _ _ (put_turns slots id h x e) refl refl

asks_same : (slots more : List (Slot Content)) (P : Request → Type 0) (i : Id) → asked_at more i ≡ asked_at slots i → Asks slots P i → Asks more P i
asks_same slots more P i f k = record { request = k.request; holds = f ∙ k.holds; fits = k.fits }

pub all_same : (slots more : List (Slot Content)) (P : Request → Type 0) (ids : List Id) → SameRequests more slots → AllAsk slots P ids →
    AllAsk more P ids
all_same slots more P ids f k = all_alike (λ i. asks_same slots more P i (f i)) (λ i. asks_same more slots P i (sym (f i))) k

-- ---- lists with one more in the middle

moved_has : (fronts backs cs ds : List Id) (id i : Id) → fronts ++ backs ≡ cs ++ ds → has_id (fronts ++ id ∷ backs) i ≡ has_id (cs ++ id ∷ ds) i
moved_has fronts backs cs ds id i e = grind (arith, has_both, ap (λ (ids : List Id). has_id ids i) e)

-- ---- one id turns

turned_back : {slots more : List (Slot Content)} {id : Id} {was is : Option Content} → Turns slots more id was is → Turns more slots id is was
turned_back t = record { before = t.here; here = t.before; others = λ i d. sym (t.others i d) }

-- another one fits as before, and whoever fits then fitted before, where the one that turned doesn't fit
asks_still : {slots more : List (Slot Content)} {id : Id} {was is : Option Content} (P : Request → Type 0) → Turns slots more id was is → (i : Id) →
    (i ≡ id → ⊥) → Asks slots P i → Asks more P i
asks_still {slots = slots} {more = more} P t i d a = asks_same slots more P i (ap request_in (t.others i d)) a

asks_were : {slots more : List (Slot Content)} {id : Id} {was is : Option Content} (P : Request → Type 0) → Turns slots more id was is →
    FitsNot P is → (i : Id) → Asks more P i → (i ≡ id → ⊥) × Asks slots P i
asks_were {more = more} {id = id} P t d i a = (apart, asks_still P (turned_back t) i apart a) where
  apart : i ≡ id → ⊥
  apart is = d a.request (sym (ap request_in t.here) ∙ ap (asked_at more) (sym is) ∙ a.holds) a.fits

-- one that doesn't fit any more leaves, by who is left
less : (slots more : List (Slot Content)) (P : Request → Type 0) (id : Id) (was is : Option Content) (ids few : List Id) →
    Turns slots more id was is → FitsNot P is → ((i : Id) → has_id few i ≡ (not (same_id i id) && has_id ids i)) → AreDistinct few →
    AllAsk slots P ids → AllAsk more P few
less slots more P id was is ids few t d on once k = all_less id (asks_still P t) (asks_were P t d) on once k

-- the first of two lists without one of its own
apart : (xs ys : List Id) (i : Id) → AreDistinct (xs ++ ys) → has_id xs i ≡ true → has_id ys i ≡ false
apart [] ys i d h = cc h
apart (x ∷ xs) ys i d h = grind (arith, has_both, same, apart xs ys i d.1)

but_front : (xs ys : List Id) (id : Id) → AreDistinct (xs ++ ys) → has_id xs id ≡ true → (i : Id) →
    has_id (without_id xs id ++ ys) i ≡ (not (same_id i id) && has_id (xs ++ ys) i)
but_front xs ys id d h i = grind (arith, has_both, has_but_one, same, apart xs ys id d h)

distinct_left : (xs ys : List Id) (id : Id) → AreDistinct (xs ++ ys) → AreDistinct (without_id xs id ++ ys)
distinct_left [] ys id d = d
distinct_left (x ∷ xs) ys id d = grind (arith, has_both, has_but_one, distinct_left xs ys id d.1)

-- one that fits from now on comes
pub more_middle : (slots more : List (Slot Content)) (P : Request → Type 0) (id : Id) (was is : Option Content) (r : Request) (xs ys : List Id) →
    Turns slots more id was is → FitsNot P was → request_in is ≡ Some r → P r → AllAsk slots P (xs ++ ys) → AllAsk more P (xs ++ id ∷ ys)
more_middle slots more P id was is r xs ys t d e f k = all_more xs ys id (asks_were P (turned_back t) d) (asks_still P (turned_back t))
    (record { request = r; holds = ap request_in t.here ∙ e; fits = f }) k

-- one that fits neither before nor after turns
pub all_apart : (slots more : List (Slot Content)) (P : Request → Type 0) (id : Id) (was is : Option Content) (ids : List Id) →
    Turns slots more id was is → FitsNot P was → FitsNot P is → AllAsk slots P ids → AllAsk more P ids
all_apart slots more P id was is ids t d e k =
    all_alike (λ i a. (asks_were P (turned_back t) d i a).1) (λ i a. (asks_were P t e i a).1) k

-- one moves on the list
pub moved_middle : (slots : List (Slot Content)) (P : Request → Type 0) (id : Id) (fronts backs cs ds : List Id) → fronts ++ backs ≡ cs ++ ds →
    AllAsk slots P (fronts ++ id ∷ backs) → AllAsk slots P (cs ++ id ∷ ds)
moved_middle slots P id fronts backs cs ds e k = record {
  each = λ i h. k.each i (moved_has fronts backs cs ds id i e ∙ h);
  all = λ i a. sym (moved_has fronts backs cs ds id i e) ∙ k.all i a;
  distinct = grind (arith, distinct_middle, distinct_but, once_middle);
}

-- ---- the workers

-- who is run, by what a worker runs, whatever it runs then
pub record Worker (running : List (Option Id)) (k : ℕ) (o : Option Id) : Type 0 where
  pub front : List Id
  pub behind : List Id
  pub were : run_ids running ≡ front ++ (run_ids (o ∷ []) ++ behind)
  pub are : (q : Option Id) → run_ids (slice_set running k q) ≡ front ++ (run_ids (q ∷ []) ++ behind)

runs_first : (q : Option Id) (running : List (Option Id)) → run_ids (q ∷ running) ≡ run_ids (q ∷ []) ++ run_ids running
runs_first q running = grind arith

pub worker : (running : List (Option Id)) (k : ℕ) (o : Option Id) → slice_get running k ≡ Some o → Worker running k o
worker [] k o e = cc e
worker (x ∷ running) zero o e =
    let were = ap (λ (y : Option Id). run_ids (y ∷ running)) (same_Some _ _ e) ∙ runs_first o running in
    record { front = []; behind = run_ids running; were = were; are = λ q. runs_first q running }
worker (None ∷ running) (suc k) o e = let t = worker running k o e in record { front = t.front; behind = t.behind; were = t.were; are = t.are }
worker (Some x ∷ running) (suc k) o e =
    let t = worker running k o e in
    let first = λ (is : List Id). x ∷ is in
    record { front = x ∷ t.front; behind = t.behind; were = ap first t.were; are = λ q. ap first (t.are q) }

-- it runs it so far
pub runs_now : (running : List (Option Id)) (k : ℕ) (id : Id) → slice_get running k ≡ Some (Some id) → has_id (run_ids running) id ≡ true
runs_now running k id e = let g = worker running k (Some id) e in ap (λ (ids : List Id). has_id ids id) g.were ∙ has_new_middle g.front g.behind id

-- those behind the front that is taken wait too, and aren't it; who is run then is it, or was run before; and who is run once one is let go
-- was run before, and isn't it
pub fewer_wait : (ids more rest : List Id) (id i : Id) → ids ≡ id ∷ rest → has_id (rest ++ more) id ≡ false → has_id rest i ≡ true →
    (has_id ids i ≡ true) × (same_id id i ≡ false)
fewer_wait ids more rest id i e apart h = grind (arith, has_both, same)

pub more_run : (were are front behind : List Id) (id i : Id) → were ≡ front ++ behind → are ≡ front ++ id ∷ behind → has_id are i ≡ true →
    (id ≡ i) ⊎ (has_id were i ≡ true)
more_run were are front behind id i e f h = grind (arith, has_both, same)

pub fewer_run : (were are front behind : List Id) (id i : Id) → were ≡ front ++ id ∷ behind → are ≡ front ++ behind →
    has_id (front ++ behind) id ≡ false → has_id are i ≡ true → (has_id were i ≡ true) × (same_id id i ≡ false)
fewer_run were are front behind id i e f apart h = grind (arith, has_both, same)

pub none_run : (n : ℕ) → run_ids (replicate n None) ≡ []
none_run zero = refl
none_run (suc n) = none_run n

-- ---- what is kept

-- it waits for a worker, or one runs it
abbrev pub IsOpen : Request → Type 0
IsOpen r = is_open r.outcome ≡ true

-- it was finished or cancelled
abbrev pub HasEnded : Request → Type 0
HasEnded r = is_open r.outcome ≡ false

pub record Works (slots : List (Slot Content)) (waiting : List Id) (running : List (Option Id)) (done : Walk Id) : Type 0 where
  pub open_ones : AllAsk slots IsOpen (waiting ++ run_ids running)
  pub ended : AllAsk slots HasEnded (done.list ++ done.yet)

-- no request changes
pub works_same : (slots more : List (Slot Content)) (waiting : List Id) (running : List (Option Id)) (done : Walk Id) → SameRequests more slots →
    Works slots waiting running done → Works more waiting running done
works_same slots more waiting running done f k = search all_same

-- nothing, or no request
pub none_fits : (P : Request → Type 0) → FitsNot P None
none_fits P r e f = cc e

-- a request that doesn't fit
pub request_fits_not : (P : Request → Type 0) (x : Request) → (P x → ⊥) → FitsNot P (Some (Content.Request x))
request_fits_not P x d r e f = d (subst P (sym (same_Some _ _ e)) f)

open_over : (r : Request) → IsOpen r → HasEnded r → ⊥
open_over r a b = both_ways (is_open r.outcome) b a

-- a new request waits behind the others
pub works_queued : (slots more : List (Slot Content)) (waiting : List Id) (running : List (Option Id)) (done : Walk Id) (id : Id) (r : Request) →
    Turns slots more id None (Some (Content.Request r)) → IsOpen r → Works slots waiting running done → Works more (waiting ++ id ∷ []) running done
works_queued slots more waiting running done id r t opened k = search (append_assoc, more_middle, none_fits, all_apart, request_fits_not, open_over)

-- a request ends
ended_by : (slots more : List (Slot Content)) (done : Walk Id) (id : Id) (r x : Request) → Turns slots more id (Some (Content.Request r))
    (Some (Content.Request x)) → IsOpen r → HasEnded x → AllAsk slots HasEnded (done.list ++ done.yet) →
    AllAsk more HasEnded ((done.list ++ id ∷ []) ++ done.yet)
ended_by slots more done id r x t opened over k = search (append_assoc, more_middle, request_fits_not, open_over, opened)

-- the request that stands there fits
pub its_fit : (slots : List (Slot Content)) (P : Request → Type 0) (ids : List Id) (id : Id) (r : Request) → asked_at slots id ≡ Some r →
    has_id ids id ≡ true → AllAsk slots P ids → P r
its_fit slots P ids id r e h k = let a = k.each id h in subst P (same_Some _ _ (sym a.holds ∙ e)) a.fits

-- so one that waits, or is run, is open
pub waits_open : (slots : List (Slot Content)) (waiting : List Id) (running : List (Option Id)) (done : Walk Id) (id : Id) (r : Request) →
    held slots id ≡ Some (Content.Request r) → has_id waiting id ≡ true → Works slots waiting running done → IsOpen r
waits_open slots waiting running done id r e on k =
    its_fit slots IsOpen (waiting ++ run_ids running) id r (ap request_in e) (has_both waiting (run_ids running) id ∙ rw on refl) k.open_ones

pub runs_open : (slots : List (Slot Content)) (waiting : List Id) (running : List (Option Id)) (done : Walk Id) (id : Id) (r : Request) →
    held slots id ≡ Some (Content.Request r) → has_id (run_ids running) id ≡ true → Works slots waiting running done → IsOpen r
runs_open slots waiting running done id r e on k = its_fit slots IsOpen (waiting ++ run_ids running) id r (ap request_in e)
    (has_both waiting (run_ids running) id ∙ rw on (or-true (has_id waiting id))) k.open_ones

-- a request that waits is cancelled
pub works_cancelled : (slots more : List (Slot Content)) (waiting : List Id) (running : List (Option Id)) (done : Walk Id) (id : Id)
    (r x : Request) → Turns slots more id (Some (Content.Request r)) (Some (Content.Request x)) → list_any (same_id id) waiting ≡ true → HasEnded x →
    Works slots waiting running done → Works more (without_id waiting id) running (record done { list = done.list ++ id ∷ [] })
works_cancelled slots more waiting running done id r x t on over k =
    let runs = run_ids running in
    let here = on_list waiting id on in
    let opened = its_fit slots IsOpen (waiting ++ runs) id r (ap request_in t.before) (has_both waiting runs id ∙ rw here refl) k.open_ones in
    let d = k.open_ones.distinct in
    search (less, request_fits_not, open_over, but_front, distinct_left, ended_by, opened)

-- a worker takes the one that waits longest
pub works_taken : (slots : List (Slot Content)) (id : Id) (rest : List Id) (running : List (Option Id)) (done : Walk Id) (k : ℕ) →
    slice_get running k ≡ Some None → Works slots (id ∷ rest) running done → Works slots rest (slice_set running k (Some id)) done
works_taken slots id rest running done n e k =
    let t = worker running n None e in
    record {
      open_ones = subst (AllAsk slots IsOpen)
          (append_assoc rest t.front (id ∷ t.behind) ∙ ap (λ (ids : List Id). rest ++ ids) (sym (t.are (Some id))))
          (moved_middle slots IsOpen id [] (rest ++ run_ids running) (rest ++ t.front) t.behind
          (ap (λ (ids : List Id). rest ++ ids) t.were ∙ sym (append_assoc rest t.front t.behind)) k.open_ones);
      ended = k.ended;
    }

-- a worker finishes the one that it runs
pub works_finished : (slots more : List (Slot Content)) (waiting : List Id) (running : List (Option Id)) (done : Walk Id) (n : ℕ) (id : Id)
    (r x : Request) → Turns slots more id (Some (Content.Request r)) (Some (Content.Request x)) → slice_get running n ≡ Some (Some id) → HasEnded x →
    Works slots waiting running done → Works more waiting (slice_set running n None) (record done { list = done.list ++ id ∷ [] })
works_finished slots more waiting running done n id r x t e over k =
    let g = worker running n (Some id) e in
    let all : (waiting ++ run_ids running) ≡ (waiting ++ g.front) ++ id ∷ g.behind =
    ap (λ (ids : List Id). waiting ++ ids) g.were ∙ sym (append_assoc waiting g.front (id ∷ g.behind)) in
    let listed : AllAsk slots IsOpen ((waiting ++ g.front) ++ id ∷ g.behind) = subst (AllAsk slots IsOpen) all k.open_ones in
    let opened = its_fit slots IsOpen ((waiting ++ g.front) ++ id ∷ g.behind) id r (ap request_in t.before) (search has_new_middle)
    listed in
    record {
      open_ones = subst (AllAsk more IsOpen) (append_assoc waiting g.front g.behind ∙ ap (λ (ids : List Id). waiting ++ ids) (sym (g.are None)))
          (search (less, but_middle, distinct_but, request_fits_not, open_over));
      ended = ended_by slots more done id r x t opened over k.ended;
    }

-- the first of those that are done calls back, and its slot is freed
pub works_collected : (slots more : List (Slot Content)) (waiting : List Id) (running : List (Option Id)) (done : Walk Id) (id : Id) (rest : List Id)
    (r : Request) → Turns slots more id (Some (Content.Request r)) None → done.yet ≡ id ∷ rest → Works slots waiting running done →
    Works more waiting running (record done { yet = rest })
works_collected slots more waiting running done id rest r t e k =
    let listed : AllAsk slots HasEnded (done.list ++ id ∷ rest) =
    subst (λ (ids : List Id). AllAsk slots HasEnded (done.list ++ ids)) e k.ended in
    let a = listed.each id (has_new_middle done.list rest id) in
    let over : HasEnded r = subst HasEnded (same_Some _ _ (sym a.holds ∙ ap request_in t.before)) a.fits in
    search (all_apart, request_fits_not, open_over, none_fits, less, but_middle, distinct_but)

-- the section of those that are done begins
pub works_begun : (slots : List (Slot Content)) (waiting : List Id) (running : List (Option Id)) (done : Walk Id) → done.yet ≡ [] →
    Works slots waiting running done → Works slots waiting running (record { list = []; yet = done.list })
works_begun slots waiting running done e k = grind (arith, append-nil)
