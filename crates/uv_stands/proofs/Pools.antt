-- Requests change, and nothing else does: what the memory stands for then.
use Rattle.uv_stands.proofs.ProofNames.{◌≡◌, ◌≢◌, ℕ, ◌+◌, ◌++◌, List, [], ◌∷◌, map, slice_get, length, length-append, Option, Some, sym, ap, ◌∙◌, arith, length-map, map-append, Id, ListName, Walk, active_count, IsFirst, plain_slots, Entry, busy, Request, Running, id_in, done_in, listed_id, content_is, Place, State, members, Content, Asked, handle_of, request_of, only_request, IsFit, Image, open_requests, StandsFor, timer_in}
use Rattle.uv_records.specs.declared.lists.ListName.TheVariants as name
use Rattle.uv_records.specs.Slots as plain
use Rattle.uv_arena.specs.Image as arena
use Rattle.uv_requests.specs.Working as work
use Rattle.uv_stands.proofs.Holding.{held_there, slot_by, map_same}
use Rattle.uv_stands.proofs.Single.{running_is}

-- ---- what the memory alone says of the counts

pub opened_fit : (i : Image Place) (t : State) → IsFit i → i.running.workers ≡ t.running
    → ((l : ListName) → members t l ≡ map (id_in i.arena) (arena.members i.arena l)) → i.running.count ≡ open_requests t
opened_fit i t fit runs lists =
    let waits = arena.members i.arena name.Waiting in
    let yet = arena.members i.arena name.DoneYet in
    let done = arena.members i.arena name.Done in
    let a : length t.waiting ≡ length (map (id_in i.arena) waits) = ap (λ ids. length ids) (lists name.Waiting) in
    let b : length t.done.yet ≡ length yet = ap (λ ids. length ids) (lists name.DoneYet) ∙ length-map yet (id_in i.arena) in
    let c : length t.done.list ≡ length done = ap (λ ids. length ids) (lists name.Done) ∙ length-map done (id_in i.arena) in
    let d : length (map (done_in request_of i.arena) (yet ++ done)) ≡ length yet + length done =
    length-map (yet ++ done) (done_in request_of i.arena) ∙ length-append yet done in
    let e : busy i.running.workers ≡ busy t.running = ap busy runs in
    let count : i.running.count
    ≡ length (map (id_in i.arena) waits) + busy i.running.workers + length (map (done_in request_of i.arena) (yet ++ done)) = fit.work.count in
    omega (arith, count, a, b, c, d, e)

pub active_fit : (i : Image Place) (t : State) → IsFit i → plain_slots i.arena ≡ t.arena → i.active ≡ active_count handle_of t.arena.slots
active_fit i t fit slots = cc

-- ---- what is in the memory, as the state has it

pub ids_moved : (i k : arena.Image Content) → plain_slots k ≡ plain_slots i → (x : ℕ) → id_in k x ≡ id_in i x
ids_moved i k same x = grind (arith, slot_by)

-- a request is the state's
pub asked_there : (i : Image Place) (s : State) (d : Id) (r : Request) → StandsFor i s → work.request_in request_of i.arena d ≡ Some r
    → plain.held s.arena.slots d ≡ Some (Asked r)
asked_there i s d r h e = sym (held_there i s d h) ∙ content_is request_of Asked only_request i.arena d r e

-- the first of a list is the state's
pub front_there : (i : Image Place) (s : State) (l : ListName) (d : Id) → StandsFor i s → (f : IsFirst i.arena l d)
    → members s l ≡ d ∷ map (id_in i.arena) f.rest
front_there i s l d h f = grind (arith, listed_id)

pub first_one : (i : arena.Image Content) (l : ListName) (d e : Id) → IsFirst i l d → IsFirst i l e → e ≡ d
first_one i l d e f g =
    let same : e.slot ≡ d.slot = cc (f.is, g.is) in
    sym (listed_id i e g.listed.held) ∙ ap (id_in i) same ∙ listed_id i d f.listed.held

-- what a worker runs is the state's
pub run_there : (i : Image Place) (s : State) (k : ℕ) (o : Option (Option Id)) → StandsFor i s → slice_get i.running.workers k ≡ o
    → slice_get s.running k ≡ o
run_there i s k o h e = ap (λ rs. slice_get rs k) (sym (running_is h)) ∙ e

-- a list that stays
pub list_same : (i : Image Place) (k : arena.Image Content) → ((x : ℕ) → id_in k x ≡ id_in i.arena x) → (l : ListName) (xs : List Id)
    → xs ≡ map (id_in i.arena) (arena.members i.arena l) → arena.members k l ≡ arena.members i.arena l → xs ≡ map (id_in k) (arena.members k l)
list_same i k ids l xs is kept = grind arith

-- one more is done
pub done_more : (i : Image Place) (s : State) (k : arena.Image Content) (d : Id) → StandsFor i s → id_in i.arena d.slot ≡ d
    → ((x : ℕ) → id_in k x ≡ id_in i.arena x) → arena.members k name.Done ≡ arena.members i.arena name.Done ++ d.slot ∷ []
    → s.done.list ++ d ∷ [] ≡ map (id_in k) (arena.members k name.Done)
done_more i s k d h one ids more =
    let done = arena.members i.arena name.Done in
    (λ l. h.lists name.Done l ++ sym one l ∷ [])
    ∙ sym (map-append (id_in i.arena) done (d.slot ∷ []))
    ∙ sym (map_same (id_in k) (id_in i.arena) ids (done ++ d.slot ∷ []))
    ∙ ap (map (id_in k)) (sym more)

-- ---- the memory after a change of requests

module _ (i : Image Place) (s : State) (h : StandsFor i s) (k : arena.Image Content) (n : Running) (a : plain.Slots Content) (w : List Id)
    (r : List (Option Id)) (q : Walk Id) (ids : (x : ℕ) → id_in k x ≡ id_in i.arena x)
    (others : (l : ListName) → l ≢ name.Waiting → l ≢ name.Done → l ≢ name.DoneYet → arena.members k l ≡ arena.members i.arena l)
    (waits : w ≡ map (id_in k) (arena.members k name.Waiting)) (done : q.list ≡ map (id_in k) (arena.members k name.Done))
    (yet : q.yet ≡ map (id_in k) (arena.members k name.DoneYet)) where
  abbrev j : Image Place
  j = record i { arena = k; running = n }

  abbrev t : State
  t = record s { arena = a; waiting = w; running = r; done = q }

  same : (l : ListName) → l ≢ name.Waiting → l ≢ name.Done → l ≢ name.DoneYet
      → map (id_in i.arena) (arena.members i.arena l) ≡ map (id_in k) (arena.members k l)
  same l x y z = sym (map_same (id_in k) (id_in i.arena) ids (arena.members i.arena l)) ∙ ap (map (id_in k)) (sym (others l x y z))

  lists : (l : ListName) → members t l ≡ map (id_in k) (arena.members k l)
  lists name.Waiting = waits
  lists name.Done = done
  lists name.DoneYet = yet
  lists l = h.lists l ∙ same l (λ e. cc) (λ e. cc) (λ e. cc)

  pub pool_stands : plain_slots k ≡ a → n.workers ≡ r → StandsFor j t
  pool_stands slots running = record {
    values = λ l. record (h.values l) { running = running l };
    slots = slots;
    lists = lists;
    timers = record {
      entries = h.timers.entries;
      ordered = h.timers.ordered;
      same = h.timers.same
          ∙ sym (map_same (timer_in k) (timer_in i.arena) (λ (e : Entry). ap (λ z. (e.due, z)) (ids e.slot)) h.timers.entries);
    };
  }
