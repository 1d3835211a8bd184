-- Equal bytes are equal states.
use Rattle.uv_state_key.proofs.Names.{◌≡◌, ℕ, List, ◌++◌, Option, Some, None, ap, Id, Event, Program, Named, Slots, Walk, Content, Outcome, Open, Finished, Cancelled, Request, Task, IsDigest, Numbers, Place, after, numbers, State, request, holds_after, reached, option_code, Tells, any_tells, pair_tells, pair_tells_of, list_tells, option_tells, id_code, ids_code, walk_code, IsTold, Seen, SaysTrue}
use Rattle.uv_key.specs.Codes.{list_code}
use Rattle.uv_state_key.specs.Key.{watchers_code, requests_code, state_code}
use Rattle.uv_state_key.proofs.Codes.{id_tells, ids_tell, walk_tells, place_tells, named_tells, loop_numbers_tell}
use Rattle.uv_state_key.proofs.Slots.{ArenaFits, arena_tells, arena_fits}
use Rattle.uv_state_key.proofs.Timers.{same_timers}

-- ---- the digests of a reached state

-- what the lines tell of a request that ended
abbrev EndsTrue : Program → List Seen → Id → Task → Outcome → Type 0
EndsTrue p past id task Open = Unit {0}
EndsTrue p past id task (Finished digest) = SaysTrue p past id task (Some digest)
EndsTrue p past id task Cancelled = SaysTrue p past id task None

is_digest : (p : Program) (past : List Seen) (id : Id) (task : Task) (o : Outcome) → EndsTrue p past id task o → IsDigest task o
is_digest p past id task Open h = tt
is_digest p past id task (Finished digest) h = h.2
is_digest p past id task Cancelled h = tt

told : (p : Program) (es : List Event) (id : Id) (r : Request) → request (after p es) id ≡ Some r → IsDigest r.task r.outcome
told p es id r e =
    let h = holds_after p es in
    is_digest p h.past id r.task r.outcome (h.holds.known.worked.ended id r e)

-- ---- what the bytes hold of a state: all but the order of its timers

abbrev Watchers : Type 0
Watchers = ((Walk Id × Walk Id) × Walk Id) × Walk Id

abbrev watchers_of : State → Watchers
watchers_of s = (((s.watchers.idle, s.watchers.prepare), s.watchers.check), s.watchers.async)

watchers_tell : Tells {X = Watchers} (λ w. walk_code w.0.0.0 ++ walk_code w.0.0.1 ++ walk_code w.0.1 ++ walk_code w.1)
watchers_tell = pair_tells _ _ (pair_tells _ _ (pair_tells _ _ walk_tells walk_tells) walk_tells) walk_tells

abbrev Requests : Type 0
Requests = (List Id × List (Option Id)) × Walk Id

abbrev requests_of : State → Requests
requests_of s = ((s.waiting, s.running), s.done)

requests_tell : Tells {X = Requests} (λ r. ids_code r.0.0 ++ list_code (option_code id_code) r.0.1 ++ walk_code r.1)
requests_tell = pair_tells _ _ (pair_tells _ _ ids_tell (list_tells _ (option_tells _ id_tells))) walk_tells

abbrev Part : Type 0
Part = ((((((Place × List Named) × Slots Content) × List Id) × Watchers) × Walk Id) × Requests) × Numbers

abbrev part_of : State → Part
part_of s = (((((((s.place, s.names), s.arena), s.ready), watchers_of s), s.closing), requests_of s), numbers s)

abbrev Fits : State → Type 0
Fits s = ArenaFits s.arena

-- the bytes tell it
parts_tell : (a b : State) (x y : List ℕ) → Fits a → Fits b → state_code a ++ x ≡ state_code b ++ y → (part_of a ≡ part_of b) × (x ≡ y)
unfolding state_code watchers_code requests_code
parts_tell a b x y h k e =
    let named = pair_tells _ _ place_tells (list_tells _ named_tells) in
    let slots = pair_tells_of _ _ _ _ (any_tells _ named) arena_tells in
    let ready = pair_tells_of _ _ _ _ slots (any_tells _ ids_tell) in
    let watched = pair_tells_of _ _ _ _ ready (any_tells _ watchers_tell) in
    let closing = pair_tells_of _ _ _ _ watched (any_tells _ walk_tells) in
    let requests = pair_tells_of _ _ _ _ closing (any_tells _ requests_tell) in
    let all = pair_tells_of _ _ _ _ requests (any_tells _ loop_numbers_tell) in
    all (part_of a) (part_of b) x y ((((((tt, h), tt), tt), tt), tt), tt) ((((((tt, k), tt), tt), tt), tt), tt) e

-- ---- and so the state

same_state : (a b : State) → part_of a ≡ part_of b → a.timers ≡ b.timers → a ≡ b
same_state a b e timers = λ i. let p = e i in record {
  place = p.0.0.0.0.0.0.0;
  names = p.0.0.0.0.0.0.1;
  arena = p.0.0.0.0.0.1;
  timers = timers i;
  ready = p.0.0.0.0.1;
  watchers = record { idle = p.0.0.0.1.0.0.0; prepare = p.0.0.0.1.0.0.1; check = p.0.0.0.1.0.1; async = p.0.0.0.1.1 };
  closing = p.0.0.1;
  waiting = p.0.1.0.0;
  running = p.0.1.0.1;
  done = p.0.1.1;
  time = p.1.time;
  clock = p.1.clock;
  next_start = p.1.next_start;
  stop_flag = p.1.stop_flag;
  idled = p.1.idled;
}

pub states_tell : (a b : State) (x y : List ℕ) → IsTold a → IsTold b → state_code a ++ x ≡ state_code b ++ y → (a ≡ b) × (x ≡ y)
states_tell a b x y h k e =
    let r = parts_tell a b x y (arena_fits a.arena.slots h.digests) (arena_fits b.arena.slots k.digests) e in
    let timers = same_timers a b (ap (λ (q : Part). q.0.0.0.0.0.1) r.0) h.timers k.timers in
    (same_state a b r.0 timers, r.1)

pub after_told : (p : Program) (es : List Event) → IsTold (after p es)
after_told p es = record { timers = (reached p es).timers; digests = told p es }

-- equal bytes are equal states, whatever lists of steps lead to them
pub keys_tell : (p : Program) (es fs : List Event) (x y : List ℕ) → state_code (after p es) ++ x ≡ state_code (after p fs) ++ y →
    (after p es ≡ after p fs) × (x ≡ y)
keys_tell p es fs x y e = states_tell (after p es) (after p fs) x y (after_told p es) (after_told p fs) e
