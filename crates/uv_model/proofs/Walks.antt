-- The counts of names and the lists of handles, where a section calls one.
use Rattle.uv_model.proofs.Names.{◌≡◌, ℕ, ◌<◌, ◌^◌, ◌==◌, Bool, true, false, cond, List, [], ◌∷◌, length, All, Option, Some, None, option_and_then, slice_get, refl, ap, subst, arith, elements, eqb-true, none-some, same_Some, Id, HandleRecord, Slot, held_in, held, Content, Request, handle_in, request_in, State, with_id, front, front_request, CanStep, WatcherKind, Watchers, those_of, with_those_of}
use Rattle.uv_records.specs.declared.lists.WatcherKind.TheVariants as watcher
use Rattle.uv_work.specs.declared.content.Content.TheVariants as content
use Rattle.uv_model.proofs.Calls.{able_small}

-- the handles of a kind in their own place
pub same_those : (kind : WatcherKind) (all : Watchers) → with_those_of kind (those_of kind all) all ≡ all
same_those kind all = grind arith

-- a list with a front has a member
pub front_there : (s : State) (ids : List Id) (id : Id) (h : HandleRecord) → front s ids ≡ Some (id, h) → 0 < length ids
front_there s ids id h e = grind arith

pub request_there : (s : State) (ids : List Id) (id : Id) (r : Request) → front_request s ids ≡ Some (id, r) → 0 < length ids
request_there s ids id r e = grind arith

-- a slot that holds something was freed as often as its id says
held_few : (n : ℕ) (slots : List (Slot Content)) (id : Id) (x : Option (Slot Content)) (c : Content) → slice_get slots id.slot ≡ x →
    option_and_then (held_in id) x ≡ Some c → All (λ (slot : Slot Content). slot.generation < n) slots → id.generation < n
held_few n slots id x c e h all = grind (arith, eqb-true, elements, none-some)

-- so was that of the front of a list
pub front_freed : (s : State) (ids : List Id) (id : Id) (h : HandleRecord) → front s ids ≡ Some (id, h) → CanStep s → id.generation < 2 ^ 31
front_freed s [] id h e able = cc e
front_freed s (x ∷ ids) id h e able = at (held s.arena.slots x) refl e where
  at : (c : Option Content) → held s.arena.slots x ≡ c → with_id x (handle_in c) ≡ Some (id, h) → id.generation < 2 ^ 31
  at None f g = cc g
  at (Some (content.Request r)) f g = cc g
  at (Some (content.Handle k)) f g =
      let same : x ≡ id = ap (λ (t : Id × HandleRecord). t.0) (same_Some _ _ g) in
      subst (λ (i : Id). i.generation < 2 ^ 31) same
      (held_few (2 ^ 31) s.arena.slots x (slice_get s.arena.slots x.slot) (content.Handle k) refl f able.small.freed)

pub request_freed : (s : State) (ids : List Id) (id : Id) (r : Request) → front_request s ids ≡ Some (id, r) → CanStep s → id.generation < 2 ^ 31
request_freed s [] id r e able = cc e
request_freed s (x ∷ ids) id r e able = at (held s.arena.slots x) refl e where
  at : (c : Option Content) → held s.arena.slots x ≡ c → with_id x (request_in c) ≡ Some (id, r) → id.generation < 2 ^ 31
  at None f g = cc g
  at (Some (content.Handle h)) f g = cc g
  at (Some (content.Request k)) f g =
      let same : x ≡ id = ap (λ (t : Id × Request). t.0) (same_Some _ _ g) in
      subst (λ (i : Id). i.generation < 2 ^ 31) same
      (held_few (2 ^ 31) s.arena.slots x (slice_get s.arena.slots x.slot) (content.Request k) refl f able.small.freed)

pub ruleset walks = (able_small, front_there, front_freed, request_there, request_freed)
