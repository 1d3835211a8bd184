-- Requests as steps find them: the front of a list, what a worker may take, and what one may finish.
use Rattle.uv_order.proofs.Names.{arith, ◌≡◌, ℕ, ◌+◌, ◌==◌, List, ◌∷◌, Some, None, Ok, drop, slice_get, slice_set, cond_both, Id, Slot, Slots, held, freed, Content, Request, State, front_request, next_work, work_of}
use Rattle.uv_order.proofs.Contents.{Turns, slot_with, emptied_turns, holds, set_turns, as_request}

-- a request's record changes
pub request_turns : (slots : List (Slot Content)) (id : Id) (r x : Request) → held slots id ≡ Some (Content.Request r) →
    Turns slots (slice_set slots id.slot (slot_with id (Some (Content.Request x)))) id (Some (Content.Request r)) (Some (Content.Request x))
request_turns slots id r x e =
    assumption (e, set_turns slots id (Some (Content.Request x)) (holds slots id (Content.Request r) e).at)

-- a slot is freed or retired
pub freed_turns : (last : ℕ) (s : Slots Content) (id : Id) (c : Content) → held s.slots id ≡ Some c →
    Turns s.slots (freed last id s).slots id (Some c) None
freed_turns last s id c e = cond_both (id.generation == last) _ _ (λ (u : Slots Content). Turns s.slots u.slots id (Some c) None)
    (λ at. emptied_turns s.slots id c id.generation e) (λ more. emptied_turns s.slots id c (id.generation + 1) e)

-- the front of a list of requests, with what is behind it
pub record FrontRequest (s : State) (ids : List Id) (t : Id × Request) : Type 0 where
  pub are : ids ≡ t.0 ∷ drop 1 ids
  pub holds : held s.arena.slots t.0 ≡ Some (Content.Request t.1)

pub request_front : (s : State) (ids : List Id) (t : Id × Request) → front_request s ids ≡ Some t → FrontRequest s ids t
request_front s ids t e = grind arith

-- what a worker may take
pub record TakesFront (s : State) (n : ℕ) (t : Id × Request) : Type 0 where
  pub idle : slice_get s.running n ≡ Some None
  pub front : FrontRequest s s.waiting t

pub takes_front : (s : State) (n : ℕ) (t : Id × Request) → next_work s (slice_get s.running n) ≡ Ok t → TakesFront s n t
takes_front s n t e = grind (arith, request_front)

-- what a worker may finish
pub record RunsWork (s : State) (n : ℕ) (t : Id × Request) : Type 0 where
  pub busy : slice_get s.running n ≡ Some (Some t.0)
  pub holds : held s.arena.slots t.0 ≡ Some (Content.Request t.1)

pub runs_work : (s : State) (n : ℕ) (t : Id × Request) → work_of s (slice_get s.running n) ≡ Ok t → RunsWork s n t
runs_work s n t e = grind (arith, holds, as_request)
