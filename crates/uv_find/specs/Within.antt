-- What is near a recording is within every order of what came in it: each move of an order that differs from the recording is an offer there.
use Rattle.std.specs.Prelude.{◌≡◌, ℕ, ◌⊎◌, true, List, Option, Some, None, slice_get, if◌then◌else◌}
use Rattle.uv_ids.specs.declared.event.Event.{Event}
use Rattle.uv_ids.specs.declared.event.Event.TheVariants as event
use Rattle.uv_model.specs.State.{State}
use Rattle.uv_asking.specs.declared.asking.Offer.{Offer}
use Rattle.uv_asking.specs.declared.asking.Offer.TheVariants.{Step, Take, Wait, WaitFor}
use Rattle.uv_asking.specs.declared.asking.Offered.{Offered}
use Rattle.uv_asking.specs.declared.asking.Recorded.{Recorded}
use Rattle.uv_find.specs.declared.left.Left.{Left}
use Rattle.uv_find.specs.declared.left.Left.TheVariants as left
use Rattle.uv_find.specs.Orders.{Rules, Place, Choice, choice_at, may_take, is_seen}
use Rattle.uv_find.specs.Courses.{IsOffered}
use Rattle.uv_find.specs.Ranks.{idle_worker}

-- the same is asked of every order in which these offers may come: each state is kept whole, as where the clock is bounded
abbrev pub every_order : Rules → List Offered → Rules
every_order r offers = record r { offers = offers; differ = None; forget = None }

-- this offer may still be taken
pub record MayTake (offers : List Offered) (left : List Left) (offer : Offer) : Type 0 where
  pub number : ℕ
  pub offered : Offered
  pub rest : Left
  pub here : slice_get offers number ≡ Some offered
  pub is : offered.offer ≡ offer
  pub there : slice_get left number ≡ Some rest
  pub may : may_take rest ≡ true

-- the offer that brings what came: a worker takes as it does in each order, and what was a wait is one
abbrev pub offer_by : Event → Offer
offer_by (event.Take worker) = Take
offer_by e = Step e

abbrev pub wait_by : Event → Offer
wait_by (event.Tick ms) = WaitFor ms
wait_by e = Step e

abbrev pub offer_of : Recorded → Offer
offer_of r = if r.waits then wait_by r.event else offer_by r.event

-- the next event of a source is the recorded one of this number: it is ahead, or was held back
abbrev pub IsNext : Option Left → ℕ → Type 0
IsNext x number = (x ≡ Some (left.Ahead number)) ⊎ (x ≡ Some (left.Held number))

-- all that may come at a place near a recording may come at a place over every order
pub record Brings (r : Rules) (offers : List Offered) (near all : Place) : Type 0 where
  pub loop : MayTake offers all.left (Step event.Loop)
  pub wait : r.waits ≡ true → MayTake offers all.left Wait
  pub came : (source number : ℕ) (e : Recorded) → IsNext (slice_get near.left source) number → slice_get r.recorded number ≡ Some e
      → MayTake offers all.left (offer_of e)
  -- the loop stands in one state, and a callback that has ended owes as much of its time
  pub state : all.state ≡ near.state
  pub owed : all.kept.owed ≡ near.kept.owed

-- in every order only the idle worker of the least number takes a request, and a send comes where libuv sees it as the loop does
abbrev pub IsCommon : State → Event → Type 0
IsCommon s (event.Take worker) = idle_worker s ≡ Some worker
IsCommon s (event.Send v) = is_seen s v ≡ true
IsCommon s e = Unit {0}

-- what came in a recording is no step of the loop
abbrev pub CameFromOutside : Rules → Type 0
CameFromOutside r = (number : ℕ) (e : Recorded) → slice_get r.recorded number ≡ Some e → e.event ≡ event.Loop → ⊥

-- each move of an order near a recording is an offer of every order
abbrev pub NearIsWithin : Type 0
NearIsWithin = (r : Rules) (offers : List Offered) (k : ℕ) (near all : Place) (number : ℕ) (c : Choice) → r.differ ≡ Some k → CameFromOutside r
    → Brings r offers near all → choice_at r near number ≡ Some c → IsCommon near.state c.event → IsOffered (every_order r offers) all c.event
