-- Ids told apart, and a log with one entry more.
use Rattle.std.proofs.Common.{◌≡◌, ℕ, ◌==◌, ◌&&◌, List, [], ◌∷◌, ◌++◌, Bool, true, false, Option, Some, refl, ap, arith}
use Rattle.std.proofs.lemmas.Bool.{eqb-true}
use Rattle.std.proofs.lemmas.Bool.Decides.{nat_tests}
use Rattle.uv_ids.specs.declared.id.Id.{Id}
use Rattle.uv_work.specs.Ids.{same_id}
use Rattle.uv_work.specs.Pool.{empty_pool, Pool, then_event, after_events, replay}
use Rattle.uv_work.specs.declared.event.PoolEvent.{PoolEvent}

pub same_itself : (id : Id) → same_id id id ≡ true
same_itself id = grind (arith, nat_tests)

pub same_when : (a b : Id) → same_id a b ≡ true → a ≡ b
same_when a b h = at (a.slot == b.slot) refl (a.generation == b.generation) refl h where
  at : (x : Bool) → (a.slot == b.slot) ≡ x → (y : Bool) → (a.generation == b.generation) ≡ y → (x && y) ≡ true → a ≡ b
  at true e true f h' =
      let s : a.slot ≡ b.slot = eqb-true a.slot b.slot e in
      let g : a.generation ≡ b.generation = eqb-true a.generation b.generation f in
      let both : (a.slot, a.generation) ≡ (b.slot, b.generation) = cc in
      ap (λ (p : ℕ × ℕ). let id : Id = record { slot = p.0; generation = p.1 } in id) both
  at true e false f h' = cc
  at false e y f h' = cc

-- the events of two logs, one after the other
pub events_both : (p : Option Pool) (log more : List PoolEvent) → after_events p (log ++ more) ≡ after_events (after_events p log) more
events_both p [] more = refl
events_both p (x ∷ log) more = events_both (then_event p x) log more

-- one entry more
pub replay_more : (workers : ℕ) (log : List PoolEvent) (e : PoolEvent) → replay workers (log ++ e ∷ []) ≡ then_event (replay workers log) e
unfolding replay
replay_more workers log e = events_both (Some (empty_pool workers)) log (e ∷ [])
