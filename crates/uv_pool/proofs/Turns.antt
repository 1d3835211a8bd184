-- One turn more.
use Rattle.uv_pool.proofs.Names.{◌≡◌, ◌==◌, ◌&&◌, ℕ, ◌+◌, List, [], ◌∷◌, ◌++◌, Bool, true, false, refl, sym, ◌∙◌, ap, arith, append_assoc, subst, nat_tests, Fault, Id, same_id, PoolEvent, finish_count, same_itself, WorkResult, are_turns, turn, Serves, Breaks, Stops}
use Rattle.uv_work.specs.declared.event.PoolEvent.TheVariants as event
use Rattle.uv_pool.proofs.Replays.{count_more}

and_more : (b x y : Bool) → (b && x) ≡ true → (x ≡ true → y ≡ true) → (b && y) ≡ true
and_more b x y h f = grind arith

pub turns_more : (k : ℕ) (xs : List PoolEvent) (id : Id) → are_turns k xs ≡ true → are_turns k (xs ++ turn k id) ≡ true
turns_more k (event.Take a i ∷ event.Finish b j ∷ more) id h =
    and_more ((a == k) && ((b == k) && same_id i j)) (are_turns k more) (are_turns k (more ++ turn k id)) h (λ t. turns_more k more id t)
turns_more k (event.Take a i ∷ []) id h = cc
turns_more k (event.Take a i ∷ e ∷ more) id h = cc
turns_more k each id h = grind arith

pub count_turn : (k : ℕ) (xs : List PoolEvent) (id : Id) → finish_count (xs ++ turn k id) ≡ finish_count xs + 1
count_turn k xs id =
    let split : xs ++ turn k id ≡ (xs ++ event.Take k id ∷ []) ++ event.Finish k id ∷ [] = sym
    (append_assoc xs (event.Take k id ∷ []) (event.Finish k id ∷ [])) in
    ap finish_count split ∙ omega (arith, count_more (xs ++ event.Take k id ∷ []) (event.Finish k id), count_more xs (event.Take k id))

-- what lasts from turn to turn: the events are turns, the share counts them, and the bench gained them
pub record Turned (k n : ℕ) (events before after : List PoolEvent) : Type 0 where
  pub counted : n ≡ finish_count events
  pub turns : are_turns k events ≡ true
  pub answered : after ≡ before ++ events

pub served_turns : (k : ℕ) (more : Bool) (b e : List PoolEvent) (n : ℕ) (b' e' : List PoolEvent) (n' : ℕ) (before : List PoolEvent) → more ≡ true
    → Serves k more b e n b' e' n' → Turned k n e before b → Turned k n' e' before b'
served_turns k more b e n b' e' n' before is e10 i = grind (arith, count_turn, turns_more, append_assoc)

-- turns, and then what the last one came to
pub stopped : {B : Type 0} (answered : B → List PoolEvent) (refuses : B → ℕ → WorkResult → Fault → B → Type 0) (k : ℕ) (f : Fault)
    (before events here after : List PoolEvent)
    → are_turns k events ≡ true → here ≡ before ++ events → Breaks answered refuses k f here after → Stops answered refuses k f before after
stopped answered refuses k f before events here after turns are breaks =
    (events, turns, subst (λ (xs : List PoolEvent). Breaks answered refuses k f xs after) are breaks)
