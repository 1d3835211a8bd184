-- By which keys requests are run: the loop's step leaves them where it is apart, and a rank goes by them alone.
use Rattle.uv_find.proofs.Names.{◌≡◌, ℕ, suc, ◌+◌, ◌++◌, ◌==◌, List, [], ◌∷◌, Bool, true, false, cond, slice_get, refl, ap, ap₂, sym, subst, ◌∙◌, Option, Some, None, map, option_map, position_from, same_Some, Event, Loop, Id, Seen, held, Program, Content, Request, request_in, Moves, State, run_ids, AreOpened, has_at, is_apart, loop_keeps, finish_next, next_finishes, finishes_apart, number_of, key_at, keys_run, rank_in, is_of_rank, runner}
use Rattle.uv_ids.specs.declared.seen.Seen.TheVariants as seen
use Rattle.uv_work.specs.declared.content.Content.TheVariants as content
use Rattle.uv_model.specs.After.{after}
use Rattle.uv_model.specs.Next.{next}
use Rattle.uv_order.proofs.Reaching.{reached}
use Rattle.uv_find.proofs.Ranking.{Run}

-- ---- behind a step of the loop that is apart

named_request : (o : Option Content) (r : Request) → request_in o ≡ Some r → number_of o ≡ r.name.0
named_request None r e = cc e
named_request (Some (content.Handle h)) r e = cc e
named_request (Some (content.Request q)) r e = ap (λ (x : Request). x.name.0) (same_Some q r e)

map_at : (f g : Id → Id) (xs : List Run) → ((k : ℕ) (id : Id) → slice_get xs k ≡ Some (Some id) → f id ≡ g id)
    → map (option_map f) xs ≡ map (option_map g) xs
map_at f g [] same = refl
map_at f g (None ∷ xs) same = ap (λ (ys : List Run). None ∷ ys) (map_at f g xs (λ k. same (suc k)))
map_at f g (Some id ∷ xs) same = ap₂ (λ x (ys : List Run). Some x ∷ ys) (same 0 id refl) (map_at f g xs (λ k. same (suc k)))

said_name : Option Seen → ℕ
said_name (Some (seen.Finish k v id)) = v.0
said_name line = 0

said_id : Id → Option Seen → Id
said_id none (Some (seen.Finish k v id)) = id
said_id none line = none

-- what a worker runs keeps its name: it is finished before the step and behind it with the same line
pub keys_stay : (p : Program) (es : List Event) (s a : State) (l : Option Seen) → s ≡ after p es → is_apart p s ≡ true
    → next p s Loop ≡ Moves a l → keys_run a ≡ keys_run s
unfolding said_name said_id
keys_stay p es s a l is apart goes =
    ap (λ running. map (option_map (key_at a.arena.slots)) running) (loop_keeps p s a l goes).1
    ∙ map_at (key_at a.arena.slots) (key_at s.arena.slots) s.running same
  where
    opened : AreOpened s (s.waiting ++ run_ids s.running)
    opened = subst (λ u. AreOpened u (u.waiting ++ run_ids u.running)) (sym is) (reached p es).opened

    same : (k : ℕ) (id : Id) → slice_get s.running k ≡ Some (Some id) → key_at a.arena.slots id ≡ key_at s.arena.slots id
    same k id there =
        let its = opened.each id (has_at s.waiting s.running k id there) in
        let finishes = finish_next p s k id its.its there its.holds in
        let met = finishes_apart p es s a _ k l _ is apart goes finishes in
        let behind = next_finishes p a k met.state _ met.event_after in
        let name : its.its.name.0 ≡ behind.request.name.0 = ap said_name behind.says in
        let one : id ≡ behind.id = ap (said_id id) behind.says in
        let here : number_of (held s.arena.slots id) ≡ its.its.name.0 = named_request (held s.arena.slots id) its.its its.holds in
        let later : number_of (held a.arena.slots id) ≡ behind.request.name.0 =
        ap (λ (x : Id). number_of (held a.arena.slots x)) one
        ∙ named_request (held a.arena.slots behind.id) behind.request behind.holds in
        ap (λ (n : ℕ). record { slot = n; generation = id.slot }) (later ∙ sym name ∙ sym here)

-- ---- a rank

abbrev key_of_rank : List Run → ℕ → Run → Bool
key_of_rank keys rank None = false
key_of_rank keys rank (Some key) = rank_in keys key == rank

position_map : (g : Run → Bool) (f : Run → Run) (i : ℕ) (xs : List Run) → position_from (λ x. g (f x)) i xs ≡ position_from g i (map f xs)
position_map g f i [] = refl
position_map g f i (x ∷ xs) = ap (cond (g (f x)) (Some i)) (position_map g f (i + 1) xs)

position_same : (g h : Run → Bool) → ((x : Run) → g x ≡ h x) → (i : ℕ) (xs : List Run) → position_from g i xs ≡ position_from h i xs
position_same g h same i [] = refl
position_same g h same i (x ∷ xs) = ap₂ (λ b o. cond b (Some i) o) (same x) (position_same g h same (i + 1) xs)

runner_keys : (s : State) (rank : ℕ) → runner s rank ≡ position_from (key_of_rank (keys_run s) rank) 0 (keys_run s)
runner_keys s rank =
    position_same (is_of_rank s rank) (λ x. key_of_rank (keys_run s) rank (option_map (key_at s.arena.slots) x)) by 0 s.running
    ∙ position_map (key_of_rank (keys_run s) rank) (option_map (key_at s.arena.slots)) 0 s.running
  where
    by : (x : Run) → is_of_rank s rank x ≡ key_of_rank (keys_run s) rank (option_map (key_at s.arena.slots) x)
    by None = refl
    by (Some id) = refl

pub runner_same : (a s : State) → keys_run a ≡ keys_run s → (rank : ℕ) → runner a rank ≡ runner s rank
runner_same a s same rank =
    runner_keys a rank ∙ ap (λ (keys : List Run). position_from (key_of_rank keys rank) 0 keys) same ∙ sym (runner_keys s rank)
