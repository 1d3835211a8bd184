-- What a gate is told.
use Rattle.std.specs.Prelude.{◌≡◌, ◌++◌, ℕ, List, [], ◌∷◌}
use Rattle.uv_ids.specs.declared.id.Id.{Id}
use Rattle.uv_work.specs.declared.event.PoolEvent.{PoolEvent}
use Rattle.uv_work.specs.declared.event.PoolEvent.TheVariants as event

-- A gate becomes another one as it is told of these events, each once and in their order, and of nothing else: of a take by `begins`, of a
-- finish by `ends`
abbrev pub IsTold : {G : Type 0} → (G → ℕ → Id → G → Type 0) → (G → ℕ → Id → G → Type 0) → G → List PoolEvent → G → Type 0
IsTold begins ends g [] h = h ≡ g
IsTold begins ends g (event.Take k id ∷ more) h = (told : _) × begins g k id told × IsTold begins ends told more h
IsTold begins ends g (event.Finish k id ∷ more) h = (told : _) × ends g k id told × IsTold begins ends told more h
IsTold begins ends g (e ∷ more) h = ⊥

-- it is told of just what a bench answered meanwhile
abbrev pub TellsOf : {G : Type 0} → (G → ℕ → Id → G → Type 0) → (G → ℕ → Id → G → Type 0) → List PoolEvent → List PoolEvent → G → G → Type 0
TellsOf begins ends before after g h = (events : List PoolEvent) × (after ≡ before ++ events) × IsTold begins ends g events h
