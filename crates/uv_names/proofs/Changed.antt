-- A state whose names are changed, each by a function that a step can't tell: which is live stays. And the ops in it.
use Rattle.uv_names.proofs.Names.{◌≡◌, ℕ, List, Option, Some, None, refl, ap, sym, ◌∙◌, slice_get, unwrap_or, map, option_map, map-set, slice_get-map, Id, Var, Named, unbound, next_free, Body, Run, Place, Main, Running, State, named, with_named, live, live_id}

abbrev pub changed_body : (ℕ → ℕ) → Body → Body
changed_body c body = record body { call = c body.call }

abbrev pub changed_run : (ℕ → ℕ) → Run → Run
changed_run c run = record run { body = option_map (changed_body c) run.body }

abbrev pub changed_place : (ℕ → ℕ) → Place → Place
changed_place c (Main line) = Main line
changed_place c (Running run) = Running (changed_run c run)

-- each name is changed, the number of the call that a body under way belongs to, and what workers run
abbrev pub changed : (Named → Named) → (ℕ → ℕ) → (List (Option Id) → List (Option Id)) → State → State
changed f c r s = record s { place = changed_place c s.place; names = map f s.names; running = r s.running }

-- a change of names that no step from this state can tell
pub record Hides (f : Named → Named) (s : State) : Type 0 where
  pub unbound : f unbound ≡ unbound
  -- who is live stays so, with what its slot holds, and nobody else becomes so
  pub live : (x : Named) → live_id s (f x).id ≡ live_id s x.id
  -- what is made next stays as it is
  pub fresh : (id : Id) → next_free s.arena ≡ Some id → (x : Named) → f (record x { id = Some id }) ≡ record (f x) { id = Some id }

-- what goes on alike as it is
abbrev pub as_is : {A : Type 0} → A → A
as_is x = x

module _ (f : Named → Named) (c : ℕ → ℕ) (r : List (Option Id) → List (Option Id)) where
  -- ---- a name

  pub with_named_changed : (s : State) (v : Var) (x : Named) → with_named (changed f c r s) v (f x) ≡ changed f c r (with_named s v x)
  with_named_changed s v x = ap (λ ns. record (changed f c r s) { names = ns }) (sym (map-set f s.names v.0 x))

  named_in : (o : Option Named) → f unbound ≡ unbound → unwrap_or (option_map f o) unbound ≡ f (unwrap_or o unbound)
  named_in None same = sym same
  named_in (Some x) same = refl

  pub named_changed : (s : State) (v : Var) → f unbound ≡ unbound → named (changed f c r s) v ≡ f (named s v)
  named_changed s v same = ap (λ o. unwrap_or o unbound) (slice_get-map f s.names v.0) ∙ named_in (slice_get s.names v.0) same

  live_alike : (s : State) (o : Option Id) → live_id (changed f c r s) o ≡ live_id s o
  live_alike s None = refl
  live_alike s (Some id) = refl

  module _ (s : State) (hides : Hides f s) where
    pub live_changed : (v : Var) → live (changed f c r s) v ≡ live s v
    live_changed v = ap (λ (x : Named). live_id (changed f c r s) x.id) (named_changed s v hides.unbound)
        ∙ live_alike s (f (named s v)).id ∙ hides.live (named s v)
