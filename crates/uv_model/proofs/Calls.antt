-- The counts of names, read one at a time.
use Rattle.uv_model.proofs.Names.{◌≡◌, ℕ, ◌<◌, ◌^◌, List, Option, Some, None, All, slice_get, unwrap_or, refl, arith, elements, Var, Callback, Calls, Named, unbound, count_of, State, named, AreBelow, CanStep}
use Rattle.uv_ids.specs.declared.seen.Callback.TheVariants as callback

pub at_name : (m : ℕ) (names : List Named) (i : ℕ) (x : Option Named) → slice_get names i ≡ x → All (λ (n : Named). AreBelow m n.calls) names
    → 0 < m →
    AreBelow m (unwrap_or x unbound).calls
at_name m names i x e h l = grind (arith, elements)

pub small : (s : State) (v : Var) → All (λ (n : Named). AreBelow (2 ^ 31) n.calls) s.names → AreBelow (2 ^ 31) (named s v).calls
small s v h = at_name (2 ^ 31) s.names v.0 (slice_get s.names v.0) refl h (omega arith)

pub able_small : (s : State) (v : Var) → CanStep s → AreBelow (2 ^ 31) (named s v).calls
able_small s v h = small s v h.small.counts

-- each of a name's counts is as small
pub count_below : (m : ℕ) (k : Callback) (c : Calls) → AreBelow m c → count_of k c < m
count_below m k c h = grind arith
