-- How often each name was called, as the lines tell it and as the state counts it.
use Rattle.uv_order.proofs.Names.{◌≡◌, ℕ, zero, suc, ◌+◌, ◌<◌, ◌≤◌, ◌==◌, List, ◌∷◌, length, false, slice_get, slice_set, unwrap_or, replicate, refl, ap, ◌∙◌, arith, elements, eqb-true, eq-eqb, cases_lt, Id, Var, Callback, Program, Callbacks, no_callbacks, Calls, Named, without_id, fresh, unbound, count_of, counted, body_from, Told, nothing_told, told_of, times, next_call, body_of}
use Rattle.uv_order.proofs.Bodies.{IsBody, whole_body}
use Rattle.uv_order.proofs.OpEffects.{SameCalls, set_long, none_bound}

abbrev counts_in : List Named → Var → Calls
counts_in names v = (unwrap_or (slice_get names v.0) unbound).calls

-- a name that has lines was called as often as the lines tell
pub record Counted (p : Program) (names : List Named) (told : Told) : Type 0 where
  pub long : length names ≡ length p.callbacks
  pub calls : (kind : Callback) (v : Var) → v.0 < length p.callbacks → count_of kind (counts_in names v) ≡ times (told_of kind told) v

pub counted_kept : (p : Program) (now was : List Named) (told : Told) → SameCalls now was → Counted p was told → Counted p now told
counted_kept p now was told same k = record { long = same.long ∙ k.long; calls = λ kind v l. ap (count_of kind) (same.each v) ∙ k.calls kind v l }

pub replicate_long : (n : ℕ) → length (replicate n unbound) ≡ n
replicate_long zero = refl
replicate_long (suc n) = ap suc (replicate_long n)

pub counted_fresh : (p : Program) → Counted p (fresh p).names nothing_told
counted_fresh p = grind (arith, replicate_long, none_bound)

pub set_there : (names : List Named) (i j : ℕ) (x : Named) → (j ≡ i → ⊥) → slice_get (slice_set names i x) j ≡ slice_get names j
set_there names i j x d = grind (arith, elements)

-- one call of a name's callback more is told, by the line of this id
abbrev pub told_call : Callback → Var → Id → Told → Told
told_call Callback.Handle v id told = record told { called = v ∷ told.called; sent = without_id told.sent id }
told_call Callback.After v id told = record told { after = v ∷ told.after }
told_call Callback.Close v id told = record told { closed = v ∷ told.closed }

-- whoever is sent to, the calls are as before
pub counted_sent : (p : Program) (names : List Named) (told : Told) (sent : List Id) → Counted p names told →
    Counted p names (record told { sent = sent })
counted_sent p names told sent k = grind arith

told_same : (kind other : Callback) (v u : Var) (id : Id) (told : Told) → (v.0 == u.0) ≡ false →
    times (told_of other (told_call kind v id told)) u ≡ times (told_of other told) u
told_same kind other v u id told f = grind arith

-- a name is called once more
pub counted_call : (p : Program) (names : List Named) (told : Told) (kind : Callback) (v : Var) (id : Id) (x : Named) →
    x.calls ≡ counted kind (counts_in names v) → Counted p names told → Counted p (slice_set names v.0 x) (told_call kind v id told)
counted_call p names told kind v id x e k = grind (arith, eqb-true, eq-eqb, set_long, elements, set_there, told_same)

-- a name without lines has the same body in each call
past : (all : List Callbacks) (i : ℕ) → length all ≤ i → unwrap_or (slice_get all i) no_callbacks ≡ no_callbacks
past all i l = grind (arith, elements)

-- the body of the next call is that which the lines tell
pub next_body : (p : Program) (names : List Named) (told : Told) (kind : Callback) (v : Var) (call : ℕ) → call ≡ count_of kind (counts_in names v) +
    1 →
    Counted p names told → IsBody p (body_from p kind v call 0) (body_of p kind v (next_call told kind v))
next_body p names told kind v call e k = grind (arith, whole_body, past, cases_lt)
