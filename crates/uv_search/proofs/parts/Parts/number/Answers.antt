use Rattle.uv_search.proofs.Names.{◌≡◌, List, ℕ, true, Some, None, sym, subst, ◌∙◌, map, nat_eq, slice_get, position, is_some, list_any, pointwise, Part}
use Rattle.uv_search.proofs.KeyLists.{any_seen, has_at, position_seen}
use Rattle.uv_search.proofs.parts.Parts.number.Goals as goal

some_there : (keys : List Part) (all : List (List ℕ)) (k : List ℕ) (n : ℕ) → map (λ (x : Part). x.bytes.items) keys ≡ all
    → Some n ≡ position (λ (x : Part). pointwise nat_eq k x.bytes.items) keys → slice_get all n ≡ Some k
some_there keys all k n view e = subst (λ xs. slice_get xs n ≡ Some k) view (position_seen (λ (x : Part). x.bytes.items) k keys n (sym e))

none_there : (keys : List Part) (all : List (List ℕ)) (k : List ℕ) → map (λ (x : Part). x.bytes.items) keys ≡ all
    → is_some {T = ℕ} None ≡ list_any (λ (x : Part). pointwise nat_eq k x.bytes.items) keys → (i : ℕ) → slice_get all i ≡ Some k → ⊥
none_there keys all k view e i at =
    let is = any_seen (λ (x : Part). x.bytes.items) (pointwise nat_eq k) keys in
    let has = has_at (map (λ (x : Part). x.bytes.items) keys) i k (subst (λ xs. slice_get xs i ≡ Some k) (sym view) at) in
    let f : is_some {T = ℕ} None ≡ true = e ∙ sym is ∙ has in cc

pub returns-in-Some-clause-some : goal.returns-in-Some-clause-some
returns-in-Some-clause-some c =
    some_there c.self.inside.parts.keys c.args.self.now c.args.bytes.now _ c.self.view_is (rw c.in-Some.is at c.get_index_of.ensures.index)

pub returns-in-None-clause-none : goal.returns-in-None-clause-none
returns-in-None-clause-none c =
    none_there c.self.inside.parts.keys c.args.self.now c.args.bytes.now c.self.view_is (rw c.in-None.is at c.get_index_of.ensures.found)
