use Rattle.uv_search.proofs.Names.{◌≡◌, List, ℕ, true, false, arith, sym, ap, subst, ◌∙◌, map, nat_eq, Bool, refl, slice_get, Some, length, ◌∷◌, ◌++◌, [], common_steps, length-map, list_any, pointwise, Part, Has}
use Rattle.uv_search.proofs.Cutting.{has_none}
use Rattle.uv_search.proofs.KeyLists.{any_seen, get_before, get_last, map_last}
use Rattle.uv_search.proofs.parts.Parts.add.Goals as goal

-- the parts that are kept then
grown : (keys more : List Part) (one : Part) (bytes : List ℕ) → one.bytes.items ≡ bytes
    → ((i : ℕ) → slice_get (map (λ (k : Part). k.bytes.items) keys) i ≡ Some bytes → ⊥)
    → (list_any (λ (k : Part). pointwise nat_eq one.bytes.items k.bytes.items) keys ≡ false → more ≡ keys ++ one ∷ [])
    → map (λ (k : Part). k.bytes.items) more ≡ map (λ (k : Part). k.bytes.items) keys ++ bytes ∷ []
grown keys more one bytes is none grows =
    let seen = map (λ (k : Part). k.bytes.items) keys in
    let any = any_seen (λ (k : Part). k.bytes.items) (pointwise nat_eq one.bytes.items) keys in
    let absent : list_any (λ (k : Part). pointwise nat_eq one.bytes.items k.bytes.items) keys ≡ false =
    sym any ∙ no (list_any (pointwise nat_eq one.bytes.items) seen) (subst (λ b. Has seen b → ⊥) (sym is) (has_none seen bytes none)) in
    ap (map (λ (k : Part). k.bytes.items)) (grows absent) ∙ map_last (λ (k : Part). k.bytes.items) keys one ∙ ap (λ b. seen ++ b ∷ []) is
  where
    no : (b : Bool) → (b ≡ true → ⊥) → b ≡ false
    no b not = grind arith

pub returns-clause-ok : goal.returns-clause-ok
returns-clause-ok c =
    let keys = c.self.inside.parts.keys in
    let seen = map (λ (k : Part). k.bytes.items) keys in
    let owned : c.extend_from_slice.new.self.items ≡ c.args.bytes.now = grind
    (arith, common_steps, c.in_ok-extend_from_slice.ensures.items, c.new-owned.ensures.items) in
    let one : Part = record { bytes = c.extend_from_slice.new.self } in
    let grown = grown keys c.insert.new.self.keys one c.args.bytes.now owned (rw (← c.self.view_is) at c.requires)
    (λ absent. grind (arith, common_steps, absent, c.insert.ensures.keys)) in
    let long : c.len-count.result ≡ length seen = c.len-count.ensures.len ∙ sym (length-map keys (λ (k : Part). k.bytes.items)) in
    subst (λ n. slice_get (map (λ (k : Part). k.bytes.items) c.insert.new.self.keys) n ≡ Some c.args.bytes.now) (sym long)
    (ap (λ ks. slice_get ks (length seen)) grown ∙ get_last seen c.args.bytes.now)

pub returns-clause-kept : goal.returns-clause-kept
returns-clause-kept c i x e =
    let keys = c.self.inside.parts.keys in
    let seen = map (λ (k : Part). k.bytes.items) keys in
    let owned : c.extend_from_slice.new.self.items ≡ c.args.bytes.now = grind
    (arith, common_steps, c.in_ok-extend_from_slice.ensures.items, c.new-owned.ensures.items) in
    let one : Part = record { bytes = c.extend_from_slice.new.self } in
    let grown = grown keys c.insert.new.self.keys one c.args.bytes.now owned (rw (← c.self.view_is) at c.requires)
    (λ absent. grind (arith, common_steps, absent, c.insert.ensures.keys)) in
    ap (λ ks. slice_get ks i) grown ∙ get_before seen c.args.bytes.now i x (subst (λ ks. slice_get ks i ≡ Some x) (sym c.self.view_is) e)
