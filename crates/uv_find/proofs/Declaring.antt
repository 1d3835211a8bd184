-- What holds of each op of a script holds of the op at each place; and so each op names a declared name.
use Rattle.uv_find.proofs.Names.{◌≡◌, ℕ, suc, ◌<◌, ◌&&◌, Bool, true, List, [], ◌∷◌, length, Option, Some, None, option_map, slice_get, refl, ap, ap₂, sym, subst, ◌∙◌, unwrap_or, list_all, and_parts, ltb-true, lt-ltb, same_Some, none-some, Var, Callback, Site, Op, MainOp, CallbackLine, Program, Callbacks, no_callbacks, callbacks_of, lines_of, lines_in, main_op, op_at, op_name, IsWhole, AreDeclared, is_declared, declares, of_main, of_lines, of_callbacks, each_op}
use Rattle.uv_ids.specs.declared.seen.Callback.TheVariants as callback
use Rattle.uv_ids.specs.declared.seen.Site.TheVariants as site
use Rattle.uv_script.specs.declared.op.MainOp.TheVariants as main
use Rattle.uv_find.proofs.Led.{each}

module _ (test : Op → Bool) where
  -- ---- of each, so of the one at a place

  main_test : (m : MainOp) (o : Op) → of_main test m ≡ true → main_op (Some m) ≡ Some o → test o ≡ true
  main_test (main.Op q) o is e = ap test (sym (same_Some q o e)) ∙ is
  main_test (main.Run mode) o is e = absurd (none-some o e)

  pub kind_test : (c : Callbacks) (kind : Callback) → of_callbacks test c ≡ true → of_lines test (lines_of kind c) ≡ true
  kind_test c kind all =
      let parts = and_parts (of_lines test c.handle && of_lines test c.after) (of_lines test c.close) all in
      let more = and_parts (of_lines test c.handle) (of_lines test c.after) parts.0 in
      by kind more.0 more.1 parts.1
    where
      by : (k : Callback) → of_lines test c.handle ≡ true → of_lines test c.after ≡ true → of_lines test c.close ≡ true
          → of_lines test (lines_of k c) ≡ true
      by callback.Handle h a e = h
      by callback.After h a e = a
      by callback.Close h a e = e

  name_test : (p : Program) (v : Var) → list_all (of_callbacks test) p.callbacks ≡ true → of_callbacks test (callbacks_of p v) ≡ true
  name_test p v all = by (slice_get p.callbacks v.0) refl where
    by : (o : Option Callbacks) → slice_get p.callbacks v.0 ≡ o → of_callbacks test (unwrap_or o no_callbacks) ≡ true
    by None is = refl
    by (Some c) is = each (of_callbacks test) p.callbacks v.0 c all is

  module _ (p : Program) (all : each_op test p ≡ true) where
    parts : (list_all (of_main test) p.main ≡ true) × (list_all (of_callbacks test) p.callbacks ≡ true)
    parts = and_parts (list_all (of_main test) p.main) (list_all (of_callbacks test) p.callbacks) all

    pub lines_test : (kind : Callback) (v : Var) → of_lines test (lines_in p kind v) ≡ true
    lines_test kind v = kind_test (callbacks_of p v) kind (name_test p v parts.1)

    pub each_at : (at : Site) (o : Op) → op_at p at ≡ Some o → test o ≡ true
    each_at (site.Main line) o e = by (slice_get p.main line) refl e where
      by : (m : Option MainOp) → slice_get p.main line ≡ m → main_op m ≡ Some o → test o ≡ true
      by None there at = absurd (none-some o at)
      by (Some m) there at = main_test m o (each (of_main test) p.main line m parts.0 there) at
    each_at (site.In kind v line) o e = by (slice_get (lines_in p kind v) line) refl e where
      by : (l : Option CallbackLine) → slice_get (lines_in p kind v) line ≡ l → option_map (λ (x : CallbackLine). x.op) l ≡ Some o
          → test o ≡ true
      by None there at = absurd (none-some o at)
      by (Some x) there at = ap test (sym (same_Some x.op o at))
          ∙ each (λ (l : CallbackLine). test l.op) (lines_in p kind v) line x (lines_test kind v) there

  -- ---- of the one at each place, so of each

  all_from : {A : Type 0} (f : A → Bool) (xs : List A) → ((k : ℕ) (x : A) → slice_get xs k ≡ Some x → f x ≡ true) → list_all f xs ≡ true
  all_from f [] h = refl
  all_from f (x ∷ xs) h = ap₂ (λ a b. a && b) (h 0 x refl) (all_from f xs (λ k. h (suc k)))

  module _ (p : Program) (at : (place : Site) (o : Op) → op_at p place ≡ Some o → test o ≡ true) where
    main_from : (k : ℕ) (m : MainOp) → slice_get p.main k ≡ Some m → of_main test m ≡ true
    main_from k (main.Op o) there = at (site.Main k) o (ap main_op there)
    main_from k (main.Run mode) there = refl

    lines_from : (kind : Callback) (v : Var) → of_lines test (lines_in p kind v) ≡ true
    lines_from kind v = all_from (λ (l : CallbackLine). test l.op) (lines_in p kind v)
        (λ k x there. at (site.In kind v k) x.op (ap (option_map (λ (l : CallbackLine). l.op)) there))

    callbacks_from : (n : ℕ) (c : Callbacks) → slice_get p.callbacks n ≡ Some c → of_callbacks test c ≡ true
    callbacks_from n c there =
        let v : Var = record { 0 = n } in
        let here : callbacks_of p v ≡ c = ap (λ (o : Option Callbacks). unwrap_or o no_callbacks) there in
        ap (of_callbacks test) (sym here)
        ∙ (λ i. lines_from callback.Handle v i && lines_from callback.After v i && lines_from callback.Close v i)

    pub each_from : each_op test p ≡ true
    each_from = ap₂ (λ a b. a && b) (all_from (of_main test) p.main main_from) (all_from (of_callbacks test) p.callbacks callbacks_from)

-- ---- names that are declared

declared_by : (names : ℕ) (o : Option Var) → ((v : Var) → o ≡ Some v → v.0 < names) → is_declared names o ≡ true
declared_by names None h = refl
declared_by names (Some v) h = lt-ltb v.0 names (h v refl)

-- a script that was read declares them
pub whole_declares : (p : Program) → IsWhole p → declares p ≡ true
whole_declares p whole = each_from (λ (o : Op). is_declared (length p.callbacks) (op_name o)) p
    (λ place o at. declared_by (length p.callbacks) (op_name o)
    (λ v named. subst (λ n. v.0 < n) (sym whole.callbacks) (whole.named place o v at named)))

declared_is : (names : ℕ) (o : Option Var) (v : Var) → is_declared names o ≡ true → o ≡ Some v → v.0 < names
declared_is names None v is e = absurd (none-some v e)
declared_is names (Some x) v is e = subst (λ (y : Var). y.0 < names) (same_Some x v e) (ltb-true x.0 names is)

pub are_declared : (p : Program) → declares p ≡ true → AreDeclared p
are_declared p all at o v here named =
    declared_is (length p.callbacks) (op_name o) v
    (each_at (λ (q : Op). is_declared (length p.callbacks) (op_name q)) p all at o here) named
