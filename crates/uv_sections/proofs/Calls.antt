-- A callback begins: what the memory stands for then.
use Rattle.uv_sections.proofs.Names.{◌≡◌, ◌+◌, ℕ, Some, Option, refl, sym, ap, ◌∙◌, subst, Var, Seen, Callback, Program, Body, Run, Place, Running, State, with_named, Moves, calls, body_from, named, calling, count_of, counted, Image, standing, StandsFor, called_stands, count_after, placed, names_is}
use Rattle.uv_model.specs.State as state

module _ (i m k : Image Place) (p : Program) (run : Run) (kind : Callback) (v : Var) (n : ℕ) (b : Option Body)
    (count : n ≡ count_of kind (named i.names v.0).calls + 1) (one : m ≡ record i { names = calling v.0 kind n i.names })
    (body : b ≡ body_from p kind v n 0) (stands : k ≡ standing (Running (record run { body = b })) m) where
  -- the state in which the callback begins
  abbrev begun : State → State
  begun s =
      let counts = counted kind (state.named s v).calls in
      record (with_named s v (record (state.named s v) { calls = counts })) {
        place = Running (record run { body = body_from p kind v (count_of kind counts) 0 });
      }

  begun_stands : (s : State) → StandsFor i s → StandsFor k (begun s)
  begun_stands s h =
      let calls = (state.named s v).calls in
      let m' : Image Place = record i { names = calling v.0 kind (count_of kind (named i.names v.0).calls + 1) i.names } in
      let one_more : m ≡ m' = one ∙ ap (λ x. (let z : Image Place = record i { names = calling v.0 kind x i.names } in z)) count in
      let which : n ≡ count_of kind (counted kind calls) =
      count ∙ ap (λ ns. count_of kind (named ns v.0).calls + 1) (names_is h) ∙ sym (count_after kind calls) in
      let there : b ≡ body_from p kind v (count_of kind (counted kind calls)) 0 = body ∙ ap (λ x. body_from p kind v x 0) which in
      subst (λ q. StandsFor q (begun s)) (sym (stands ∙ (λ l. standing (Running (record run { body = there l })) (one_more l))))
      (placed m' _ (begun s).place (called_stands i s v kind h))

  pub calls_begun : (s : State) → StandsFor i s → (line : Seen) → (t : State) × (calls p s run kind v line ≡ Moves t (Some line)) × StandsFor k t
  calls_begun s h line = (begun s, refl, begun_stands s h)
