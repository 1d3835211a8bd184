use Rattle.uv_script.proofs.ProofNames.{ℕ, List, [], ◌∷◌, ◌++◌, map, Contains, ap, sym, subst, ◌∙◌, AreNames}
use Rattle.uv_script.proofs.Fresh.{goes_last, AreNames-push}
use Rattle.uv_script.proofs.names.Names.declare.Goals as goal

pub returns-clause-ok : goal.returns-clause-ok
returns-clause-ok c =
    let fresh = subst (λ (names : List (List ℕ)). Contains names c.args.name.now → ⊥) (sym c.self.view_is) c.requires.fresh in
    ap (map (λ name. name.items)) c.in_ok-insert.ensures.keys
    ∙ goes_last (λ name. name.items) c.self.inside.set.keys c.in_ok-name.name c.args.name.now c.in_ok-name.ensures.items fresh
    ∙ ap (λ (names : List (List ℕ)). names ++ c.args.name.now ∷ []) c.self.view_is

pub invariant_of-self-2 : goal.invariant_of-self-2
invariant_of-self-2 c =
    let are = subst AreNames c.self.view_is c.self.invariant in
    subst AreNames (sym (returns-clause-ok c)) (AreNames-push _ _ are c.requires.name c.requires.fresh c.requires.room)
