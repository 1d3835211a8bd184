use Rattle.uv_pool.proofs.Names.{◌∙◌, ◌++◌, List, [], inl, refl, sym, ap, append-nil, err_from_is_err_and, PoolEvent}
use Rattle.uv_pool.proofs.Tellings.{tells_both, tells_more}
use Rattle.uv_pool.proofs.Turns.{served_turns, stopped}
use Rattle.uv_pool.proofs.shift.take_turns.Goals as goal

pub turns-preserved : goal.turns-preserved
turns-preserved g c = record {
  parts = c.serve.ensures.parts ∙ c.turns.invariant.parts;
  worker = c.serve.ensures.worker ∙ c.turns.invariant.worker;
  turned = served_turns _ c.in_ok-serve.field-0 _ _ _ _ _ _ _ c.if-not-branch.false c.in_ok-serve.ensures.served c.turns.invariant.turned;
  told = tells_both g.G.Gate.begins g.G.Gate.ends _ _ _ _ _ _ c.turns.invariant.told c.serve.ensures.told;
}

pub returns-in_err-share-clause-stops : goal.returns-in_err-share-clause-stops
returns-in_err-share-clause-stops g c =
    let is = err_from_is_err_and c.from_residual.result c.from_residual.ensures.1 in
    rw is.1 ([], refl, inl (c.in_err-share.ensures.same ∙ sym (append-nil _)))

pub returns-in_err-serve-clause-told : goal.returns-in_err-serve-clause-told
returns-in_err-serve-clause-told g c =
    tells_more g.G.Gate.begins g.G.Gate.ends _ _ _ _ _ _ _ c.in_ok-share.ensures.same c.turns.invariant.told c.serve.ensures.told

pub returns-then-not-branch-clause-told : goal.returns-then-not-branch-clause-told
returns-then-not-branch-clause-told g c =
    tells_more g.G.Gate.begins g.G.Gate.ends _ _ _ _ _ _ _ c.in_ok-share.ensures.same c.turns.invariant.told c.serve.ensures.told

pub returns-in_err-serve-clause-stops : goal.returns-in_err-serve-clause-stops
returns-in_err-serve-clause-stops g c =
    let is = err_from_is_err_and c.from_residual-in_err-serve.result c.from_residual-in_err-serve.ensures.1 in
    let before = c.turns.invariant.turned in
    let events = c.turns.events.items in
    rw (is.1, is.2)
    (stopped g.B.Bench.answered g.B.Bench.refuses c.args.k _ _ events _ _ before.turns
    (before.answered ∙ ap (λ (xs : List PoolEvent). xs ++ events) c.in_ok-share.ensures.same)
    c.in_err-serve.ensures.breaks)
