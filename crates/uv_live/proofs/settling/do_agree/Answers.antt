use Rattle.uv_live.proofs.Names.{◌∙◌, ap, List, map, sym, subst, rules, count_by, length-map, PoolEvent, AreShifts, is_unthreaded, worked}
use Rattle.uv_live.proofs.Settled.{is_settled}
use Rattle.uv_live.proofs.settling.do_agree.Goals as goal

pub returns-then-not-are_shifts : goal.returns-then-not-are_shifts
returns-then-not-are_shifts g c = λ settled.
    let shifts = map (λ s. worked s.worker s.events.items s.share.amount) c.args.shifts.now in
    c.if-not-are_shifts.ensures (subst (λ (log : List PoolEvent). AreShifts log shifts) (sym c.log.ensures.log) settled.each)

pub returns : goal.returns
returns g c =
    let shifts = map (λ s. worked s.worker s.events.items s.share.amount) c.args.shifts.now in
    is_settled _ _ _ shifts _ c.unthreaded.result (c.unthreaded.ensures ∙ ap (count_by is_unthreaded) c.steps.ensures) (λ none. record {
      closed = search rules;
      workers = search rules;
      whole = search rules;
      crew = length-map c.args.shifts.now (λ s. worked s.worker s.events.items s.share.amount)
          ∙ (c.if-shifts-workers.false ∙ c.workers-2.ensures.number);
      each = subst (λ (log : List PoolEvent). AreShifts log shifts) c.log.ensures.log c.if-not-are_shifts.ensures;
      finishes = search rules;
      sends = search rules;
      unthreaded = none;
    })
