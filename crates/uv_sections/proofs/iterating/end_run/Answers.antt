use Rattle.uv_sections.proofs.Names.{image_of, ◌+◌, ◌∙◌, Bool, false, Some, ap, sym, subst, End, Main, State, StandsFor, Moves}
use Rattle.uv_sections.proofs.iterating.end_run.Goals as goal

pub returns-clause-goes : goal.returns-clause-goes
returns-clause-goes c s h reached =
    let ended : State = record s { place = Main (c.args.run.line + 1); stop_flag = false } in (
      ended,
      ap (λ (b : Bool). Moves ended (Some (End b))) (c.is_alive-alive.ensures s h reached) ∙ ap (λ l. Moves ended l) (sym c.end.ensures),
      subst (λ q. StandsFor (image_of c.stand_at.new.memory) (record s { place = q; stop_flag = false })) c.main.ensures
          (c.stand_at.ensures.stands _ (c.clear_stop.ensures.stands s h)),
    )
