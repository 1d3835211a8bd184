use Rattle.uv_wake.proofs.ProofNames.{◌∙◌, ap, subst, true, LoopAt, Carries}
use Rattle.uv_wake.proofs.Carries.{once_of}
use Rattle.uv_wake.proofs.board.Board.absorb.Goals as goal

pub returns-clause-carries : goal.returns-clause-carries
returns-clause-carries c = subst (λ (s : LoopAt). Carries s.knows c.args.name true c.take_in.new.seat.knows) c.look.ensures.seat
    c.take_in.ensures.carries

pub returns-clause-once : goal.returns-clause-once
returns-clause-once c = once_of c.args.seat.now.knows c.take_in.new.seat.knows c.args.name true
    (ap (λ (s : LoopAt). s.knows.tickets) c.take_in.ensures.seat ∙ ap (λ (s : LoopAt). s.knows.tickets) c.look.ensures.seat)
    (returns-clause-carries c)
    c.take_in.ensures.carried
