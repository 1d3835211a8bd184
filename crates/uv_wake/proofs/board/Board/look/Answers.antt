use Rattle.uv_wake.proofs.ProofNames.{rules, refl, sym, subst, ap, ◌∙◌, LoopView, loop_of, is_odd, LoopAt, HasEach, after_look}
use Rattle.uv_wake.proofs.LoopSteps.{looks, settles}
use Rattle.uv_wake.proofs.board.Board.look.Goals as goal

pub load-requires : goal.load-requires
load-requires c = (search rules, search rules, looks _ _ _ _ c.args.name c.seat.invariant.first c.seat.invariant.knows (search rules))

pub invariant_of-seat : goal.invariant_of-seat
invariant_of-seat c =
    let k = c.load.ensures in
    let inv = c.seat.invariant in
    let l : LoopView = after_look (loop_of c.seat.inside.seat.me.0) c.args.name (is_odd c.load.result) in
    settles l inv k.0 k.1 (k.2 c.args.name refl).0 inv.counts_are inv.splits_are refl

pub returns-clause-seat : goal.returns-clause-seat
returns-clause-seat c =
    let k = c.load.ensures in
    let told = k.2 c.args.name refl in
    (λ i. let s : LoopAt = record { board = k.0 i; knows = loop_of (told.0 i).0 } in s)
    ∙ ap (λ (s : LoopAt). let t : LoopAt = record s { knows = after_look s.knows c.args.name (is_odd c.load.result) } in t) c.seat.view_is

pub returns-clause-still : goal.returns-clause-still
returns-clause-still c = rw (← c.seat.view_is) (c.load.ensures.2 c.args.name refl).1.still

pub returns-clause-carried : goal.returns-clause-carried
returns-clause-carried c = rw (← c.seat.view_is) (c.load.ensures.2 c.args.name refl).1.carried

pub returns-clause-asked : goal.returns-clause-asked
returns-clause-asked c = rw (← c.seat.view_is) (c.load.ensures.2 c.args.name refl).1.asked

pub returns-clause-each : goal.returns-clause-each
returns-clause-each c = let told = c.load.ensures.2 c.args.name refl in subst HasEach (sym (λ i. loop_of (told.0 i).0)) told.1.each
