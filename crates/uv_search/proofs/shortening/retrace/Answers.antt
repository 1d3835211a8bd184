use Rattle.uv_search.proofs.Names.{◌∙◌, [], ◌∷◌, ap, arith, get_or, inl, inr, length, length-append, subst, sym, take, true, take_more, LeadPast}
use Rattle.uv_search.proofs.Retracing.{past_after, stands_after, stands_on, take_whole, went_back}
use Rattle.uv_search.proofs.shortening.retrace.Goals as goal

pub moves-preserved : goal.moves-preserved
moves-preserved g c =
    let m = g.M.Maze in
    let r = m.rules c.args.maze.now in
    let i = c.moves.invariant in
    let tries = rw (c.in-GoesOn.is, i.rules) at c.in_ok-add_move.ensures.tries in
    let after = stands_after (m.moves r) (m.next r) (m.IsDeep r) (m.place c.args.maze.now) (m.before c.args.maze.now) c.moves.made.items
    (m.place c.moves.maze) (m.before c.moves.maze) (get_or c.args.way.now c.moves.index 0) (m.place c.add_move.new.maze)
    (m.before c.add_move.new.maze) c.add_move.new.made.items i.stands tries in
    record {
      rules = c.add_move.ensures.rules ∙ i.rules;
      few = omega (arith, i.few, after.1);
      past = subst (λ is. LeadPast (m.moves r) (m.next r) (m.place c.args.maze.now) is (m.place c.add_move.new.maze))
          (sym (take_more c.args.way.now c.moves.index 0 c.moves-test.true))
          (past_after (m.moves r) (m.next r) (m.IsDeep r) (m.place c.args.maze.now) (take c.moves.index c.args.way.now) (m.place c.moves.maze)
          (m.before c.moves.maze) c.moves.made.items (get_or c.args.way.now c.moves.index 0) (m.place c.add_move.new.maze)
          (m.before c.add_move.new.maze) c.add_move.new.made.items i.past tries);
      stands = after.0;
    }

pub returns-in-Answered-clause-made : goal.returns-in-Answered-clause-made
returns-in-Answered-clause-made g c =
    let m = g.M.Maze in
    let r = m.rules c.args.maze.now in
    let i = c.moves.invariant in
    let made = rw (c.in-Answered.is, i.rules) at c.in_ok-add_move.ensures.tries in
    let number = get_or c.args.way.now c.moves.index 0 in
    let stands = stands_on (m.moves r) (m.next r) true (m.place c.args.maze.now) (m.before c.args.maze.now) c.moves.made.items
    (m.place c.moves.maze) (m.before c.moves.maze) number (m.place c.add_move.new.maze) (m.before c.add_move.new.maze) c.add_move.new.made.items
    i.stands made in (grind (arith, length-append))

pub returns-in-TooDeep-clause-made : goal.returns-in-TooDeep-clause-made
returns-in-TooDeep-clause-made g c = grind arith

pub returns-clause-made : goal.returns-clause-made
returns-clause-made g c = grind (arith, went_back, take_whole)
