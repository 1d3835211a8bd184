-- When timers are due, as the lines of every list of steps tell it.
use Rattle.uv_order.proofs.Names.{List, ◌∷◌, ◌++◌, Some, None, ap, sym, ◌∙◌, Event, Program, is_timer, State, fresh, Next, Moves, Refuses, state_of, Line, line_of_step, history_from, Told, nothing_told, Position, Between, next, history, [], AreDueTold, lines_onto, seens}
use Rattle.uv_model.specs.After as after
use Rattle.uv_order.proofs.Lemmas.{did}
use Rattle.uv_order.proofs.Follows.{begins_at}
use Rattle.uv_order.proofs.Dated.{DatedAt, DatedFollows, did_dated, dated_fresh}
use Rattle.uv_order.proofs.Documents.{Holds, HoldsNext, holds_next, holds_fresh}

-- steps from a state on
dated_from : (p : Program) (es : List Event) (told : Told) (past : List Line) (s : State) (at : Position) → Holds p told (seens past) s at →
    DatedAt p past s → DatedAt p (lines_onto past (history_from p s es)) (after.goes_on p s es)
dated_from p [] told past s at k d = d
dated_from p (e ∷ es) told past s at k d =
    by (next p s e) (holds_next p told (seens past) s at e k)
    (did_dated p past s (next p s e) (did p s e (begins_at p s s.place at k.stands.stands)) k.kept k.known k.started d) (dated_from p es)
  where
    by : (n : Next) → HoldsNext p told (seens past) s at n → DatedFollows p past s n →
        ((told' : Told) (past' : List Line) (t : State) (to : Position) → Holds p told' (seens past') t to → DatedAt p past' t →
        DatedAt p (lines_onto past' (history_from p t es)) (after.goes_on p t es)) →
        DatedAt p (lines_onto past (line_of_step s n ++ history_from p (state_of s n) es)) (after.goes_on p (state_of s n) es)
    by (Moves t (Some l)) f g more = more _ (record { before = s; seen = l; after = t } ∷ past) t f.to f.holds g
    by (Moves t None) f g more = more told past t at f.holds g
    by (Refuses why) f g more = more told past s at f d

pub dues : (p : Program) (es : List Event) → AreDueTold p (history p es) (after.after p es)
unfolding history after.after
dues p es due id k =
    let d = dated_from p es nothing_told [] (fresh p) (Between 0) (holds_fresh p) (dated_fresh p) in
    sym k.due ∙ d.due id k.its k.holds (ap is_timer k.kind) k.active
