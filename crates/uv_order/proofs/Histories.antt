-- The lines of a history are those of the trace.
use Rattle.uv_order.proofs.Names.{◌≡◌, List, ◌∷◌, ◌++◌, map, option_to_list, Some, refl, ap, flat_map, Event, Seen, Program, State, fresh, Next, Moves, seen_from, state_of, seen_of, lines, Line, line_of_step, history_from, next, seen_by, history, []}

line_of_next : (s : State) (n : Next) (ls : List Seen) (hs : List Line) → ls ≡ map (λ (l : Line). l.seen) hs →
    option_to_list (seen_of n) ++ ls ≡ map (λ (l : Line). l.seen) (line_of_step s n ++ hs)
line_of_next s (Moves t (Some seen)) ls hs h = ap (λ (xs : List Seen). seen ∷ xs) h
line_of_next s each ls hs h = assumption

lines-history_from : (p : Program) (s : State) (es : List Event) → flat_map option_to_list (seen_from p s es) ≡ map (λ (l : Line). l.seen)
    (history_from p s es)
lines-history_from p s [] = refl
lines-history_from p s (e ∷ es) = line_of_next s (next p s e) _ _ (lines-history_from p (state_of s (next p s e)) es)

-- the trace is the history's lines
pub lines-history : (p : Program) (es : List Event) → lines p es ≡ map (λ (l : Line). l.seen) (history p es)
unfolding seen_by history
lines-history p es = lines-history_from p (fresh p) es
