-- Each line of every list of steps answers what those before it tell.
use Rattle.uv_order.proofs.Names.{List, ◌∷◌, ◌++◌, Some, None, Option, refl, ap, sym, length, Event, Program, Seen, State, fresh, Next, Moves, Refuses, state_of, Line, line_of_step, history_from, Told, nothing_told, Position, Between, next, history, [], seens, AnswersFrom, AreAnswered, LineAnswers}
use Rattle.uv_order.proofs.Lemmas.{did, Did, IsStill, timed, Kept, Working}
use Rattle.uv_order.proofs.Counted.{replicate_long}
use Rattle.uv_order.proofs.OpEffects.{none_bound}
use Rattle.uv_order.proofs.Follows.{begins_at}
use Rattle.uv_order.proofs.OpsOnce.{KnownAt}
use Rattle.uv_order.proofs.Started.{StartedAt}
use Rattle.uv_order.proofs.Dated.{DatedAt, DatedFollows, did_dated, dated_fresh}
use Rattle.uv_order.proofs.Heard.{HeardAt, HeardFollows, did_heard}
use Rattle.uv_order.proofs.Saying.{op_says, send_says, cancel_answers}
use Rattle.uv_order.proofs.Documents.{Holds, HoldsNext, holds_next, holds_fresh}

pub heard_fresh : (p : Program) → HeardAt p [] (fresh p)
heard_fresh p = record {
  stands = λ id. refl;
  begun = λ id h e timer on. cc e;
  long = replicate_long (length p.callbacks);
  bound = λ v l. sym (ap (λ n. n.id) (none_bound (length p.callbacks) v.0));
}

-- the line of a step
abbrev pub AnswersNext : Program → List Line → State → Next → Type 0
AnswersNext p past s (Moves t (Some l)) = LineAnswers p past s l
AnswersNext p past s (Moves t None) = Unit {0}
AnswersNext p past s (Refuses why) = Unit {0}

still_answers : (p : Program) (past : List Line) (s t : State) (l : Option Seen) → IsStill l → AnswersNext p past s (Moves t l)
still_answers p past s t (Some l) (IsStill.section word) = tt
still_answers p past s t each e5 = assumption

did_answers : (p : Program) (past : List Line) (s : State) (n : Next) → Did p s n → Kept s → Working s → KnownAt p (seens past) s →
    StartedAt p (seens past) s → DatedAt p past s → HeardAt p (seens past) s → AnswersNext p past s n
did_answers p past s n (Did.still x time clock stop idled l q none) kept work w b d k = still_answers p past s (timed s x time clock stop idled) l q
did_answers p past s n (Did.op x at o e) kept work w b d k = rw e (op_says p past s o kept work w b d k)
did_answers p past s n (Did.begun run q e) kept work w b d k = tt
did_answers p past s n (Did.sent v) kept work w b d k = send_says p past s v kept w b d k
did_answers p past s n (Did.cancelled v) kept work w b d k = cancel_answers p (seens past) s v work w k
did_answers p past s n each kept work w b d k = tt

-- steps from a state on
answers_from : (p : Program) (es : List Event) (told : Told) (past : List Line) (s : State) (at : Position) → Holds p told (seens past) s at →
    DatedAt p past s → HeardAt p (seens past) s → AnswersFrom p past (history_from p s es)
answers_from p [] told past s at k d h = tt
answers_from p (e ∷ es) told past s at k d h =
    let n = next p s e in
    let did_it = did p s e (begins_at p s s.place at k.stands.stands) in
    by n (holds_next p told (seens past) s at e k) (did_dated p past s n did_it k.kept k.known k.started d)
    (did_heard p (seens past) s n did_it k.kept k.known h)
    (did_answers p past s n did_it k.kept k.working k.known k.started d h) (answers_from p es)
  where
    by : (n : Next) → HoldsNext p told (seens past) s at n → DatedFollows p past s n → HeardFollows p (seens past) n → AnswersNext p past s n →
        ((told' : Told) (past' : List Line) (t : State) (to : Position) → Holds p told' (seens past') t to → DatedAt p past' t →
        HeardAt p (seens past') t → AnswersFrom p past' (history_from p t es)) →
        AnswersFrom p past (line_of_step s n ++ history_from p (state_of s n) es)
    by (Moves t (Some l)) f g i a more = (a, more _ (record { before = s; seen = l; after = t } ∷ past) t f.to f.holds g i)
    by (Moves t None) f g i a more = more told past t at f.holds g i
    by (Refuses why) f g i a more = more told past s at f d h

pub answers : (p : Program) (es : List Event) → AreAnswered p (history p es)
unfolding history
answers p es = answers_from p es nothing_told [] (fresh p) (Between 0) (holds_fresh p) (dated_fresh p) (heard_fresh p)
