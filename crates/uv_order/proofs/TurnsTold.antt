-- The callbacks of each list of steps come in the turn that the lines tell.
use Rattle.uv_order.proofs.Names.{arith, ◌≡◌, List, ◌∷◌, ◌++◌, map, drop, Option, Some, None, refl, sym, subst, ◌∙◌, Id, Event, Program, Phase, Kind, Seen, HandleRecord, WatcherKind, kind_as, State, fresh, handle, Place, Next, Moves, Refuses, state_of, lines, Line, line_of_step, history_from, Told, nothing_told, Names, Position, Between, Goes, Standing, Within, Polling, Answering, Begun, MayLeave, IsCallLine, Callback, Var, AllOff, word_of, next, history, [], those_of, MayPass, facts, AllCalled, AreInTurn, InTurn, InTurnFrom, IsFirstOf, KindInTurn}
use Rattle.uv_order.specs.Documented as doc
use Rattle.uv_order.specs.Documented.{Walk}
use Rattle.uv_order.proofs.Histories.{lines-history}
use Rattle.uv_order.proofs.Lemmas.{did, Did, FrontOf, IsStill, timed, Kept, left_of, Rests}
use Rattle.uv_order.proofs.KeptSteps.{first_is, front_fits}
use Rattle.uv_order.proofs.Standing.{Leaves, StandsAt, running, rest, rest_in}
use Rattle.uv_order.proofs.Started.{front_watches}
use Rattle.uv_order.proofs.Heard.{HeardAt, HeardFollows, did_heard}
use Rattle.uv_order.proofs.AnswersTold.{heard_fresh}
use Rattle.uv_order.proofs.Follows.{begins_at}
use Rattle.uv_order.proofs.Lined.{LinedAt, LinedFollows, did_lined, kind_told, walk_of}
use Rattle.uv_order.proofs.Documents.{Holds, HoldsNext, holds_next, holds_fresh}

-- ---- nobody is still to be called

left_none : (off ids : List Id) → AllOff off ids → left_of ids off ≡ []
left_none off [] a = refl
left_none off (id ∷ ids) a = grind (arith, left_none off ids)

in_left : (x y : Phase) (w : Walk) → MayPass y w w.ahead → rest_in x y w ≡ []
in_left x y w may = grind (arith, left_none)

-- where a section is left, nobody is left of a list
none_to_call : (p : Program) (told : Told) (s : State) (ready : List Id) (at : Standing) → Leaves (rest ready s) at → MayLeave p s told at →
    (word : Phase) → (walk_of word s.watchers s.closing).yet ≡ []
none_to_call p told s ready at l may word = by at l may word where
  by : (at : Standing) → Leaves (rest ready s) at → MayLeave p s told at → (word : Phase) → (walk_of word s.watchers s.closing).yet ≡ []
  by Begun l may word = grind arith
  by (Within part w) l may Phase.Idle = l.idle ∙ in_left Phase.Idle (word_of part) w may.0.may_pass
  by (Within part w) l may Phase.Prepare = l.prepare ∙ in_left Phase.Prepare (word_of part) w may.0.may_pass
  by (Within part w) l may Phase.Check = l.check ∙ in_left Phase.Check (word_of part) w may.0.may_pass
  by (Within part w) l may Phase.Closing = l.closing ∙ in_left Phase.Closing (word_of part) w may.0.may_pass
  by (Within part w) l may word = refl
  by (Polling deadline) l may word = grind arith
  by (Answering woken body) l may word = grind arith

-- a line behind a section
abbrev IsBetween : Seen → Type 0
IsBetween (Seen.Section word) = Unit {0}
IsBetween (Seen.Poll timeout) = Unit {0}
IsBetween (Seen.End alive) = Unit {0}
IsBetween l = ⊥

apart : {P : Type 0} (l x : Seen) → l ≡ x → (IsBetween x → ⊥) → IsBetween l → P
apart l x e none behind = absurd (none (subst IsBetween e behind))

over_at : {p : Program} {told : Told} {names : Names} {l : Line} {at to : Position} (x : Place) → Goes p told names at l to →
    StandsAt p l.before x at → IsBetween l.seen → (word : Phase) → (walk_of word l.before.watchers l.before.closing).yet ≡ []
over_at {p} {told} {l = l} x (doc.section part may e is opens lasts) (running b f left) behind word = none_to_call p told l.before _ _ left may word
over_at {p} {told} {l = l} x (doc.poll timeout may e polls is lasts) (running b f left) behind word = none_to_call p told l.before _ _ left may word
over_at {p} {told} {l = l} x (doc.ends may e is lasts) (running b f left) behind word = none_to_call p told l.before _ _ left may word
over_at x (doc.main_line o a place is lasts) k behind word = apart _ _ is (λ b. b) behind
over_at x (doc.run m there is lasts) k behind word = apart _ _ is (λ b. b) behind
over_at {l = l} x (doc.call kind v id more in_it calls made is lasts) k behind word = absurd (grind arith)
over_at x (doc.fires v id due others heap timers done are is_due made is lasts) k behind word = apart _ _ is (λ b. b) behind
over_at x (doc.answers v id io may active made is lasts) k behind word = apart _ _ is (λ b. b) behind
over_at x (doc.answer_op place more o a there is lasts) k behind word = apart _ _ is (λ b. b) behind
over_at x (doc.body_op place more o a body there is lasts) k behind word = apart _ _ is (λ b. b) behind
over_at x (doc.sent v code is lasts) k behind word = apart _ _ is (λ b. b) behind
over_at x (doc.taken n v id is made lasts) k behind word = apart _ _ is (λ b. b) behind
over_at x (doc.finished n v id is made lasts) k behind word = apart _ _ is (λ b. b) behind
over_at x (doc.cancelled v a is lasts) k behind word = apart _ _ is (λ b. b) behind
over_at x (doc.outside ms is lasts) k behind word = apart _ _ is (λ b. b) behind

-- ---- the line of a step

abbrev TurnsNext : Program → List Seen → Next → Type 0
TurnsNext p past (Moves t (Some l)) = InTurn p past l
TurnsNext p past (Moves t None) = Unit {0}
TurnsNext p past (Refuses why) = Unit {0}

-- behind a section all were called
abbrev NobodyLeft : State → Next → Type 0
NobodyLeft s (Moves t (Some l)) = IsBetween l → (word : Phase) → (walk_of word s.watchers s.closing).yet ≡ []
NobodyLeft s (Moves t None) = Unit {0}
NobodyLeft s (Refuses why) = Unit {0}

all_called : (p : Program) (past : List Seen) (s : State) → LinedAt p past s →
    ((word : Phase) → (walk_of word s.watchers s.closing).yet ≡ []) → AllCalled p past
all_called p past s k none word = sym (k.left word) ∙ none word

-- a handle of this kind is called
kind_in_turn : (p : Program) (past : List Seen) (s : State) (t : Id × HandleRecord) (q : Kind) → t.1.kind ≡ q →
    handle s t.0 ≡ Some t.1 → HeardAt p past s → KindInTurn p past t.0 (Some q) →
    KindInTurn p past t.0 (facts p past t.0).kind
kind_in_turn p past s t q is e h turn = rw (kind_told p past s t.0 t.1 e h, is) turn

first_of : (ids more : List Id) (id : Id) → ids ≡ id ∷ drop 1 ids → ids ≡ more → IsFirstOf more id
first_of ids more id are is = grind arith

still_turns : (p : Program) (past : List Seen) (s t : State) (l : Option Seen) → IsStill l → LinedAt p past s → NobodyLeft s (Moves t l) →
    TurnsNext p past (Moves t l)
still_turns p past s t each e5 k none = grind arith

walked_turn : (p : Program) (past : List Seen) (s : State) (q : WatcherKind) (t : Id × HandleRecord) → FrontOf s (those_of q s.watchers).yet t →
    Kept s → HeardAt p past s → LinedAt p past s → InTurn p past (Seen.Call t.1.name t.0)
walked_turn p past s q t f kept h k = grind (arith, kind_in_turn, front_watches, first_of)

did_turns : (p : Program) (past : List Seen) (s : State) (n : Next) → Did p s n → Kept s → HeardAt p past s → LinedAt p past s → NobodyLeft s n →
    TurnsNext p past n
did_turns p past s n (Did.still x time clock stop idled l q listed) kept h k none = still_turns p past s (timed s x time clock stop idled) l q k none
did_turns p past s n (Did.begun run WatcherKind.Idle e) kept h k none = all_called p past s k (none tt)
did_turns p past s n (Did.begun run q e) kept h k none = all_called p past s k (none tt)
did_turns p past s n (Did.begun_closing run e) kept h k none = all_called p past s k (none tt)
did_turns p past s n (Did.begun_done run time e) kept h k none = all_called p past s k (none tt)
did_turns p past s n (Did.fired run t f) kept h k none =
    let rests : Rests t.1 = front_fits s Rests [] s.ready t kept.ready.each f in
    kind_in_turn p past s t Kind.Timer rests.kind f.holds h tt
did_turns p past s n (Did.called_due run t f) kept h k none =
    kind_in_turn p past s t Kind.Timer (first_is s t f kept).set.kind f.holds h tt
did_turns p past s n (Did.walked run WatcherKind.Idle t sync f) kept h k none = walked_turn p past s WatcherKind.Idle t f kept h k
did_turns p past s n (Did.walked run q t sync f) kept h k none = walked_turn p past s q t f kept h k
did_turns p past s n (Did.woken run t f on) kept h k none = walked_turn p past s WatcherKind.Async t f kept h k
did_turns p past s n (Did.closed run t f) kept h k none = first_of s.closing.yet _ t.0 f.are (k.left Phase.Closing)
did_turns p past s n (Did.sent v) kept h k none = tt
did_turns p past s n (Did.cancelled v) kept h k none = tt
did_turns p past s n each kept h k none = tt

-- ---- all steps

abbrev seens : List Line → List Seen
seens ls = map (λ (l : Line). l.seen) ls

-- steps from a state on
turns_from : (p : Program) (es : List Event) (told : Told) (past : List Seen) (s : State) (at : Position) → Holds p told past s at →
    HeardAt p past s → LinedAt p past s → InTurnFrom p past (seens (history_from p s es))
turns_from p [] told past s at k h o = tt
turns_from p (e ∷ es) told past s at k h o =
    let n = next p s e in
    let did_it = did p s e (begins_at p s s.place at k.stands.stands) in
    let follows = holds_next p told past s at e k in
    by n follows (did_heard p past s n did_it k.kept k.known h) (did_lined p past s n did_it k.kept k.known h o)
    (did_turns p past s n did_it k.kept h o (grind (arith, over_at))) (turns_from p es)
  where
    by : (n : Next) → HoldsNext p told past s at n → HeardFollows p past n → LinedFollows p past n → TurnsNext p past n →
        ((told' : Told) (past' : List Seen) (t : State) (to : Position) → Holds p told' past' t to → HeardAt p past' t → LinedAt p past' t →
        InTurnFrom p past' (seens (history_from p t es))) →
        InTurnFrom p past (seens (line_of_step s n ++ history_from p (state_of s n) es))
    by n f g i a more = grind arith

pub turns : (p : Program) (es : List Event) → AreInTurn p (lines p es)
unfolding history
turns p es = subst (AreInTurn p) (sym (lines-history p es))
    (turns_from p es nothing_told [] (fresh p) (Between 0) (holds_fresh p) (heard_fresh p) (grind arith))
