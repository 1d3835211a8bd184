-- The lines of every list of steps are in the documented order: what names are bound to by the lines is what the accepted ops of a step
-- find them bound to.
use Rattle.uv_order.proofs.Names.{arith, Bool, true, false, Id, HandleRecord, handle, map, ◌≡◌, List, ◌∷◌, ◌++◌, Option, Some, None, refl, ap, sym, subst, ◌∙◌, Event, Seen, Program, worker_count, State, fresh, Next, Moves, Refuses, state_of, lines, Line, line_of_step, history_from, MayFollow, OnceFrom, pool_events, pool_of, Pool, empty_pool, then_event, after_events, PoolEvent, names_by, Told, nothing_told, told_by, Lasting, lasting, at_first, Position, Between, Goes, GoesOn, cut, line, Documented, next, history, replay, [], Once, was_closed}
use Rattle.uv_model.specs.After as after
use Rattle.uv_order.specs.Told.{AreTold, IsTold, onto}
use Rattle.uv_order.proofs.Histories.{lines-history}
use Rattle.uv_order.proofs.Pooling.{Pools, did_pools}
use Rattle.uv_order.proofs.Lemmas.{Kept, held_at, did, Working, StaysWorking, did_working, fresh_working}
use Rattle.uv_order.proofs.KeptSteps.{StaysKept, did_kept, fresh_kept}
use Rattle.uv_order.proofs.Sends.{SentAt, SentFollows, did_sent, sent_fresh}
use Rattle.uv_order.proofs.Standing.{Stands, Follows, Has}
use Rattle.uv_order.proofs.Follows.{follows, begins_at, stands_fresh}
use Rattle.uv_order.proofs.OpsOnce.{KnownAt}
use Rattle.uv_order.proofs.Known.{not_closed}
use Rattle.uv_order.proofs.Started.{StartedAt, StartedFollows, did_started, started_fresh}
use Rattle.uv_order.proofs.ClosesOnce as known
use Rattle.uv_order.proofs.ClosesOnce.{did_known, known_fresh}

-- ---- what every step keeps

-- by the lines so far, and by where the state stands
pub record Holds (p : Program) (told : Told) (past : List Seen) (s : State) (at : Position) : Type 0 where
  pub kept : Kept s
  pub sent : SentAt told.sent s
  pub working : Working s
  pub stands : Stands p told s at
  pub known : KnownAt p past s
  pub started : StartedAt p past s

-- the line of a step, and what is kept behind it
pub record HoldsLine (p : Program) (told : Told) (past : List Seen) (s : State) (at : Position) (l : Seen) (t : State) : Type 0 where
  pub to : Position
  pub goes : Goes p told (names_by p past) at (record { before = s; seen = l; after = t }) to
  pub may : MayFollow p past l
  pub pools : Pools p s (Moves t (Some l))
  pub holds : Holds p (told_by p told (names_by p past) l) (l ∷ past) t to

-- a step without a line
pub record HoldsStill (p : Program) (told : Told) (past : List Seen) (s : State) (at : Position) (t : State) : Type 0 where
  pub lasts : lasting t ≡ lasting s
  pub pools : Pools p s (Moves t None)
  pub holds : Holds p told past t at

abbrev pub HoldsNext : Program → Told → List Seen → State → Position → Next → Type 0
HoldsNext p told past s at (Moves t (Some l)) = HoldsLine p told past s at l t
HoldsNext p told past s at (Moves t None) = HoldsStill p told past s at t
HoldsNext p told past s at (Refuses why) = Holds p told past s at

pub holds_next : (p : Program) (told : Told) (past : List Seen) (s : State) (at : Position) (e : Event) → Holds p told past s at →
    HoldsNext p told past s at (next p s e)
holds_next p told past s at e k =
    let n = next p s e in
    let d = did p s e (begins_at p s s.place at k.stands.stands) in
    let h : Has p told (names_by p past) s = record {
      kept = k.kept;
      sent = k.sent;
      working = k.working;
      counted = k.stands.counted;
      agrees = record { bound = k.known.binding; made = k.known.made; under = k.known.under };
    } in
    by n (did_kept p s n d k.kept) (did_sent p told (names_by p past) s n d h.agrees k.kept k.sent) (did_working p s n d k.kept k.working)
    (follows p told (names_by p past) s h at e k.stands.stands) (did_known p past s n d k.kept k.working k.started k.known)
    (did_started p past s n d k.kept k.known k.started) (did_pools p s n d k.kept k.working)
  where
    by : (n : Next) → StaysKept n → SentFollows p told (names_by p past) s n → StaysWorking n → Follows p told (names_by p past) at s n →
        known.Follows p past n → StartedFollows p past n → Pools p s n → HoldsNext p told past s at n
    by n j i x f o b q = grind arith

pub holds_fresh : (p : Program) → Holds p nothing_told [] (fresh p) (Between 0)
holds_fresh p = search (fresh_kept, sent_fresh, fresh_working, stands_fresh, known_fresh, started_fresh)

-- ---- all steps

-- steps from a state to another, with their lines
pub data Course (p : Program) : Told → List Seen → State → Position → List Line → State → Type 0 where
  stop : {told : Told} {past : List Seen} {s : State} {at : Position} → Holds p told past s at → Course p told past s at [] s
  move : {told : Told} {past : List Seen} {s t u : State} {at : Position} {l : Seen} {ls : List Line} (f : HoldsLine p told past s at l t)
      → Course p (told_by p told (names_by p past) l) (l ∷ past) t f.to ls u
      → Course p told past s at (record { before = s; seen = l; after = t } ∷ ls) u
  quiet : {told : Told} {past : List Seen} {s t u : State} {at : Position} {ls : List Line} → HoldsStill p told past s at t
      → Course p told past t at ls u → Course p told past s at ls u

course_from : (p : Program) (es : List Event) (told : Told) (past : List Seen) (s : State) (at : Position) → Holds p told past s at →
    Course p told past s at (history_from p s es) (after.goes_on p s es)
course_from p [] told past s at k = stop k
course_from p (e ∷ es) told past s at k = by (next p s e) (holds_next p told past s at e k) (course_from p es) where
  by : (n : Next) → HoldsNext p told past s at n → ((told' : Told) (past' : List Seen) (t : State) (to : Position) → Holds p told' past' t to →
      Course p told' past' t to (history_from p t es) (after.goes_on p t es)) →
      Course p told past s at (line_of_step s n ++ history_from p (state_of s n) es) (after.goes_on p (state_of s n) es)
  by (Moves t (Some l)) f more = move f (more _ _ t f.to f.holds)
  by (Moves t None) f more = quiet f (more _ _ t at f.holds)
  by (Refuses why) f more = more _ _ s at f

pub course : (p : Program) (es : List Event) → Course p nothing_told [] (fresh p) (Between 0) (history p es) (after.after p es)
unfolding history after.after
course p es = course_from p es nothing_told [] (fresh p) (Between 0) (holds_fresh p)

-- the lines of any events are in the documented order
documented_by : {p : Program} {told : Told} {past : List Seen} {s u : State} {at : Position} {ls : List Line} (was : Lasting) →
    Course p told past s at ls u → lasting s ≡ was → GoesOn p at told past was ls
documented_by was (stop k) l = cut
documented_by was (move f c) l = line l f.goes (documented_by _ c refl)
documented_by was (quiet f c) l = documented_by was c (f.lasts ∙ l)

pub documented : (p : Program) (es : List Event) → Documented p (history p es)
documented p es = documented_by at_first (course p es) refl

-- by them each handle closes once
abbrev seens : List Line → List Seen
seens ls = map (λ (l : Line). l.seen) ls

once_by : {p : Program} {told : Told} {past : List Seen} {s u : State} {at : Position} {ls : List Line} → Course p told past s at ls u →
    OnceFrom p past (seens ls)
once_by (stop k) = tt
once_by (move f c) = (f.may, once_by c)
once_by (quiet f c) = once_by c

pub once : (p : Program) (es : List Event) → Once p (lines p es)
once p es = subst (Once p) (sym (lines-history p es)) (once_by (course p es))

-- the pool that they say is that of the state after them
events_more : (o : Option Pool) (es fs : List PoolEvent) → after_events o (es ++ fs) ≡ after_events (after_events o es) fs
events_more o [] fs = refl
events_more o (e ∷ es) fs = events_more (then_event o e) es fs

pool_by : {p : Program} {told : Told} {past : List Seen} {s u : State} {at : Position} {ls : List Line} → Course p told past s at ls u →
    after_events (Some (pool_of s)) (pool_events p (seens ls)) ≡ Some (pool_of u)
pool_by (stop k) = refl
pool_by {p} {s = s} {ls = x ∷ ls} (move f c) = grind (arith, events_more, (pool_by c))
pool_by {p} {ls = ls} (quiet f c) = ap (λ (o : Pool). after_events (Some o) (pool_events p (seens ls))) (sym f.pools) ∙ pool_by c

pub pools : (p : Program) (es : List Event) → replay (worker_count p) (pool_events p (lines p es)) ≡ Some (pool_of (after.after p es))
unfolding replay
pools p es = ap (λ (ls : List Seen). after_events (Some (empty_pool (worker_count p))) (pool_events p ls)) (lines-history p es) ∙ pool_by
    (course p es)

-- and all of it is kept
pub record HoldsAt (p : Program) (s : State) : Type 0 where
  pub told : Told
  pub past : List Seen
  pub at : Position
  pub holds : Holds p told past s at

holds_by : {p : Program} {told : Told} {past : List Seen} {s u : State} {at : Position} {ls : List Line} → Course p told past s at ls u → HoldsAt p u
holds_by (stop k) = record { told = _; past = _; at = _; holds = k }
holds_by (move f c) = holds_by c
holds_by (quiet f c) = holds_by c

pub holds_after : (p : Program) (es : List Event) → HoldsAt p (after.after p es)
holds_after p es = holds_by (course p es)

-- each handle is what the lines tell of it
pub its_close : (p : Program) (past : List Seen) (s : State) (id : Id) (h : HandleRecord) → held_at s.arena.slots id ≡ Some h → KnownAt p past s →
    (b : Bool) → h.closing ≡ b → was_closed p past id ≡ b
its_close p past s id h e k b c = grind arith

is_told : (p : Program) (past : List Seen) (s : State) → KnownAt p past s → StartedAt p past s → (id : Id) (h : HandleRecord) → handle s id ≡ Some h →
    IsTold p past s id h
is_told p past s k started id h e = grind arith

told_by_lines : {p : Program} {told : Told} {past : List Seen} {s u : State} {at : Position} {ls : List Line} → Course p told past s at ls u →
    (id : Id) (h : HandleRecord) → handle u id ≡ Some h → IsTold p (onto past (seens ls)) u id h
told_by_lines (stop k) id h e = is_told _ _ _ k.known k.started id h e
told_by_lines (move f c) id h e = told_by_lines c id h e
told_by_lines (quiet f c) id h e = told_by_lines c id h e

pub told : (p : Program) (es : List Event) → AreTold p (lines p es) (after.after p es)
told p es = subst (λ (ls : List Seen). AreTold p ls (after.after p es)) (sym (lines-history p es)) (told_by_lines (course p es))
