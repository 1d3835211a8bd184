-- What one step more does to what a live run sees of a session.
use Rattle.uv_run.proofs.Names.{◌≡◌, ℕ, ◌+◌, List, [], ◌∷◌, ◌++◌, length, nat_lt, nat_le, ◌<◌, ◌≤◌, take, Option, Some, None, Result, Ok, Err, refl, ap, sym, subst, ◌∙◌, append_assoc, append-nil, slice_get, cond_both, slice_get_within, none-some, option_to_list, flat_map, Id, Var, Code, Event, Loop, Take, Finish, Send, Tick, Why, Ended, Seen, HandleRecord, MainOp, Program, lines_in, order_of, PoolEvent, Body, Place, Main, Running, Run, Stage, Request, State, live_handle, Next, Moves, Refuses, next_work, work_of, lines, refusal_of, found_both, stage_refusal, stage_moves, body_moves, main_moves, after-moves, seen_by-moves, seen_by-nil, line_events, pool_events, those, those_more, those_all, events_in, is_polling, after, seen_by}
use Rattle.uv_model.specs.declared.place.Stage.TheVariants as stage
use Rattle.uv_model.specs.Ops as ops
use Rattle.uv_model.specs.Next as step
use Rattle.uv_model.specs.Next.{next}
use Rattle.uv_run.specs.Events.{events_by, refusal_after, polls_after, hours_after}

-- ---- the pool's events

those-append : (xs ys : List (Option Seen)) →
    flat_map option_to_list (xs ++ ys) ≡ flat_map option_to_list xs ++ flat_map option_to_list ys
those-append [] ys = refl
those-append (x ∷ xs) ys = ap (λ (zs : List Seen). option_to_list x ++ zs) (those-append xs ys)
    ∙ sym (append_assoc (option_to_list x) (flat_map option_to_list xs) (flat_map option_to_list ys))

events-append : (p : Program) (xs ys : List Seen) → pool_events p (xs ++ ys) ≡ pool_events p xs ++ pool_events p ys
events-append p [] ys = refl
events-append p (x ∷ xs) ys = ap (λ (zs : List PoolEvent). line_events p x ++ zs) (events-append p xs ys)
    ∙ sym (append_assoc (line_events p x) (pool_events p xs) (pool_events p ys))

events_of_one : (p : Program) (l : Option Seen) → pool_events p (flat_map option_to_list (l ∷ [])) ≡ events_in p l
events_of_one p None = refl
events_of_one p (Some l) = append-nil (line_events p l)

-- those of the first steps, one step after another
pub events_step : (p : Program) (xs : List (Option Seen)) (i : ℕ) (x : Option Seen) → slice_get xs i ≡ Some x → i < length xs →
    pool_events p (those (take (i + 1) xs)) ≡ pool_events p (those (take i xs)) ++ events_in p x
events_step p xs i x h l = ap (pool_events p) (those_more xs i x h l)
    ∙ (events-append p (those (take i xs)) (option_to_list x)
    ∙ ap (λ (ys : List PoolEvent). pool_events p (those (take i xs)) ++ ys) (of_line x)) where
      of_line : (y : Option Seen) → pool_events p (option_to_list y) ≡ events_in p y
      of_line None = refl
      of_line (Some y) = append-nil (line_events p y)

pub seen_within : (p : Program) (es : List Event) (i : ℕ) (x : Option Seen) → slice_get (seen_by p es) i ≡ Some x → i < length (seen_by p es)
seen_within p es i x h = slice_get_within (seen_by p es) i x h

pub all_events : (p : Program) (es : List Event) (i : ℕ) → length es ≤ i → pool_events p (those (take i (seen_by p es))) ≡ events_by p es
unfolding events_by
all_events p es i l = ap (pool_events p) (those_all p es i l)

pub no_events : (p : Program) → events_by p [] ≡ []
unfolding events_by
no_events p = ap (λ (xs : List (Option Seen)). pool_events p (flat_map option_to_list xs)) (seen_by-nil p)

-- one step more, with its events
pub events_more : (p : Program) (es : List Event) (e : Event) (t : State) (l : Option Seen) → next p (after p es) e ≡ Moves t l →
    events_by p (es ++ e ∷ []) ≡ events_by p es ++ events_in p l
unfolding events_by
events_more p es e t l m =
    ap (λ (xs : List (Option Seen)). pool_events p (flat_map option_to_list xs)) (seen_by-moves p es e t l m)
    ∙ ap (pool_events p) (those-append (seen_by p es) (l ∷ []))
    ∙ events-append p (lines p es) (flat_map option_to_list (l ∷ []))
    ∙ ap (λ (xs : List PoolEvent). events_by p es ++ xs) (events_of_one p l)

-- ---- a loop at its end

ended_stage : (s : State) (x : Stage) → stage_refusal s x ≡ Some Ended → ⊥
ended_stage s (stage.Poll deadline) e = cond_both (step.may_leave s deadline) _ _ (λ (o : Option Why). o ≡ Some Ended → ⊥)
    (λ h f. cc f) (λ h f. cc f) e
ended_stage s each e = cc e

ended_run : (p : Program) (s : State) (run : Run) (body : Option Body) → refusal_of (step.run_step p s run body) ≡ Some Ended → ⊥
ended_run p s run None e = ended_stage s run.stage (sym (stage_moves p s run run.stage) ∙ e)
ended_run p s run (Some body) e =
    absurd (none-some Ended (sym (body_moves p s run body (slice_get (lines_in p body.callback body.name) body.next)) ∙ e))

-- only the place decides whether the loop is at its end
ended_at : (p : Program) (s t : State) (x : Place) → refusal_of (step.loop_step p s x) ≡ Some Ended →
    refusal_of (step.loop_step p t x) ≡ Some Ended
ended_at p s t (Main line) e = at (slice_get p.main line) e where
  at : (o : Option MainOp) → refusal_of (step.main_step (order_of p) s line o) ≡ Some Ended →
      refusal_of (step.main_step (order_of p) t line o) ≡ Some Ended
  at None f = refl
  at (Some o) f = absurd (none-some Ended (sym (main_moves (order_of p) s line o) ∙ f))
ended_at p s t (Running run) e = absurd (ended_run p s run run.body e)

ended_stays : (p : Program) (s t : State) → t.place ≡ s.place → refusal_of (next p s Loop) ≡ Some Ended → refusal_of (next p t Loop) ≡ Some Ended
unfolding next
ended_stays p s t same e = ap (λ (x : Place). refusal_of (step.loop_step p t x)) same ∙ ended_at p s t s.place e

-- ---- steps that leave the loop where it stands

abbrev Stays : State → Next → Type 0
Stays s (Moves t l) = t.place ≡ s.place
Stays s (Refuses why) = Unit {0}

take_stays : (s : State) (k : ℕ) (w : Result (Id × Request) Why) → Stays s (step.take s k w)
take_stays s k (Err why) = tt
take_stays s k (Ok t) = refl

finish_stays : (s : State) (k : ℕ) (w : Result (Id × Request) Why) → Stays s (step.finish s k w)
finish_stays s k (Err why) = tt
finish_stays s k (Ok t) = refl

send_stays : (s : State) (r : Result (Id × HandleRecord) Code) → (ops.send s r).state.place ≡ s.place
send_stays s (Err code) = refl
send_stays s (Ok t) = found_both _ _ _ (λ (d : ops.Coded). d.state.place ≡ s.place) (λ code e. refl) (λ e. refl)

sent_stays : (s : State) (v : Var) → Stays s (step.sent_to s v)
sent_stays s v = cond_both (nat_lt v.0 (length s.names)) _ _ (Stays s) (λ h. send_stays s (live_handle s v)) (λ h. tt)

-- a step of a worker, or a send from outside
abbrev pub IsBeside : Event → Type 0
IsBeside (Take k) = Unit {0}
IsBeside (Finish k) = Unit {0}
IsBeside (Send v) = Unit {0}
IsBeside e = ⊥

beside_stays : (p : Program) (s : State) (e : Event) → IsBeside e → Stays s (next p s e)
unfolding next
beside_stays p s (Take k) i = take_stays s k (next_work s (slice_get s.running k))
beside_stays p s (Finish k) i = finish_stays s k (work_of s (slice_get s.running k))
beside_stays p s (Send v) i = sent_stays s v
beside_stays p s _ i = absurd i

place_stays : (p : Program) (es : List Event) (e : Event) (t : State) (l : Option Seen) → IsBeside e → next p (after p es) e ≡ Moves t l →
    (after p (es ++ e ∷ [])).place ≡ (after p es).place
place_stays p es e t l i m =
    ap (λ (u : State). u.place) (after-moves p es e t l m) ∙ subst (Stays (after p es)) m (beside_stays p (after p es) e i)

-- a loop at its end stays there
pub stays_ended : (p : Program) (es : List Event) (e : Event) (t : State) (l : Option Seen) → IsBeside e → next p (after p es) e ≡ Moves t l →
    refusal_after p es ≡ Some Ended → refusal_after p (es ++ e ∷ []) ≡ Some Ended
unfolding refusal_after
stays_ended p es e t l i m h = ended_stays p (after p es) (after p (es ++ e ∷ [])) (place_stays p es e t l i m) h

-- and one at a poll, too
pub stays_polling : (p : Program) (es : List Event) (e : Event) (t : State) (l : Option Seen) → IsBeside e → next p (after p es) e ≡ Moves t l →
    polls_after p (es ++ e ∷ []) ≡ polls_after p es
unfolding polls_after
stays_polling p es e t l i m = ap is_polling (place_stays p es e t l i m)

-- any step but a send
abbrev pub IsNoSend : Event → Type 0
IsNoSend (Send v) = ⊥
IsNoSend e = Unit {0}

-- ---- the clock

abbrev Ticks : State → ℕ → Next → Type 0
Ticks s ms (Moves t l) = t.clock ≡ s.clock + ms
Ticks s ms (Refuses why) = Unit {0}

tick_ticks : (p : Program) (s : State) (ms : ℕ) → Ticks s ms (next p s (Tick ms))
unfolding next
tick_ticks p s ms = cond_both (nat_le (s.clock + ms) 4611686018427387904) _ _ (Ticks s ms) (λ h. refl) (λ h. tt)

pub ticked : (p : Program) (es fs : List Event) (ms : ℕ) (l : Option Seen) → next p (after p es) (Tick ms) ≡ Moves (after p fs) l →
    hours_after p fs ≡ hours_after p es + ms
unfolding hours_after
ticked p es fs ms l m = subst (Ticks (after p es) ms) m (tick_ticks p (after p es) ms)

-- ---- steps from outside that are no event of the pool

abbrev IsQuiet : Program → Next → Type 0
IsQuiet p (Moves t l) = events_in p l ≡ []
IsQuiet p (Refuses why) = Unit {0}

-- a send from outside, or the clock goes on
abbrev pub IsOutside : Event → Type 0
IsOutside (Send v) = Unit {0}
IsOutside (Tick ms) = Unit {0}
IsOutside e = ⊥

outside_quiet : (p : Program) (s : State) (e : Event) → IsOutside e → IsQuiet p (next p s e)
unfolding next
outside_quiet p s (Send v) i = cond_both (nat_lt v.0 (length s.names)) _ _ (IsQuiet p) (λ h. refl) (λ h. tt)
outside_quiet p s (Tick ms) i = cond_both (nat_le (s.clock + ms) 4611686018427387904) _ _ (IsQuiet p) (λ h. refl) (λ h. tt)
outside_quiet p s _ i = absurd i

pub quiet : (p : Program) (es : List Event) (e : Event) (t : State) (l : Option Seen) → IsOutside e → next p (after p es) e ≡ Moves t l →
    events_by p (es ++ e ∷ []) ≡ events_by p es
quiet p es e t l i m =
    events_more p es e t l m ∙ ap (λ (xs : List PoolEvent). events_by p es ++ xs) (subst (IsQuiet p) m (outside_quiet p (after p es) e i))
    ∙ append-nil (events_by p es)
