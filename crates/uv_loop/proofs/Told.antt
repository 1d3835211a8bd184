-- Which event appended a line.
use Rattle.uv_loop.proofs.Names.{◌≡◌, ◌<◌, ℕ, List, [], ◌∷◌, ◌++◌, length, take, slice_get, nat_le, nat_lt, ◌+◌, Option, Some, None, Result, Ok, Err, refl, sym, ap, ◌∙◌, subst, cond_both, map-append, take-map, length-map, Id, Var, Event, Loop, Take, Finish, Cancel, Send, Io, Tick, Seen, Why, Program, LATEST, Place, Run, Request, State, live_handle, Next, Moves, Refuses, STEPS, IsOfLoop, OfLoop, loop_lines, Record, Image, Held, reached, IsCourse, Leads, event_of, events_of}
use Rattle.uv_ids.specs.declared.seen.Seen.TheVariants as seen
use Rattle.uv_model.specs.Next as step
use Rattle.uv_model.specs.Next.{next}
use Rattle.uv_model.specs.After.{after}
use Rattle.uv_loop.proofs.Courses.{course_stands}

-- what is appended, if the step is taken, is of this event
abbrev Tells : Event → Next → Type 0
Tells e (Moves t line) = event_of line ≡ e
Tells e (Refuses why) = Unit {0}

-- ---- steps of the loop

own : (l : Option Seen) → IsOfLoop l → event_of l ≡ Loop
own None h = refl
own (Some (seen.Run mode)) h = refl
own (Some (seen.Section word)) h = refl
own (Some (seen.Poll timeout)) h = refl
own (Some (seen.End alive)) h = refl
own (Some (seen.Call v id)) h = refl
own (Some (seen.After digest v id)) h = refl
own (Some (seen.Closed v id)) h = refl
own (Some (seen.Op place a)) h = refl
own (Some (seen.Take k v id)) h = absurd h
own (Some (seen.Finish k v id)) h = absurd h
own (Some (seen.Cancel v a)) h = absurd h
own (Some (seen.Send v code)) h = absurd h
own (Some (seen.Io v id)) h = absurd h
own (Some (seen.Tick ms)) h = absurd h

tells : (n : Next) → OfLoop n → Tells Loop n
tells (Moves t line) h = own line h
tells (Refuses why) h = tt

-- ---- steps from outside

take_tells : (s : State) (k : ℕ) (r : Result (Id × Request) Why) → Tells (Take k) (step.take s k r)
take_tells s k (Ok t) = refl
take_tells s k (Err why) = tt

finish_tells : (s : State) (k : ℕ) (r : Result (Id × Request) Why) → Tells (Finish k) (step.finish s k r)
finish_tells s k (Ok t) = refl
finish_tells s k (Err why) = tt

cancel_tells : (s : State) (v : Var) → Tells (Cancel v) (step.cancels s v)
cancel_tells s v = cond_both (nat_lt v.0 (length s.names)) _ _ (Tells (Cancel v)) (λ e. refl) (λ e. tt)

send_tells : (s : State) (v : Var) → Tells (Send v) (step.sent_to s v)
send_tells s v = cond_both (nat_lt v.0 (length s.names)) _ _ (Tells (Send v)) (λ e. refl) (λ e. tt)

io_calls : (p : Program) (s : State) (v : Var) (run : Option Run) (id : Option Id) → Tells (Io v) (step.call_io p s v run id)
io_calls p s v (Some run) (Some id) = refl
io_calls p s v (Some run) None = tt
io_calls p s v None id = tt

io_tells : (p : Program) (s : State) (v : Var) → Tells (Io v) (step.io p s v)
io_tells p s v = cond_both (nat_lt v.0 (length s.names)) _ _ (Tells (Io v))
    (λ e. io_calls p s v (step.io_run p s s.place) (step.io_handle (live_handle s v))) (λ e. tt)

tick_tells : (s : State) (ms : ℕ) → Tells (Tick ms) (step.tick s ms)
tick_tells s ms = cond_both (nat_le (s.clock + ms) LATEST) _ _ (Tells (Tick ms)) (λ e. refl) (λ e. tt)

next_tells : (p : Program) (s : State) (e : Event) → Tells e (next p s e)
unfolding next
next_tells p s Loop = tells (next p s Loop) (loop_lines p s)
next_tells p s (Take k) = take_tells s k (step.next_work s (slice_get s.running k))
next_tells p s (Finish k) = finish_tells s k (step.work_of s (slice_get s.running k))
next_tells p s (Cancel v) = cancel_tells s v
next_tells p s (Send v) = send_tells s v
next_tells p s (Io v) = io_tells p s v
next_tells p s (Tick ms) = tick_tells s ms

-- ---- the events of the steps that stand, by their lines

pub events_same : {xs ys : List (Option Seen)} → ys ≡ xs → events_of ys ≡ events_of xs
events_same same = ap (λ zs. events_of zs) same

pub few_events : (xs : List (Option Seen)) → length xs < STEPS → length (events_of xs) < STEPS
few_events xs few = subst (λ n. n < STEPS) (sym (length-map xs event_of)) few

pub events_take : (n : ℕ) (xs ys : List (Option Seen)) → ys ≡ take n xs → events_of ys ≡ take n (events_of xs)
events_take n xs ys is = ap (λ zs. events_of zs) is ∙ sym (take-map event_of n xs)

-- one step more, of this event
pub events_told : (e : Event) {xs ys zs : List (Option Seen)} {p : Program} {rs : List (Record Place)} {h : Held Place} {i : Image Place}
    {line : Option Seen} → IsCourse p (events_of xs) xs rs h → Leads p h.image i e line → zs ≡ ys ++ line ∷ [] → ys ≡ xs
    → events_of zs ≡ events_of xs ++ e ∷ []
events_told e {xs} {ys} {zs} {p} {rs} {h} {i} {line} c leads more same =
    let es = events_of xs in
    let t = leads (after p es) (course_stands p es xs rs h c) (reached p es) in
    let told : event_of line ≡ e = subst (λ n. Tells e n) t.1 (next_tells p (after p es) e) in
    ap (λ ls. events_of ls) (more ∙ ap (λ ls. ls ++ line ∷ []) same) ∙ map-append event_of xs (line ∷ []) ∙ ap (λ d. es ++ d ∷ []) told
