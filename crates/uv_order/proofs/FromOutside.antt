-- Each step is its event's own, by its line.
use Rattle.uv_order.proofs.Names.{arith, ◌≡◌, ℕ, ◌+◌, Option, Some, None, Result, Ok, Err, length, slice_get, refl, cond_both, Id, Var, Event, Loop, Take, Finish, Cancel, Send, Io, Tick, Seen, Why, Program, Request, Run, State, live_handle, Next, Moves, Refuses, next, next_work, work_of, io_handle, io_run, nat_le, nat_lt, OfLoop, loop_lines}
use Rattle.uv_ids.specs.declared.seen.Seen.TheVariants as seen
use Rattle.uv_model.specs.Steps.{IsOfLoop}
use Rattle.uv_model.specs.Next as step
use Rattle.uv_order.specs.Outside.{event_of, SaysEvent}

own : (l : Option Seen) → IsOfLoop l → event_of l ≡ Loop
own None h = refl
own (Some (seen.Run mode)) h = refl
own (Some (seen.Section word)) h = refl
own (Some (seen.Poll timeout)) h = refl
own (Some (seen.End alive)) h = refl
own (Some (seen.Call v id)) h = refl
own (Some (seen.After digest v id)) h = refl
own (Some (seen.Closed v id)) h = refl
own (Some (seen.Op place a)) h = refl
own (Some (seen.Take k v id)) h = absurd h
own (Some (seen.Finish k v id)) h = absurd h
own (Some (seen.Cancel v a)) h = absurd h
own (Some (seen.Send v code)) h = absurd h
own (Some (seen.Io v id)) h = absurd h
own (Some (seen.Tick ms)) h = absurd h

says : (s : State) (n : Next) → OfLoop n → SaysEvent s Loop n
says s (Moves t line) h = own line h
says s (Refuses why) h = tt

take_says : (s : State) (k : ℕ) (r : Result (Id × Request) Why) → SaysEvent s (Take k) (step.take s k r)
take_says s k (Ok t) = refl
take_says s k (Err why) = tt

finish_says : (s : State) (k : ℕ) (r : Result (Id × Request) Why) → SaysEvent s (Finish k) (step.finish s k r)
finish_says s k (Ok t) = refl
finish_says s k (Err why) = tt

io_calls : (p : Program) (s : State) (v : Var) (run : Option Run) (id : Option Id) → SaysEvent s (Io v) (step.call_io p s v run id)
io_calls p s v (Some run) (Some id) = refl
io_calls p s v (Some run) None = tt
io_calls p s v None id = tt

pub says_event : (p : Program) (s : State) (e : Event) → SaysEvent s e (next p s e)
unfolding next
says_event p s Loop = says s (next p s Loop) (loop_lines p s)
says_event p s (Take k) = take_says s k (next_work s (slice_get s.running k))
says_event p s (Finish k) = finish_says s k (work_of s (slice_get s.running k))
says_event p s (Cancel v) = cond_both (nat_lt v.0 (length s.names)) _ _ (SaysEvent s (Cancel v)) (λ e. refl) (λ e. grind arith)
says_event p s (Send v) = cond_both (nat_lt v.0 (length s.names)) _ _ (SaysEvent s (Send v)) (λ e. refl) (λ e. grind arith)
says_event p s (Io v) = cond_both (nat_lt v.0 (length s.names)) _ _ (SaysEvent s (Io v))
    (λ e. io_calls p s v (io_run p s s.place) (io_handle (live_handle s v))) (λ e. tt)
says_event p s (Tick ms) = cond_both (nat_le (s.clock + ms) 4611686018427387904) _ _ (SaysEvent s (Tick ms)) (λ e. refl) (λ e. grind arith)
