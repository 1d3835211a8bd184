-- A callback begins behind a change: of what was freed, or of what moved on.
use Rattle.uv_sections.proofs.Names.{◌≡◌, ◌≢◌, ℕ, Bool, true, if◌then◌else◌, List, Option, None, ◌<◌, ◌^◌, drop, Some, sym, ap, ◌∙◌, subst, Id, Var, Seen, Callback, HandleRecord, WatcherKind, woken, Request, Program, arena_size, Run, Walking, Timers, TimersOf, Collecting, Firing, restarted, stopped, OfEach, Goes, Place, State, with_handle, digest_in, Moves, calls, close_front, collect_request, walk, walk_async, call, call_due, stage_polled, time_polled, at, fire, front_moved, named, count_of, Record, Recorded, Image, Held, IsReady, StandsFor, RequestGone, HandleGone, NamedMoved, moved_state}
use Rattle.uv_ids.specs.declared.seen.Seen.TheVariants as seen
use Rattle.uv_ids.specs.declared.seen.Callback.TheVariants as callback
use Rattle.uv_records.specs.declared.lists.WatcherKind.TheVariants as watcher
use Rattle.uv_sections.proofs.Fires.{Fires}
use Rattle.uv_sections.proofs.FromHeap.{CallsFirst}
use Rattle.uv_sections.proofs.Moves.{calls_all}

-- how often it was called is what it was before the change
pub few_calls : (r : Record Place) (h k : Held Place) → IsReady h → Recorded r h k → (kind : Callback) (v : Var)
    → count_of kind (named k.image.names v.0).calls < 2 ^ 31
few_calls r h k ready recorded kind v =
    subst (λ ns. count_of kind (named ns v.0).calls < 2 ^ 31) (sym recorded.names) (ready.calls v.0 kind)

-- a callback begins in each state that the memory stands for
abbrev pub Begins : Program → Run → Callback → Var → Image Place → Image Place → Type 0
Begins p run kind v j k = (s : State) → StandsFor j s → (line : Seen)
    → (t : State) × (calls p s run kind v line ≡ Moves t (Some line)) × StandsFor k t

-- that of a handle that was closed
pub close_goes : (p : Program) (run : Run) (j k : Image Place) (s : State) (id : Id) (r : HandleRecord)
    → HandleGone (arena_size p).last_generation j s id r → Begins p run callback.Close r.name j k
    → (t : State) × (close_front p s run ≡ Moves t (Some (seen.Closed r.name id))) × StandsFor k t
close_goes p run j k s id r gone begins =
    let b = begins _ gone.stands (seen.Closed r.name id) in
    (b.0, rw gone.front b.1, b.2)

-- that of a request that is done
pub collect_goes : (p : Program) (run : Run) (j k : Image Place) (s : State) (id : Id) (r : Request) (digest : Option (List ℕ))
    → RequestGone (arena_size p).last_generation j s id r → digest ≡ digest_in r.outcome → Begins p run callback.After r.name j k
    → (t : State) × (collect_request p s run ≡ Moves t (Some (seen.After digest r.name id))) × StandsFor k t
collect_goes p run j k s id r digest gone told begins =
    let b = begins _ gone.stands (seen.After digest r.name id) in
    (b.0, rw (gone.front, sym told) b.1, b.2)

-- that of a watcher that moved on
pub walk_goes : (p : Program) (run : Run) (j k : Image Place) (s : State) (w : WatcherKind) (id : Id) (v : Var) (pending : Bool)
    → NamedMoved w j s id v pending → w ≢ watcher.Async → Begins p run callback.Handle v j k
    → (t : State) × (walk p s run w ≡ Moves t (Some (seen.Call v id))) × StandsFor k t
walk_goes p run j k s w id v pending m other begins =
    let r = m.handle in
    let stands : StandsFor j (front_moved s w id) =
    subst (λ b. StandsFor j (moved_state b s w id r)) (m.moved.was ∙ calls_all w r other) m.moved.stands in
    let b = begins _ stands (seen.Call v id) in
    (b.0, rw m.moved.front ((λ l. calls p (front_moved s w id) run callback.Handle (m.name l) (seen.Call (m.name l) id)) ∙ b.1), b.2)

-- that of an async handle that was sent to
pub async_goes : (p : Program) (run : Run) (j k : Image Place) (s : State) (id : Id) (v : Var) (pending : Bool)
    → NamedMoved watcher.Async j s id v pending → pending ≡ true → Begins p run callback.Handle v j k
    → (t : State) × (walk_async p s run ≡ Moves t (Some (seen.Call v id))) × StandsFor k t
async_goes p run j k s id v pending moved on begins =
    let r = moved.handle in
    let stands : StandsFor j (moved_state true s watcher.Async id r) =
    subst (λ b. StandsFor j (moved_state b s watcher.Async id r)) on moved.moved.stands in
    let b = begins _ stands (seen.Call v id) in
    let waits : r.pending ≡ true = sym moved.moved.was ∙ on in
    let m = front_moved s watcher.Async id in
    let called = ap (λ x. if x then call p (with_handle m id (woken r)) run id r.name else Moves (at m run (Walking watcher.Async)) None) waits in (
      b.0,
      rw moved.moved.front (called
          ∙ (λ l. calls p (with_handle m id (woken r)) run callback.Handle (moved.name l) (seen.Call (moved.name l) id)) ∙ b.1),
      b.2,
    )

-- that of a timer that was set aside
pub fire_goes : (p : Program) (run : Run) (part : TimersOf) (i j k : Image Place) (id : Id) (v : Var) → Fires i j id v
    → Begins p (record run { stage = Timers part Firing }) callback.Handle v j k → Goes (λ s. fire p s run part) i k (Some (seen.Call v id))
fire_goes p run part i j k id v fires begins s h reached =
    let f = fires s h reached in
    let b = begins _ f.3 (seen.Call v id) in
    let fired = restarted (record s { ready = drop 1 s.ready }) id f.0 in (
      b.0,
      rw f.1 ((λ l. calls p fired (record run { stage = Timers part Firing }) callback.Handle (f.2 l) (seen.Call (f.2 l) id)) ∙ b.1),
      b.2,
    )

-- that of a timer that is due, straight from the heap
pub due_goes : (p : Program) (run : Run) (part : TimersOf) (i j k : Image Place) (id : Id) (v : Var) → CallsFirst i j id v
    → Begins p (record run { stage = Timers part Collecting }) callback.Handle v j k
    → Goes (λ s. call_due p s run part) i k (Some (seen.Call v id))
due_goes p run part i j k id v first begins s h reached =
    let f = first s h reached in
    let b = begins _ f.3 (seen.Call v id) in
    let again = restarted (stopped s id f.0) id f.0 in (
      b.0,
      rw f.1 ((λ l. calls p again (record run { stage = Timers part Collecting }) callback.Handle (f.2 l) (seen.Call (f.2 l) id)) ∙ b.1),
      b.2,
    )

-- that of a handle of I/O
pub io_goes : (p : Program) (run left : Run) (i j k : Image Place) (id : Id) (v : Var)
    → OfEach i (λ s. record run { stage = stage_polled s run.stage } ≡ left)
    → ((s : State) → StandsFor i s → StandsFor j (record s { time = time_polled s run.stage })) → Begins p left callback.Handle v j k
    → Goes (λ s. calls p (record s { time = time_polled s run.stage }) (record run { stage = stage_polled s run.stage }) callback.Handle v
    (seen.Io v id)) i k (Some (seen.Io v id))
io_goes p run left i j k id v same stands begins s h reached =
    let t : State = record s { time = time_polled s run.stage } in
    let b = begins t (stands s h) (seen.Io v id) in
    (b.0, ap (λ r. calls p t r callback.Handle v (seen.Io v id)) (same s h reached) ∙ b.1, b.2)
