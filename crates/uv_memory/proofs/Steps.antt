-- Each step leaves a record that gives back the very image from before it.
use Rattle.uv_memory.proofs.Names.{◌≡◌, ℕ, Bool, true, false, List, Some, option_and_then, refl, sym, ap, ◌∙◌, subst, Id, Var, Kind, HandleRecord, ListName, WatcherKind, list_of, yet_of, inited, IsSound, push_undone, splice_undone, CanUndoPush, CanUndoSplice, IsPushed, IsSpliced, SameSlots, RecordUndo, AddUndo, ListUndo, DelistUndo, TakeUndo, SpliceUndo, Counted, counted, record_at, alive_count, add_undone, CanUndoAdd, IsTaken, IsAdded, IsChanged, IsEnlisted, IsDelisted, Heap, Times, TimerChange, TimerUndo, CollectUndo, timed, timer_undone, CanUndoTimer, IsRescheduled, IsFired, IsCollected, Running, working, IsWork, kept_by_insert, QueueUndo, TakeWorkUndo, CollectWorkUndo, FinishUndo, CancelUndo, reopened_in, IsQueued, IsFinished, IsCancelled, Request, Job, WalkUndo, IsMovedOn, Content, Handle, Asked, Record, handle_of, request_of, only_handle, Image, Held, counted_of, timed_of, with_counted, with_timed, with_working, Recorded, IsFit, By, changed, moved_by, closed_by, ended_by}
use Rattle.uv_records.specs.declared.lists.ListName.TheVariants as name
use Rattle.uv_arena.specs.Image as arena
use Rattle.uv_requests.specs.Calls as requests
use Rattle.uv_handle.specs.Watch as watch
use Rattle.uv_memory.specs.Change as change
use Rattle.uv_memory.proofs.Rows.{recorded, delist_back, timer_back, moved_back, walk_back}
use Rattle.uv_memory.proofs.Alone.{OfRequests}
use Rattle.uv_memory.proofs.Counting.{count_moved, count_pushed, count_unlinked, count_reopened, count_queued, count_freed}
use Rattle.uv_memory.proofs.Fits.{work_changed, work_delisted, work_pushed, work_enlisted, work_collected, work_walked, work_freed, work_spliced, other, list_not, yet_not}

-- what was freed is the handle that was there
pub taken_handle : (a b : Counted Content) (d : Id) (h : HandleRecord) (v : Content) (u : TakeUndo) → record_at handle_of a.arena d ≡ Some h
    → IsTaken handle_of Handle a b d v u → IsTaken handle_of Handle a b d (Handle h) u
taken_handle a b d h v u there c =
    subst (λ x. IsTaken handle_of Handle a b d x u) (only_handle v h (sym (ap (option_and_then handle_of) c.was) ∙ there)) c

module _ {P : Type 0} where
  abbrev at : Image P → ℕ → Held P
  at i room = record { image = i; room = room }

  -- ---- handles

  pub edited : (i : Image P) (k : arena.Image Content) (m room : ℕ) (r : Record P) (d : Id) (from to : HandleRecord) (u : RecordUndo) → IsFit i
      → record_at handle_of i.arena d ≡ Some from → IsChanged handle_of Handle (counted i.arena i.active) (counted k m) d from to u
      → r ≡ changed i.place (change.Edited u) → Recorded r (at i room) (at (record i { arena = k; active = m }) room)
  edited i k m room r d from to u fit there c is =
      let j = record i { arena = k; active = m } in
      recorded (change.Edited u) r i j room room refl is (ap (λ q. with_counted q j) c.undone) c.can_undo fit
      (record { counts = c.counts; work = work_changed (counted_of i) (counted k m) i.running d from to u fit.work there c }) refl refl

  pub enlisted : (i : Image P) (k : arena.Image Content) (m room : ℕ) (r : Record P) (d : Id) (from to : HandleRecord) (list : ListName)
      (u : ListUndo)
      → IsFit i → (OfRequests list → ⊥) → IsEnlisted handle_of Handle (counted i.arena i.active) (counted k m) d from to list u
      → r ≡ changed i.place (change.Enlisted u) → Recorded r (at i room) (at (record i { arena = k; active = m }) room)
  enlisted i k m room r d from to list u fit bar c is =
      let j = record i { arena = k; active = m } in
      recorded (change.Enlisted u) r i j room room refl is (ap (λ q. with_counted q j) c.undone) c.can_undo fit
      (record { counts = c.counts; work = work_enlisted (counted_of i) (counted k m) i.running d from to list u fit.work bar c }) refl refl

  pub delisted : (i : Image P) (k : arena.Image Content) (m room : ℕ) (r : Record P) (d : Id) (from to : HandleRecord) (leaves : Bool)
      (u : DelistUndo)
      → IsFit i → IsDelisted handle_of Handle (counted i.arena i.active) (counted k m) d from to leaves u
      → r ≡ changed i.place (change.Delisted u) → Recorded r (at i room) (at (record i { arena = k; active = m }) room)
  delisted i k m room r d from to leaves u fit c is =
      let j = record i { arena = k; active = m } in
      recorded (change.Delisted u) r i j room room refl is (delist_back u.unlinked u.changed j ∙ ap (λ q. with_counted q j) c.undone) c.can_undo fit
      (record { counts = c.counts; work = work_delisted (counted_of i) (counted k m) i.running d from to leaves u fit.work c }) refl refl

  -- a handle as it is made, off all lists
  pub added : (i : Image P) (k : arena.Image Content) (m room : ℕ) (r : Record P) (d : Id) (v : Var) (kind : Kind) (u : AddUndo) → IsFit i
      → IsAdded handle_of Handle (counted i.arena i.active) (counted k m) v kind d u
      → r ≡ changed i.place (change.Added (record { added = u; listed = false }))
      → Recorded r (at i room) (at (record i { arena = k; active = m }) room)
  added i k m room r d v kind u fit c is =
      let j = record i { arena = k; active = m } in
      recorded (change.Added (record { added = u; listed = false })) r i j room room refl is (ap (λ q. with_counted q j) c.undone)
      (record { pushed = tt; added = c.can_undo }) fit
      (record {
        counts = c.counts;
        work = kept_by_insert request_of i.arena k d i.running fit.work (Handle
            (inited v kind)) u.inserted refl c.inserted;
      }) refl refl

  -- and one at the end of its list
  pub joined : (i : Image P) (k l : arena.Image Content) (m room : ℕ) (r : Record P) (d : Id) (v : Var) (kind : Kind) (u : AddUndo)
      (now : List ℕ) → IsFit i
      → IsAdded handle_of Handle (counted i.arena i.active) (counted k m) v kind d u → IsPushed k l name.Async d now
      → r ≡ changed i.place (change.Added (record { added = u; listed = true }))
      → Recorded r (at i room) (at (record i { arena = l; active = m }) room)
  joined i k l m room r d v kind u now fit c p is =
      let j = record i { arena = l; active = m } in
      let off : push_undone u.inserted.slot l ≡ k = ap (λ x. push_undone x l) c.inserted.slot ∙ p.undone in
      let work = kept_by_insert request_of i.arena k d i.running fit.work (Handle (inited v kind)) u.inserted refl c.inserted in
      recorded (change.Added (record { added = u; listed = true })) r i j room room refl is
      (ap (λ q. with_counted (add_undone handle_of u (counted q m)) j) off ∙ ap (λ q. with_counted q j) c.undone)
      (record {
        pushed = subst (λ x. CanUndoPush l x) (sym c.inserted.slot) p.can_undo;
        added = subst (λ q. CanUndoAdd handle_of (counted q m) u) (sym off) c.can_undo;
      }) fit
      (record {
        counts = c.counts ∙ sym (count_moved k l p.slots);
        work = work_pushed k l i.running d (inited v kind) name.Async now work c.handle (λ o. o) p;
      }) refl refl

  -- ---- timers

  pub rescheduled : (i : Image P) (k : arena.Image Content) (m room : ℕ) (h : Heap) (t : Times) (r : Record P) (d : Id) (c : TimerChange)
      (u : TimerUndo)
      → IsFit i → h.room ≡ room → IsRescheduled handle_of Handle h.room (timed_of i) (timed k m h t) d c u
      → r ≡ changed i.place (change.Timer u)
      → Recorded r (at i room) (at (record i { arena = k; active = m; heap = h.array; times = t }) h.room)
  rescheduled i k m room h t r d c u fit same s is =
      let j = record i { arena = k; active = m; heap = h.array; times = t } in
      recorded (change.Timer u) r i j room h.room same is (timer_back u j ∙ ap (λ q. with_timed q j) s.undone) s.can_undo fit
      (record {
        counts = s.handles.counts;
        work = work_delisted (counted_of i) (counted k m) i.running d c.from c.to c.leaves u.delisted fit.work s.handles;
      }) refl refl

  pub fired : (i : Image P) (k : arena.Image Content) (m room : ℕ) (h : Heap) (t : Times) (r : Record P) (d : Id) (u : TimerUndo)
      → IsFit i → h.room ≡ room → IsFired handle_of Handle h.room (timed_of i) (timed k m h t) d u
      → r ≡ changed i.place (change.Timer u)
      → Recorded r (at i room) (at (record i { arena = k; active = m; heap = h.array; times = t }) h.room)
  fired i k m room h t r d u fit same s is = rescheduled i k m room h t r d _ u fit same s.changed is

  pub collected : (i : Image P) (k : arena.Image Content) (m room : ℕ) (h : Heap) (t : Times) (r : Record P) (d : Id) (u : CollectUndo)
      → IsFit i → h.room ≡ room → IsCollected handle_of Handle h.room (timed_of i) (timed k m h t) d u
      → r ≡ changed i.place (moved_by u)
      → Recorded r (at i room) (at (record i { arena = k; active = m; heap = h.array; times = t }) h.room)
  collected i k m room h t r d u fit same s is =
      let j = record i { arena = k; active = m; heap = h.array; times = t } in
      recorded (moved_by u) r i j room h.room same is (moved_back u j ∙ ap (λ q. with_timed q j) s.undone) s.can_undo fit
      (record { counts = s.counts; work = work_collected h.room (timed_of i) (timed k m h t) i.running d u fit.work s }) refl refl

  -- a handle is off its list and the heap, and at the front of the closing list
  pub shut : (i : Image P) (k l : arena.Image Content) (m room : ℕ) (h : Heap) (t : Times) (r : Record P) (d : Id) (c : TimerChange)
      (now : List ℕ) (u : CollectUndo)
      → IsFit i → h.room ≡ room → IsRescheduled handle_of Handle h.room (timed_of i) (timed k m h t) d c u.timer → IsPushed k l name.Closing d now
      → u.pushed.slot ≡ d.slot → r ≡ changed i.place (moved_by u)
      → Recorded r (at i room) (at (record i { arena = l; active = m; heap = h.array; times = t }) h.room)
  shut i k l m room h t r d c now u fit same s p slot is =
      let j = record i { arena = l; active = m; heap = h.array; times = t } in
      let off : push_undone u.pushed.slot l ≡ k = ap (λ x. push_undone x l) slot ∙ p.undone in
      recorded (moved_by u) r i j room h.room same is
      (moved_back u j ∙ ap (λ q. with_timed (timer_undone handle_of Handle u.timer (timed q m h t)) j) off ∙ ap (λ q. with_timed q j) s.undone)
      (record {
        pushed = subst (λ x. CanUndoPush l x) (sym slot) p.can_undo;
        timer = subst (λ q. CanUndoTimer handle_of Handle h.room (timed q m h t) u.timer) (sym off) s.can_undo;
      }) fit
      (record {
        counts = s.handles.counts ∙ sym (count_moved k l p.slots);
        work = work_pushed k l i.running d c.to name.Closing now
            (work_delisted (counted_of i) (counted k m) i.running d c.from c.to c.leaves u.timer.delisted fit.work s.handles) s.handles.handle
            (λ o. o) p;
      }) refl refl

  -- ---- watchers and sections

  pub nothing : (i : Image P) (room : ℕ) (r : Record P) → IsFit i → r ≡ changed i.place change.Nothing → Recorded r (at i room) (at i room)
  nothing i room r fit is = recorded change.Nothing r i i room room refl is refl tt fit fit refl refl

  pub walked : (i : Image P) (k : arena.Image Content) (m room : ℕ) (r : Record P) (d : Id) (h : HandleRecord) (w : WatcherKind)
      (pending : Bool) (u : WalkUndo)
      → IsFit i → record_at handle_of i.arena d ≡ Some h → IsMovedOn handle_of Handle (counted i.arena i.active) (counted k m) w d pending u
      → r ≡ changed i.place (change.Walked u) → Recorded r (at i room) (at (record i { arena = k; active = m }) room)
  walked i k m room r d h w pending u fit there c is =
      let j = record i { arena = k; active = m } in
      recorded (change.Walked u) r i j room room refl is (walk_back u j ∙ ap (λ q. with_counted q j) c.undone) c.can_undo fit
      (record { counts = c.counts; work = work_walked (counted_of i) (counted k m) i.running d h w pending u fit.work there c }) refl refl

  pub freed_does : (a b : Counted Content) (r : Record P) (place : P) (d : Id) (h : HandleRecord) (v : Content) (u : TakeUndo)
      → record_at handle_of a.arena d ≡ Some h → IsTaken handle_of Handle a b d v u → r ≡ changed place (closed_by h u)
      → By (closed_by h) (λ w. IsTaken handle_of Handle a b d (Handle h) w) r.change
  freed_does a b r place d h v u there c is =
      record { undo = u; is = ap (λ (q : Record P). q.change) is; does = taken_handle a b d h v u there c }

  pub freed : (i : Image P) (k : arena.Image Content) (m room : ℕ) (r : Record P) (d : Id) (h : HandleRecord) (v : Content) (u : TakeUndo)
      → IsFit i → record_at handle_of i.arena d ≡ Some h → IsTaken handle_of Handle (counted i.arena i.active) (counted k m) d v u
      → r ≡ changed i.place (closed_by h u) → Recorded r (at i room) (at (record i { arena = k; active = m }) room)
  freed i k m room r d h v u fit there taken is =
      let j = record i { arena = k; active = m } in
      let c = taken_handle (counted i.arena i.active) (counted k m) d h v u there taken in
      recorded (closed_by h u) r i j room room refl is (ap (λ q. with_counted q j) c.undone) c.can_undo fit
      (record { counts = c.counts; work = work_freed (counted_of i) (counted k m) i.running d h (Handle h) u fit.work there c }) refl refl

  -- slots move from one list to another
  pub spliced : (i : Image P) (k : arena.Image Content) (room : ℕ) (r : Record P) (u : SpliceUndo) → IsFit i → IsWork request_of (working k i.running)
      → SameSlots i.arena k → splice_undone u k ≡ i.arena → CanUndoSplice k u → r ≡ changed i.place (change.Begun u)
      → Recorded r (at i room) (at (record i { arena = k }) room)
  spliced i k room r u fit work same back can is =
      let j = record i { arena = k } in
      recorded (change.Begun u) r i j room room refl is (ap (λ q. record i { arena = q }) back) can fit
      (record { counts = fit.counts ∙ sym (count_moved i.arena k same); work = work }) refl refl

  pub begun : (i : Image P) (k : arena.Image Content) (room : ℕ) (r : Record P) (w : WatcherKind) (u : SpliceUndo) → IsFit i
      → watch.IsBegun i.arena k w u
      → r ≡ changed i.place (change.Begun u) → Recorded r (at i room) (at (record i { arena = k }) room)
  begun i k room r w u fit c is =
      spliced i k room r u fit (work_spliced i.arena k i.running fit.work c.slots c.kept (λ l o. c.others l (other l (list_of w) (list_not w) o)
      (other l (yet_of w) (yet_not w) o)))
      c.slots c.undone c.can_undo is

  pub begun_closing : (i : Image P) (k : arena.Image Content) (room : ℕ) (r : Record P) (u : SpliceUndo) → IsFit i
      → IsSpliced i.arena k name.Closing name.ClosingYet u → r ≡ changed i.place (change.Begun u)
      → Recorded r (at i room) (at (record i { arena = k }) room)
  begun_closing i k room r u fit c is =
      spliced i k room r u fit (work_spliced i.arena k i.running fit.work c.slots c.kept
      (λ l o. c.others l (other l name.Closing (λ q. q) o) (other l name.ClosingYet (λ q. q) o)))
      c.slots c.undone c.can_undo is

  -- ---- requests

  pub queued : (i : Image P) (k : arena.Image Content) (q : Running) (room : ℕ) (r : Record P) (asked : Request) (d : Id) (u : QueueUndo) → IsFit i
      → IsSound i.arena → IsQueued request_of Asked (working i.arena i.running) (working k q) asked d u → r ≡ changed i.place (change.Queued u)
      → Recorded r (at i room) (at (record i { arena = k; running = q }) room)
  queued i k q room r asked d u fit sound c is =
      let j = record i { arena = k; running = q } in
      recorded (change.Queued u) r i j room room refl is (ap (λ z. with_working z j) c.undone) c.can_undo fit
      (record { counts = fit.counts ∙ sym (count_queued i.arena k sound d asked c.next c.plain); work = c.work }) refl refl

  pub taken : (i : Image P) (k : arena.Image Content) (q : Running) (room : ℕ) (r : Record P) (worker : ℕ) (d : Id) (u : TakeWorkUndo) → IsFit i
      → requests.IsTaken request_of (working i.arena i.running) (working k q) worker d u → r ≡ changed i.place (change.Taken u)
      → Recorded r (at i room) (at (record i { arena = k; running = q }) room)
  taken i k q room r worker d u fit c is =
      let j = record i { arena = k; running = q } in
      recorded (change.Taken u) r i j room room refl is (ap (λ z. with_working z j) c.undone) c.can_undo fit
      (record { counts = fit.counts ∙ sym (count_moved i.arena k c.slots); work = c.work }) refl refl

  pub finished : (i : Image P) (k : arena.Image Content) (q : Running) (room : ℕ) (r : Record P) (worker : ℕ) (d : Id) (asked : Job)
      (digest : List ℕ) (u : FinishUndo)
      → IsFit i → IsFinished request_of Asked (working i.arena i.running) (working k q) worker d asked digest u
      → r ≡ changed i.place (change.Finished u)
      → Recorded r (at i room) (at (record i { arena = k; running = q }) room)
  finished i k q room r worker d asked digest u fit c is =
      let j = record i { arena = k; running = q } in
      recorded (change.Finished u) r i j room room refl is (ap (λ z. with_working z j) c.undone) c.can_undo fit
      (record {
        counts = fit.counts ∙ ap (λ z. alive_count handle_of z.arena) (sym c.undone) ∙ count_reopened u.id (push_undone u.id.slot k)
            ∙ count_pushed u.id.slot k;
        work = c.work;
      }) refl refl

  pub cancelled : (i : Image P) (k : arena.Image Content) (room : ℕ) (r : Record P) (d : Id) (u : CancelUndo)
      → IsFit i → IsCancelled request_of Asked (working i.arena i.running) (working k i.running) d u → r ≡ changed i.place (change.Cancelled u)
      → Recorded r (at i room) (at (record i { arena = k }) room)
  cancelled i k room r d u fit c is =
      let j = record i { arena = k } in
      let opened = reopened_in request_of Asked u.id (push_undone u.id.slot k) in
      recorded (change.Cancelled u) r i j room room refl is (ap (λ z. with_working z j) c.undone) c.can_undo fit
      (record {
        counts = fit.counts ∙ ap (λ z. alive_count handle_of z.arena) (sym c.undone) ∙ count_unlinked u.unlinked opened
            ∙ count_reopened u.id (push_undone u.id.slot k) ∙ count_pushed u.id.slot k;
        work = c.work;
      }) refl refl

  pub ended : (i : Image P) (k : arena.Image Content) (q : Running) (room : ℕ) (r : Record P) (d : Id) (asked : Request)
      (u : CollectWorkUndo) → IsFit i
      → requests.IsCollected request_of Asked (working i.arena i.running) (working k q) d asked u → r ≡ changed i.place (ended_by asked u)
      → Recorded r (at i room) (at (record i { arena = k; running = q }) room)
  ended i k q room r d asked u fit c is =
      let j = record i { arena = k; running = q } in
      recorded (ended_by asked u) r i j room room refl is (ap (λ z. with_working z j) c.undone) c.can_undo fit
      (record { counts = fit.counts ∙ sym (count_freed i.arena k d asked c.was c.plain); work = c.work }) refl refl

  pub begun_done : (i : Image P) (k : arena.Image Content) (room : ℕ) (r : Record P) (u : SpliceUndo) → IsFit i
      → requests.IsBegun request_of (working i.arena i.running) (working k i.running) u → r ≡ changed i.place (change.Begun u)
      → Recorded r (at i room) (at (record i { arena = k }) room)
  begun_done i k room r u fit c is = spliced i k room r u fit c.work c.slots (ap (λ z. z.arena) c.undone) c.can_undo.spliced is

  -- and the loop's time is another one
  pub polled : (i : Image P) (k : arena.Image Content) (now room : ℕ) (r : Record P) (u : SpliceUndo) → IsFit i
      → requests.IsBegun request_of (working i.arena i.running) (working k i.running) u
      → r ≡ changed i.place (change.Polled (record { time = i.times.time; spliced = u }))
      → Recorded r (at i room) (at (record i { arena = k; times = record i.times { time = now } }) room)
  polled i k now room r u fit c is =
      let j = record i { arena = k; times = record i.times { time = now } } in
      recorded (change.Polled (record { time = i.times.time; spliced = u })) r i j room room refl is
      (ap (λ z. record i { arena = z.arena }) c.undone) c.can_undo.spliced fit
      (record { counts = fit.counts ∙ sym (count_moved i.arena k c.slots); work = c.work }) refl refl
