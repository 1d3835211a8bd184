-- What the step of a state may read and write of a change.
use Rattle.std.specs.List.{list_any}
use Rattle.std.specs.Prelude.{◌≡◌, ℕ, ◌+◌, ◌&&◌, Bool, true, false, Option, Some, length, slice_get, slice_set, nat_le, nat_lt}
use Rattle.uv_ids.specs.Due.{due_cmp}
use Rattle.uv_ids.specs.declared.due.Due.{Due}
use Rattle.uv_ids.specs.declared.id.Id.{Id}
use Rattle.uv_ids.specs.declared.id.Var.{Var}
use Rattle.uv_ids.specs.declared.phase.Kind.{Kind}
use Rattle.uv_ids.specs.declared.seen.Callback.{Callback}
use Rattle.uv_model.specs.Ids.{same_id}
use Rattle.uv_model.specs.Next.{Moves}
use Rattle.uv_model.specs.State.{State, front, live, handle, named, with_named}
use Rattle.uv_model.specs.declared.place.Place.TheVariants.{Main}
use Rattle.uv_records.specs.Slots.{held, with_held, next_free, taken, freed}
use Rattle.uv_records.specs.declared.handle.HandleRecord.{HandleRecord}
use Rattle.uv_records.specs.declared.named.Named.{Named}
use Rattle.uv_records.specs.declared.slot.Slot.{Slot}
use Rattle.uv_script.specs.Program.{Program, arena_size, lines_in}
use Rattle.uv_work.specs.declared.content.Content.{Content}
use Rattle.std.specs.Prelude.{List, map, option_map, ◌-◌}
use Rattle.uv_ids.specs.declared.seen.Site.{Site}
use Rattle.uv_script.specs.declared.op.Op.TheVariants as op
use Rattle.uv_script.specs.Program.{op_at}
use Rattle.uv_records.specs.Dues.{due_after}
use Rattle.uv_records.specs.Handles.{is_timer}
use Rattle.uv_records.specs.Names as names
use Rattle.uv_model.specs.Content.{content_keeps, content_pends, is_used}
use Rattle.uv_model.specs.Next as steps
use Rattle.uv_model.specs.Next.{Next, Refuses}
use Rattle.uv_work.specs.Digests.{digest_of}
use Rattle.uv_work.specs.Requests.{digest_in}
use Rattle.uv_work.specs.Tasks.{text_of}
use Rattle.uv_work.specs.declared.outcome.Outcome.{Outcome}
use Rattle.uv_work.specs.declared.outcome.Outcome.TheVariants.{Open, Finished, Cancelled}
use Rattle.uv_work.specs.declared.task.Task.{Task}
use Rattle.uv_alike.specs.Changed.{Work, Times, Change, changed_content, changed_arena, changed_body, changed, changed_live, changed_callback, changed_main, changed_program}

-- what becomes of a request is that of what it asks for
pub record IsWork (w : Work) : Type 0 where
  pub opens : w.outcome Open ≡ Open
  pub cancels : w.outcome Cancelled ≡ Cancelled
  pub finishes : (t : Task) → w.outcome (Finished (digest_of t.rounds (text_of t)))
      ≡ Finished (digest_of (w.task t).rounds (text_of (w.task t)))
  pub tells : (o : Outcome) → digest_in (w.outcome o) ≡ w.digest (digest_in o)

-- what each step of a state may read and write of times
pub record HidesTimes (t : Times) (p : Program) (s : State) : Type 0 where
  -- when timers are due
  pub order : (a b : Due) → due_cmp (t.due a) (t.due b) ≡ due_cmp a b
  pub passed : (a : Due) → nat_le (t.due a).at (t.time s.time) ≡ nat_le a.at s.time
  pub left : (a : Due) → (t.due a).at - t.time s.time ≡ a.at - s.time
  pub rests : (active : Bool) (k : Kind) (due : Due) → active && is_timer k ≡ false → t.due_in active k due ≡ due
  pub ticks : (k : Kind) (due : Due) → is_timer k ≡ true → t.due_in true k due ≡ t.due due
  pub more : t.start (s.next_start + 1) ≡ t.start s.next_start + 1
  pub repeats : (x : Id) (h : HandleRecord) → handle s x ≡ Some h
      → due_after (t.time s.time) (t.start s.next_start) h.repeat ≡ t.due (due_after s.time s.next_start h.repeat)
  pub starts : (at : Site) (v : Var) (timeout repeat : ℕ) → op_at p at ≡ Some (op.Start v timeout repeat)
      → due_after (t.time s.time) (t.start s.next_start) timeout ≡ t.due (due_after s.time s.next_start timeout)
  pub fires : (x : Id × HandleRecord) → front s s.ready ≡ Some x → (due : Due) → t.due_in true x.1.kind due ≡ t.due due
  pub falls : (x : Id × HandleRecord) → steps.first_due s s.timers ≡ Some x → (due : Due) → t.due_in true x.1.kind due ≡ t.due due
  -- the time
  pub waits : (n : ℕ) → t.time s.time + n ≡ t.time (s.time + n)

module _ (c : Change) (p : Program) where
  -- what each step of a state may read and write
  pub record Hides (s : State) : Type 0 where
    -- ids
    pub same : (a b : Id) → same_id (c.id a) (c.id b) ≡ same_id a b
    pub finds : next_free ((changed_arena c) s.arena) ≡ option_map c.id (next_free s.arena)
    pub takes : (x : Id) (new : Content) → next_free s.arena ≡ Some x
        → taken (c.id x) ((changed_content c) new) ((changed_arena c) s.arena) ≡ (changed_arena c) (taken x new s.arena)
    -- all slots
    pub keeps : list_any (λ (slot : Slot Content). content_keeps slot.content) (c.slots s.arena.slots)
        ≡ list_any (λ (slot : Slot Content). content_keeps slot.content) s.arena.slots
    pub pends : list_any (λ (slot : Slot Content). content_pends slot.content) (c.slots s.arena.slots)
        ≡ list_any (λ (slot : Slot Content). content_pends slot.content) s.arena.slots
    pub uses : list_any (λ (slot : Slot Content). is_used slot.content) (c.slots s.arena.slots)
        ≡ list_any (λ (slot : Slot Content). is_used slot.content) s.arena.slots
    pub times : HidesTimes c.times p s
    -- names
    pub known : (v : Var) → nat_lt (c.var v).0 (length (c.names s.names)) ≡ nat_lt v.0 (length s.names)
    pub binds : (v : Var) (x : Id) → next_free s.arena ≡ Some x
        → slice_set (c.names s.names) (c.var v).0 (record (names.named (c.names s.names) (c.var v).0) { id = Some (c.id x) })
        ≡ c.names (slice_set s.names v.0 (record (names.named s.names v.0) { id = Some x }))
    -- the script
    pub lines : (kind : Callback) (v : Var) (n : ℕ)
        → slice_get (lines_in (changed_program c p) kind (c.var v)) n ≡ option_map (changed_callback c) (slice_get (lines_in p kind v) n)
    pub main : (line : ℕ) → s.place ≡ Main line
        → slice_get (changed_program c p).main line ≡ option_map (changed_main c) (slice_get p.main line)
    -- what requests ask for
    pub work : IsWork c.work

  -- the change is whole: what stands under an id, who waits, who is done and the clock are changed alike, so no step can tell, whatever it asks
  pub record IsWhole (s : State) : Type 0 where
    pub holds : (x : Id) → held (c.slots s.arena.slots) (c.id x) ≡ option_map (changed_content c) (held s.arena.slots x)
    pub turns : (x : Id) (old new : Content) → held s.arena.slots x ≡ Some old
        → with_held (c.slots s.arena.slots) (c.id x) ((changed_content c) new) ≡ c.slots (with_held s.arena.slots x new)
    pub frees : (x : Id) (old : Content) → held s.arena.slots x ≡ Some old
        → freed (arena_size p).last_generation (c.id x) ((changed_arena c) s.arena)
        ≡ (changed_arena c) (freed (arena_size p).last_generation x s.arena)
    pub lives : (v : Var) → live ((changed c) s) (c.var v) ≡ option_map (changed_live c) (live s v)
    pub over : (n : ℕ) → nat_le (c.times.time n) (c.clock s.clock) ≡ nat_le n s.clock
    pub clocks : c.clock s.clock ≡ c.times.time s.clock
    pub queued : (ids : List Id) → c.waits ids ≡ map c.id ids
    pub ended : (ids : List Id) → c.ends ids ≡ map c.id ids

-- a change that keeps every count, seen in a state with the names of this one
pub record IsExact (c : Change) (p : Program) (s : State) : Type 0 where
  -- what becomes of what a name is bound to
  pub bound : Option Id → Option Id
  pub get : (u : State) (v : Var) → u.names ≡ s.names → named (changed c u) (c.var v) ≡ record (named u v) { id = bound (named u v).id }
  pub set : (u : State) (v : Var) (x : Named) → u.names ≡ s.names
      → with_named (changed c u) (c.var v) (record x { id = bound x.id }) ≡ changed c (with_named u v x)
  -- the lines of its callbacks
  pub body : (kind : Callback) (v : Var) (call n : ℕ) → steps.body_from (changed_program c p) kind (c.var v) call n
      ≡ option_map (changed_body c) (steps.body_from p kind v call n)
  pub count : (n : ℕ) → c.count n ≡ n
