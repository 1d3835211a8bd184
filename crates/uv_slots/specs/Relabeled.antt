-- A state whose slots and ids are others. Each id that names a slot is named anew with it, and names it still. Whatever else a state has stays.
use Rattle.std.specs.Prelude.{ℕ, List, map, option_map}
use Rattle.uv_ids.specs.declared.id.Id.{Id}
use Rattle.uv_ids.specs.declared.due.Due.{Due}
use Rattle.uv_ids.specs.declared.seen.Seen.{Seen}
use Rattle.uv_ids.specs.declared.seen.Seen.TheVariants as seen
use Rattle.uv_ids.specs.declared.code.Answer.{Answer}
use Rattle.uv_ids.specs.declared.code.Answer.TheVariants as answer
use Rattle.uv_records.specs.declared.named.Named.{Named}
use Rattle.uv_records.specs.declared.slot.Slot.{Slot}
use Rattle.uv_records.specs.Slots.{Slots}
use Rattle.uv_records.specs.Walks.{Walk}
use Rattle.uv_work.specs.declared.content.Content.{Content}
use Rattle.uv_model.specs.State.{State, Watchers}

-- what becomes of ids, of the slots, and of the free ones
pub record Labels : Type 0 where
  pub id : Id → Id
  pub slots : List (Slot Content) → List (Slot Content)
  pub free : List ℕ → List ℕ

module _ (o : Labels) where
  abbrev pub relabeled_arena : Slots Content → Slots Content
  relabeled_arena a = record a { slots = o.slots a.slots; free = o.free a.free }

  abbrev pub relabeled_walk : Walk Id → Walk Id
  relabeled_walk w = record { list = map o.id w.list; yet = map o.id w.yet }

  abbrev pub relabeled_watchers : Watchers → Watchers
  relabeled_watchers all = record {
    idle = relabeled_walk all.idle;
    prepare = relabeled_walk all.prepare;
    check = relabeled_walk all.check;
    async = relabeled_walk all.async;
  }

  -- what a name is bound to
  abbrev pub relabeled_named : Named → Named
  relabeled_named n = record n { id = option_map o.id n.id }

  -- an entry of the order of timers
  abbrev pub relabeled_entry : Due × Id → Due × Id
  relabeled_entry t = (t.0, o.id t.1)

  abbrev pub relabeled : State → State
  relabeled s = record s {
    names = map relabeled_named s.names;
    arena = relabeled_arena s.arena;
    timers = map relabeled_entry s.timers;
    ready = map o.id s.ready;
    watchers = relabeled_watchers s.watchers;
    closing = relabeled_walk s.closing;
    waiting = map o.id s.waiting;
    running = map (option_map o.id) s.running;
    done = relabeled_walk s.done;
  }

  -- ---- the line of a step

  abbrev pub relabeled_answer : Answer → Answer
  relabeled_answer (answer.Id id) = answer.Id (o.id id)
  relabeled_answer (answer.Cancelled id) = answer.Cancelled (o.id id)
  relabeled_answer a = a

  abbrev pub relabeled_line : Seen → Seen
  relabeled_line (seen.Op site a) = seen.Op site (relabeled_answer a)
  relabeled_line (seen.Call v id) = seen.Call v (o.id id)
  relabeled_line (seen.Io v id) = seen.Io v (o.id id)
  relabeled_line (seen.After digest v id) = seen.After digest v (o.id id)
  relabeled_line (seen.Closed v id) = seen.Closed v (o.id id)
  relabeled_line (seen.Take worker v id) = seen.Take worker v (o.id id)
  relabeled_line (seen.Finish worker v id) = seen.Finish worker v (o.id id)
  relabeled_line (seen.Cancel v a) = seen.Cancel v (relabeled_answer a)
  relabeled_line line = line
