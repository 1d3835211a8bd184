-- The first timer, if it is due, is called straight from the heap.
use Rattle.uv_sections.proofs.Names.{◌≡◌, refl, ap, Id, HandleRecord, is_timer, TimerChange, starting_again, IsRescheduled, IsDue, Record, handle_of, By, IsFit, Held, timed_of, OnlyTimed, active_open, Place, OfEach, Var, StandsFor, restarted, stopped, first_due, Some, Image, restart_does}
use Rattle.uv_work.specs.declared.content.Content.TheVariants.{Handle}
use Rattle.uv_memory.specs.Change as change
use Rattle.uv_sections.proofs.DueFirst.{its, due_first}

-- the first timer, of this name, is due, and is called straight from the heap: it is stopped, and set again if it repeats
abbrev pub CallsFirst : Image Place → Image Place → Id → Var → Type 0
CallsFirst i j d v = OfEach i (λ s. (h : HandleRecord) × (first_due s s.timers ≡ Some (d, h)) × (h.name ≡ v)
    × StandsFor j (restarted (stopped s d h) d h))

pub first_called : (r : Record Place) (h w : Held Place) (d : Id) (from : HandleRecord) (c : TimerChange) → IsFit h.image → OnlyTimed h.image w.image
    → By change.Timer (λ u. IsRescheduled handle_of Handle w.room (timed_of h.image) (timed_of w.image) d c u) r.change
    → c ≡ starting_again h.image.times from → IsDue handle_of h.image.arena h.image.heap h.image.times.time d from
    → CallsFirst h.image w.image d from.name
first_called r h w d from c fit frame by is due s stands reached =
    let mine = its h.image d from due s stands reached in (
      from,
      due_first h.image d from due s stands reached,
      refl,
      restart_does r h w d from c fit frame by is s stands reached (ap is_timer mine.kind)
          (active_open h.image d from due.handle s stands reached mine.active),
    )
