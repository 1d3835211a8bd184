use Rattle.uv_memory.proofs.Names.{None, ap, subst, HandleRecord, becoming, timed, IsRescheduled, Handle, kept, Record, handle_of, image_of, timed_of}
use Rattle.uv_memory.proofs.Steps.{shut}
use Rattle.uv_memory.proofs.memory.Memory.close.Goals as goal

pub invariant_of-self : goal.invariant_of-self
invariant_of-self g c =
    let new = c.reschedule-timer.new.parts in (shut (image_of (kept c.self.inside)) new.1.0.image c.push_front-pushed.new.self.image new.0
    c.self.inside.heap.room new.1.1.0 new.1.1.1.0 _ _ _ _ _ c.self.invariant c.reschedule-timer.ensures.room c.reschedule-timer.ensures.changed
    c.push_front-pushed.ensures.pushed c.push_front-pushed.ensures.token c.note_moved.ensures).fit

pub returns-clause-recorded : goal.returns-clause-recorded
returns-clause-recorded g c =
    let new = c.reschedule-timer.new.parts in rw (← c.self.view_is) (shut (image_of (kept c.self.inside)) new.1.0.image
    c.push_front-pushed.new.self.image new.0 _ new.1.1.0 new.1.1.1.0 _ _ _ _ _ c.self.invariant c.reschedule-timer.ensures.room
    c.reschedule-timer.ensures.changed c.push_front-pushed.ensures.pushed c.push_front-pushed.ensures.token c.note_moved.ensures)

pub returns-clause-does : goal.returns-clause-does
returns-clause-does g c =
    let new = c.reschedule-timer.new.parts in rw (← c.self.view_is) (record {
      undo = record {
        timer = c.reschedule-timer.result;
        pushed = c.push_front-pushed.result;
      };
      is = ap (λ (r : Record _). r.change) c.note_moved.ensures;
      does = record {
        mid = new.1.0.image;
        changed = subst (λ (to : HandleRecord). IsRescheduled handle_of Handle new.1.1.0.room (timed_of (image_of (kept c.self.inside)))
            (timed new.1.0.image new.0 new.1.1.0 new.1.1.1.0) c.args.id (becoming c.args.from to None) c.reschedule-timer.result)
            c.closed.ensures c.reschedule-timer.ensures.changed;
        listed = c.push_front-pushed.ensures.pushed;
      };
    })
