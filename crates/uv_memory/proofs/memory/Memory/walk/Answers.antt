use Rattle.uv_memory.proofs.Names.{IfNone, ◌≡◌, Option, Some, None, refl, ap, subst, Id, HandleRecord, ListName, Content, Record, NoHandleFirst, FirstIs, kept, image_of}
use Rattle.uv_arena.specs.Image as arena
use Rattle.uv_memory.proofs.Steps.{walked}
use Rattle.uv_memory.proofs.memory.Memory.walk.Goals as goal

-- the list by its name
front_of : {i : arena.Image Content} {l k : ListName} {d : Id} {h : HandleRecord} → l ≡ k → FirstIs i l d h → FirstIs i k d h
front_of {i = i} {d = d} {h = h} e f = subst (λ l. FirstIs i l d h) e f

none_of : {i : arena.Image Content} {l k : ListName} → l ≡ k → NoHandleFirst i l → NoHandleFirst i k
none_of {i = i} e f = subst (λ l. NoHandleFirst i l) e f

if_none : {X P : Type 0} (r : Option X) → P → IfNone r P
if_none None p = p
if_none (Some x) p = tt

pub returns-in_err-id-clause-none : goal.returns-in_err-id-clause-none
returns-in_err-id-clause-none g c = if_none c.from_residual.result (none_of c.yet.ensures c.in_err-id.ensures.none, (refl, refl, refl))

pub move_on-pending-requires-clause-first : goal.move_on-pending-requires-clause-first
move_on-pending-requires-clause-first g c = (front_of c.yet.ensures (rw (← c.self.view_is) at c.in_ok-id.ensures.some)).first

pub invariant_of-self : goal.invariant_of-self
invariant_of-self g c =
    (walked (image_of (kept c.self.inside)) c.move_on-pending.new.slots.image c.move_on-pending.new.handles c.self.inside.heap.room
    _ _ _ _ _ _ c.self.invariant (rw (← c.self.view_is) at c.in_ok-id.ensures.some).handle c.move_on-pending.ensures.moved
    c.note_walked.ensures).fit

pub returns-clause-recorded : goal.returns-clause-recorded
returns-clause-recorded g c =
    rw (← c.self.view_is) (walked (image_of (kept c.self.inside)) c.move_on-pending.new.slots.image c.move_on-pending.new.handles
    _ _ _ _ _ _ _ c.self.invariant (rw (← c.self.view_is) at c.in_ok-id.ensures.some).handle c.move_on-pending.ensures.moved
    c.note_walked.ensures)

pub returns-clause-front : goal.returns-clause-front
returns-clause-front g c = front_of c.yet.ensures c.in_ok-id.ensures.some

pub returns-clause-does : goal.returns-clause-does
returns-clause-does g c = rw (← c.self.view_is) (record {
  undo = _;
  is = ap (λ (r : Record _). r.change) c.note_walked.ensures;
  does = c.move_on-pending.ensures.moved;
})
