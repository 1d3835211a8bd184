-- The active timers are settled by their handles: they stand in the order in which they are due.
use Rattle.uv_state_key.proofs.Names.{◌≡◌, ap, sym, ◌∙◌, Id, Due, Slots, held, Content, handle_in, State, IsTimer, AreTimers}
use Rattle.uv_tale.proofs.Timers.{same_list}

-- a timer of the one state is one of the other, where their slots are the same
is_timer : (a b : State) (due : Due) (id : Id) → a.arena ≡ b.arena → IsTimer a due id → IsTimer b due id
is_timer a b due id e k = record {
  its = k.its;
  holds = ap (λ (arena : Slots Content). handle_in (held arena.slots id)) (sym e) ∙ k.holds;
  kind = k.kind;
  active = k.active;
  due = k.due;
}

pub same_timers : (a b : State) → a.arena ≡ b.arena → AreTimers a a.timers → AreTimers b b.timers → a.timers ≡ b.timers
same_timers a b e k l = same_list a.timers b.timers k.sorted l.sorted
    (λ due id h. l.all due id (is_timer a b due id e (k.each due id h)))
    (λ due id h. k.all due id (is_timer b a due id (sym e) (l.each due id h)))
