-- The earliest form of a young state is young.
use Rattle.uv_generations.proofs.Names.{◌≡◌, ◌+◌, Option, Some, refl, ap, sym, subst, ◌∙◌, arith, option_map, Id, Program, held, Content, State, IsInSlot, IsYoung, retimed_content, By, later, shift, earliest, IsTimed}
use Rattle.uv_shift.specs.Earliest as early
use Rattle.uv_shift.specs.Earliest.{untimed_line}
use Rattle.uv_shift.proofs.Slots.{held_shift}
use Rattle.uv_shift.proofs.Base.{earliest_later}
use Rattle.uv_shift.proofs.Timed.{has_later}

held_earlier : (d : By) (s : State) (id : Id) → IsInSlot (shift d s) id → IsInSlot s id
held_earlier d s id k = by (held s.arena.slots id) refl (sym (held_shift d s.arena.slots id) ∙ k.holds) where
  by : (o : Option Content) → held s.arena.slots id ≡ o → option_map (retimed_content (later d)) o ≡ Some k.its → IsInSlot s id
  by o f g = grind arith

young_earlier : (p : Program) (d : By) (s : State) → IsYoung p (shift d s) → IsYoung p s
young_earlier p d s h = record {
  timers = λ due id k. held_earlier d s id (h.timers (record {
    at = due.at + d.ms;
    start =
        due.start + d.starts;
  }) id (has_later d s.timers due id k));
  ready = λ id k. held_earlier d s id (h.ready id k);
  watchers = λ q id k. held_earlier d s id (h.watchers q id k);
  closing = λ id k. held_earlier d s id (h.closing id k);
  opened = λ id k. held_earlier d s id (h.opened id k);
  done = λ id k. held_earlier d s id (h.done id k);
  left = λ id x e. h.left id (retimed_content (later d) x) (held_shift d s.arena.slots id ∙ ap (option_map (retimed_content (later d))) e);
}

pub earliest_young : (p : Program) (s : State) → IsTimed p s → IsYoung p s → IsYoung p (earliest s)
earliest_young p s h k = young_earlier p (early.base s) (earliest s) (subst (IsYoung p) (sym (earliest_later s h.timers)) k)
