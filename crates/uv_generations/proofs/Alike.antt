-- A step of a state is that of its youngest form, freed more often.
use Rattle.uv_generations.proofs.Names.{◌≡◌, ℕ, length, ap, sym, ◌∙◌, arith, Event, Program, State, held, ◌≤◌, next, CanRename, freed_less, freed_more, rename, least_of, surplus, youngest, IsYoung, slice_get_past, next_map, relabeled_line, more}
use Rattle.uv_generations.proofs.Slots.{by_frees, held_renamed, length_renamed, next_renamed}
use Rattle.uv_generations.proofs.Base.{youngest_more}

-- a slot that was never used was never freed
base_unused : (s : State) (slot : ℕ) → length s.arena.slots ≤ slot → surplus s slot ≡ 0
base_unused s slot l = ap (least_of slot s.names) (slice_get_past s.arena.slots slot l)

youngest_can : (p : Program) (s : State) → IsYoung p s → CanRename p (surplus s) (youngest s)
youngest_can p s h =
    let same = youngest_more p s h in
    let used = length_renamed (freed_less (surplus s)) s.arena.slots in
    let older = rename (freed_more (surplus s)) in
    record {
      unused = base_unused s (length (youngest s).arena.slots) (omega (arith, used));
      left = λ id x e. h.left (older id) x
          (ap (λ (u : State). held u.arena.slots (older id)) (sym same) ∙ held_renamed (surplus s) (youngest s).arena.slots id ∙ e);
    }

pub youngest_next : (p : Program) (s : State) (e : Event) → IsYoung p s →
    next p s e ≡ next_map (more (surplus s)) (relabeled_line (by_frees (surplus s))) (next p (youngest s) e)
youngest_next p s e h = ap (λ (x : State). next p x e) (sym (youngest_more p s h)) ∙ next_renamed p (surplus s) (youngest s) e (youngest_can p s h)
