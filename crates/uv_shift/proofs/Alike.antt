-- A step of a state is that of its earliest form, later.
use Rattle.uv_shift.proofs.Names.{◌≡◌, ap, sym, ◌∙◌, Event, Program, State, subst, TimesFit, ClockFits, shift, base, earliest, IsTimed, next_map, shift_line}
use Rattle.uv_model.specs.Next.{next}
use Rattle.uv_shift.proofs.Steps.{next_shift}
use Rattle.uv_shift.proofs.Base.{earliest_later}

pub earliest_next : (p : Program) (s : State) (e : Event) → IsTimed p s → ClockFits s e →
    next p s e ≡ next_map (shift (base s)) (shift_line p (base s)) (next p (earliest s) e)
earliest_next p s e h k =
    let same = earliest_later s h.timers in
    ap (λ x. next p x e) (sym same)
    ∙ next_shift p (base s) (earliest s) e (subst (TimesFit p) (sym same) h.fits) (subst (λ (x : State). ClockFits x e) (sym same) k)
