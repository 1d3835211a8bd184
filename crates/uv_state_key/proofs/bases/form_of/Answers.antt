use Rattle.uv_state_key.proofs.Names.{◌≡◌, List, ap, ap₂, ◌∙◌, arith, min, Id, after, Numbers, Place, reached, or_over, first_at, least_among}
use Rattle.uv_state_key.proofs.ComputedLemmas.{first_same, least_same}
use Rattle.uv_state_key.proofs.bases.form_of.Goals as goal

pub returns-clause-by : goal.returns-clause-by
returns-clause-by g c =
    let p = g.M.Machine.program c.args.machine.now in
    let events = g.M.Machine.standing c.args.machine.now in
    let s = after p events in
    let each = (reached p events).timers.each in
    let time : c.min.result ≡ min s.time s.clock =
    (grind arith) in
    let first = c.first_at-at.ensures
    ∙ ap₂ (λ (ids : List Id) at. first_at s ids at) (c.as_slice.ensures.value ∙ c.in-Ok.ensures.timers) time
    ∙ first_same s s.timers (min s.time s.clock) each in
    let starts = c.least_among.ensures
    ∙ ap₂ (λ (ids : List Id) start. least_among s ids start) (c.as_slice-2.ensures.value ∙ c.in-Ok.ensures.timers)
    (ap (λ (n : Numbers). n.next_start) c.numbers-numbers.ensures)
    ∙ least_same s s.timers s.next_start each in
    let ms = c.or_over.ensures ∙ ap₂ (λ (place : Place) at. or_over place at) c.place.ensures first in
    λ i. record { ms = ms i; starts = starts i }
