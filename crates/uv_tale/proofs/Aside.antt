-- What holds of a state holds of it in another place, and with other names.
use Rattle.uv_tale.proofs.Names.{◌≡◌, arith, Due, Event, Id, Program, State, IsTimer, ClockFits, IsTimed, IsInSlot, IsYoung}

-- the place and the names are those of the other one
abbrev pub aside : State → State → State
aside s t = record s { place = t.place; names = t.names }

module _ (p : Program) (s t : State) where
  timer_aside : (due : Due) (id : Id) → IsTimer s due id → IsTimer (aside s t) due id
  timer_aside due id k = record { its = k.its; holds = k.holds; kind = k.kind; active = k.active; due = k.due }

  timer_was : (due : Due) (id : Id) → IsTimer (aside s t) due id → IsTimer s due id
  timer_was due id k = record { its = k.its; holds = k.holds; kind = k.kind; active = k.active; due = k.due }

  pub aside_timed : IsTimed p s → IsTimed p (aside s t)
  aside_timed h = record {
    timers = record {
      each = λ due id k. timer_aside due id (h.timers.each due id k);
      all = λ due id k. h.timers.all due id (timer_was due id k);
      sorted = h.timers.sorted;
    };
    fits = record { starts = h.fits.starts; repeats = h.fits.repeats; ready = h.fits.ready; first = h.fits.first };
  }

  slot_aside : (id : Id) → IsInSlot s id → IsInSlot (aside s t) id
  slot_aside id k = record { its = k.its; holds = k.holds }

  pub aside_young : IsYoung p s → IsYoung p (aside s t)
  aside_young h = record {
    timers = λ due id k. slot_aside id (h.timers due id k);
    ready = λ id k. slot_aside id (h.ready id k);
    watchers = λ q id k. slot_aside id (h.watchers q id k);
    closing = λ id k. slot_aside id (h.closing id k);
    opened = λ id k. slot_aside id (h.opened id k);
    done = λ id k. slot_aside id (h.done id k);
    left = h.left;
  }

-- where an event doesn't take the clock beyond its limit
pub clock_same : (s t : State) (e : Event) → t.clock ≡ s.clock → ClockFits s e → ClockFits t e
clock_same s t each same h = grind arith
