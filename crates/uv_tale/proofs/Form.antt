-- The form of a state by its names is made from its tale.
use Rattle.uv_tale.proofs.Names.{pooled, ◌≡◌, ℕ, List, [], ◌∷◌, true, Option, refl, ap, sym, ◌∙◌, slice_get, slice_get-map, map, option_map, min, Due, Id, Program, arena_size, Place, Main, Running, State, has_id, run_ids, By, base, earlier, earliest, least_start, or_first, or_over, youngest, IsInSlot, capped, capped_place, staled, arranged, arranged_id, buried, named_order, normal, orderly, IsRegular, run_names, tale, in_order, relabeled_entry, has_front, has_behind}
use Rattle.uv_records.specs.declared.lists.WatcherKind.TheVariants as watcher
use Rattle.uv_shift.specs.Earliest.{back}
use Rattle.uv_shift.proofs.Timed.{earliest_timed}
use Rattle.uv_tale.proofs.Made.{made, named_entry, place_id}
use Rattle.uv_tale.proofs.Making.{form_free, form_list, form_names, form_running, form_runs, form_slots, form_timers, form_walk, settled_by}
use Rattle.uv_tale.proofs.Settled.{settled, order_stays}
use Rattle.uv_tale.proofs.Timers.{named_timers}

-- ---- by how much it is later than its earliest form

-- it tells no ids
pub first_other : (g : Id → Id) (ts : List (Due × Id)) (at : ℕ) → or_first (map (λ (t : Due × Id). (t.0, g t.1)) ts) at ≡ or_first ts at
first_other g [] at = refl
first_other g (t ∷ ts) at = refl

pub start_other : (g : Id → Id) (ts : List (Due × Id)) (start : ℕ) →
    least_start (map (λ (t : Due × Id). (t.0, g t.1)) ts) start ≡ least_start ts start
start_other g [] start = refl
start_other g (t ∷ ts) start = ap (min t.0.start) (start_other g ts start)

pub over_capped : (n : ℕ) (place : Place) (at : ℕ) → or_over (capped_place n place) at ≡ or_over place at
over_capped n (Main line) at = refl
over_capped n (Running run) at = refl

same_base : (n : ℕ) (o : List ℕ) (dead : ℕ) (s : State) → base (capped n (staled (arranged o (buried dead s)))) ≡ base s
same_base n o dead s =
    let one = over_capped n s.place (or_first (map (relabeled_entry (in_order o)) s.timers) (min s.time s.clock))
    ∙ ap (or_over s.place) (first_other (arranged_id o) s.timers (min s.time s.clock)) in
    let two = start_other (arranged_id o) s.timers s.next_start in
    λ i. record { ms = one i; starts = two i }

module _ (p : Program) (n : ℕ) (s : State) (regular : IsRegular p s) where
  -- the same, by the order of the state itself
  by_order : normal n (settled p s) ≡ youngest (back (base s) (settled_by p n s regular))
  by_order = ap (λ (o : List ℕ). normal n (arranged o (buried (arena_size p).slots s))) (order_stays p s regular)
      ∙ ap (λ (d : By). youngest (back d (settled_by p n s regular)))
      (same_base n (named_order s) (arena_size p).slots s)

  -- those that wait or run are held
  in_slots : (id : Id) → has_id (run_ids s.running) id ≡ true → IsInSlot s id
  in_slots id e = regular.young.opened id (has_behind s.waiting (run_ids s.running) id e)

  -- what a worker runs there has the place of its name
  pub run_made : (k : ℕ) → slice_get (normal n (settled p s)).running k
      ≡ option_map (option_map (place_id (tale n s).names)) (slice_get (run_names s.arena.slots s.running) k)
  run_made k =
      ap (λ (u : State). slice_get u.running k) by_order
      ∙ ap (λ (xs : List (Option Id)). slice_get xs k) (form_runs p n s regular s.running in_slots)
      ∙ slice_get-map (option_map (place_id (tale n s).names)) (run_names s.arena.slots s.running) k

  pub is_made : pooled n (settled p s) ≡ made (arena_size p).slots (tale n s) (map (named_entry s.arena.slots) (earliest s).timers)
  is_made =
      let k = regular.young in
      let places = form_names p n s regular in
      let slots = form_slots p n s regular in
      let free = form_free p n s regular in
      let timers = form_timers p n s regular (earlier (base s)) s.timers k.timers in
      let list = form_list p n s regular in
      let walk = form_walk p n s regular in
      let ready = list s.ready k.ready in
      let idle = walk s.watchers.idle (k.watchers watcher.Idle) in
      let prepare = walk s.watchers.prepare (k.watchers watcher.Prepare) in
      let check = walk s.watchers.check (k.watchers watcher.Check) in
      let async = walk s.watchers.async (k.watchers watcher.Async) in
      let closing = walk s.closing k.closing in
      let waiting = list s.waiting (λ id e. k.opened id (has_front s.waiting (run_ids s.running) id e)) in
      let running = form_running p n s regular s.running in_slots in
      let done = walk s.done k.done in
      ap orderly by_order ∙ (λ i. record {
        place = (tale n s).place;
        names = places i;
        arena = record { slots = slots i; free = free i; unused = s.arena.unused };
        timers = timers i;
        ready = ready i;
        watchers = record { idle = idle i; prepare = prepare i; check = check i; async = async i };
        closing = closing i;
        waiting = waiting i;
        running = running i;
        done = done i;
        time = (tale n s).numbers.time;
        clock = (tale n s).numbers.clock;
        next_start = (tale n s).numbers.next_start;
        stop_flag = s.stop_flag;
        idled = s.idled;
      })

pub tales_tell : (p : Program) (n : ℕ) (s t : State) → IsRegular p s → IsRegular p t → tale n s ≡ tale n t →
    pooled n (settled p s) ≡ pooled n (settled p t)
tales_tell p n s t h k same =
    let times = (earliest_timed p s h.timed).timers in
    let ticks = (earliest_timed p t k.timed).timers in
    let timers = named_timers n s t h.tidy times k.tidy ticks (λ i. (same i).names) in
    is_made p n s h ∙ (λ i. made (arena_size p).slots (same i) (timers i)) ∙ sym (is_made p n t k)
