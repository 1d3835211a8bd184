-- Slots and ids that are named anew are a change of the state: a step goes as it does.
use Rattle.uv_slots.proofs.Names.{◌≡◌, ◌∙◌, ap, ap₂, sym, arith, Option, Some, None, refl, Id, Content, State, Program, Seen, Event, held, map, option_map, length-map, map-set, slice_get-map, Take, Finish, Tick, content_keeps, content_pends, is_used, next, Change, changed, changed_content, changed_live, changed_body, changed_run, changed_place, changed_line, Comes, Hides, IsWhole, IsExact, work_same, option_same, lines_same, main_same, event_same, stage_same, next_exact, Body, Place, Main, Running, Run, times_same, unchanged, Bool, list_any, Slot, arena_size, with_held, next_free, same_id, taken, freed, Labels, relabeled, relabeled_arena, relabeled_named, relabeled_line, next_map}
use Rattle.uv_work.specs.declared.content.Content.TheVariants as content
use Rattle.uv_slots.proofs.RelabeledSlots.{live_relabeled, named_relabeled}

-- a step from this state can't tell, where slots and ids are named anew
pub record CanRelabel (o : Labels) (p : Program) (s : State) : Type 0 where
  pub same : (a b : Id) → same_id (o.id a) (o.id b) ≡ same_id a b
  pub holds : (x : Id) → held (o.slots s.arena.slots) (o.id x) ≡ held s.arena.slots x
  pub turns : (x : Id) (c : Content) → with_held (o.slots s.arena.slots) (o.id x) c ≡ o.slots (with_held s.arena.slots x c)
  pub any : (test : Option Content → Bool) → list_any (λ (slot : Slot Content). test slot.content) (o.slots s.arena.slots)
      ≡ list_any (λ (slot : Slot Content). test slot.content) s.arena.slots
  pub finds : next_free (relabeled_arena o s.arena) ≡ option_map o.id (next_free s.arena)
  pub takes : (x : Id) (c : Content) → taken (o.id x) c (relabeled_arena o s.arena) ≡ relabeled_arena o (taken x c s.arena)
  pub frees : (x : Id) (c : Content) → held s.arena.slots x ≡ Some c → freed (arena_size p).last_generation (o.id x) (relabeled_arena o s.arena)
      ≡ relabeled_arena o (freed (arena_size p).last_generation x s.arena)

abbrev pub by_relabel : Labels → Change
by_relabel o = record unchanged {
  id = o.id;
  slots = o.slots;
  free = o.free;
  names = map (relabeled_named o);
  waits = map o.id;
  runs = map (option_map o.id);
  ends = map o.id;
}

module _ (o : Labels) where
  content_same : (x : Content) → changed_content (by_relabel o) x ≡ x
  content_same (content.Handle h) = refl
  content_same (content.Request r) = refl

  live_same : (x : Option (Id × Content)) → option_map (λ (t : Id × Content). (o.id t.0, t.1)) x ≡ option_map (changed_live (by_relabel o)) x
  live_same None = refl
  live_same (Some t) = ap (λ x. Some (o.id t.0, x)) (sym (content_same t.1))

  hides_relabel : (p : Program) (s : State) → CanRelabel o p s → Hides (by_relabel o) p s
  hides_relabel p s can = record {
    same = can.same;
    finds = can.finds;
    takes = λ x new e. rw (content_same new) (can.takes x new);
    keeps = can.any content_keeps;
    pends = can.any content_pends;
    uses = can.any is_used;
    times = times_same p s;
    known = λ v. search length-map;
    binds = λ v x e. search (named_relabeled, map-set);
    lines = λ kind v n. lines_same (by_relabel o) (λ v. refl) (λ t. refl) _;
    main = λ line e. main_same (by_relabel o) (λ v. refl) (λ t. refl) _;
    work = work_same;
  }

  whole_relabel : (p : Program) (s : State) → CanRelabel o p s → IsWhole (by_relabel o) p s
  whole_relabel p s can = record {
    holds = λ x. can.holds x ∙ sym (option_same _ content_same (held s.arena.slots x));
    turns = λ x old new e. rw (content_same new) (can.turns x new);
    frees = can.frees;
    over = λ n. refl;
    clocks = refl;
    lives = λ v. live_relabeled o s can.holds v ∙ live_same _;
    queued = λ ids. refl;
    ended = λ ids. refl;
  }

  -- ---- a step

  body_same : (x : Option Body) → option_map (changed_body (by_relabel o)) x ≡ x
  body_same x = option_same _ (λ b. refl) x

  run_same : (run : Run) → changed_run (by_relabel o) run ≡ run
  run_same run = λ i. record run { stage = stage_same (by_relabel o) (λ n. refl) run.stage i; body = body_same run.body i }

  place_same : (place : Place) → changed_place (by_relabel o) place ≡ place
  place_same (Main line) = refl
  place_same (Running run) = ap Running (run_same run)

  changed_same : (s : State) → changed (by_relabel o) s ≡ relabeled o s
  changed_same s = ap (λ place. record (relabeled o s) { place = place }) (place_same s.place)

  line_same : (p : Program) (line : Seen) → changed_line (by_relabel o) p line ≡ relabeled_line o line
  line_same p line = grind arith

  exact : (p : Program) (s : State) → IsExact (by_relabel o) p s
  exact p s = record {
    bound = option_map o.id;
    get = λ u v same. named_relabeled o u v;
    set = λ u v x same. ap (λ ns. record (changed (by_relabel o) u) { names = ns }) (sym (map-set (relabeled_named o) u.names v.0 x));
    body = λ kind v call n. sym (body_same _);
    count = λ n. refl;
  }

  pub next_relabeled : (p : Program) (s : State) (e : Event) → CanRelabel o p s →
      next p (relabeled o s) e ≡ next_map (relabeled o) (relabeled_line o) (next p s e)
  next_relabeled p s e can =
      ap₂ (next p) (sym (changed_same s)) (sym (event_same (by_relabel o) (λ v. refl) e))
      ∙ next_exact (by_relabel o) p s (exact p s) (hides_relabel p s can) (whole_relabel p s can) e (by e)
      ∙ (λ i. next_map (λ u. changed_same u i) (λ l. line_same p l i) (next p s e))
    where
      by : (e : Event) → Comes (by_relabel o) s e
      by (Tick ms) = (refl, refl)
      by (Take k) = (slice_get-map (option_map o.id) s.running k, λ x. sym (map-set (option_map o.id) s.running k x))
      by (Finish k) = (slice_get-map (option_map o.id) s.running k, λ x. sym (map-set (option_map o.id) s.running k x))
      by e = tt
