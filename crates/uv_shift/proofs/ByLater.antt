-- All times later are a change of the state: a step goes as it does.
use Rattle.uv_shift.proofs.Names.{◌≡◌, ◌∙◌, ℕ, ◌+◌, ◌&&◌, ◌<◌, true, Option, Some, None, refl, ap, ap₂, sym, arith, nat_le, Id, Due, Content, State, Program, named, live, arena_size, held, Place, Seen, Event, Take, Finish, Tick, map, option_map, ◌^◌, ◌-◌, is_timer, content_keeps, content_pends, is_used, By, shift, shift_line, ClockFits, due_cmp, Kind, Main, Running, Body, Change, Comes, changed, changed_content, changed_live, changed_body, changed_place, changed_line, Hides, IsWhole, IsExact, next_map}
use Rattle.std.proofs.lemmas.List.{map-id}
use Rattle.uv_script.specs.declared.op.Op.TheVariants as op
use Rattle.uv_records.specs.Dues.{due_after}
use Rattle.uv_work.specs.declared.content.Content.TheVariants as content
use Rattle.uv_model.specs.Next.{next}
use Rattle.uv_shift.proofs.Later.{CanShift, shift_due, shift_if, shift_content, shift_place}
use Rattle.uv_alike.specs.Changed.{Times, unchanged}
use Rattle.uv_alike.proofs.Same.{work_same, option_same, any_same, lines_same, lists_same, main_same, event_same, runs_same}
use Rattle.uv_alike.proofs.Mapped.{slot_of, held_mapped, turns_mapped, finds_mapped, takes_mapped, frees_mapped, live_mapped}
use Rattle.uv_alike.proofs.Exact.{next_exact}

abbrev times_later : By → Times
times_later d = record {
  due = shift_due d;
  due_in = λ active k due. shift_if (active && is_timer k) d due;
  time = λ n. n + d.ms;
  start = λ n. n + d.starts;
}

abbrev pub by_later : By → Change
by_later d = record unchanged { slots = map (slot_of (shift_content d)); times = times_later d; clock = λ n. n + d.ms }

module _ (d : By) where
  content_same : (x : Content) → shift_content d x ≡ changed_content (by_later d) x
  content_same (content.Handle h) = refl
  content_same (content.Request r) = refl

  live_same : (x : Option (Id × Content)) → option_map (λ (t : Id × Content). (t.0, shift_content d t.1)) x ≡ option_map (changed_live (by_later d)) x
  live_same None = refl
  live_same (Some t) = ap (λ x. Some (t.0, x)) (content_same t.1)

  order_later : (a b : Due) → due_cmp (shift_due d a) (shift_due d b) ≡ due_cmp a b
  order_later a b = grind arith

  le_later : (a b : ℕ) → nat_le (a + d.ms) (b + d.ms) ≡ nat_le a b
  le_later a b = grind arith

  left_later : (a b : ℕ) → a + d.ms - (b + d.ms) ≡ a - b
  left_later a b = grind arith

  -- a due time that isn't cut
  due_later : (time start timeout : ℕ) → time + d.ms + timeout < 2 ^ 64 → due_after (time + d.ms) (start + d.starts) timeout
      ≡ shift_due d (due_after time start timeout)
  due_later time start timeout fits = grind arith

  if_timer : (k : Kind) (due : Due) → is_timer k ≡ true → shift_if (true && is_timer k) d due ≡ shift_due d due
  if_timer k due e = rw e refl

  hides_later : (p : Program) (s : State) → CanShift p d s → Hides (by_later d) p s
  hides_later p s can =
      let f = shift_content d in
      record {
        same = λ a b. refl;
        finds = finds_mapped f s.arena;
        takes = λ x new e. rw (sym (content_same new)) (takes_mapped f x new s.arena);
        keeps = any_same f content_keeps (λ x. grind arith) s.arena.slots;
        pends = any_same f content_pends (λ x. grind arith) s.arena.slots;
        uses = any_same f is_used (λ x. grind arith) s.arena.slots;
        times = record {
          order = order_later;
          passed = λ a. le_later a.at s.time;
          left = λ a. left_later a.at s.time;
          rests = λ active k due e. rw e refl;
          ticks = if_timer;
          more = omega arith;
          repeats = λ x h e. due_later s.time s.next_start h.repeat (can.repeats x h e);
          starts = λ at v timeout repeat e. due_later s.time s.next_start timeout (can.starts at (op.Start v timeout repeat) e);
          fires = λ t e due. if_timer t.1.kind due (can.ready t e);
          falls = λ t e due. if_timer t.1.kind due (can.first t e);
          waits = λ n. omega arith;
        };
        known = λ v. refl;
        binds = λ v x e. refl;
        lines = λ kind v n. lines_same (by_later d) (λ v. refl) (λ t. refl) _;
        main = λ line e. main_same (by_later d) (λ v. refl) (λ t. refl) _;
        work = work_same;
      }

  whole_later : (p : Program) (s : State) → IsWhole (by_later d) p s
  whole_later p s =
      let f = shift_content d in
      record {
        holds = λ x. held_mapped f s.arena.slots x ∙ ap (λ g. option_map g (held s.arena.slots x)) (λ i y. content_same y i);
        turns = λ x old new e. rw (sym (content_same new)) (turns_mapped f s.arena.slots x new);
        frees = λ x old e. frees_mapped f (arena_size p).last_generation x s.arena;
        over = λ n. le_later n s.clock;
        clocks = refl;
        lives = λ v. live_mapped f s (changed (by_later d) s) (named s v).id refl ∙ live_same (live s v);
        queued = λ ids. refl;
        ended = λ ids. refl;
      }

  -- ---- a step

  body_same : (x : Option Body) → option_map (changed_body (by_later d)) x ≡ x
  body_same x = option_same _ (λ b. refl) x

  place_same : (place : Place) → changed_place (by_later d) place ≡ shift_place d place
  place_same (Main line) = refl
  place_same (Running run) = ap₂ (λ stage body. Running (record run { stage = stage; body = body })) (grind arith) (body_same run.body)

  changed_same : (s : State) → changed (by_later d) s ≡ shift d s
  changed_same s = lists_same (by_later d) (λ x. refl) s
      ∙ (λ i. record (shift d s) { place = place_same s.place i; waiting = map-id s.waiting i; done = record s.done { list = map-id s.done.list i } })

  line_same : (p : Program) (line : Seen) → changed_line (by_later d) p line ≡ shift_line p d line
  line_same p line = grind arith

  exact : (p : Program) (s : State) → IsExact (by_later d) p s
  exact p s = record {
    bound = λ x. x;
    get = λ u v same. refl;
    set = λ u v x same. refl;
    body = λ kind v call n. sym (body_same _);
    count = λ n. refl;
  }

  ticks : (s : State) (e : Event) → ClockFits (shift d s) e → Comes (by_later d) s e
  ticks s (Tick ms) fits = (omega arith, grind arith)
  ticks s (Take k) fits = runs_same s k
  ticks s (Finish k) fits = runs_same s k
  ticks s e fits = tt

  pub next_later : (p : Program) (s : State) (e : Event) → CanShift p d s → ClockFits (shift d s) e →
      next p (shift d s) e ≡ next_map (shift d) (shift_line p d) (next p s e)
  next_later p s e can fits =
      ap₂ (next p) (sym (changed_same s)) (sym (event_same (by_later d) (λ v. refl) e))
      ∙ next_exact (by_later d) p s (exact p s) (hides_later p s can) (whole_later p s) e (ticks s e fits)
      ∙ (λ i. next_map (λ u. changed_same u i) (λ l. line_same p l i) (next p s e))
