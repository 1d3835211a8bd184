-- A step of the loop from a state in which what it doesn't look at is changed: it is a change of the state.
use Rattle.uv_apart.proofs.Names.{◌≡◌, ◌∙◌, ◌==◌, ◌+◌, List, [], ◌∷◌, true, false, Option, Some, None, Result, Ok, Err, refl, ap, ap₂, sym, subst, arith, nat_le, map-id, same_Some, is_some, Code, Loop, Id, Seen, Program, arena_size, Op, HandleRecord, freed, held, Content, Request, Place, Main, Running, Body, State, front_request, live_id, live_request, named, request, with_id, cancel, Next, Moves, Refuses, cancels, place_asks_done, reads_clock, is_apart, is_apart_at, Answer, same, changed_answer, changed_content, changed_line, changed_place, IsExact, next_map, state_map}
use Rattle.uv_work.specs.declared.content.Content.TheVariants as content
use Rattle.uv_model.specs.Next.{next}
use Rattle.uv_alike.specs.Changed as whole
use Rattle.uv_alike.specs.Hides.{Hides as HidesChange}
use Rattle.uv_alike.proofs.Exact.{loop_exact}
use Rattle.uv_alike.proofs.Ops.{Reads, Cancels, found_handle}
use Rattle.uv_alike.proofs.Same.{work_same, option_same, lines_same, main_same, lists_same, stage_same, times_same}
use Rattle.uv_apart.proofs.Cases.{by_test}
use Rattle.uv_apart.proofs.Changed.{Change, changed, changed_arena, Leaves, Hides, SameDone, SameWork, seen_in, handle_changed, live_handle_changed, next_free_changed, taken_changed, cancel_changed}

-- the state after a step, changed
abbrev as_change : Change → whole.Change
as_change c = record whole.unchanged { slots = c.slots; clock = c.clock; waits = c.waiting; runs = c.running; ends = c.done }

-- where who is done is asked, the step isn't apart
asks_no_done : (p : Program) (place : Place) → place_asks_done place ≡ true → is_apart_at p place ≡ false
asks_no_done p place e = grind arith

live_seen : (id : Id) (o o' : Option Content) → seen_in o' ≡ seen_in o → is_some (with_id id o') ≡ is_some (with_id id o)
live_seen id o o' e = grind arith

module _ (p : Program) (c : Change) where
  content_same : (x : Content) → changed_content (as_change c) x ≡ x
  content_same (content.Handle h) = refl
  content_same (content.Request r) = refl

  answer_same : (a : Answer) (o : Option Op) → changed_answer (as_change c) a o ≡ a
  answer_same a o = grind arith

  line_same : (line : Seen) → changed_line (as_change c) p line ≡ line
  line_same line = grind arith

  place_same : (place : Place) → changed_place (as_change c) place ≡ place
  place_same (Main line) = refl
  place_same (Running run) = λ i. Running (record run
      { stage = stage_same (as_change c) (λ n. refl) run.stage i; body = option_same _ (λ (b : Body). refl) run.body i })

  changed_same : (s : State) → whole.changed (as_change c) s ≡ changed c s
  changed_same s = lists_same (as_change c) (λ x. refl) s ∙ (λ i. record (changed c s) { place = place_same s.place i; timers = map-id s.timers i })

  next_same : (x : Next) → next_map (whole.changed (as_change c)) (changed_line (as_change c) p) x ≡ state_map (changed c) x
  next_same (Moves s line) = ap₂ Moves (changed_same s) (option_same _ line_same line)
  next_same (Refuses why) = refl

  module _ (leaves : Leaves c) (s : State) (hides : Hides c s) where
    hides_change : HidesChange (as_change c) p s
    hides_change = record {
      same = λ a b. refl;
      finds = next_free_changed c leaves s hides ∙ sym (option_same _ (λ x. refl) _);
      takes = λ x new e. rw (content_same new) (taken_changed c leaves s hides s.arena.free x new refl e);
      keeps = hides.keeps;
      pends = hides.pends;
      uses = hides.used;
      times = times_same p s;
      known = λ v. refl;
      binds = λ v x e. refl;
      lines = λ kind v n. lines_same (as_change c) (λ v. refl) (λ t. refl) _;
      main = λ line e. main_same (as_change c) (λ v. refl) (λ t. refl) _;
      work = work_same;
    }

    exact : IsExact (as_change c) p s
    exact = record {
      bound = λ x. x;
      get = λ u v same. refl;
      set = λ u v x same. refl;
      body = λ kind v call n. sym (option_same _ (λ b. refl) _);
      count = λ n. refl;
    }

    -- ---- what the step reads

    request_same : (id : Id) → c.stays id.slot ≡ true → request (changed c s) id ≡ request s id
    request_same id e = rw (leaves.gets s.arena.slots id.slot e) refl

    front_request_same : (ids : List Id) → s.done.yet ≡ ids → front_request (changed c s) ids ≡ front_request s ids
    front_request_same [] e = refl
    front_request_same (id ∷ ids) e = ap (with_id id) (request_same id (hides.ended id ids e))

    request_id : (ids : List Id) (t : Id × Request) → s.done.yet ≡ ids → front_request s ids ≡ Some t → c.stays t.0.slot ≡ true
    request_id [] t e f = cc f
    request_id (id ∷ ids) t e f = by (request s id) f where
      by : (o : Option Request) → with_id id o ≡ Some t → c.stays t.0.slot ≡ true
      by None f = cc f
      by (Some r) f = subst (λ (x : Id × Request). c.stays x.0.slot ≡ true) (same_Some (id, r) t f) (hides.ended id ids e)

    freed_changed : (id : Id) → c.stays id.slot ≡ true → freed (arena_size p).last_generation id (changed c s).arena
        ≡ changed_arena c (freed (arena_size p).last_generation id s.arena)
    freed_changed id e = by_test (changed_arena c) (id.generation == (arena_size p).last_generation)
        (ap (λ slots. record s.arena { slots = slots })
        (leaves.sets s.arena.slots id.slot (record { generation = id.generation; content = None }) e))
        (ap (λ slots. record s.arena { slots = slots; free = id.slot ∷ s.arena.free })
        (leaves.sets s.arena.slots id.slot (record { generation = id.generation + 1; content = None }) e))

    found_itself : (t : Result (Id × HandleRecord) Code) → t ≡ found_handle (as_change c) t
    found_itself (Ok t) = refl
    found_itself (Err code) = refl

    live_there : (o : Option Id) → is_some (live_id (changed c s) o) ≡ is_some (live_id s o)
    live_there None = refl
    live_there (Some id) = live_seen id (held s.arena.slots id) (held (c.slots s.arena.slots) id) (hides.seen id)

    cancel_whole : SameWork c → Cancels (as_change c) s
    cancel_whole same o v =
        ap (λ (u : State). cancel u (live_request u v)) (changed_same s) ∙ cancel_changed c leaves s hides v same
        ∙ (λ i. record {
          state = sym (changed_same (cancel s (live_request s v)).state) i;
          answer = sym (answer_same (cancel s (live_request s v)).answer o) i;
        })

    reads_change : (cancels p s ≡ true → SameWork c) → (is_apart p s ≡ false → SameDone c) → (reads_clock p s ≡ true → c.clock s.clock ≡ s.clock) →
        Reads (as_change c) p s
    reads_change work done time = record {
      handles = λ id. handle_changed c leaves s hides id ∙ sym (option_same _ (λ h. refl) _);
      puts = λ id h is x. rw (content_same x) (leaves.sets s.arena.slots id.slot _ (hides.handles id h is));
      frees = λ id h is. freed_changed id (hides.handles id h is);
      found = ap (front_request (changed c s)) (map-id s.done.yet) ∙ front_request_same s.done.yet refl ∙ sym (option_same _ (λ t. refl) _);
      collects = λ t e. freed_changed t.0 (request_id s.done.yet t refl e);
      lives = λ v. live_handle_changed c leaves s hides v ∙ found_itself _;
      is_live = λ v. live_there (named s v).id;
      queues = λ id. sym (hides.waits id);
      cancelled = λ e o v. cancel_whole (work e) o v;
      clocks = λ e. (time e, λ n. ap (nat_le n) (time e));
      done = λ e. let same = done (asks_no_done p s.place e) in (same [], same s.done.list ∙ sym (map-id s.done.list));
    }

pub next_changed : (p : Program) (c : Change) (leaves : Leaves c) (s : State) (hides : Hides c s) →
    (cancels p s ≡ true → SameWork c) → (is_apart p s ≡ false → SameDone c) → (reads_clock p s ≡ true → c.clock s.clock ≡ s.clock) →
    next p (changed c s) Loop ≡ state_map (changed c) (next p s Loop)
next_changed p c leaves s hides work done time =
    ap (λ (u : State). next p u Loop) (sym (changed_same p c s))
    ∙ loop_exact (as_change c) p s (exact p c leaves s hides) (hides_change p c leaves s hides) (reads_change p c leaves s hides work done time)
    ∙ next_same p c (next p s Loop)
