-- A step of the loop from a state whose names are changed so that no step can tell: it is a change of the state.
use Rattle.uv_names.proofs.Names.{◌≡◌, ◌∙◌, ℕ, List, Option, Some, refl, ap, ap₂, sym, arith, slice_set, Event, Id, Var, Callback, Seen, Moves, State, named, live, Place, Main, Running, Run, held, Named, Program, Content, map, map-id, map-set, length-map, Next, next, Refuses, Change, Comes, changed, changed_content, changed_live, changed_run, changed_place, changed_line, Hides, IsWhole, Why}
use Rattle.uv_work.specs.declared.content.Content.TheVariants as content
use Rattle.uv_model.specs.Next as steps
use Rattle.uv_names.proofs.Changed as of_names
use Rattle.uv_names.proofs.Changed.{live_changed, named_changed}
use Rattle.uv_alike.specs.Changed.{unchanged}
use Rattle.uv_alike.proofs.Same.{work_same, option_same, lines_same, lists_same, main_same, event_same, stage_same, times_same}
use Rattle.uv_alike.proofs.Walk.{next_alike, SeesAlike as SeesChanged}

-- two ways to look at a step, by which one from a changed state is one from the state itself: where it moves, and where a callback begins
pub record SeesAlike (p : Program) (f : Named → Named) (c : ℕ → ℕ) (r : List (Option Id) → List (Option Id)) (left right : Next → Next) : Type 0 where
  pub refuses : (why : Why) → left (Refuses why) ≡ right (Refuses why)
  pub stays : (u : State) (line : Option Seen) → left (Moves (of_names.changed f c r u) line) ≡ right (Moves u line)
  pub moves : (u : State) (place : Place) (line : Option Seen) → of_names.changed_place c place ≡ place
      → left (Moves (record (of_names.changed f c r u) { place = place }) line) ≡ right (Moves (record u { place = place }) line)
  pub calls : (u : State) (run : Run) (kind : Callback) (v : Var) (line : Seen)
      → left (steps.calls p (of_names.changed f c r u) (of_names.changed_run c run) kind v line) ≡ right (steps.calls p u run kind v line)
  -- the body of a call goes on
  pub goes : (u : State) (run : Run) (kind : Callback) (v : Var) (call number : ℕ) (line : Seen)
      → left (Moves (record (of_names.changed f c r u) { place = Running (record run { body = steps.body_from p kind v (c call) number }) })
      (Some line))
      ≡ right (Moves (record u { place = Running (record run { body = steps.body_from p kind v call number }) }) (Some line))

module _ (f : Named → Named) (c : ℕ → ℕ) (r : List (Option Id) → List (Option Id)) where
  abbrev pub by_named : Change
  by_named = record unchanged { names = map f; count = c; runs = r }

  content_same : (x : Content) → changed_content by_named x ≡ x
  content_same (content.Handle h) = refl
  content_same (content.Request x) = refl

  live_same : (t : Id × Content) → changed_live by_named t ≡ t
  live_same t = ap (λ x. (t.0, x)) (content_same t.1)

  hides_named : (p : Program) (s : State) → of_names.Hides f s → Hides by_named p s
  hides_named p s can = record {
    same = λ a b. refl;
    finds = sym (option_same _ (λ x. refl) _);
    takes = λ x new e. rw (content_same new) refl;
    keeps = refl;
    pends = refl;
    uses = refl;
    times = times_same p s;
    known = λ v. search length-map;
    binds = λ v x e. ap (λ (n : Named). slice_set (map f s.names) v.0 (record n { id = Some x }))
        (named_changed f of_names.as_is of_names.as_is s v can.unbound)
        ∙ ap (slice_set (map f s.names) v.0) (sym (can.fresh x e (named s v))) ∙ sym (map-set f s.names v.0 (record (named s v) { id = Some x }));
    lines = λ kind v n. lines_same by_named (λ v. refl) (λ t. refl) _;
    main = λ line e. main_same by_named (λ v. refl) (λ t. refl) _;
    work = work_same;
  }

  whole_named : (p : Program) (s : State) → of_names.Hides f s → IsWhole by_named p s
  whole_named p s can = record {
    holds = λ x. sym (option_same _ content_same (held s.arena.slots x));
    turns = λ x old new e. rw (content_same new) refl;
    frees = λ x old e. refl;
    over = λ n. refl;
    clocks = refl;
    lives = λ v. live_changed f of_names.as_is of_names.as_is s can v ∙ sym (option_same _ live_same (live s v));
    queued = λ ids. refl;
    ended = λ ids. refl;
  }

  run_same : (run : Run) → changed_run by_named run ≡ of_names.changed_run c run
  run_same run = ap (λ stage. record (of_names.changed_run c run) { stage = stage }) (stage_same by_named (λ n. refl) run.stage)

  place_same : (place : Place) → changed_place by_named place ≡ of_names.changed_place c place
  place_same (Main line) = refl
  place_same (Running run) = ap Running (run_same run)

  changed_same : (s : State) → changed by_named s ≡ of_names.changed f c r s
  changed_same s = lists_same by_named (λ x. refl) s ∙ (λ i. record (of_names.changed f c r s) {
    place = place_same s.place i;
    timers = map-id s.timers i;
    waiting = map-id s.waiting i;
    done = record s.done { list = map-id s.done.list i };
  })

  line_same : (p : Program) (line : Seen) → changed_line by_named p line ≡ line
  line_same p line = grind arith

  sees : (p : Program) (s : State) (left right : Next → Next) → SeesAlike p f c r left right → SeesChanged by_named p s left right
  sees p s left right old = record {
    refuses = old.refuses;
    stays = λ u line. ap₂ (λ t l. left (Moves t l)) (changed_same u) (option_same _ (line_same p) line) ∙ old.stays u line;
    calls = λ u run kind v line same. ap₂ (λ t q. left (steps.calls p t q kind v (changed_line by_named p line))) (changed_same u) (run_same run)
        ∙ ap (λ l. left (steps.calls p (of_names.changed f c r u) (of_names.changed_run c run) kind v l)) (line_same p line)
        ∙ old.calls u run kind v line;
    goes = λ u run kind v call number line.
        ap₂ (λ (t : State) (q : Run). left (Moves (record t { place = Running (record q { body = steps.body_from p kind v (c call) number }) })
        (Some (changed_line by_named p line)))) (changed_same u) (run_same run)
        ∙ ap (λ l. left (Moves
        (record (of_names.changed f c r u) { place = Running (record run { body = steps.body_from p kind v (c call) number }) }) (Some l)))
        (line_same p line)
        ∙ old.goes u run kind v call number line;
  }

  pub event_alike : (p : Program) (left right : Next → Next) → SeesAlike p f c r left right → (s : State) → of_names.Hides f s →
      (e : Event) → Comes by_named s e → left (next p (of_names.changed f c r s) e) ≡ right (next p s e)
  event_alike p left right old s can e comes =
      ap₂ (λ u x. left (next p u x)) (sym (changed_same s)) (sym (event_same by_named (λ v. refl) e))
      ∙ next_alike by_named p s (hides_named p s can) (whole_named p s can) left right (sees p s left right old) e comes

-- where the workers run what they ran
pub step_alike : (p : Program) (f : Named → Named) (c : ℕ → ℕ) (left right : Next → Next) → SeesAlike p f c of_names.as_is left right →
    (s : State) → of_names.Hides f s → (e : Event) → left (next p (of_names.changed f c of_names.as_is s) e) ≡ right (next p s e)
step_alike p f c left right old s can e = event_alike f c of_names.as_is p left right old s can e (by e) where
  by : (e : Event) → Comes (by_named f c of_names.as_is) s e
  by e = grind arith
