-- The timers of the entry and of an iteration, and callbacks: each step goes on from where the state stands.
use Rattle.uv_order.proofs.Names.{arith, ◌≡◌, inl, ℕ, ◌==◌, List, ◌∷◌, ◌++◌, Bool, true, false, drop, subst, nat_tests, Option, Some, None, nat_le, refl, ap, sym, ◌∙◌, append_assoc, append-nil, if◌then◌else◌, cond_both, not, Id, Var, Due, Callback, Program, order_of, from_heap, HandleRecord, Named, Run, TimersOf, Turn, Behind, Way, ToTimers, ToPending, ToEnd, Collecting, Firing, State, handle, with_id, front, named, with_named, counted, count_of, stopped, started, restarted, Moves, goes, call, first_due, collected, body_from, Told, AreDue, AreTimers, NoneDue, lasting, Section, Entry, In, word_of, part_after, part_of, Opens, IsOver, CallsNext, callback_in, Standing, Within, MayLeave, Running, body_of, next_call, found_both, Phase, Seen, Stage, next, option_map, [], Names}
use Rattle.uv_model.specs.Next as step
use Rattle.uv_order.specs.Documented as doc
use Rattle.uv_order.specs.Documented.{Walk}
use Rattle.uv_order.proofs.Lemmas.{left_of, none_off, all_off, first_left, due_ids, none_due, is_held, name_in, name_at, Fits, IsSet, Times, Kept, FrontOf, front_of, FirstOf, first_of, IsBody, Counted, counted_call, told_call, next_body, Rests}
use Rattle.uv_order.proofs.KeptSteps.{no_front}
use Rattle.uv_order.proofs.Lives.{goes_is, lives_is}
use Rattle.uv_order.proofs.Standing.{follows_to, StandsAt, left_all, begun_with, section_of, Rest, rest, Leaves, NobodyLeft, due_now, Follows, left, reached_by, timers_last, no_answer, are_timers, due_distinct, pending, collects, fires, calls_due, between, running, Has, StandsIn, waiting}

-- ---- callbacks

pub named_of : (s : State) (t : Id × HandleRecord) → handle s t.0 ≡ Some t.1 → name_at s.arena.slots t.0 ≡ Some t.1.name
named_of s t e = ap (option_map name_in) (is_held s.arena.slots t.0 t.1 e)

-- the names after a call
abbrev pub called_names : State → Callback → Var → List Named
called_names s kind v = (with_named s v (record (named s v) { calls = counted kind (named s v).calls })).names

pub call_counted : (p : Program) (told : Told) (s : State) (kind : Callback) (v : Var) (id : Id) → Counted p s.names told →
    Counted p (called_names s kind v) (told_call kind v id told)
call_counted p told s kind v id c = counted_call p s.names told kind v id (record (named s v) { calls = counted kind (named s v).calls }) refl c

pub its_body : (p : Program) (told : Told) (s : State) (kind : Callback) (v : Var) → Counted p s.names told →
    IsBody p (body_from p kind v (count_of kind (counted kind (named s v).calls)) 0) (body_of p kind v (next_call told kind v))
its_body p told s kind v c = grind (arith, next_body)

-- the walk with a member called
abbrev pub called : Program → Told → Callback → Walk → List Id → Var → Walk
called p told kind w behind v = record w { ahead = behind; body = body_of p kind v (next_call told kind v) }

-- those that are ready are left, and nobody else
abbrev pub OnlyReady : Rest → Walk → Type 0
OnlyReady r w = Leaves r (Within Entry w)

pub timers_left : (part : TimersOf) (r : Rest) (w : Walk) → OnlyReady r w → Leaves r (Within (section_of part) w)
timers_left part r w l = grind arith

pub left_timers : (part : TimersOf) (r : Rest) (w : Walk) → Leaves r (Within (section_of part) w) → OnlyReady r w
left_timers part r w l = grind arith

-- ---- the calls of timers

pub timers_over : (part : TimersOf) (w : Walk) → w.body ≡ [] → doc.AllOff w.off w.ahead → IsOver (word_of (section_of part)) w
timers_over part w b o = grind arith

-- none is due, where they are called straight from their heap
pub none_due_now : (part : TimersOf) (p : Program) (s : State) → (from_heap p ≡ true → AreDue s []) →
    NoneDue (word_of (section_of part)) (from_heap p) s
none_due_now part p s none = by part (from_heap p) refl where
  by : (part : TimersOf) (heap : Bool) → from_heap p ≡ heap → NoneDue (word_of (section_of part)) heap s
  by TimersOf.Entry true heap = none heap
  by each true heap = none heap
  by TimersOf.Entry false heap = tt
  by each false heap = tt

pub one_more : (time : ℕ) (t : Due × Id) (ts : List (Due × Id)) → nat_le t.0.at time ≡ true → due_ids time (t ∷ ts) ≡ t.1 ∷ due_ids time ts
one_more time t ts e = rw e refl

-- with no first timer due, none is
pub late_due : (s : State) (ts : List (Due × Id)) (drawn : ℕ) → Times s.arena.slots drawn ts → first_due s ts ≡ None → due_ids s.time ts ≡ []
late_due s [] drawn k e = refl
late_due s (t ∷ ts) drawn k e = at (nat_le t.0.at s.time) refl e where
  is_held : Fits s.arena.slots (IsSet t.0) t.1
  is_held = (k.each t.0 t.1 (inl (refl, refl))).0

  at : (b : Bool) → nat_le t.0.at s.time ≡ b → ◌≡◌ {A = Option (Id × HandleRecord)} (if b then with_id t.1 (handle s t.1) else None) None → due_ids
      s.time (t ∷ ts) ≡ []
  at true due f = cc (ap (with_id t.1) (sym is_held.holds) ∙ f)
  at false late f = none_due s.time t ts k.sorted late

-- none is due, where the first one isn't
none_is_due : (s : State) → Kept s → first_due s s.timers ≡ None → AreDue s []
none_is_due s k e = record {
  timers = s.timers;
  are = are_timers s s.timers s.next_start k.timers;
  due = sym (late_due s s.timers s.next_start k.timers e);
  distinct = tt;
}

-- nobody is left of no list
none_ready : (part : TimersOf) (s : State) (w : Walk) → w.ahead ≡ [] → Leaves (rest s.ready s) (Within (section_of part) w) →
    NobodyLeft (rest s.ready s)
none_ready part s w none l = grind arith

-- nor is anybody once a timer is taken off
none_stopped : (s : State) (id : Id) (h : HandleRecord) → NobodyLeft (rest s.ready s) → NobodyLeft (rest (stopped s id h).ready (stopped s id h))
none_stopped s id h e = grind arith

timers_are : (part : TimersOf) → word_of (section_of part) ≡ Phase.Timers
timers_are part = grind arith

-- ---- the steps

module _ (p : Program) (told : Told) (names : Names) (s : State) (h : Has p told names s) where
  -- the callback of a handle begins in a section, in a state that may have changed
  pub call_follows : (u : State) (run : Run) (x : Stage) (part : Section) (w : Walk) (t : Id × HandleRecord) (behind : List Id) →
      callback_in (word_of part) ≡ Callback.Handle → CallsNext (word_of part) told w t.0 behind → handle s t.0 ≡ Some t.1 → u.names ≡ s.names →
      lasting u ≡ lasting s → StandsIn p x (Within part (called p told Callback.Handle w behind t.1.name)) →
      Leaves (rest (waiting x (from_heap p) u.ready (due_now u)) u) (Within part (called p told Callback.Handle w behind t.1.name)) →
      Follows p told names (Running run.mode run.line (Within part w)) s (call p u (record run { stage = x }) t.0 t.1.name)
  call_follows u run x part w t behind is next e same lasts on l =
      let v = t.1.name in
      let c : Counted p u.names told = rw same h.counted in
      follows_to (doc.call Callback.Handle v t.0 behind is next (h.agrees.made t.0 v (named_of s t e)) refl lasts)
      (running (its_body p told u Callback.Handle v c) on l) (call_counted p told u Callback.Handle v t.0 c)

  -- a run goes on from a turn
  pub turn_follows : (run : Run) (turn : Turn) (at : Standing) → part_of at ≡ left turn → MayLeave p s told at → NobodyLeft (rest s.ready s) →
      Follows p told names (Running run.mode run.line at) s (step.turns (order_of p) s run turn)
  turn_follows run turn at is over e =
      by (step.way (order_of p) run.mode (goes s) turn) (ap (λ (b : Bool). part_after (order_of p) run.mode b (part_of at))
      (goes_is s (lives_is s h.working)) ∙ grind arith)
    where
      due : TimersOf → List Id
      due part = due_ids (step.time_at (order_of p) part s) s.timers

      begun : TimersOf → State
      begun part = step.at (record s { time = step.time_at (order_of p) part s; idled = step.idled_at (order_of p) part s }) run
          (Stage.Timers part Collecting)

      woken : Bool
      woken = doc.woken_at at

      -- those that are due, unless they are called straight from their heap
      ahead : Bool → TimersOf → List Id
      ahead true part = []
      ahead false part = due part

      list : (part : TimersOf) (heap : Bool) → doc.ListIf (not heap) Phase.Timers (record {
        before = s;
        seen = Seen.Section Phase.Timers;
        after = begun part;
      }) (ahead heap part)
      list part true = refl
      list part false = record {
        timers = s.timers;
        are = are_timers _ s.timers s.next_start h.kept.timers;
        due = refl;
        distinct = due_distinct s (step.time_at (order_of p) part s) h.kept;
      }

      opens : (part : TimersOf) → Opens p Phase.Timers told woken (record {
        before = s;
        seen = Seen.Section Phase.Timers;
        after = begun part;
      }) (begun_with woken (ahead (from_heap p) part))
      opens part = record { list = list part (from_heap p); off = refl; sent = refl; body = refl; kept = refl }

      stands : (part : TimersOf) (heap : Bool) → from_heap p ≡ heap →
          StandsAt p (begun part) (begun part).place (Running run.mode run.line (Within (section_of part) (begun_with woken (ahead heap part))))
      stands part true heap = running refl (calls_due heap refl) (rw heap (timers_left part _ _ (assumption (e.timers, e))))
      stands part false heap = running refl (collects heap refl) (grind (arith, timers_left, none_off))

      by : (w : Way) → part_after (order_of p) run.mode (doc.goes_on s) (part_of at) ≡ reached_by w →
          Follows p told names (Running run.mode run.line at) s (step.goes_by (order_of p) s run w)
      by (ToTimers TimersOf.Entry) g = follows_to (doc.section Entry over g refl (opens TimersOf.Entry)
          (timers_last (order_of p) TimersOf.Entry s ∙ no_answer (order_of p) at turn Entry s is))
          (stands TimersOf.Entry (from_heap p) refl) h.counted
      by (ToTimers TimersOf.Iteration) g = follows_to (doc.section (In Phase.Timers) over g refl (opens TimersOf.Iteration)
          (timers_last (order_of p) TimersOf.Iteration s ∙ no_answer (order_of p) at turn (In Phase.Timers) s is))
          (stands TimersOf.Iteration (from_heap p) refl) h.counted
      by ToPending g = follows_to (doc.section (In Phase.Pending) over g refl
          (record { list = refl; off = refl; sent = refl; body = refl; kept = refl }) (grind arith)) (running refl (pending refl) (assumption e))
          h.counted
      by ToEnd g = follows_to (doc.ends over g (ap Seen.End (sym (lives_is s h.working))) refl) (between (assumption e)) h.counted

  -- a timer is called from the ready list, in a state that may have started it again
  pub call_timer : (u : State) (run : Run) (part : TimersOf) (w : Walk) (t : Id × HandleRecord) → handle s t.0 ≡ Some t.1 → u.names ≡ s.names →
      lasting u ≡ lasting s → OnlyReady (rest (t.0 ∷ u.ready) u) w → w.body ≡ [] → from_heap p ≡ false →
      Follows p told names (Running run.mode run.line (Within (section_of part) w)) s
      (call p u (record run { stage = Stage.Timers part Firing }) t.0 t.1.name)
  call_timer u run part w t e same lasts o b heap =
      let next = first_left w.ahead w.off t.0 u.ready (sym o.timers) in
      call_follows u run (Stage.Timers part Firing) (section_of part) w t next.behind (grind arith) (grind arith) e same lasts (fires heap)
      (timers_left part _ _ (assumption (next.left, o)))

  pub fire_follows : (run : Run) (part : TimersOf) (w : Walk) → Leaves (rest s.ready s) (Within (section_of part) w) → w.body ≡ [] →
      from_heap p ≡ false → Follows p told names (Running run.mode run.line (Within (section_of part) w)) s (step.fire p s run part)
  fire_follows run part w l b heap =
      found_both (front s s.ready) _ _ (Follows p told names (Running run.mode run.line (Within (section_of part) w)) s)
      (λ t e. fired t (front_of s s.ready t e))
      (λ e. let none : s.ready ≡ [] = no_front s Rests [] s.ready h.kept.ready.each e in
      turn_follows run (Behind part) (Within (section_of part) w) refl (
        timers_over part w b (all_off w.ahead w.off (sym o.timers ∙ none)),
        none_due_now part p s (λ on. absurd (cc (on, heap))),
      ) (assumption (none, o)))
    where
      o : OnlyReady (rest s.ready s) w
      o = left_timers part (rest s.ready s) w l

      fired : (t : Id × HandleRecord) → FrontOf s s.ready t → Follows p told names (Running run.mode run.line (Within (section_of part) w)) s
          (call p (restarted (record s { ready = drop 1 s.ready }) t.0 t.1) (record run { stage = Stage.Timers part Firing }) t.0 t.1.name)
      fired t f =
          let u : State = record s { ready = drop 1 s.ready } in
          let only : OnlyReady (rest (t.0 ∷ drop 1 s.ready) u) w = assumption (sym f.are ∙ o.timers, o) in
          cond_both (t.1.repeat == 0) u (started u t.0 t.1 t.1.repeat t.1.repeat)
          (λ (x : State). Follows p told names (Running run.mode run.line (Within (section_of part) w)) s
          (call p x (record run { stage = Stage.Timers part Firing }) t.0 t.1.name))
          (λ z. call_timer u run part w t f.holds refl refl only b heap)
          (λ z. call_timer (started u t.0 t.1 t.1.repeat t.1.repeat) run part w t f.holds refl refl (assumption only) b heap)

  pub collect_follows : (run : Run) (part : TimersOf) (w : Walk) → Leaves (rest (s.ready ++ due_now s) s) (Within (section_of part) w) → w.body ≡ [] →
      from_heap p ≡ false → Follows p told names (Running run.mode run.line (Within (section_of part) w)) s (step.collect p s run part)
  collect_follows run part w l b heap =
      found_both (first_due s s.timers) _ _ (Follows p told names (Running run.mode run.line (Within (section_of part) w)) s)
      (λ t e. moved t (first_of s s.timers t e)) (λ e. fire_follows run part w (timers_left part (rest s.ready s) w (assumption
      (sym (append-nil s.ready) ∙ ap (λ (ids : List Id). s.ready ++ ids) (sym (late_due s s.timers s.next_start h.kept.timers e)) ∙ o.timers, o)))
      b heap)
    where
      o : OnlyReady (rest (s.ready ++ due_now s) s) w
      o = left_timers part (rest (s.ready ++ due_now s) s) w l

      moved : (t : Id × HandleRecord) → FirstOf s s.timers t → Follows p told names (Running run.mode run.line (Within (section_of part) w)) s
          (Moves (step.at (collected s t.0 t.1) run (Stage.Timers part Collecting)) None)
      moved t f =
          let later : List (Due × Id) = drop 1 s.timers in
          let all : due_now s ≡ t.0 ∷ due_ids s.time later = ap (due_ids s.time) f.are ∙ one_more s.time (f.key, t.0) later f.due in
          let same : (s.ready ++ t.0 ∷ []) ++ due_ids s.time later ≡ left_of w.ahead w.off =
          append_assoc s.ready (t.0 ∷ []) (due_ids s.time later) ∙ ap (λ (ids : List Id). s.ready ++ ids) (sym all) ∙ o.timers in
          let only : OnlyReady (rest ((s.ready ++ t.0 ∷ []) ++ due_ids s.time later) (collected s t.0 t.1)) w = assumption (same, o) in
          (record { stands = running b (collects heap b) (rw heap (timers_left part _ w only)); counted = h.counted }, refl)

  -- the first timer is called straight from the heap where it is due, in a state in which it was started again or not
  call_due_timer : (u : State) (run : Run) (part : TimersOf) (w : Walk) (t : Id × HandleRecord) → FirstOf s s.timers t → u.names ≡ s.names →
      lasting u ≡ lasting s → NobodyLeft (rest u.ready u) → w.ahead ≡ [] → w.body ≡ [] → from_heap p ≡ true →
      Follows p told names (Running run.mode run.line (Within (section_of part) w)) s
      (call p u (record run { stage = Stage.Timers part Collecting }) t.0 t.1.name)
  call_due_timer u run part w t f same lasts e none b heap =
      let v = t.1.name in
      let c : Counted p u.names told = rw same h.counted in
      follows_to (doc.fires v t.0 f.key (drop 1 s.timers) heap (timers_are part) b
      (subst (AreTimers s) f.are (are_timers s s.timers s.next_start h.kept.timers)) (grind (arith, nat_tests, f.due))
      (h.agrees.made t.0 v (named_of s t f.holds)) refl lasts)
      (running (its_body p told u Callback.Handle v c) (calls_due heap none) (rw heap (timers_left part (rest u.ready u) _
      (assumption (e.timers ∙ sym (ap (λ (ids : List Id). left_of ids w.off) none), e))))) (call_counted p told u Callback.Handle v t.0 c)

  pub call_due_follows : (run : Run) (part : TimersOf) (w : Walk) → Leaves (rest s.ready s) (Within (section_of part) w) → w.ahead ≡ [] →
      w.body ≡ [] → from_heap p ≡ true → Follows p told names (Running run.mode run.line (Within (section_of part) w)) s (step.call_due p s run part)
  call_due_follows run part w l none b heap =
      found_both (first_due s s.timers) _ _ (Follows p told names (Running run.mode run.line (Within (section_of part) w)) s)
      (λ t due. called_due t (first_of s s.timers t due))
      (λ late. turn_follows run (Behind part) (Within (section_of part) w) refl
      (timers_over part w b (rw none tt), none_due_now part p s (λ on. none_is_due s h.kept late)) e)
    where
      e : NobodyLeft (rest s.ready s)
      e = none_ready part s w none l

      called_due : (t : Id × HandleRecord) → FirstOf s s.timers t → Follows p told names (Running run.mode run.line (Within (section_of part) w)) s
          (call p (restarted (stopped s t.0 t.1) t.0 t.1) (record run { stage = Stage.Timers part Collecting }) t.0 t.1.name)
      called_due t f =
          let u : State = stopped s t.0 t.1 in
          let off = none_stopped s t.0 t.1 e in
          cond_both (t.1.repeat == 0) u (started u t.0 t.1 t.1.repeat t.1.repeat)
          (λ (x : State). Follows p told names (Running run.mode run.line (Within (section_of part) w)) s
          (call p x (record run { stage = Stage.Timers part Collecting }) t.0 t.1.name))
          (λ z. call_due_timer u run part w t f refl refl off none b heap)
          (λ z. search (call_due_timer, left_all))
