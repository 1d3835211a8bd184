-- What ops answer: what a name stands for by the lines is what it stands for in the state, and so each answer is as the lines tell.
use Rattle.uv_order.proofs.Names.{arith, ◌≡◌, ◌&&◌, ◌||◌, List, ◌∷◌, Bool, true, false, not, length, list_any, if◌then◌else◌, Option, Some, None, Ok, option_map, unwrap_or, slice_get, slice_get_past, nat_lt, nat_tests, ◌≤◌, refl, ap, sym, subst, ◌∙◌, Id, Var, Due, Code, Answer, Op, Program, Request, Content, HandleRecord, Named, is_timer, held, same_id, State, handle, live, live_handle, live_request, do_op, has_id, bound, was_closed, unbound, named, with_id, [], as_request, Seen, Activity, same_Some, timer_refusal, has_take_line, has_cancel_line, Mode, Outcome, Open, Finished, Cancelled, is_open, run_ids, request_in, or_left, or_right, ◌++◌, cond_both, has_some, ◌-◌, ltb-false, live_id, as_handle, Line, due_told, seens, Facts, facts, ids_held, held_as, live_told, is_of, is_invalid, active_told, asked, says_of, says, cancel_says, MakesAs, OpAnswers, is_used}
use Rattle.uv_model.specs.Ops as ops
use Rattle.uv_model.specs.Found.{found_or}
use Rattle.uv_order.proofs.Lemmas.{asked_at, has_both, turned, Kept, Working, live_held}
use Rattle.uv_order.proofs.OpsOnce.{KnownAt}
use Rattle.uv_order.proofs.Started.{StartedAt}
use Rattle.uv_order.proofs.Dated.{DatedAt}
use Rattle.uv_order.proofs.Documents.{its_close}
use Rattle.uv_order.proofs.Heard.{HeardAt, facts_of}
use Rattle.uv_order.proofs.Lives.{lives_is, may_wait_is, either_way, found, is_any, first, some_of}
use Rattle.uv_order.proofs.Worked.{EndsTrue}
use Rattle.uv_order.proofs.Standing.{are_timers}
use Rattle.uv_records.specs.Dues.{due_in}

-- ---- live names

abbrev pub told_of : Id × Content → Id × Facts
told_of t = (t.0, facts_of t.1)

held_now : (p : Program) (past : List Seen) (s : State) (o : Option Id) → HeardAt p past s → held_as p past o ≡ option_map told_of (live_id s o)
held_now p past s o k = grind arith

pub live_now : (p : Program) (past : List Seen) (s : State) (v : Var) → HeardAt p past s → live_told p past v ≡ option_map told_of (live s v)
live_now p past s v k = ap (held_as p past) (grind (arith, nat_tests, ltb-false, slice_get_past)) ∙ held_now p past s (named s v).id k

-- ---- handles

-- what the lines tell of a handle
record Shown (p : Program) (past : List Line) (s : State) (id : Id) (h : HandleRecord) : Type 0 where
  closing : was_closed p (seens past) id ≡ h.closing
  active : active_told p (seens past) s id ≡ h.active
  due : is_timer h.kind ≡ true → (if h.active then (due_told p past id).at - s.time else 0) ≡ due_in s.time h

shown_now : (p : Program) (past : List Line) (s : State) (id : Id) (h : HandleRecord) → handle s id ≡ Some h → Kept s → KnownAt p (seens past) s →
    StartedAt p (seens past) s → DatedAt p past s → Shown p past s id h
shown_now p past s id h e kept w b d = record {
  closing = its_close p (seens past) s id h e w h.closing refl;
  active = ap (λ (x : Activity). x.started && not (has_id s.ready id)) (b.active id h e) ∙ resting (has_id s.ready id) refl;
  due = λ timer. by h.active refl timer;
} where
  resting : (r : Bool) → has_id s.ready id ≡ r → ((r || h.active) && not r) ≡ h.active
  resting r on = grind arith

  by : (x : Bool) → h.active ≡ x → is_timer h.kind ≡ true → (if x then (due_told p past id).at - s.time else 0) ≡ (if x then h.due.at - s.time else 0)
  by x on timer = grind arith

-- an op on a handle answers so, where its record does
abbrev DoneSays : Program → List Line → State → Op → (HandleRecord → Option Code) → (Id → HandleRecord → ops.Done) → Type 0
DoneSays p past s o why f = (id : Id) (h : HandleRecord) → Shown p past s id h →
    (found_or (why h) (ops.refuses s) (f id h)).answer
    ≡ says_of (is_of o h.kind) (is_invalid o (was_closed p (seens past) id) h.begun) (asked p past s o id (facts_of (Content.Handle h)))

handle_says : (p : Program) (past : List Line) (s : State) (o : Op) (v : Var) (why : HandleRecord → Option Code) (f : Id → HandleRecord → ops.Done) →
    DoneSays p past s o why f → Kept s → KnownAt p (seens past) s → StartedAt p (seens past) s → DatedAt p past s → HeardAt p (seens past) s →
    (ops.on_handle s (live_handle s v) why f).answer ≡ says p past s o (live_told p (seens past) v)
handle_says p past s o v why f done kept w b d k = by (live s v) refl ∙ ap (says p past s o) (sym (live_now p (seens past) s v k)) where
  by : (t : Option (Id × Content)) → live s v ≡ t → (ops.on_handle s (as_handle t) why f).answer ≡ says p past s o (option_map told_of t)
  by None e = refl
  by (Some (id, Content.Handle h)) e = done id h (shown_now p past s id h (live_held s v (id, h) (ap as_handle e)) kept w b d)
  by (Some (id, Content.Request r)) e = refl

pub send_says : (p : Program) (past : List Line) (s : State) (v : Var) → Kept s → KnownAt p (seens past) s → StartedAt p (seens past) s →
    DatedAt p past s → HeardAt p (seens past) s →
    Answer.Code (ops.send s (live_handle s v)).code ≡ says p past s (Op.Send v) (live_told p (seens past) v)
send_says p past s v kept w b d k = by (live s v) refl ∙ ap (says p past s (Op.Send v)) (sym (live_now p (seens past) s v k)) where
  by : (t : Option (Id × Content)) → live s v ≡ t →
      Answer.Code (ops.send s (as_handle t)).code ≡ says p past s (Op.Send v) (option_map told_of t)
  by None e = refl
  by (Some (id, Content.Handle h)) e =
      let x = shown_now p past s id h (live_held s v (id, h) (ap as_handle e)) kept w b d in grind (arith, x.closing)
  by (Some (id, Content.Request r)) e = refl

any_has : (ids : List Id) (id : Id) → list_any (same_id id) ids ≡ has_id ids id
any_has [] id = refl
any_has (x ∷ ids) id = grind (arith, turned, any_has ids id)

-- a request that is held waits just where no worker took it, and no cancel of it was accepted
waits_told : (p : Program) (past : List Seen) (s : State) (id : Id) (r : Request) → held s.arena.slots id ≡ Some (Content.Request r) → Working s →
    KnownAt p past s → (has_take_line past id || has_cancel_line p past id) ≡ not (has_id s.waiting id)
waits_told p past s id r e work w = by (has_id s.waiting id) refl where
  its : asked_at s.arena.slots id ≡ Some r
  its = ap request_in e

  ended : (x : Outcome) → r.outcome ≡ x → is_open x ≡ false → (has_take_line past id || has_cancel_line p past id) ≡ true
  ended (Finished digest) f c = or_left _ _ (subst (EndsTrue p past id r.task) f (w.worked.ended id r its)).0
  ended Cancelled f c = or_right _ _ (subst (EndsTrue p past id r.task) f (w.worked.ended id r its)).1
  ended Open f c = cc c

  open_one : has_id s.waiting id ≡ false → is_open r.outcome ≡ true → has_take_line past id ≡ true
  open_one off opened =
      let on : has_id (s.waiting ++ run_ids s.running) id ≡ true = work.open_ones.all id (record { request = r; holds = its; fits = opened }) in
      let runs : has_id (run_ids s.running) id ≡ true = sym (has_both s.waiting (run_ids s.running) id ∙ rw off refl) ∙ on in
      (w.worked.runs_now id runs).0

  away : has_id s.waiting id ≡ false → (b : Bool) → is_open r.outcome ≡ b → (has_take_line past id || has_cancel_line p past id) ≡ true
  away off true f = or_left _ _ (open_one off f)
  away off false f = ended r.outcome refl f

  by : (b : Bool) → has_id s.waiting id ≡ b → (has_take_line past id || has_cancel_line p past id) ≡ not b
  by true on = rw (w.worked.waits id on, w.worked.uncancelled id on) refl
  by false off = away off (is_open r.outcome) refl

pub cancel_answers : (p : Program) (past : List Seen) (s : State) (v : Var) → Working s → KnownAt p past s → HeardAt p past s →
    (ops.cancel s (live_request s v)).answer ≡ cancel_says p past (live_told p past v)
cancel_answers p past s v work w k = by (live s v) refl ∙ ap (cancel_says p past) (sym (live_now p past s v k)) where
  waits : (id : Id) (r : Request) → held s.arena.slots id ≡ Some (Content.Request r) →
      (ops.cancel s (Ok (id, r))).answer ≡ cancel_says p past (Some (id, facts_of (Content.Request r)))
  waits id r e = grind (arith, waits_told, any_has)

  by : (t : Option (Id × Content)) → live s v ≡ t → (ops.cancel s (as_request t)).answer ≡ cancel_says p past (option_map told_of t)
  by None e = refl
  by (Some (id, Content.Handle h)) e = refl
  by (Some (id, Content.Request r)) e = waits id r (grind arith)

-- ---- any op

in_use : (p : Program) (past : List Seen) (s : State) → HeardAt p past s → ops.is_in_use s ≡ has_some (ids_held p past)
in_use p past s k = either_way _ _
    (λ e. let f = found is_used s.arena.slots e in some_of (ids_held p past) f.0 (sym (grind arith) ∙ f.1))
    (λ e. let f = first (ids_held p past) e in is_any is_used s.arena.slots f.id.slot f.id.generation refl (grind arith))

pub op_says : (p : Program) (past : List Line) (s : State) (o : Op) → Kept s → Working s → KnownAt p (seens past) s → StartedAt p (seens past) s →
    DatedAt p past s → HeardAt p (seens past) s → OpAnswers p past s o (do_op s o).answer
op_says p past s (Op.Init v q) kept work w b d k =
    subst (λ (t : Option (Id × Facts)). MakesAs t (do_op s (Op.Init v q)).answer) (sym (live_now p (seens past) s v k)) (grind arith)
op_says p past s (Op.Queue v task) kept work w b d k =
    subst (λ (t : Option (Id × Facts)). MakesAs t (do_op s (Op.Queue v task)).answer) (sym (live_now p (seens past) s v k)) (grind arith)
op_says p past s each kept work w b d k =
    grind (arith, live_now, cancel_answers, handle_says, send_says, lives_is, are_timers, may_wait_is, cond_both, in_use)
