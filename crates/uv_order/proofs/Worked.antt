-- What the lines of a trace tell of requests, and how each change keeps it.
use Rattle.uv_order.proofs.Names.{arith, ◌≡◌, ◌⊎◌, inl, inr, ℕ, List, ◌∷◌, Bool, true, false, Option, Some, None, refl, ap, sym, subst, ◌∙◌, if◌then◌else◌, false_from_ne_true, same_Some, none-some, Id, Var, Seen, Site, Task, Program, op_at, Slots, held, is_open, queued, digest_in, Outcome, Open, Finished, Cancelled, Content, Request, request_in, same_id, has_id, answered, queued_by, first_of, queued_task, is_take_line, has_take_line, is_cancel_line, has_cancel_line, is_finish_line, has_finish_line, is_after_line, has_after_line, SaysTrue, Slot, Answer, Op}
use Rattle.uv_order.proofs.Lemmas.{same, itself, turned, Turns, turned_to, asked_at, SameRequests, IsGone, not_held}

-- ---- what is known

-- what the lines tell of a request that ended
abbrev pub EndsTrue : Program → List Seen → Id → Task → Outcome → Type 0
EndsTrue p past id task Open = Unit {0}
EndsTrue p past id task (Finished digest) = SaysTrue p past id task (Some digest)
EndsTrue p past id task Cancelled = SaysTrue p past id task None

-- it is held still, or its id is gone
pub record IsAsked (arena : Slots Content) (id : Id) : Type 0 where
  pub request : Request
  pub holds : asked_at arena.slots id ≡ Some request

-- the requests that are held were queued as the lines tell; those that wait have no `out take` line, and no cancel of them was accepted;
-- those that are run have one, but no `out finish` line; what ended did so as the lines tell. An id of which the lines tell anything was
-- queued, and is held or gone; it is gone once it has its `after` line
pub record Worked (p : Program) (past : List Seen) (arena : Slots Content) (waiting runs : List Id) : Type 0 where
  pub queued : (id : Id) (r : Request) → asked_at arena.slots id ≡ Some r → queued_task p past id ≡ Some r.task
  pub known : (id : Id) (task : Task) → queued_task p past id ≡ Some task → IsAsked arena id ⊎ IsGone arena.slots arena.free id
  pub over : (id : Id) → has_after_line past id ≡ true → IsGone arena.slots arena.free id
  pub taken : (id : Id) → has_take_line past id ≡ true → queued_task p past id ≡ None → ⊥
  pub finished : (id : Id) → has_finish_line past id ≡ true → has_take_line past id ≡ true
  pub waits : (id : Id) → has_id waiting id ≡ true → has_take_line past id ≡ false
  pub runs_now : (id : Id) → has_id runs id ≡ true → (has_take_line past id ≡ true) × (has_finish_line past id ≡ false)
  pub ended : (id : Id) (r : Request) → asked_at arena.slots id ≡ Some r → EndsTrue p past id r.task r.outcome
  pub cancelled : (id : Id) → has_cancel_line p past id ≡ true → queued_task p past id ≡ None → ⊥
  pub uncancelled : (id : Id) → has_id waiting id ≡ true → has_cancel_line p past id ≡ false

-- a held request isn't gone
not_gone : (arena : Slots Content) (id : Id) (r : Request) → held arena.slots id ≡ Some (Content.Request r) → IsGone arena.slots arena.free id → ⊥
not_gone arena id r e g = not_held arena.slots arena.free id (Content.Request r) g e

-- so it has had no after callback
pub not_called : (p : Program) (past : List Seen) (arena : Slots Content) (waiting runs : List Id) (id : Id) (r : Request) →
    held arena.slots id ≡ Some (Content.Request r) → Worked p past arena waiting runs → has_after_line past id ≡ false
not_called p past arena waiting runs id r e k = false_from_ne_true (has_after_line past id) (λ h. not_gone arena id r e (k.over id h))

-- ---- lines

-- a line that tells nothing of requests, but of the cancel of those that this says
pub record Tells (p : Program) (l : Seen) (told : Id → Bool) : Type 0 where
  pub queued : (id : Id) → queued_by (answered p l) id ≡ None
  pub taken : (id : Id) → is_take_line l id ≡ false
  pub finished : (id : Id) → is_finish_line l id ≡ false
  pub over : (id : Id) → is_after_line l id ≡ false
  pub cancelled : (id : Id) → is_cancel_line p l id ≡ told id

abbrev pub IsIdle : Program → Seen → Type 0
IsIdle p l = Tells p l (λ id. false)

-- they were queued, and wait no more
pub worked_told : (p : Program) (past : List Seen) (l : Seen) (arena : Slots Content) (waiting runs : List Id) (told : Id → Bool) →
    Tells p l told → ((i : Id) → told i ≡ true → queued_task p past i ≡ None → ⊥) → ((i : Id) → has_id waiting i ≡ true → told i ≡ false) →
    Worked p past arena waiting runs → Worked p (l ∷ past) arena waiting runs
worked_told p past l arena waiting runs told q were away k = record {
  queued = λ i r e. grind (arith, q.queued i);
  known = λ i task e. grind (arith, q.queued i);
  over = λ i e. grind (arith, q.over i);
  taken = λ i e f. grind (arith, q.taken i, q.queued i);
  finished = λ i e. grind (arith, q.taken i, q.finished i);
  waits = λ i e. grind (arith, q.taken i);
  runs_now = λ i e. grind (arith, q.taken i, q.finished i);
  ended = λ i r e. grind (arith, q.taken i, q.finished i, q.cancelled i, k.ended i r e);
  cancelled = λ i e f. grind (arith, q.cancelled i, q.queued i);
  uncancelled = λ i e. grind (arith, q.cancelled i);
}

pub worked_idle : (p : Program) (past : List Seen) (l : Seen) (arena : Slots Content) (waiting runs : List Id) → IsIdle p l →
    Worked p past arena waiting runs → Worked p (l ∷ past) arena waiting runs
worked_idle p past l arena waiting runs q k = worked_told p past l arena waiting runs (λ id. false) q (λ i e. cc e) (λ i e. refl) k

-- ---- changes without a line

-- what is held turns: each request that is held then was held before, or was queued and ended as the lines tell; and whoever was held is
-- held still, or gone
worked_held : (p : Program) (past : List Seen) (arena more : Slots Content) (waiting runs : List Id) →
    ((i : Id) (y : Request) → asked_at more.slots i ≡ Some y →
    (asked_at arena.slots i ≡ Some y) ⊎ ((queued_task p past i ≡ Some y.task) × EndsTrue p past i y.task y.outcome)) →
    ((i : Id) → IsAsked arena i → IsAsked more i ⊎ IsGone more.slots more.free i) →
    ((i : Id) → IsGone arena.slots arena.free i → IsGone more.slots more.free i) → Worked p past arena waiting runs →
    Worked p past more waiting runs
worked_held p past arena more waiting runs now held_still gone k = grind arith

-- a request turns, another one or none
turned_asks : (slots more : List (Slot Content)) (id : Id) (was is : Option Content) → Turns slots more id was is → (i : Id) →
    asked_at more i ≡ (if same_id i id then request_in is else asked_at slots i)
turned_asks slots more id was is t i = grind (arith, turned_to t)

-- one that ended as the lines tell, or is as before
ends_now : (p : Program) (past : List Seen) (id : Id) (x : Request) (was now : Id → Option Request) →
    ((i : Id) → now i ≡ (if same_id i id then Some x else was i)) → queued_task p past id ≡ Some x.task → EndsTrue p past id x.task x.outcome →
    (i : Id) (y : Request) → now i ≡ Some y → (was i ≡ Some y) ⊎ ((queued_task p past i ≡ Some y.task) × EndsTrue p past i y.task y.outcome)
ends_now p past id x was now f q ends i y e = grind (arith, same_Some, same)

asked_still : (arena more : Slots Content) (id : Id) (x : Request) →
    ((i : Id) → asked_at more.slots i ≡ (if same_id i id then Some x else asked_at arena.slots i)) → (i : Id) → IsAsked arena i → IsAsked more i
asked_still arena more id x asks i a = at (same_id i id) refl where
  at : (b : Bool) → same_id i id ≡ b → IsAsked more i
  at true s = record { request = x; holds = asks i ∙ rw s refl }
  at false s = record { request = a.request; holds = asks i ∙ rw s a.holds }

-- no request changes
pub worked_same : (p : Program) (past : List Seen) (arena more : Slots Content) (waiting runs : List Id) → SameRequests more.slots arena.slots →
    ((i : Id) → IsGone arena.slots arena.free i → IsGone more.slots more.free i) → Worked p past arena waiting runs → Worked p past more waiting runs
worked_same p past arena more waiting runs f gone k = worked_held p past arena more waiting runs (λ i y e. inl (sym (f i) ∙ e))
    (λ i a. inl (record { request = a.request; holds = f i ∙ a.holds })) gone k

-- fewer wait, and fewer are run
pub worked_fewer : (p : Program) (past : List Seen) (arena : Slots Content) (waiting runs few_waiting few_runs : List Id) →
    ((i : Id) → has_id few_waiting i ≡ true → has_id waiting i ≡ true) → ((i : Id) → has_id few_runs i ≡ true → has_id runs i ≡ true) →
    Worked p past arena waiting runs → Worked p past arena few_waiting few_runs
worked_fewer p past arena waiting runs few_waiting few_runs f g k = grind arith

-- a request ends, as the lines tell
pub worked_ended : (p : Program) (past : List Seen) (arena more : Slots Content) (waiting runs : List Id) (id : Id) (r x : Request) →
    Turns arena.slots more.slots id (Some (Content.Request r)) (Some (Content.Request x)) → x.task ≡ r.task → EndsTrue p past id x.task x.outcome →
    ((i : Id) → IsGone arena.slots arena.free i → IsGone more.slots more.free i) → Worked p past arena waiting runs → Worked p past more waiting runs
worked_ended p past arena more waiting runs id r x t same_task ends gone k =
    let asks = turned_asks arena.slots more.slots id _ _ t in
    worked_held p past arena more waiting runs
    (ends_now p past id x (asked_at arena.slots) (asked_at more.slots) asks (k.queued id r (ap request_in t.before) ∙ ap Some (sym same_task)) ends)
    (λ i a. inl (asked_still arena more id x asks i a)) gone k

-- ---- the lines of requests

-- a worker takes a request that waits
pub worked_taken : (p : Program) (past : List Seen) (arena : Slots Content) (waiting runs rest more : List Id) (n : ℕ) (v : Var) (id : Id)
    (r : Request) → asked_at arena.slots id ≡ Some r → is_open r.outcome ≡ true → has_id waiting id ≡ true →
    ((i : Id) → has_id rest i ≡ true → (has_id waiting i ≡ true) × (same_id id i ≡ false)) →
    ((i : Id) → has_id more i ≡ true → (id ≡ i) ⊎ (has_id runs i ≡ true)) → Worked p past arena waiting runs →
    Worked p (Seen.Take n v id ∷ past) arena rest more
worked_taken p past arena waiting runs rest more n v id r holds opened waits fewer most k = grind (arith, same, itself)

-- a worker finishes a request that it runs
pub worked_finished : (p : Program) (past : List Seen) (arena : Slots Content) (waiting runs few : List Id) (n : ℕ) (v : Var) (id : Id) →
    has_id runs id ≡ true → ((i : Id) → has_id few i ≡ true → (has_id runs i ≡ true) × (same_id id i ≡ false)) →
    Worked p past arena waiting runs → Worked p (Seen.Finish n v id ∷ past) arena waiting few
worked_finished p past arena waiting runs few n v id on fewer k = grind arith

-- an id under which nothing is held, and which isn't gone, wasn't queued
not_queued : (p : Program) (past : List Seen) (arena : Slots Content) (waiting runs : List Id) (id : Id) → held arena.slots id ≡ None →
    (IsGone arena.slots arena.free id → ⊥) → Worked p past arena waiting runs → queued_task p past id ≡ None
not_queued p past arena waiting runs id e fresh k = grind (arith, none-some)

-- the line of a `queue` changes nothing that others ended by
still_ended : (p : Program) (past : List Seen) (place : Site) (v : Var) (task : Task) (id : Id) → op_at p place ≡ Some (Op.Queue v task) → (i : Id)
    (x : Task) (o : Outcome) → EndsTrue p past i x o → EndsTrue p (Seen.Op place (Answer.Id id) ∷ past) i x o
still_ended p past place v task id e i x o g = grind arith

of_both : (f : Id → Bool) (waiting : List Id) (id : Id) → f id ≡ false → ((i : Id) → has_id waiting i ≡ true → f i ≡ false) → (i : Id) →
    (id ≡ i) ⊎ (has_id waiting i ≡ true) → f i ≡ false
of_both f waiting id e k i h = grind arith

-- a request is queued under an id that isn't gone and stands for nothing
pub worked_queued : (p : Program) (past : List Seen) (place : Site) (v : Var) (task : Task) (arena more : Slots Content)
    (waiting runs listed : List Id)
    (id : Id) → op_at p place ≡ Some (Op.Queue v task) → Turns arena.slots more.slots id None (Some (Content.Request (queued v task))) →
    (IsGone arena.slots arena.free id → ⊥) → ((i : Id) → has_id listed i ≡ true → (id ≡ i) ⊎ (has_id waiting i ≡ true)) →
    ((i : Id) → IsGone arena.slots arena.free i → IsGone more.slots more.free i) → Worked p past arena waiting runs →
    Worked p (Seen.Op place (Answer.Id id) ∷ past) more listed runs
worked_queued p past place v task arena more waiting runs listed id e t fresh most gone k = record {
  queued = λ i y h. rw (asked i) (grind arith);
  known = λ i z h. known_now i z (sym (asked i) ∙ h) (same_id id i) refl;
  over = λ i h. gone i (k.over i h);
  taken = λ i h f. k.taken i h (still_none i (sym (asked i) ∙ f));
  finished = k.finished;
  waits = λ i h. of_both (has_take_line past) waiting id (false_from_ne_true _ (λ f. k.taken id f never)) k.waits i (most i h);
  runs_now = k.runs_now;
  ended = λ i y h. elim (ends_now p (Seen.Op place (Answer.Id id) ∷ past) id x (asked_at arena.slots) (asked_at more.slots) asks
      (asked id ∙ rw (itself id id refl) refl) tt i y h) [
        | inl old ↦ still_ended p past place v task id e i y.task y.outcome (k.ended i y old)
        | inr new ↦ new.1
      ];
  cancelled = λ i h f. k.cancelled i (sym (no_cancel i) ∙ h) (still_none i (sym (asked i) ∙ f));
  uncancelled = grind arith;
} where
  x : Request
  x = queued v task

  asks : (i : Id) → asked_at more.slots i ≡ (if same_id i id then Some x else asked_at arena.slots i)
  asks i = turned_asks arena.slots more.slots id _ _ t i

  never : queued_task p past id ≡ None
  never = not_queued p past arena waiting runs id t.before fresh k

  no_cancel : (i : Id) → has_cancel_line p (Seen.Op place (Answer.Id id) ∷ past) i ≡ has_cancel_line p past i
  no_cancel i = rw e refl

  asked : (i : Id) → queued_task p (Seen.Op place (Answer.Id id) ∷ past) i ≡ first_of (if same_id id i then Some task else None)
      (queued_task p past i)
  asked i = rw e refl

  still_none : (i : Id) → first_of (if same_id id i then Some task else None) (queued_task p past i) ≡ None → queued_task p past i ≡ None
  still_none i f = grind arith

  known_now : (i : Id) (z : Task) → first_of (if same_id id i then Some task else None) (queued_task p past i) ≡ Some z → (b : Bool) →
      same_id id i ≡ b → IsAsked more i ⊎ IsGone more.slots more.free i
  known_now i z h true s = inl (record { request = x; holds = asks i ∙ rw (turned i id, s) refl })
  known_now i z h false s = elim (k.known i z (sym (ap (λ (b : Bool). first_of (if b then Some task else None) (queued_task p past i)) s) ∙ h)) [
    | inl a ↦ inl (asked_still arena more id x asks i a)
    | inr g ↦ inr (gone i g)
  ]

asked_or_gone : (arena more : Slots Content) (id : Id) →
    ((i : Id) → asked_at more.slots i ≡ (if same_id i id then None else asked_at arena.slots i)) → IsGone more.slots more.free id → (i : Id) →
    IsAsked arena i → IsAsked more i ⊎ IsGone more.slots more.free i
asked_or_gone arena more id asks now i a = at (same_id i id) refl where
  at : (b : Bool) → same_id i id ≡ b → IsAsked more i ⊎ IsGone more.slots more.free i
  at true s = inr (subst (IsGone more.slots more.free) (sym (same i id s)) now)
  at false s = inl (record { request = a.request; holds = asks i ∙ rw s a.holds })

-- the line of an after callback whose request is gone
called_back : (p : Program) (past : List Seen) (arena : Slots Content) (waiting runs : List Id) (digest : Option (List ℕ)) (v : Var) (id : Id) →
    IsGone arena.slots arena.free id → Worked p past arena waiting runs → Worked p (Seen.After digest v id ∷ past) arena waiting runs
called_back p past arena waiting runs digest v id g k = grind (arith, same)

-- the request's after callback begins, and its slot is freed
pub worked_collected : (p : Program) (past : List Seen) (arena more : Slots Content) (waiting runs : List Id) (digest : Option (List ℕ)) (v : Var)
    (id : Id) (r : Request) → Turns arena.slots more.slots id (Some (Content.Request r)) None → IsGone more.slots more.free id →
    ((i : Id) → IsGone arena.slots arena.free i → IsGone more.slots more.free i) → Worked p past arena waiting runs →
    Worked p (Seen.After digest v id ∷ past) more waiting runs
worked_collected p past arena more waiting runs digest v id r t now gone k =
    let asks = turned_asks arena.slots more.slots id _ _ t in
    called_back p past more waiting runs digest v id now (worked_held p past arena more waiting runs
    (λ i y e. inl (grind arith)) (λ i a. asked_or_gone arena more id asks now i a) gone k)

-- what the after callback of a request that ended says
pub says_true : (p : Program) (past : List Seen) (id : Id) (task : Task) (o : Outcome) → is_open o ≡ false → EndsTrue p past id task o →
    SaysTrue p past id task (digest_in o)
says_true p past id task o e f = grind arith
