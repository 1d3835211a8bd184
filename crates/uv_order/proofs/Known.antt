-- What the lines of a trace tell of the names and of the handles that close, and how each change of the slots keeps it.
use Rattle.uv_order.proofs.Names.{arith, ◌≡◌, ◌⊎◌, inl, inr, ℕ, ◌<◌, ◌≤◌, ◌==◌, ◌||◌, List, ◌∷◌, Bool, true, false, Option, Some, None, slice_get, slice_set, unwrap_or, option_map, refl, ap, sym, subst, ◌∙◌, if◌then◌else◌, eqb-true, eq-eqb, or_left, or_right, or_cases, none-some, Id, Var, Answer, Seen, Site, Op, Program, op_at, HandleRecord, Slots, Content, Named, same_id, unbound, answered, queues, binds, bound_by, bound, closes, closes_by, is_some_id, was_closed, is_closed_line, has_closed_line, makes, made_by, made_as, cancels, Code, elements}
use Rattle.uv_order.proofs.Lemmas.{same, other, itself, Turns, emptied, emptied_turns, name_at, NoNewNames, put_names, names_turned, held_at, is_held, put, put_same, Fits, fits_put, fitted, fits_emptied, fitted_emptied, SameHandles, Grown, set_there, has_number, Closes, open_shut, IsGone, gone_put, gone_emptied, gone_now, SameRequests, same_requests, same_put}
use Rattle.uv_order.proofs.Worked.{Worked, IsIdle, worked_idle, worked_same}
use Rattle.uv_order.proofs.OpEffects.{set_says}

-- ---- names

-- the id that a name is bound to
abbrev pub id_in : List Named → Var → Option Id
id_in names v = (unwrap_or (slice_get names v.0) unbound).id

-- each name is bound as before
abbrev pub SameIds : List Named → List Named → Type 0
SameIds now was = (v : Var) → id_in now v ≡ id_in was v

-- a name gets other counts
pub counted_ids : (names : List Named) (v : Var) (x : Named) → x.id ≡ id_in names v → SameIds (slice_set names v.0 x) names
counted_ids names v x e u = set_says (λ (y : Named). y.id) names v.0 u.0 x e

-- a name that is bound anew is bound to that, if it is there
own_id : (names : List Named) (i : ℕ) (x : Named) (id : Id) → (unwrap_or (slice_get (slice_set names i x) i) unbound).id ≡ Some id → x.id ≡ Some id
own_id names i x id e = grind (arith, elements)

-- ---- what is known

-- the handle of the id closes, or its id is gone
abbrev pub IsShut : Slots Content → Id → Type 0
IsShut arena id = Fits arena.slots Closes id ⊎ IsGone arena.slots arena.free id

-- what is held is called as the lines tell; names are bound as they tell, each to what was made under it, and just
-- the ids of which they tell a `close` close, or are gone; those with a `closed` line are gone
pub record Known (p : Program) (past : List Seen) (arena : Slots Content) (names : List Named) (waiting runs : List Id) : Type 0 where
  pub binding : (v : Var) (id : Id) → id_in names v ≡ Some id → bound p past v ≡ Some id
  pub made : (id : Id) (v : Var) → name_at arena.slots id ≡ Some v → made_as p past id ≡ Some v
  pub under : (v : Var) (id : Id) → id_in names v ≡ Some id → made_as p past id ≡ Some v
  pub closing : (id : Id) → Fits arena.slots Closes id → was_closed p past id ≡ true
  pub closed : (id : Id) → was_closed p past id ≡ true → IsShut arena id
  pub over : (id : Id) → has_closed_line past id ≡ true → IsGone arena.slots arena.free id
  pub worked : Worked p past arena waiting runs

-- a held handle that doesn't close was not closed
pub not_closed : {waiting runs : List Id} (p : Program) (past : List Seen) (arena : Slots Content) (names : List Named) (id : Id) (h : HandleRecord) →
    held_at arena.slots id ≡ Some h → h.closing ≡ false → Known p past arena names waiting runs → was_closed p past id ≡ false
not_closed p past arena names id h e stays k = grind arith

-- a held handle has no `closed` line
pub not_over : {waiting runs : List Id} (p : Program) (past : List Seen) (arena : Slots Content) (names : List Named) (id : Id) (h : HandleRecord) →
    held_at arena.slots id ≡ Some h → Known p past arena names waiting runs → has_closed_line past id ≡ false
not_over p past arena names id h e k = grind arith

-- ---- changes without a line

pub known_names : {waiting runs : List Id} (p : Program) (past : List Seen) (arena : Slots Content) (now was : List Named) → SameIds now was →
    Known p past arena was waiting runs → Known p past arena now waiting runs
known_names p past arena now was same k = grind arith

-- what is held turns: nothing is called otherwise, who closes then closed before, and who closed closes still, or is gone
known_held : {waiting runs : List Id} (p : Program) (past : List Seen) (arena more : Slots Content) (names : List Named) →
    NoNewNames more.slots arena.slots → ((i : Id) → Fits more.slots Closes i → Fits arena.slots Closes i) →
    ((i : Id) → Fits arena.slots Closes i → IsShut more i) → ((i : Id) → IsGone arena.slots arena.free i → IsGone more.slots more.free i) →
    SameRequests more.slots arena.slots → Known p past arena names waiting runs → Known p past more names waiting runs
known_held p past arena more names called was still gone asks k = grind (arith, worked_same)

-- a handle changes that closes as before
pub known_put : {waiting runs : List Id} (p : Program) (past : List Seen) (arena : Slots Content) (names : List Named) (id : Id)
    (h x : HandleRecord) → held_at arena.slots id ≡ Some h → x.closing ≡ h.closing → x.name ≡ h.name → Known p past arena names waiting runs →
    Known p past (record arena { slots = put arena.slots id x }) names waiting runs
known_put p past arena names id h x e o called k =
    known_held p past arena (record arena { slots = put arena.slots id x }) names (put_names arena.slots id h x e called)
    (grind (arith, same, other, fitted, put_same)) (λ i f. inl (fits_put arena.slots Closes id h x e (λ c. o ∙ c) i f))
    (λ i g. gone_put arena.slots arena.free id h x i e g) (same_put arena.slots id h x e) k

-- ---- lines

-- a line that tells nothing of names and closing
pub record IsQuiet (p : Program) (l : Seen) : Type 0 where
  pub binding : (v : Var) (before : Option Id) → bound_by (answered p l) v before ≡ before
  pub made : (id : Id) → made_by (answered p l) id ≡ None
  pub closing : closes_by (answered p l) ≡ None
  pub closed : (id : Id) → is_closed_line l id ≡ false

-- so does a line that tells of requests
pub known_told : {waiting runs few more : List Id} (p : Program) (past : List Seen) (l : Seen) (arena now : Slots Content) (names : List Named) →
    IsQuiet p l → SameHandles now.slots arena.slots → NoNewNames now.slots arena.slots →
    ((i : Id) → IsGone arena.slots arena.free i → IsGone now.slots now.free i) →
    Worked p (l ∷ past) now few more → Known p past arena names waiting runs → Known p (l ∷ past) now names few more
known_told p past l arena now names q f called gone w k = grind arith

pub known_quiet : {waiting runs : List Id} (p : Program) (past : List Seen) (l : Seen) (arena : Slots Content) (names : List Named) → IsQuiet p l →
    IsIdle p l → Known p past arena names waiting runs → Known p (l ∷ past) arena names waiting runs
known_quiet p past l arena names q idle k = grind (arith, worked_idle, known_told)

-- an op that neither binds a name nor closes a handle
pub record IsQuietOp (o : Op) (a : Answer) : Type 0 where
  pub binding : (v : Var) (before : Option Id) → binds o a v before ≡ before
  pub made : (id : Id) → makes o a id ≡ None
  pub closing : closes o a ≡ None

-- nor queues a request, nor cancels one
abbrev pub IsIdleOp : Op → Answer → Type 0
IsIdleOp o a = (id : Id) → (queues o a id ≡ None) × (cancels o a id ≡ false)

pub is_answered : (p : Program) (place : Site) (o : Op) (a : Answer) → op_at p place ≡ Some o →
    answered p (Seen.Op place a) ≡ Some (record { op = o; answer = a })
is_answered p place o a e = ap (option_map (λ (x : Op). record { op = x; answer = a })) e

pub quiet_op : (p : Program) (place : Site) (o : Op) (a : Answer) → op_at p place ≡ Some o → IsQuietOp o a → IsQuiet p (Seen.Op place a)
quiet_op p place o a e q = grind arith

pub idle_op : (p : Program) (place : Site) (o : Op) (a : Answer) → op_at p place ≡ Some o → IsIdleOp o a → IsIdle p (Seen.Op place a)
idle_op p place o a e q = grind arith

-- a handle that doesn't close is closed
pub known_close : {waiting runs : List Id} (p : Program) (past : List Seen) (place : Site) (v : Var) (arena : Slots Content) (names : List Named)
    (id : Id) (h x : HandleRecord) → op_at p place ≡ Some (Op.Close v) → id_in names v ≡ Some id → held_at arena.slots id ≡ Some h →
    x.closing ≡ true → x.name ≡ h.name → Known p past arena names waiting runs → Known p (Seen.Op place (Answer.Code Code.Ok) ∷ past)
    (record arena { slots = put arena.slots id x }) names waiting runs
known_close p past place v arena names id h x e is holds shut called k = record {
  binding = λ u i f. rw said (k.binding u i f);
  made = λ i u f. rw said (k.made i u (put_names arena.slots id h x holds called i u f));
  under = λ u i f. rw said (k.under u i f);
  closing = λ i f. rw closed_now (closing i f (same_id i id) refl);
  closed = λ i c. closed i (or_cases (is_some_id i (bound p past v)) (was_closed p past i) (cc));
  over = λ i c. gone_put arena.slots arena.free id h x i holds (k.over i c);
  worked = search (worked_idle, past, idle_op, worked_same, same_put, holds, gone_put);
} where
  said : answered p (Seen.Op place (Answer.Code Code.Ok)) ≡ Some (record { op = Op.Close v; answer = Answer.Code Code.Ok })
  said = is_answered p place (Op.Close v) (Answer.Code Code.Ok) e

  closed_now : closes_by (answered p (Seen.Op place (Answer.Code Code.Ok))) ≡ Some v
  closed_now = ap closes_by said

  its_id : bound p past v ≡ Some id
  its_id = k.binding v id is

  closing : (i : Id) → Fits (put arena.slots id x) Closes i → (b : Bool) → same_id i id ≡ b →
      (is_some_id i (bound p past v) || was_closed p past i) ≡ true
  closing i f true s = or_left _ _ (ap (is_some_id i) its_id ∙ itself id i (sym (same i id s)))
  closing i f false s = or_right _ _ (k.closing i (fitted arena.slots Closes id h x holds i (other i id s) f))

  closed : (i : Id) → (is_some_id i (bound p past v) ≡ true) ⊎ (was_closed p past i ≡ true) → IsShut (record arena { slots = put arena.slots id x }) i
  closed i (inl c) = inl (record {
    handle = x;
    holds = ap (held_at (put arena.slots id x)) (sym (same id i (sym (ap (is_some_id i) its_id) ∙ c))) ∙ put_same arena.slots id h x holds;
    fits = shut;
  })
  closed i (inr c) = elim (k.closed i c) [
    | inl f ↦ inl (fits_put arena.slots Closes id h x holds (λ g. shut) i f)
    | inr g ↦ inr (gone_put arena.slots arena.free id h x i holds g)
  ]

-- the line of an op binds a name, to an id that was made under none before
pub known_bound : {waiting runs few : List Id} (p : Program) (past : List Seen) (place : Site) (v : Var) (o : Op) (arena now : Slots Content)
    (names : List Named) (id : Id) (n : Named) → op_at p place ≡ Some o →
    ((u : Var) (before : Option Id) → binds o (Answer.Id id) u before ≡ (if v.0 == u.0 then Some id else before)) →
    ((i : Id) → makes o (Answer.Id id) i ≡ (if same_id id i then Some v else None)) → made_as p past id ≡ None →
    ((i : Id) (u : Var) → name_at now.slots i ≡ Some u → (if same_id id i then Some v else name_at arena.slots i) ≡ Some u) →
    closes o (Answer.Id id) ≡ None → n.id ≡ Some id → SameHandles now.slots arena.slots →
    ((i : Id) → IsGone arena.slots arena.free i → IsGone now.slots now.free i) → Worked p (Seen.Op place (Answer.Id id) ∷ past) now few runs →
    Known p past arena names waiting runs → Known p (Seen.Op place (Answer.Id id) ∷ past) now (slice_set names v.0 n) few runs
known_bound p past place v o arena now names id n e bind make fresh called quiet is handles gone w k =
    grind (arith, is_answered, own_id, set_there, eqb-true, eq-eqb, same, none-some)

-- a slot is taken for a handle that doesn't close
pub known_grown : {waiting runs : List Id} (p : Program) (past : List Seen) (arena more : Slots Content) (names : List Named) (id : Id)
    (x : HandleRecord) → Grown arena.slots more.slots id x → SameRequests more.slots arena.slots → x.closing ≡ false →
    ((i : Id) (v : Var) → name_at more.slots i ≡ Some v → made_as p past i ≡ Some v) →
    ((i : Id) → IsGone arena.slots arena.free i → IsGone more.slots more.free i) → Known p past arena names waiting runs →
    Known p past more names waiting runs
known_grown p past arena more names id x grown same_asked stays called gone k = grind (arith, same, other, open_shut, worked_same)

-- the `closed` line of a handle that is gone
known_over : {waiting runs : List Id} (p : Program) (past : List Seen) (v : Var) (arena : Slots Content) (names : List Named) (id : Id) →
    IsGone arena.slots arena.free id → Known p past arena names waiting runs → Known p (Seen.Closed v id ∷ past) arena names waiting runs
known_over p past v arena names id g k = grind (arith, same, worked_idle)

-- a closing handle has its `closed` line, and its slot is freed or retired
pub known_gone : {waiting runs : List Id} (p : Program) (past : List Seen) (v : Var) (arena : Slots Content) (more : List ℕ) (names : List Named)
    (id : Id) (h : HandleRecord)
    (n : ℕ) → held_at arena.slots id ≡ Some h → id.generation ≤ n → (id.generation < n) ⊎ (has_number more id.slot ≡ false) →
    ((m : ℕ) → (m ≡ id.slot → ⊥) → has_number arena.free m ≡ false → has_number more m ≡ false) → Known p past arena names waiting runs →
    Known p (Seen.Closed v id ∷ past) (record arena { slots = emptied arena.slots id n; free = more }) names waiting runs
known_gone p past v arena more names id h n e l last others k =
    known_over p past v now names id gone_id (known_held p past arena now names (names_turned arena.slots now.slots id _ _ turns (λ u g. cc g))
    (λ i f. (fitted_emptied arena.slots Closes id h n e i f).1) (λ i f. still i f (same_id i id) refl)
    (λ i g. gone_emptied arena.slots arena.free more id (Content.Handle h) n i (is_held arena.slots id h e) l others g)
    (same_requests arena.slots now.slots id _ _ turns refl refl) k)
  where
    now : Slots Content
    now = record arena { slots = emptied arena.slots id n; free = more }

    turns : Turns arena.slots (emptied arena.slots id n) id (Some (Content.Handle h)) None
    turns = emptied_turns arena.slots id (Content.Handle h) n (is_held arena.slots id h e)

    gone_id : IsGone now.slots now.free id
    gone_id = gone_now arena.slots more id (Content.Handle h) n (is_held arena.slots id h e) last

    still : (i : Id) → Fits arena.slots Closes i → (b : Bool) → same_id i id ≡ b → IsShut now i
    still i f true s = inr (subst (IsGone now.slots now.free) (sym (same i id s)) gone_id)
    still i f false s = inl (fits_emptied arena.slots Closes id h n e i (other i id s) f)
