-- What stands on lists is held by slots: where no slot holds any of it, a list is empty.
use Rattle.uv_state_key.proofs.Names.{arith, ◌≡◌, ◌⊎◌, inl, inr, ℕ, zero, suc, ◌<◌, Bool, true, false, List, [], ◌∷◌, ◌++◌, length, Option, Some, None, slice_get, refl, ap, sym, subst, ◌∙◌, append-nil, Event, Id, Kind, Program, HandleRecord, Slot, held, Content, Request, is_open, after, request_in, State, kind_as, watched, has_id, AreAll, AreDistinct, IsActive, IsClosing, IsEnded, run_ids, reached, number_small, AreFew, one_more, and_content, content_at, id_at, holds_in, held_by, no_holds, and_active, and_closing, and_handle, and_request, and_resting, WatcherKind, is_timer, IsReached}
use Rattle.uv_ids.specs.declared.phase.Kind.TheVariants as kind
use Rattle.uv_records.specs.declared.lists.WatcherKind.TheVariants as watcher
use Rattle.uv_work.specs.declared.content.Content.TheVariants as content
use Rattle.uv_key.specs.Codes.{list_code}
use Rattle.uv_state_key.specs.declared.holds.Holds.{Holds}
use Rattle.uv_state_key.specs.declared.holds.Few.{Few}
use Rattle.uv_state_key.specs.declared.holds.Few.TheVariants as few

-- ---- what one of them holds is told

or_last : (k n : ℕ) → k < suc n → (k ≡ n) ⊎ (k < n)
or_last k n l = grind arith

-- something of a slot is told by a flag: it is set by such a slot, and stays set
record Told (flag : Holds → Bool) (Is : Option Content → Type 0) : Type 0 where
  pub adds : (f : Holds) (id : Id) (c : Option Content) → Is c → flag (and_content f id c) ≡ true
  pub stays : (f : Holds) (id : Id) (c : Option Content) → flag f ≡ true → flag (and_content f id c) ≡ true

told_by : (flag : Holds → Bool) (Is : Option Content → Type 0) → Told flag Is → (slots : List (Slot Content)) (k n : ℕ) → k < n
    → Is (content_at slots k) → flag (holds_in slots n) ≡ true
told_by flag Is t slots k zero l is = absurd (omega (arith, l))
told_by flag Is t slots k (suc n) l is = by (or_last k n l) (λ m. told_by flag Is t slots k n m is)
  where
    by : ((k ≡ n) ⊎ (k < n)) → (k < n → flag (holds_in slots n) ≡ true)
        → flag (and_content (holds_in slots n) (id_at slots n) (content_at slots n)) ≡ true
    by e0 more = grind arith

-- an id that something is held under has a slot that holds it
slot_below : (xs : List (Slot Content)) (n : ℕ) (slot : Slot Content) → slice_get xs n ≡ Some slot → n < length xs
slot_below (x ∷ xs) (suc n) slot e = let l = slot_below xs n slot e in omega (arith, l)
slot_below each e1 slot e = grind arith

held_there : (slots : List (Slot Content)) (id : Id) (c : Content) → held slots id ≡ Some c
    → (id.slot < length slots) × (content_at slots id.slot ≡ Some c) × (id_at slots id.slot ≡ id)
held_there slots id c e = grind (arith, slot_below)

-- where the flag isn't set, nothing of it is held
none_held : (flag : Holds → Bool) (Is : Option Content → Type 0) → Told flag Is → (s : State) (id : Id) (c : Content)
    → flag (held_by s) ≡ false → held s.arena.slots id ≡ Some c → Is (Some c) → ⊥
none_held flag Is t s id c off e is = grind (arith, held_there, told_by)

none_listed : (ids : List Id) → ((id : Id) → has_id ids id ≡ true → ⊥) → ids ≡ []
none_listed [] none = refl
none_listed (x ∷ xs) none = absurd (none x (grind arith))

both_empty : (xs ys : List Id) → xs ++ ys ≡ [] → (xs ≡ []) × (ys ≡ [])
both_empty [] ys e = (refl, e)
both_empty (x ∷ xs) ys e = absurd (let f : ⊥ = cc in f)

-- ---- how many slots hold something: none, one, or more

-- what becomes of the count with one more slot: it counts it, if that is so, or stays
abbrev Counts : Few → Id → Few → Type 0 → Type 0
Counts was id is There = (is ≡ was) ⊎ (There × (is ≡ one_more was id))

record Counted (count : Holds → Few) (Is : Option Content → Type 0) : Type 0 where
  pub begins : count no_holds ≡ few.None
  pub adds : (f : Holds) (id : Id) (c : Option Content) → Is c → count (and_content f id c) ≡ one_more (count f) id
  pub counts : (f : Holds) (id : Id) (c : Option Content) → Counts (count f) id (count (and_content f id c)) (Is c)

not_none : (x : Few) (id : Id) → one_more x id ≡ few.None → ⊥
not_none each id e = grind arith

first_one : (x : Few) (id y : Id) → one_more x id ≡ few.One y → (x ≡ few.None) × (id ≡ y)
first_one each id y e = grind arith

not_again : (x : Few) (id y z : Id) → x ≡ few.One y → few.One z ≡ one_more x id → ⊥
not_again each id y z e a = grind arith

module _ (count : Holds → Few) (Is : Option Content → Type 0) (t : Counted count Is) (slots : List (Slot Content)) where
  none_there : (n k : ℕ) → count (holds_in slots n) ≡ few.None → k < n → Is (content_at slots k) → ⊥
  none_there zero k e l is = absurd (omega (arith, l))
  none_there (suc n) k e l is =
      by (t.counts (holds_in slots n) (id_at slots n) (content_at slots n)) (or_last k n l) (λ h m. none_there n k h m is)
    where
      f : Holds
      f = holds_in slots n

      id : Id
      id = id_at slots n

      by : Counts (count f) id (count (and_content f id (content_at slots n))) (Is (content_at slots n)) → (k ≡ n) ⊎ (k < n)
          → (count f ≡ few.None → k < n → ⊥) → ⊥
      by (inr there) at more = not_none (count f) id (sym there.1 ∙ e)
      by (inl same) (inr m) more = more (sym same ∙ e) m
      by (inl same) (inl last) more =
          not_none (count f) id (sym (t.adds f id (content_at slots n) (subst (λ i. Is (content_at slots i)) last is)) ∙ e)

  one_there : (n k : ℕ) (x : Id) → count (holds_in slots n) ≡ few.One x → k < n → Is (content_at slots k) → id_at slots k ≡ x
  one_there zero k x e l is = absurd (omega (arith, l))
  one_there (suc n) k x e l is =
      by (t.counts (holds_in slots n) (id_at slots n) (content_at slots n)) (or_last k n l) (λ h m. one_there n k x h m is)
    where
      f : Holds
      f = holds_in slots n

      id : Id
      id = id_at slots n

      by : Counts (count f) id (count (and_content f id (content_at slots n))) (Is (content_at slots n)) → (k ≡ n) ⊎ (k < n)
          → (count f ≡ few.One x → k < n → id_at slots k ≡ x) → id_at slots k ≡ x
      by (inl same) (inr m) more = more (sym same ∙ e) m
      by (inl same) (inl last) more = absurd (not_again (count f) id x x (sym same ∙ e)
          (sym e ∙ t.adds f id (content_at slots n) (subst (λ i. Is (content_at slots i)) last is)))
      by (inr there) (inl last) more = ap (id_at slots) last ∙ (first_one (count f) id x (sym there.1 ∙ e)).1
      by (inr there) (inr m) more = absurd (none_there n k (first_one (count f) id x (sym there.1 ∙ e)).0 m is)

  -- there is that one
  one_is : (n : ℕ) (x : Id) → count (holds_in slots n) ≡ few.One x
      → (k : ℕ) × ((k < n) × Is (content_at slots k) × (id_at slots k ≡ x))
  one_is zero x e = absurd (let f : ⊥ = cc (sym t.begins ∙ e) in f)
  one_is (suc n) x e = by (t.counts (holds_in slots n) (id_at slots n) (content_at slots n)) (one_is n x)
    where
      f : Holds
      f = holds_in slots n

      id : Id
      id = id_at slots n

      by : Counts (count f) id (count (and_content f id (content_at slots n))) (Is (content_at slots n))
          → (count f ≡ few.One x → (k : ℕ) × ((k < n) × Is (content_at slots k) × (id_at slots k ≡ x)))
          → (k : ℕ) × ((k < suc n) × Is (content_at slots k) × (id_at slots k ≡ x))
      by (inl same) more = let one = more (sym same ∙ e) in (one.0, (omega (arith, one.1.0), one.1.1, one.1.2))
      by (inr there) more = (n, (omega arith, there.0, (first_one (count f) id x (sym there.1 ∙ e)).1))

-- what a slot holds is held under its id
held_at : (slots : List (Slot Content)) (k : ℕ) (c : Content) → content_at slots k ≡ Some c → held slots (id_at slots k) ≡ Some c
held_at slots k c e = grind arith

-- a list of which each is this one, and this one is on it, and none stands twice
single : (xs : List Id) (x : Id) → ((id : Id) → has_id xs id ≡ true → id ≡ x) → has_id xs x ≡ true → AreDistinct xs → xs ≡ x ∷ []
single (y ∷ z ∷ zs) x all has distinct =
    let one : y ≡ x = all y (grind arith) in
    let two : z ≡ x = all z (grind arith) in
    absurd (twice y z zs (one ∙ sym two) distinct.0)
  where
    twice : (y z : Id) (zs : List Id) → y ≡ z → has_id (z ∷ zs) y ≡ false → ⊥
    twice y z zs e f = grind arith
single each x all has distinct = grind arith

-- what stands on two lists is what slots hold: so many as they do
record Listed (slots : List (Slot Content)) (P : Id → Type 0) (Is : Option Content → Type 0) : Type 0 where
  pub holds : (id : Id) → P id → (c : Content) × ((held slots id ≡ Some c) × Is (Some c))
  pub held : (id : Id) (c : Content) → held slots id ≡ Some c → Is (Some c) → P id
  pub some : Is None → ⊥

module _ (count : Holds → Few) (Is : Option Content → Type 0) (t : Counted count Is) (slots : List (Slot Content)) (P : Id → Type 0)
    (listed : Listed slots P Is) where
  is_there : (c : Option Content) → Is c → (x : Content) × (c ≡ Some x)
  is_there None is = absurd (listed.some is)
  is_there (Some x) is = (x, refl)

  are_few : (x : Few) → count (holds_in slots (length slots)) ≡ x → (xs ys : List Id) → AreAll P (xs ++ ys) → AreFew x xs ys
  are_few few.None e xs ys all = both_empty xs ys (none_listed (xs ++ ys) (λ id has.
      let h = listed.holds id (all.each id has) in
      let at = held_there slots id h.0 h.1.0 in
      none_there count Is t slots (length slots) id.slot e at.0 (subst Is (sym at.1) h.1.1)))
  are_few (few.One x) e xs ys all =
      let one = one_is count Is t slots (length slots) x e in
      let c = is_there (content_at slots one.0) one.1.1 in
      let there : P x = listed.held x c.0 (subst (λ id. held slots id ≡ Some c.0) one.1.2 (held_at slots one.0 c.0 c.1)) (subst Is c.1 one.1.1) in
      single (xs ++ ys) x (λ id has.
      let h = listed.holds id (all.each id has) in
      let at = held_there slots id h.0 h.1.0 in
      sym at.2 ∙ one_there count Is t slots (length slots) id.slot x e at.0 (subst Is (sym at.1) h.1.1)) (all.all x there) all.distinct
  are_few few.Many e xs ys all = tt

-- ---- each count

abbrev watch_count : WatcherKind → Holds → Few
watch_count watcher.Idle f = f.idle
watch_count watcher.Prepare f = f.prepare
watch_count watcher.Check f = f.check
watch_count watcher.Async f = f.wakes

abbrev Active : Kind → Option Content → Type 0
Active k c = (h : HandleRecord) × ((c ≡ Some (content.Handle h)) × (h.kind ≡ k) × (h.active ≡ true))

abbrev Rests : Option Content → Type 0
Rests c = (h : HandleRecord) × ((c ≡ Some (content.Handle h)) × (h.kind ≡ kind.Timer) × (h.active ≡ false))

abbrev Closing : Option Content → Type 0
Closing c = (h : HandleRecord) × ((c ≡ Some (content.Handle h)) × (h.closing ≡ true))

abbrev Opens : Bool → Option Content → Type 0
Opens b c = (r : Request) × ((c ≡ Some (content.Request r)) × (is_open r.outcome ≡ b))

-- ---- where the slots hold handles of a kind

active_told : (q : WatcherKind) (f : Holds) (id : Id) (k : Kind) → Counts (watch_count q f) id (watch_count q (and_active f id k)) (k ≡ kind_as q)
active_told q f id k = grind arith

closing_stays : (q : WatcherKind) (f : Holds) (id : Id) (b : Bool) → watch_count q (and_closing f id b) ≡ watch_count q f
closing_stays q f id b = grind arith

resting_stays : (q : WatcherKind) (f : Holds) (b : Bool) → watch_count q (and_resting f b) ≡ watch_count q f
resting_stays q f b = grind arith

request_stays : (q : WatcherKind) (f : Holds) (id : Id) (r : Request) (b : Bool) → is_open r.outcome ≡ b
    → watch_count q (and_request f id r) ≡ watch_count q f
request_stays each f id r e4 e = grind arith

active_counted : (q : WatcherKind) → Counted (watch_count q) (Active (kind_as q))
active_counted q = record {
  begins = begins q;
  adds = grind arith;
  counts = counts;
} where
  begins : (q : WatcherKind) → watch_count q no_holds ≡ few.None
  begins watcher.Idle = refl
  begins q = refl

  handle : (f : Holds) (id : Id) (h : HandleRecord) (b : Bool) → h.active ≡ b
      → Counts (watch_count q f) id (watch_count q (and_handle f id h)) (Active (kind_as q) (Some (content.Handle h)))
  handle f id h b e = grind (arith, resting_stays, is_timer, closing_stays, active_told, one_more)

  counts : (f : Holds) (id : Id) (c : Option Content) → Counts (watch_count q f) id (watch_count q (and_content f id c)) (Active (kind_as q) c)
  counts f id None = inl refl
  counts f id (Some (content.Request r)) = inl (request_stays q f id r (is_open r.outcome) refl)
  counts f id (Some (content.Handle h)) = handle f id h h.active refl

-- ---- where they hold handles that close, and requests that ended

handle_else : (f : Holds) (id : Id) (h : HandleRecord) (b : Bool) → h.active ≡ b
    → ((and_handle f id h).closing ≡ (and_closing f id h.closing).closing) × ((and_handle f id h).ended ≡ (and_closing f id h.closing).ended)
handle_else f id h b e = grind arith

closing_counted : Counted (λ f. f.closing) Closing
closing_counted = grind arith

ended_counted : Counted (λ f. f.ended) (Opens false)
ended_counted = record { begins = refl; adds = λ f id c is. rw (is.1.0, is.1.1) refl; counts = counts } where
  ends : (f : Holds) (id : Id) (b : Bool) → (and_closing f id b).ended ≡ f.ended
  ends f id b = grind arith

  counts : (f : Holds) (id : Id) (c : Option Content) → Counts f.ended id (and_content f id c).ended (Opens false c)
  counts f id None = inl refl
  counts f id (Some (content.Request r)) = by (is_open r.outcome) refl where
    by : (b : Bool) → is_open r.outcome ≡ b → Counts f.ended id (and_request f id r).ended (Opens false (Some (content.Request r)))
    by true e = rw e (inl refl)
    by false e = rw e (inr ((r, (refl, e)), refl))
  counts f id (Some (content.Handle h)) = inl ((handle_else f id h h.active refl).1 ∙ ends f id h.closing)

-- ---- timers that rest, and requests that are open, are told by a flag

rests_told : Told (λ f. f.rests) Rests
rests_told = record { adds = λ f id c is. rw (is.1.0, is.1.2, is.1.1) refl; stays = λ f id c e. grind arith }

opens_told : Told (λ f. f.opened) (Opens true)
opens_told = record { adds = λ f id c is. rw (is.1.0, is.1.1) refl; stays = λ f id c e. grind arith }

-- ---- so many stand on the lists

held_request : (slots : List (Slot Content)) (id : Id) (r : Request) → request_in (held slots id) ≡ Some r
    → held slots id ≡ Some (content.Request r)
held_request slots id r e = grind arith

active_listed : (s : State) (q : WatcherKind) → Listed s.arena.slots (IsActive s (kind_as q)) (Active (kind_as q))
active_listed s q = grind arith

closing_listed : (s : State) → Listed s.arena.slots (IsClosing s) Closing
closing_listed s = grind arith

ended_listed : (s : State) → Listed s.arena.slots (IsEnded s) (Opens false)
ended_listed s = record {
  holds = λ id k. (content.Request k.its, (held_request s.arena.slots id k.its k.holds, (k.its, (refl, k.ended))));
  held = λ id c e is. record { its = is.0; holds = ap request_in (e ∙ is.1.0); ended = is.1.1 };
  some = λ is. cc is.1.0;
}

not_open : (s : State) → IsReached s → (held_by s).opened ≡ false → s.waiting ≡ []
not_open s r off = (both_empty s.waiting (run_ids s.running)
    (none_listed (s.waiting ++ run_ids s.running) (λ id has. let k = r.opened.each id has in
    none_held (λ f. f.opened) (Opens true) opens_told s id (content.Request k.its) off (held_request s.arena.slots id k.its k.holds)
    (k.its, (refl, k.opened))))).0

not_resting : (s : State) → IsReached s → (held_by s).rests ≡ false → s.ready ≡ []
not_resting s r off = none_listed s.ready (λ id has. grind (arith, none_held, rests_told))

module _ (p : Program) (es : List Event) (h : Holds) (is : h ≡ held_by (after p es)) where
  watched_few : (q : WatcherKind) → AreFew (watch_count q h) (watched (after p es) q).list (watched (after p es) q).yet
  watched_few q = are_few (watch_count q) (Active (kind_as q)) (active_counted q) (after p es).arena.slots
      (IsActive (after p es) (kind_as q)) (active_listed (after p es) q)
      (watch_count q h) (ap (watch_count q) (sym is)) (watched (after p es) q).list (watched (after p es) q).yet ((reached p es).watchers q)

  pub few_idle : AreFew h.idle (after p es).watchers.idle.list (after p es).watchers.idle.yet
  few_idle = watched_few watcher.Idle

  pub few_prepare : AreFew h.prepare (after p es).watchers.prepare.list (after p es).watchers.prepare.yet
  few_prepare = watched_few watcher.Prepare

  pub few_check : AreFew h.check (after p es).watchers.check.list (after p es).watchers.check.yet
  few_check = watched_few watcher.Check

  pub few_async : AreFew h.wakes (after p es).watchers.async.list (after p es).watchers.async.yet
  few_async = watched_few watcher.Async

  pub few_closing : AreFew h.closing (after p es).closing.list (after p es).closing.yet
  few_closing = are_few (λ f. f.closing) Closing closing_counted (after p es).arena.slots (IsClosing (after p es)) (closing_listed (after p es))
      h.closing (ap (λ f. f.closing) (sym is)) (after p es).closing.list (after p es).closing.yet (reached p es).closing

  pub few_done : AreFew h.ended (after p es).done.list (after p es).done.yet
  few_done = are_few (λ f. f.ended) (Opens false) ended_counted (after p es).arena.slots (IsEnded (after p es)) (ended_listed (after p es))
      h.ended (ap (λ f. f.ended) (sym is)) (after p es).done.list (after p es).done.yet (reached p es).done

  pub no_ready : h.rests ≡ false → (after p es).ready ≡ []
  no_ready off = not_resting (after p es) (reached p es) (sym (ap (λ f. f.rests) is) ∙ off)

  pub no_waiting : h.opened ≡ false → (after p es).waiting ≡ []
  no_waiting off = not_open (after p es) (reached p es) (sym (ap (λ f. f.opened) is) ∙ off)

-- ---- of two lists with one member

pub one_behind : (xs ys : List Id) (id : Id) → length ys ≡ 0 → xs ++ ys ≡ id ∷ [] → (xs ≡ id ∷ []) × (ys ≡ [])
one_behind xs [] id l e = (sym (append-nil xs) ∙ e, refl)
one_behind xs (y ∷ ys) id l e = absurd (omega (arith, l))

pub none_before : (xs ys : List Id) (id : Id) → 0 < length ys → xs ++ ys ≡ id ∷ [] → xs ≡ []
none_before (x ∷ xs) (y ∷ ys) id l e = absurd (later xs (let rest : xs ++ y ∷ ys ≡ [] = cc e in rest)) where
  later : (xs : List Id) → xs ++ y ∷ ys ≡ [] → ⊥
  later [] e = cc e
  later (z ∷ zs) e = cc e
none_before each e1 id l e = grind arith

pub one_code : (code : Id → List ℕ) (id : Id) → list_code code (id ∷ []) ++ list_code code [] ≡ (1 ∷ []) ++ code id ++ (0 ∷ [])
unfolding list_code
one_code code id = rw (number_small 1 (omega arith), number_small 0 (omega arith), append-nil (code id)) refl
