-- Whether the loop is alive by its lists is whether it is by what its slots hold.
use Rattle.uv_order.proofs.Names.{arith, ◌≡◌, ℕ, suc, ◌&&◌, ◌||◌, List, ◌∷◌, ◌++◌, Bool, true, false, Option, Some, None, refl, ap, sym, ◌∙◌, or-true, or_assoc, not, list_any, eq-eqb, or_left, or_right, Id, Due, Mode, Slot, is_open, Content, Request, content_keeps, request_in, has_some, State, is_alive, poll_timeout_by, goes, has_id, run_ids, is_kept_by, has_handle, has_run, has_request, closes_some, lives, may_wait, [], held}
use Rattle.uv_order.proofs.Lemmas.{itself, asked_at, AllAsk, IsOpen, HasEnded, Working}

-- ---- words

pub either_way : (a b : Bool) → (a ≡ true → b ≡ true) → (b ≡ true → a ≡ true) → a ≡ b
either_way a b f g = grind arith

-- ---- what a slot holds is a handle or a request

abbrev is_asked : Option Content → Bool
is_asked None = false
is_asked (Some (Content.Handle h)) = false
is_asked (Some (Content.Request r)) = true

abbrev any_asked : List (Slot Content) → Bool
any_asked slots = list_any (λ (slot : Slot Content). is_asked slot.content) slots

one_split : (c : Option Content) (x a b : Bool) → x ≡ (a || b) → (content_keeps c || x) ≡ ((is_kept_by c || a) || (is_asked c || b))
one_split c x a b e = grind arith

split : (slots : List (Slot Content)) → list_any (λ (slot : Slot Content). content_keeps slot.content) slots
    ≡ (list_any (λ (slot : Slot Content). is_kept_by slot.content) slots || any_asked slots)
split [] = refl
split (x ∷ xs) = one_split x.content _ _ _ (split xs)

-- ---- the requests that slots hold

-- some slot holds such a thing just where some id stands for one
pub found : (f : Option Content → Bool) (slots : List (Slot Content)) → list_any (λ (slot : Slot Content). f slot.content) slots ≡ true →
    (id : Id) × (f (held slots id) ≡ true)
found f [] e = cc e
found f (x ∷ xs) e = at (f x.content) refl (found f xs) e where
  at : (b : Bool) → f x.content ≡ b → (list_any (λ (slot : Slot Content). f slot.content) xs ≡ true → (id : Id) × (f (held xs id) ≡ true)) →
      (b || list_any (λ (slot : Slot Content). f slot.content) xs) ≡ true → (id : Id) × (f (held (x ∷ xs) id) ≡ true)
  at true g more h = (record { slot = 0; generation = x.generation }, rw (eq-eqb x.generation x.generation refl) g)
  at false g more h = let r = more h in (record { slot = suc r.0.slot; generation = r.0.generation }, r.1)

pub is_any : (f : Option Content → Bool) (slots : List (Slot Content)) (n g : ℕ) → f None ≡ false →
    f (held slots (record { slot = n; generation = g })) ≡ true → list_any (λ (slot : Slot Content). f slot.content) slots ≡ true
is_any f (x ∷ xs) (suc n) g none e = rw (is_any f xs n g none e) (or-true (f x.content))
is_any f each n g none e = grind arith

asked_some : (c : Option Content) → is_asked c ≡ true → (r : Request) × (request_in c ≡ Some r)
asked_some (Some (Content.Request r)) e = (r, refl)
asked_some each e = cc e

-- ---- lists with members

pub some_of : (ids : List Id) (id : Id) → has_id ids id ≡ true → has_some ids ≡ true
some_of ids id e = grind arith

pub record First (ids : List Id) : Type 0 where
  pub id : Id
  pub on : has_id ids id ≡ true

pub first : (ids : List Id) → has_some ids ≡ true → First ids
first [] e = cc e
first (x ∷ xs) e = record { id = x; on = rw (itself x x refl) refl }

some_runs : (running : List (Option Id)) → has_some (run_ids running) ≡ has_run running
some_runs (None ∷ running) = some_runs running
some_runs each = assumption

-- those of both lists are all requests that are held
listed : (slots : List (Slot Content)) (open_ones ended : List Id) → AllAsk slots IsOpen open_ones → AllAsk slots HasEnded ended →
    (has_some open_ones || has_some ended) ≡ any_asked slots
listed slots open_ones ended j k = either_way _ _ (there (has_some open_ones) refl) (λ e. on (found is_asked slots e)) where
  there : (b : Bool) → has_some open_ones ≡ b → (b || has_some ended) ≡ true → any_asked slots ≡ true
  there true f e = let m = first open_ones f in let a = j.each m.id m.on in is_any is_asked slots m.id.slot m.id.generation refl (grind arith)
  there false f e = let m = first ended e in let a = k.each m.id m.on in is_any is_asked slots m.id.slot m.id.generation refl (grind arith)

  on : (id : Id) × (is_asked (held slots id) ≡ true) → (has_some open_ones || has_some ended) ≡ true
  on r = let a = asked_some (held slots r.0) r.1 in by a.0 a.1 (is_open a.0.outcome) refl where
    by : (x : Request) → asked_at slots r.0 ≡ Some x → (b : Bool) → is_open x.outcome ≡ b → (has_some open_ones || has_some ended) ≡ true
    by x e true f = or_left _ _ (some_of open_ones r.0 (j.all r.0 (record { request = x; holds = e; fits = f })))
    by x e false f = or_right _ _ (some_of ended r.0 (k.all r.0 (record { request = x; holds = e; fits = f })))

-- ---- the loop

pub lives_is : (s : State) → Working s → lives s ≡ is_alive s
lives_is s w =
    let lists : has_request s ≡ any_asked s.arena.slots =
    ap (λ (b : Bool). (has_some s.waiting || b) || (has_some s.done.list || has_some s.done.yet)) (sym (some_runs s.running))
    ∙ ap (λ (b : Bool). b || (has_some s.done.list || has_some s.done.yet)) (sym (grind arith))
    ∙ ap (λ (b : Bool). has_some (s.waiting ++ run_ids s.running) || b) (sym (grind arith))
    ∙ listed s.arena.slots _ _ w.open_ones w.ended in
    ap (λ (b : Bool). has_handle s || (b || closes_some s)) lists ∙ sym (or_assoc (has_handle s) (any_asked s.arena.slots) (closes_some s))
    ∙ ap (λ (b : Bool). b || closes_some s) (sym (split s.arena.slots))

pub goes_is : (s : State) → lives s ≡ is_alive s → (lives s && not s.stop_flag) ≡ goes s
goes_is s e = ap (λ (b : Bool). b && not s.stop_flag) e

pub may_wait_is : (s : State) (timers : List (Due × Id)) (m : Mode) → lives s ≡ is_alive s → poll_timeout_by s timers m ≡ may_wait s timers m
may_wait_is s timers m e = grind arith
