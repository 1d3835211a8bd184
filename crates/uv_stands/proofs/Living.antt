-- What keeps the loop alive is counted: the active referenced handles, and the open requests.
use Rattle.uv_stands.proofs.ProofNames.{◌≡◌, ◌⊎◌, inl, inr, ℕ, zero, suc, ◌+◌, ◌||◌, Bool, true, false, if◌then◌else◌, List, [], ◌∷◌, ◌++◌, length, length-append, ◌<◌, ◌≤◌, slice_get, Option, Some, None, option_and_then, eq-eqb, refl, sym, ap, ◌∙◌, arith, list_any, both_ways, Id, Slot, active_count, one_if, busy, is_open, same_itself, Content, Handle, Asked, Place, Request, handle_of, content_keeps, request_in, open_requests, State, request, is_alive, has_closing, has_id, run_ids, IsReached, Image, StandsFor, IsFit}
use Rattle.uv_records.specs.Count as counts
use Rattle.uv_records.specs.Slots as plain
use Rattle.uv_stands.proofs.Pools.{active_fit, opened_fit}
use Rattle.uv_stands.proofs.Single.{running_is}

-- ---- slots by what they hold

-- a slot holds something of which this is true
pub record Somewhere (P : Option Content → Bool) (ss : List (Slot Content)) : Type 0 where
  pub id : Id
  pub content : Option Content
  pub held : plain.held ss id ≡ content
  pub fits : P content ≡ true

own : (s : Slot Content) (n : ℕ) → plain.held_in (record { slot = n; generation = s.generation }) s ≡ s.content
own s n = ap (λ (b : Bool). if b then s.content else None) (eq-eqb s.generation s.generation refl)

behind : (P : Option Content → Bool) (s : Slot Content) (ss : List (Slot Content)) → Somewhere P ss → Somewhere P (s ∷ ss)
behind P s ss w = record {
  id = record { slot = suc w.id.slot; generation = w.id.generation };
  content = w.content;
  held = w.held;
  fits = w.fits;
}

pub somewhere : (P : Option Content → Bool) (ss : List (Slot Content)) → list_any (λ (s : Slot Content). P s.content) ss ≡ true → Somewhere P ss
somewhere P [] e = cc e
somewhere P (s ∷ ss) e = at (P s.content) refl e (somewhere P ss) where
  at : (b : Bool) → P s.content ≡ b → (b || list_any (λ (s : Slot Content). P s.content) ss) ≡ true
      → (list_any (λ (s : Slot Content). P s.content) ss ≡ true → Somewhere P ss) → Somewhere P (s ∷ ss)
  at true f e rest = record { id = record { slot = 0; generation = s.generation }; content = s.content; held = own s 0; fits = f }
  at false f e rest = behind P s ss (rest e)

pub or_true : (b c : Bool) → c ≡ true → (b || c) ≡ true
or_true b c e = grind arith

any_at : (P : Option Content → Bool) (ss : List (Slot Content)) (n : ℕ) (d : Id) (c : Content)
    → option_and_then (plain.held_in d) (slice_get ss n) ≡ Some c → P (Some c) ≡ true → list_any (λ (s : Slot Content). P s.content) ss ≡ true
any_at P (s ∷ ss) (suc n) d c e f = or_true (P s.content) _ (any_at P ss n d c e f)
any_at each e1 e2 d c e f = grind arith

-- what is held under an id is in some slot
pub any_held : (P : Option Content → Bool) (ss : List (Slot Content)) (d : Id) (c : Content) → plain.held ss d ≡ Some c → P (Some c) ≡ true
    → list_any (λ (s : Slot Content). P s.content) ss ≡ true
any_held P ss d c e f = any_at P ss d.slot d c e f

-- ---- numbers

abbrev pub positive : ℕ → Bool
positive zero = false
positive (suc n) = true

pub is_positive : (n : ℕ) → 0 < n → positive n ≡ true
is_positive n lt = grind arith

pub not_positive : (n : ℕ) → n ≤ 0 → positive n ≡ false
not_positive n le = grind arith

-- ---- handles and requests apart

abbrev is_asked : Option Content → Bool
is_asked None = false
is_asked (Some (Handle h)) = false
is_asked (Some (Asked r)) = true

abbrev any_asked : List (Slot Content) → Bool
any_asked ss = list_any (λ (s : Slot Content). is_asked s.content) ss

abbrev keeping : List (Slot Content) → Bool
keeping ss = list_any (λ (s : Slot Content). content_keeps s.content) ss

one_slot : (o : Option Content) (n : ℕ) (a : Bool)
    → (content_keeps o || (positive n || a)) ≡ (positive (one_if (counts.content_keeps handle_of o) + n) || (is_asked o || a))
one_slot each n a = grind arith

keeps_apart : (ss : List (Slot Content)) → keeping ss ≡ (positive (active_count handle_of ss) || any_asked ss)
keeps_apart [] = refl
keeps_apart (s ∷ ss) = simp (one_slot, (keeps_apart ss))

-- ---- requests by their lists

length_runs : (rs : List (Option Id)) → length (run_ids rs) ≡ busy rs
length_runs [] = refl
length_runs (None ∷ rs) = length_runs rs
length_runs (Some d ∷ rs) = let rest = length_runs rs in omega (arith, rest)

-- who is on a list makes it longer than none, and a longer one has its first
not_on : (xs : List Id) (d : Id) → length xs ≡ 0 → has_id xs d ≡ true → ⊥
not_on [] d z e = cc e
not_on (x ∷ xs) d z e = cc z

none_on : (xs : List Id) → ((d : Id) → has_id xs d ≡ true → ⊥) → length xs ≡ 0
none_on [] f = refl
none_on (x ∷ xs) f = absurd (f x (ap (λ b. b || has_id xs x) (same_itself x)))

counts_as : (b : Bool) (n : ℕ) → (b ≡ true → n ≡ 0 → ⊥) → (b ≡ false → n ≡ 0) → b ≡ positive n
counts_as each e1 f g = grind arith

module _ (s : State) (r : IsReached s) where
  abbrev opened : List Id
  opened = s.waiting ++ run_ids s.running

  abbrev ended : List Id
  ended = s.done.list ++ s.done.yet

  all_lengths : open_requests s ≡ length opened + length ended
  all_lengths =
      let a = length-append s.waiting (run_ids s.running) in
      let b = length_runs s.running in
      let c = length-append s.done.list s.done.yet in
      omega (arith, a, b, c)

  -- a request that is held is on one of the lists
  listed : (w : Somewhere is_asked s.arena.slots) → (has_id opened w.id ≡ true) ⊎ (has_id ended w.id ≡ true)
  listed w = at w.content w.held w.fits where
    by : (x : Request) (b : Bool) → request s w.id ≡ Some x → is_open x.outcome ≡ b
        → (has_id opened w.id ≡ true) ⊎ (has_id ended w.id ≡ true)
    by x true e is = inl (r.opened.all w.id (record { its = x; holds = e; opened = is }))
    by x false e is = inr (r.done.all w.id (record { its = x; holds = e; ended = is }))

    at : (o : Option Content) → plain.held s.arena.slots w.id ≡ o → is_asked o ≡ true
        → (has_id opened w.id ≡ true) ⊎ (has_id ended w.id ≡ true)
    at None e f = cc f
    at (Some (Handle h)) e f = cc f
    at (Some (Asked x)) e f = by x (is_open x.outcome) (ap request_in e) refl

  -- who is on one of the lists is held
  asked_there : (d : Id) (x : Request) → request s d ≡ Some x → any_asked s.arena.slots ≡ true
  asked_there d x e = at (plain.held s.arena.slots d) refl e where
    at : (o : Option Content) → plain.held s.arena.slots d ≡ o → request_in o ≡ Some x → any_asked s.arena.slots ≡ true
    at None e f = cc f
    at (Some (Handle h)) e f = cc f
    at (Some (Asked y)) e f = any_held is_asked s.arena.slots d (Asked y) e refl

  asked_counts : any_asked s.arena.slots ≡ positive (open_requests s)
  asked_counts = counts_as (any_asked s.arena.slots) (open_requests s) some none where
    some : any_asked s.arena.slots ≡ true → open_requests s ≡ 0 → ⊥
    some e z =
        let sum = all_lengths in
        let w = somewhere is_asked s.arena.slots e in
        elim (listed w) [
          | inl on ↦ not_on opened w.id (omega (arith, sum, z)) on
          | inr on ↦ not_on ended w.id (omega (arith, sum, z)) on
        ]

    none : any_asked s.arena.slots ≡ false → open_requests s ≡ 0
    none e =
        let sum = all_lengths in
        let a = none_on opened (λ d on. let k = r.opened.each d on in both_ways (any_asked s.arena.slots) e (asked_there d k.its k.holds)) in
        let b = none_on ended (λ d on. let k = r.done.each d on in both_ways (any_asked s.arena.slots) e (asked_there d k.its k.holds)) in
        omega (arith, sum, a, b)

or_in : (a b c : Bool) → ((a || b) || c) ≡ (a || (b || c))
or_in a b c = grind arith

-- the loop is alive just where the counts or the closing handles say so
pub alive_counts : (i : Image Place) (s : State) → IsFit i → StandsFor i s → IsReached s
    → is_alive s ≡ (positive i.active || (positive i.running.count || has_closing s))
alive_counts i s fit h r =
    ap (λ b. b || has_closing s) (keeps_apart s.arena.slots ∙ ap (λ b. positive (active_count handle_of s.arena.slots) || b) (asked_counts s r))
    ∙ or_in (positive (active_count handle_of s.arena.slots)) (positive (open_requests s)) (has_closing s)
    ∙ ap (λ n. positive n || (positive (open_requests s) || has_closing s)) (sym (active_fit i s fit h.slots))
    ∙ ap (λ n. positive i.active || (positive n || has_closing s)) (sym (opened_fit i s fit (running_is h) h.lists))

module _ (i : Image Place) (s : State) (fit : IsFit i) (h : StandsFor i s) (r : IsReached s) where
  pub alive_handles : 0 < i.active → is_alive s ≡ true
  alive_handles lt =
      alive_counts i s fit h r ∙ ap (λ b. b || (positive i.running.count || has_closing s)) (is_positive i.active lt)

  pub alive_requests : 0 < i.running.count → is_alive s ≡ true
  alive_requests lt =
      alive_counts i s fit h r
      ∙ or_true (positive i.active) _ (ap (λ b. b || has_closing s) (is_positive i.running.count lt))

  pub alive_closing : i.active ≤ 0 → i.running.count ≤ 0 → is_alive s ≡ has_closing s
  alive_closing a b =
      let x = not_positive i.active a in
      let y = not_positive i.running.count b in alive_counts i s fit h r ∙ (λ l. x l || (y l || has_closing s))
