-- What becomes of a request leaves the count of active referenced handles.
use Rattle.uv_memory.proofs.Names.{◌≡◌, ℕ, zero, suc, ◌+◌, ◌<◌, Bool, false, if◌then◌else◌, List, [], ◌∷◌, ◌++◌, set, slice_get, Option, Some, None, option_and_then, refl, sym, ap, ◌∙◌, inl, inr, arith, eqb_tells, Id, Slot, one_if, content_keeps, keeps_in, active_count, ChainPlace, IsIn, CHAIN_COUNT, FREE, held_slots, plain_slots, slot_at, place_at, IsSound, push_undone, unlink_undone, SameSlots, get-slots, member_tells, slots_relinked, slots_edited, held_tells, alive_count, Request, reopened, asked_at, reopened_by, reopened_in, Content, Asked, handle_of, request_of, no_handle}
use Rattle.uv_records.specs.Slots as plain
use Rattle.uv_arena.specs.Image as arena
use Rattle.uv_requests.proofs.Holding.{content_of}

count_set : (ss : List (Slot Content)) (x : ℕ) (s t : Slot Content) → slice_get ss x ≡ Some s → content_keeps handle_of s.content ≡ false
    → content_keeps handle_of t.content ≡ false → active_count handle_of (set ss x t) ≡ active_count handle_of ss
count_set [] x s t e a b = cc
count_set (r ∷ rs) zero s t e a b =
    let same : r ≡ s = cc in
    ap (λ q. one_if q + active_count handle_of rs) b ∙ sym (ap (λ (q : Slot Content). one_if
    (content_keeps handle_of q.content) + active_count handle_of rs) same
    ∙ ap (λ q. one_if q + active_count handle_of rs) a)
count_set (r ∷ rs) (suc x) s t e a b =
    let rest = count_set rs x s t e a b in ap (λ n. one_if (content_keeps handle_of r.content) + n) rest

count_more : (ss : List (Slot Content)) (t : Slot Content) → content_keeps handle_of t.content ≡ false
    → active_count handle_of (ss ++ t ∷ []) ≡ active_count handle_of ss
count_more [] t e = let z = ap one_if e in omega (arith, z)
count_more (s ∷ ss) t e = let rest = count_more ss t e in ap (λ n. one_if (content_keeps handle_of s.content) + n) rest

-- a request is put in the slot that was next
taken_count : (s : plain.Slots Content) (free : List ℕ) (d : Id) (r : Request)
    → ((x : ℕ) → IsIn x free → (q : Slot Content) × (slice_get s.slots x ≡ Some q) × (q.content ≡ None))
    → plain.next_id s.slots s.unused free ≡ Some d
    → active_count handle_of (plain.taken_from free d (Asked r) s).slots ≡ active_count handle_of s.slots
taken_count s [] d r empty next = count_more s.slots (record { generation = 0; content = Some (Asked r) }) refl
taken_count s (n ∷ ns) d r empty next =
    let q = empty n (inl refl) in
    let is : plain.id_of n q.0 ≡ d = cc (ap (option_and_then (λ (z : Slot Content). Some (plain.id_of n z))) q.1, next) in
    let at : slice_get s.slots d.slot ≡ Some q.0 = ap (λ (z : Id). slice_get s.slots z.slot) (sym is) ∙ q.1 in
    count_set s.slots d.slot q.0 (record { generation = d.generation; content = Some (Asked r) }) at (ap (content_keeps handle_of) q.2) refl

empty_free : (i : arena.Image Content) → IsSound i → (x : ℕ) → IsIn x (plain_slots i).free
    → (q : Slot Content) × (slice_get (plain_slots i).slots x ≡ Some q) × (q.content ≡ None)
empty_free i s x h =
    let lt : FREE < CHAIN_COUNT = omega arith in
    let c = member_tells i.memory s.linked FREE lt x h in
    (c.0.slot, get-slots i.memory.row.items x c.0 c.1, (s.fit x c.0 c.1).free c.2)

pub count_queued : (i j : arena.Image Content) → IsSound i → (d : Id) (r : Request) → plain.next_free (plain_slots i) ≡ Some d
    → plain_slots j ≡ plain.taken d (Asked r) (plain_slots i) → alive_count handle_of j ≡ alive_count handle_of i
count_queued i j s d r next e =
    ap (λ (q : plain.Slots Content). active_count handle_of q.slots) e ∙ taken_count (plain_slots i) (plain_slots i).free d r (empty_free i s) next

-- a request is freed
pub count_freed : (i j : arena.Image Content) (d : Id) (r : Request) → asked_at request_of i d ≡ Some r
    → plain_slots j ≡ plain.freed i.last d (plain_slots i) → alive_count handle_of j ≡ alive_count handle_of i
count_freed i j d r is e =
    let v = content_of request_of i d r is in
    let t = held_tells i.memory d v.0 v.1 in
    let at = get-slots i.memory.row.items d.slot t.0 t.1 in
    let none : content_keeps handle_of t.0.slot.content ≡ false = ap (content_keeps handle_of) t.2 ∙ ap keeps_in (no_handle v.0 r v.2) in
    let ss : List (Slot Content) = held_slots i.memory in
    let out : (g : ℕ) → active_count handle_of (set ss d.slot (record { generation = g; content = None })) ≡ active_count handle_of ss =
    λ g. count_set ss d.slot t.0.slot (record { generation = g; content = None }) at none refl in
    let way : Bool → plain.Slots Content = λ b. if b then record {
      slots = set ss d.slot (record { generation = d.generation; content = None });
      free = (plain_slots i).free;
      unused = (plain_slots i).unused;
    }
    else record {
      slots = set ss d.slot (record { generation = d.generation + 1; content = None });
      free = d.slot ∷ (plain_slots i).free;
      unused =
          (plain_slots i).unused;
    } in
    ap (λ (q : plain.Slots Content). active_count handle_of q.slots) e ∙ (elim (eqb_tells d.generation i.last) [
      | inl q ↦ ap (λ (b : Bool). active_count handle_of (way b).slots) q.0 ∙ out d.generation
      | inr q ↦ ap (λ (b : Bool). active_count handle_of (way b).slots) q.0 ∙ out (d.generation + 1)
    ])

-- moving slots between lists
pub count_moved : (i j : arena.Image Content) → SameSlots i j → alive_count handle_of j ≡ alive_count handle_of i
count_moved i j h = ap (λ (q : plain.Slots Content). active_count handle_of q.slots) h.plain

pub count_pushed : (x : ℕ) (i : arena.Image Content) → alive_count handle_of (push_undone x i) ≡ alive_count handle_of i
count_pushed x i = ap (active_count handle_of) (slots_relinked (place_at i.memory x) _ _ _ i.memory)

pub count_unlinked : (t : ChainPlace) (i : arena.Image Content) → alive_count handle_of (unlink_undone t i) ≡ alive_count handle_of i
count_unlinked t i = ap (active_count handle_of) (slots_relinked t _ _ _ i.memory)

reopened_cases : (o : Option Request) (d : Id) (i : arena.Image Content) → asked_at request_of i d ≡ o
    → alive_count handle_of (reopened_by Asked o d.slot i) ≡ alive_count handle_of i
reopened_cases None d i is = refl
reopened_cases (Some r) d i is =
    let v = content_of request_of i d r is in
    let t = held_tells i.memory d v.0 v.1 in
    let at = get-slots i.memory.row.items d.slot t.0 t.1 in
    let none : content_keeps handle_of t.0.slot.content ≡ false = ap (content_keeps handle_of) t.2 ∙ ap keeps_in (no_handle v.0 r v.2) in
    let new : Slot Content = record { generation = (slot_at i.memory d.slot).generation; content = Some (Asked (reopened r)) } in
    ap (active_count handle_of) (slots_edited d.slot new i.memory t.0 t.1) ∙ count_set (held_slots i.memory) d.slot t.0.slot new at none refl

pub count_reopened : (d : Id) (i : arena.Image Content) → alive_count handle_of (reopened_in request_of Asked d i) ≡ alive_count handle_of i
count_reopened d i = reopened_cases (asked_at request_of i d) d i refl
