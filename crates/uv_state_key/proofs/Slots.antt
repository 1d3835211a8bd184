-- The bytes of the slots tell what they hold, where the digest of each finished request is that of its task.
use Rattle.uv_state_key.proofs.Names.{arith, ◌≡◌, ℕ, zero, suc, List, [], ◌∷◌, ◌++◌, Option, Some, None, slice_get, refl, ap, sym, subst, ◌∙◌, Id, Slot, Slots, held, Content, Outcome, Request, Task, IsDigest, text_of, request_in, number_code, bytes_code, Tells, TellsOf, numbers_tell, byte_tells, bytes_tell, any_tells, pair_tells, pair_tells_of, list_tells, list_tells_of, AllFit, outcome_number, content_code}
use Rattle.uv_work.specs.declared.content.Content.TheVariants as content
use Rattle.uv_work.proofs.TaskLemmas.{same_task}
use Rattle.uv_key.specs.Codes.{byte_code}
use Rattle.uv_state_key.specs.Key.{request_code, slot_code, arena_code}
use Rattle.uv_state_key.proofs.Codes.{handle_tells}

-- ---- requests

same_outcome : (task : Task) (o q : Outcome) → IsDigest task o → IsDigest task q → outcome_number o ≡ outcome_number q → o ≡ q
same_outcome task o q h k e = grind arith

abbrev pub Told : Request → Type 0
Told r = IsDigest r.task r.outcome

abbrev pub RequestPart : Type 0
RequestPart = ((ℕ × ℕ) × ℕ) × List ℕ

abbrev pub request_part : Request → RequestPart
request_part r = (((outcome_number r.outcome, r.name.0), r.task.rounds), text_of r.task)

parts_tell : Tells {X = RequestPart} (λ p. byte_code p.0.0.0 ++ number_code p.0.0.1 ++ number_code p.0.1 ++ bytes_code p.1)
parts_tell = pair_tells _ _ (pair_tells _ _ (pair_tells _ _ byte_tells numbers_tell) numbers_tell) bytes_tell

pub same_request : (a b : Request) → Told a → Told b → request_part a ≡ request_part b → a ≡ b
same_request a b h k e =
    let task = same_task a.task b.task (ap (λ (p : RequestPart). p.0.1) e) (ap (λ (p : RequestPart). p.1) e) in
    let told = subst (λ (t : Task). IsDigest t b.outcome) (sym task) k in
    let outcome = same_outcome a.task a.outcome b.outcome h told (ap (λ (p : RequestPart). p.0.0.0) e) in
    λ i. record { name = record { 0 = (e i).0.0.1 }; task = task i; outcome = outcome i }

request_tells : TellsOf Told request_code
unfolding request_code
request_tells a b x y h k e =
    let r = parts_tell (request_part a) (request_part b) x y e in
    (same_request a b h k r.0, r.1)

-- ---- slots

abbrev ContentFits : Option Content → Type 0
ContentFits None = Unit {0}
ContentFits (Some (content.Handle h)) = Unit {0}
ContentFits (Some (content.Request r)) = Told r

content_tells : TellsOf ContentFits content_code
unfolding byte_code
content_tells each e1 x y h k e = grind (arith, handle_tells, request_tells)

abbrev pub SlotFits : Slot Content → Type 0
SlotFits slot = ContentFits slot.content

slot_tells : TellsOf SlotFits slot_code
unfolding slot_code
slot_tells a b x y h k e =
    let both = pair_tells_of _ _ _ _ (any_tells _ numbers_tell) content_tells in
    let r = both (a.generation, a.content) (b.generation, b.content) x y (tt, h) (tt, k) e in
    ((λ i. record { generation = (r.0 i).0; content = (r.0 i).1 }), r.1)

abbrev pub ArenaFits : Slots Content → Type 0
ArenaFits a = AllFit SlotFits a.slots

pub arena_tells : TellsOf ArenaFits arena_code
unfolding arena_code
arena_tells a b x y h k e =
    let lists = pair_tells_of _ _ _ _ (list_tells_of _ _ slot_tells) (any_tells _ (list_tells _ numbers_tell)) in
    let all = pair_tells_of _ _ _ _ lists (any_tells _ numbers_tell) in
    let r = all ((a.slots, a.free), a.unused) ((b.slots, b.free), b.unused) x y ((h, tt), tt) ((k, tt), tt) e in
    ((λ i. record { slots = (r.0 i).0.0; free = (r.0 i).0.1; unused = (r.0 i).1 }), r.1)

-- ---- what the slots hold fits, where each request that is held does

all_fit : (slots : List (Slot Content)) → ((n : ℕ) (slot : Slot Content) → slice_get slots n ≡ Some slot → SlotFits slot) → AllFit SlotFits slots
all_fit [] h = tt
all_fit (slot ∷ slots) h = (h zero slot refl, all_fit slots (λ n s e. h (suc n) s e))

id_of : ℕ → Slot Content → Id
id_of n slot = record { slot = n; generation = slot.generation }

held_there : (slots : List (Slot Content)) (n : ℕ) (slot : Slot Content) → slice_get slots n ≡ Some slot →
    held slots (id_of n slot) ≡ slot.content
unfolding id_of
held_there slots n slot e = grind (arith, e)

pub arena_fits : (slots : List (Slot Content)) → ((id : Id) (r : Request) → request_in (held slots id) ≡ Some r → Told r) → AllFit SlotFits slots
arena_fits slots told = all_fit slots (λ n slot e. by n slot e slot.content refl) where
  by : (n : ℕ) (slot : Slot Content) → slice_get slots n ≡ Some slot → (c : Option Content) → slot.content ≡ c → ContentFits c
  by n slot e None f = tt
  by n slot e (Some (content.Handle h)) f = tt
  by n slot e (Some (content.Request r)) f = told (id_of n slot) r (ap request_in (held_there slots n slot e ∙ f))
