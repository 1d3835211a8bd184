-- The bytes of what is told of a state tell it, where the digest of each finished request is that of its task.
use Rattle.uv_state_key.proofs.Names.{arith, ◌≡◌, ◌<◌, ◌≤◌, ◌+◌, ◌*◌, ℕ, true, List, [], ◌∷◌, ◌++◌, Option, Some, None, refl, ap, map, option_map, Id, Kind, HandleRecord, Calls, Named, Slot, Walk, held, Content, Request, text_of, Numbers, Place, request_in, State, with_run, By, Bound, Nothing, Gone, Told, Tale, bound_by, bound_to, told_name, runs_at, tale_by, as_id, name_at, number_code, bytes_code, Tells, TellsOf, numbers_tell, byte_tells, bytes_tell, any_tells, pair_tells, pair_tells_of, part_tells, list_tells, list_tells_of, settled_back, AllFit, kind_number, flags_of, place_code, handle_number, request_number, bound_code, are_few, few_number, names_walk_code, run_name_code, IsTold}
use Rattle.uv_work.specs.declared.content.Content.TheVariants as content
use Rattle.uv_tale.specs.Tale.{Holds}
use Rattle.uv_key.specs.Codes.{byte_code, list_code}
use Rattle.uv_state_key.specs.TaleKey.{told_handle_code, told_request_code, counts_code, told_code}
use Rattle.uv_state_key.specs.TaleKey.{names_code, told_watchers_code, told_requests_code, told_lists_code, tale_code}
use Rattle.uv_state_key.proofs.Codes.{Flags, flags_number, same_flags, bit_small, kind_of, kind_back, calls_tell, place_tells, loop_numbers_tell}
use Rattle.uv_state_key.proofs.Slots.{RequestPart, request_part, same_request}
use Rattle.uv_state_key.proofs.Slots as slot

-- ---- handles

flags_small : (f : Flags) → flags_number f < 32
flags_small f = grind (arith, bit_small f.0, bit_small f.1, bit_small f.2, bit_small f.3, bit_small f.4)

kind_small : (k : Kind) → kind_number k ≤ 5
kind_small k = grind arith

abbrev flags_in : HandleRecord → Flags
flags_in h = (h.referenced, h.active, h.closing, h.begun, h.pending)

-- the one byte tells both
both_told : (f g k l : ℕ) → f < 32 → g < 32 → 2 + f + 32 * k ≡ 2 + g + 32 * l → (f ≡ g) × (k ≡ l)
both_told f g k l a b e = (omega (arith, a, b, e), omega (arith, a, b, e))

abbrev HandlePart : Type 0
HandlePart = (((ℕ × ℕ) × ℕ) × ℕ) × ℕ

abbrev handle_part : HandleRecord → HandlePart
handle_part h = ((((handle_number h, h.due.at), h.due.start), h.repeat), h.name.0)

same_handle : (a b : HandleRecord) → handle_part a ≡ handle_part b → a ≡ b
same_handle a b e =
    let head : handle_number a ≡ handle_number b = ap (λ (p : HandlePart). p.0.0.0.0) e in
    let both = both_told (flags_of a) (flags_of b) (kind_number a.kind) (kind_number b.kind) (flags_small (flags_in a)) (flags_small (flags_in b))
    head in
    let flags = same_flags (flags_in a) (flags_in b) both.0 in
    let kind : a.kind ≡ b.kind = settled_back kind_number kind_of kind_back a.kind b.kind both.1 in
    grind arith

told_handle_tells : Tells told_handle_code
unfolding told_handle_code
told_handle_tells = part_tells _ handle_part same_handle
    (pair_tells _ _ (pair_tells _ _ (pair_tells _ _ (pair_tells _ _ byte_tells numbers_tell) numbers_tell) numbers_tell) numbers_tell)

-- ---- requests

abbrev told_request_part : Request → RequestPart
told_request_part r = (((request_number r, r.name.0), r.task.rounds), text_of r.task)

request_parts_tell : Tells {X = RequestPart} (λ p. byte_code p.0.0.0 ++ number_code p.0.0.1 ++ number_code p.0.1 ++ bytes_code p.1)
request_parts_tell = pair_tells _ _ (pair_tells _ _ (pair_tells _ _ byte_tells numbers_tell) numbers_tell) bytes_tell

told_request_tells : TellsOf slot.Told told_request_code
unfolding told_request_code
told_request_tells a b x y h k e =
    let r = request_parts_tell (told_request_part a) (told_request_part b) x y e in
    (same_request a b h k (grind arith), r.1)

-- ---- what names are bound to

abbrev BoundFits : Bound → Type 0
BoundFits Nothing = Unit {0}
BoundFits Gone = Unit {0}
BoundFits (Holds (content.Handle h)) = Unit {0}
BoundFits (Holds (content.Request r)) = slot.Told r

handle_below : (h : HandleRecord) → handle_number h < 194
handle_below h = omega (arith, flags_small (flags_in h), kind_small h.kind)

not_request : (h : HandleRecord) (r : Request) → handle_number h ≡ request_number r → ⊥
not_request h r e = omega (arith, e, handle_below h)

request_above : (r : Request) (n : ℕ) → n < 2 → n ≡ request_number r → ⊥
request_above r n l e = omega (arith, l, e)

bound_tells : TellsOf BoundFits bound_code
unfolding byte_code told_handle_code told_request_code
bound_tells each e1 x y h k e = grind (arith, told_handle_tells, told_request_tells, request_above, not_request)

-- ---- counts

few_each : (c : Calls) → are_few c ≡ true → (c.handle < 6) × (c.after < 6) × (c.close < 6)
few_each c few = (grind (arith, few), grind (arith, few), grind (arith, few))

few_below : (c : Calls) → are_few c ≡ true → few_number c ≡ 255 → ⊥
few_below c few e = let f = few_each c few in omega (arith, f.0, f.1, f.2, e)

counts_tell : Tells counts_code
unfolding counts_code byte_code
counts_tell a b x y e = grind (arith, few_each, few_below, calls_tell)

-- ---- names

abbrev ToldFits : Told → Type 0
ToldFits t = BoundFits t.bound

told_tells : TellsOf ToldFits told_code
unfolding told_code
told_tells a b x y h k e =
    let both = pair_tells_of _ _ _ _ bound_tells (any_tells _ counts_tell) in
    let r = both (a.bound, a.calls) (b.bound, b.calls) x y (h, tt) (k, tt) e in
    ((λ i. record { bound = (r.0 i).0; calls = (r.0 i).1 }), r.1)

-- ---- lists

names_tell : Tells names_code
unfolding names_code
names_tell = list_tells _ numbers_tell

abbrev walk_part : Walk ℕ → List ℕ × List ℕ
walk_part w = (w.list, w.yet)

walks_tell : Tells names_walk_code
walks_tell = part_tells _ walk_part (settled_back walk_part (λ p. record { list = p.0; yet = p.1 }) (λ w. refl))
    (pair_tells _ _ names_tell names_tell)

-- what a worker runs is a name as an id
abbrev IsName : Option Id → Type 0
IsName None = Unit {0}
IsName (Some id) = id.generation ≡ 0

run_tells : TellsOf IsName run_name_code
unfolding byte_code
run_tells each e1 x y h k e = grind (arith, numbers_tell)

-- ---- all lists

abbrev Watchers : Type 0
Watchers = ((Walk ℕ × Walk ℕ) × Walk ℕ) × Walk ℕ

abbrev watchers_of : Tale → Watchers
watchers_of t = (((t.idle, t.prepare), t.check), t.async)

watchers_tell : Tells {X = Watchers} (λ w. names_walk_code w.0.0.0 ++ names_walk_code w.0.0.1 ++ names_walk_code w.0.1 ++ names_walk_code w.1)
watchers_tell = pair_tells _ _ (pair_tells _ _ (pair_tells _ _ walks_tell walks_tell) walks_tell) walks_tell

abbrev Requests : Type 0
Requests = (List ℕ × List (Option Id)) × Walk ℕ

abbrev requests_of : Tale → Requests
requests_of t = ((t.waiting, t.running), t.done)

abbrev RequestsFit : Requests → Type 0
RequestsFit r = AllFit IsName r.0.1

requests_tell : TellsOf RequestsFit (λ r. names_code r.0.0 ++ list_code run_name_code r.0.1 ++ names_walk_code r.1)
requests_tell a b x y h k e =
    let two = pair_tells_of _ _ _ _ (any_tells _ names_tell) (list_tells_of _ _ run_tells) in
    let all = pair_tells_of _ _ _ _ two (any_tells _ walks_tell) in
    all a b x y ((tt, h), tt) ((tt, k), tt) e

abbrev Lists : Type 0
Lists = ((List ℕ × Watchers) × Walk ℕ) × Requests

abbrev lists_of : Tale → Lists
lists_of t = (((t.ready, watchers_of t), t.closing), requests_of t)

abbrev ListsFit : Lists → Type 0
ListsFit l = AllFit IsName l.1.0.1

lists_tell : TellsOf ListsFit (λ l. names_code l.0.0.0
    ++ (names_walk_code l.0.0.1.0.0.0 ++ names_walk_code l.0.0.1.0.0.1 ++ names_walk_code l.0.0.1.0.1 ++ names_walk_code l.0.0.1.1)
    ++ names_walk_code l.0.1 ++ (names_code l.1.0.0 ++ list_code run_name_code l.1.0.1 ++ names_walk_code l.1.1))
lists_tell a b x y h k e =
    let closing = pair_tells _ _ (pair_tells _ _ names_tell watchers_tell) walks_tell in
    let all = pair_tells_of _ _ _ _ (any_tells _ closing) requests_tell in
    all a b x y (tt, h) (tt, k) e

-- ---- the whole

-- what holds of what is told of a state
pub record TaleFits (t : Tale) : Type 0 where
  pub names : AllFit ToldFits t.names
  pub runs : AllFit IsName t.running

abbrev Rest : Type 0
Rest = ((Place × List Told) × ℕ) × ℕ

abbrev rest_of : Tale → Rest
rest_of t = (((t.place, t.names), t.used), t.unused)

abbrev RestFits : Rest → Type 0
RestFits r = AllFit ToldFits r.0.0.1

rest_tells : TellsOf RestFits (λ r. place_code r.0.0.0 ++ list_code told_code r.0.0.1 ++ number_code r.0.1 ++ number_code r.1)
rest_tells a b x y h k e =
    let named = pair_tells_of _ _ _ _ (any_tells _ place_tells) (list_tells_of _ _ told_tells) in
    let used = pair_tells_of _ _ _ _ named (any_tells _ numbers_tell) in
    let all = pair_tells_of _ _ _ _ used (any_tells _ numbers_tell) in
    all a b x y (((tt, h), tt), tt) (((tt, k), tt), tt) e

abbrev Part : Type 0
Part = (Rest × Lists) × Numbers

abbrev part_of : Tale → Part
part_of t = ((rest_of t, lists_of t), t.numbers)

pub tale_tells : TellsOf TaleFits tale_code
unfolding tale_code told_lists_code told_watchers_code told_requests_code
tale_tells a b x y h k e =
    let all = pair_tells_of _ _ _ _ (pair_tells_of _ _ _ _ rest_tells lists_tell) (any_tells _ loop_numbers_tell) in
    let r = all (part_of a) (part_of b) x y ((h.names, h.runs), tt) ((k.names, k.runs), tt) e in
    (grind arith)

-- ---- what is told of a state fits, where each digest is that of its task

bound_fits : (d : By) (c : Option Content) → ((r : Request) → request_in c ≡ Some r → slot.Told r) → BoundFits (bound_by d c)
bound_fits d None h = tt
bound_fits d (Some (content.Handle x)) h = tt
bound_fits d (Some (content.Request r)) h = h r refl

name_fits : (d : By) (s : State) → IsTold s → (o : Option Id) → BoundFits (bound_to d s.arena.slots o)
name_fits d s h None = tt
name_fits d s h (Some id) = bound_fits d (held s.arena.slots id) (h.digests id)

names_fit : (d : By) (n : ℕ) (s : State) → IsTold s → (names : List Named) → AllFit ToldFits (map (told_name d n s.arena.slots) names)
names_fit d n s h [] = tt
names_fit d n s h (x ∷ xs) = (name_fits d s h x.id, names_fit d n s h xs)

run_fits : (run : Option Id) (runs : List (Option Id)) → IsName run → AllFit IsName runs → AllFit IsName (with_run run runs)
run_fits run [] is h = (is, tt)
run_fits run (x ∷ xs) is h = grind (arith, (run_fits run xs is h.1))

is_name : (slots : List (Slot Content)) (o : Option Id) → IsName (option_map (λ (id : Id). as_id (name_at slots id)) o)
is_name slots o = grind arith

runs_fit : (slots : List (Slot Content)) (running : List (Option Id)) → AllFit IsName (runs_at slots running)
runs_fit slots [] = tt
runs_fit slots (x ∷ xs) = search (run_fits, is_name, (runs_fit slots xs))

pub tale_fits : (d : By) (n : ℕ) (s : State) → IsTold s → TaleFits (tale_by d n s)
tale_fits d n s h = record { names = names_fit d n s h s.names; runs = runs_fit s.arena.slots s.running }
