-- The bytes of each part of a state tell which one it is.
use Rattle.uv_state_key.proofs.Names.{arith, ◌≤◌, ◌≡◌, ℕ, ◌+◌, ◌*◌, ◌<◌, ◌==◌, Bool, true, false, List, [], ◌∷◌, Option, Some, if◌then◌else◌, refl, Id, Kind, HandleRecord, Calls, Named, Walk, Numbers, Tells, number_small, numbers_tell, byte_tells, pair_tells, part_tells, list_tells, option_tells, settled_back, id_code, ids_code, bit, mode_number, callback_number, stage_part, stage_code, place_code, kind_number, flags_of, walk_code, Mode, Callback, Body, Run, Stage, Collecting, Firing}
use Rattle.uv_ids.specs.declared.phase.Kind.TheVariants as kind
use Rattle.uv_ids.specs.declared.phase.Mode.TheVariants.{Default, Once, Nowait}
use Rattle.uv_ids.specs.declared.seen.Callback.TheVariants as callback
use Rattle.uv_work.specs.declared.content.Content.TheVariants as content
use Rattle.uv_model.specs.declared.place.Stage.TheVariants as stage
use Rattle.uv_records.specs.declared.lists.WatcherKind.TheVariants as watcher
use Rattle.uv_model.specs.declared.place.TimersOf.TheVariants.{Entry, Iteration}
use Rattle.uv_key.specs.Codes.{byte_code}
use Rattle.uv_state_key.specs.Key.{body_code, run_code}
use Rattle.uv_state_key.specs.Key.{calls_code, named_code, handle_code, slot_code, numbers_code}

-- ---- ids

abbrev id_part : Id → ℕ × ℕ
id_part id = (id.slot, id.generation)

pub id_tells : Tells id_code
id_tells = part_tells _ id_part
    (settled_back id_part (λ p. record { slot = p.0; generation = p.1 }) (λ id. refl)) (pair_tells _ _ numbers_tell numbers_tell)

pub ids_tell : Tells ids_code
ids_tell = list_tells _ id_tells

abbrev walk_part : Walk Id → List Id × List Id
walk_part w = (w.list, w.yet)

pub walk_tells : Tells walk_code
walk_tells = part_tells _ walk_part (settled_back walk_part (λ p. record { list = p.0; yet = p.1 }) (λ w. refl)) (pair_tells _ _ ids_tell ids_tell)

-- ---- variants

mode_of : ℕ → Mode
mode_of n = if n == 0 then Default else if n == 1 then Once else Nowait

mode_back : (m : Mode) → mode_of (mode_number m) ≡ m
unfolding mode_of
mode_back m = grind arith

mode_tells : Tells (λ m. byte_code (mode_number m))
mode_tells = part_tells _ mode_number (settled_back mode_number mode_of mode_back) byte_tells

callback_of : ℕ → Callback
callback_of n = if n == 0 then callback.Handle else if n == 1 then callback.After else callback.Close

callback_back : (c : Callback) → callback_of (callback_number c) ≡ c
unfolding callback_of
callback_back c = grind arith

callback_tells : Tells (λ c. byte_code (callback_number c))
callback_tells = part_tells _ callback_number (settled_back callback_number callback_of callback_back) byte_tells

pub kind_of : ℕ → Kind
kind_of n =
    if n == 0 then kind.Timer else if n == 1 then kind.Idle else if n == 2 then kind.Prepare else if n == 3 then kind.Check
    else if n == 4 then kind.Async else kind.Io

pub kind_back : (k : Kind) → kind_of (kind_number k) ≡ k
unfolding kind_of
kind_back kind.Timer = refl
kind_back each = refl

kind_tells : Tells (λ k. byte_code (kind_number k))
kind_tells = part_tells _ kind_number (settled_back kind_number kind_of kind_back) byte_tells

bit_back : (b : Bool) → (bit b == 1) ≡ b
bit_back b = grind arith

same_bit : (a b : Bool) → bit a ≡ bit b → a ≡ b
same_bit = settled_back bit (λ n. n == 1) bit_back

bit_tells : Tells (λ b. byte_code (bit b))
bit_tells = part_tells _ bit same_bit byte_tells

-- ---- where the loop stands

stage_of : ℕ × Option ℕ → Stage
stage_of p =
    let n = p.0 in
    if n == 0 then stage.Entry else if n == 1 then stage.Pending else if n == 2 then stage.Walking watcher.Idle
    else if n == 3 then stage.Walking watcher.Prepare else if n == 4 then stage.Poll p.1 else if n == 5 then stage.Done
    else if n == 6 then stage.Walking watcher.Async else if n == 7 then stage.Walking watcher.Check
    else if n == 8 then stage.Closing else if n == 9 then stage.Timers Entry Collecting else if n == 10 then stage.Timers Entry Firing
    else if n == 11 then stage.Timers Iteration Collecting else if n == 12 then stage.Timers Iteration Firing
    else if n == 13 then stage.Polled false else if n == 14 then stage.Polled true else stage.DoneUnwoken

stage_back : (s : Stage) → stage_of (stage_part s) ≡ s
unfolding stage_of
stage_back (stage.Walking watcher.Idle) = refl
stage_back (stage.Timers Entry Collecting) = refl
stage_back (stage.Timers Iteration Collecting) = refl
stage_back (stage.Polled false) = refl
stage_back each = refl

stage_tells : Tells stage_code
stage_tells = part_tells _ stage_part (settled_back stage_part stage_of stage_back) (pair_tells _ _ byte_tells (option_tells _ numbers_tell))

abbrev body_part : Body → ((Callback × ℕ) × ℕ) × ℕ
body_part b = (((b.callback, b.name.0), b.call), b.next)

abbrev body_of : ((Callback × ℕ) × ℕ) × ℕ → Body
body_of p = record { callback = p.0.0.0; name = record { 0 = p.0.0.1 }; call = p.0.1; next = p.1 }

body_tells : Tells body_code
unfolding body_code
body_tells = part_tells _ body_part (settled_back body_part body_of (λ b. refl))
    (pair_tells _ _ (pair_tells _ _ (pair_tells _ _ callback_tells numbers_tell) numbers_tell) numbers_tell)

abbrev run_part : Run → ((Mode × ℕ) × Stage) × Option Body
run_part r = (((r.mode, r.line), r.stage), r.body)

abbrev run_of : ((Mode × ℕ) × Stage) × Option Body → Run
run_of p = record { mode = p.0.0.0; line = p.0.0.1; stage = p.0.1; body = p.1 }

run_tells : Tells run_code
unfolding run_code
run_tells = part_tells _ run_part (settled_back run_part run_of (λ r. refl))
    (pair_tells _ _ (pair_tells _ _ (pair_tells _ _ mode_tells numbers_tell) stage_tells) (option_tells _ body_tells))

pub place_tells : Tells place_code
unfolding byte_code
place_tells each e1 x y e = grind (arith, numbers_tell, run_tells)

abbrev numbers_part : Numbers → (((ℕ × ℕ) × ℕ) × Bool) × Bool
numbers_part n = ((((n.time, n.clock), n.next_start), n.stop_flag), n.idled)

abbrev numbers_of : (((ℕ × ℕ) × ℕ) × Bool) × Bool → Numbers
numbers_of p = record { time = p.0.0.0.0; clock = p.0.0.0.1; next_start = p.0.0.1; stop_flag = p.0.1; idled = p.1 }

pub loop_numbers_tell : Tells numbers_code
unfolding numbers_code
loop_numbers_tell = part_tells _ numbers_part (settled_back numbers_part numbers_of (λ n. refl))
    (pair_tells _ _ (pair_tells _ _ (pair_tells _ _ (pair_tells _ _ numbers_tell numbers_tell) numbers_tell) bit_tells) bit_tells)

-- ---- names

abbrev calls_part : Calls → (ℕ × ℕ) × ℕ
calls_part c = ((c.handle, c.after), c.close)

abbrev calls_of : (ℕ × ℕ) × ℕ → Calls
calls_of p = record { handle = p.0.0; after = p.0.1; close = p.1 }

pub calls_tell : Tells calls_code
unfolding calls_code
calls_tell = part_tells _ calls_part (settled_back calls_part calls_of (λ c. refl))
    (pair_tells _ _ (pair_tells _ _ numbers_tell numbers_tell) numbers_tell)

abbrev named_part : Named → Option Id × Calls
named_part n = (n.id, n.calls)

abbrev named_of : Option Id × Calls → Named
named_of p = record { id = p.0; calls = p.1 }

pub named_tells : Tells named_code
unfolding named_code
named_tells = part_tells _ named_part (settled_back named_part named_of (λ n. refl)) (pair_tells _ _ (option_tells _ id_tells) calls_tell)

-- ---- handles

abbrev pub Flags : Type 0
Flags = Bool × Bool × Bool × Bool × Bool

abbrev pub flags_number : Flags → ℕ
flags_number f = bit f.0 + 2 * bit f.1 + 4 * bit f.2 + 8 * bit f.3 + 16 * bit f.4

pub bit_small : (b : Bool) → bit b ≤ 1
bit_small b = grind arith

pub same_flags : (f g : Flags) → flags_number f ≡ flags_number g → f ≡ g
same_flags f g e =
    let a : bit f.0 ≡ bit g.0 = grind (arith, bit_small) in
    let b : bit f.1 ≡ bit g.1 = grind (arith, bit_small) in
    let c : bit f.2 ≡ bit g.2 = grind (arith, bit_small) in
    let d : bit f.3 ≡ bit g.3 = grind (arith, bit_small) in
    let h : bit f.4 ≡ bit g.4 = grind (arith, bit_small) in
    λ i. (same_bit f.0 g.0 a i, same_bit f.1 g.1 b i, same_bit f.2 g.2 c i, same_bit f.3 g.3 d i, same_bit f.4 g.4 h i)

flags_tell : Tells (λ f. byte_code (flags_number f))
flags_tell = part_tells _ flags_number same_flags byte_tells

abbrev handle_part : HandleRecord → ((((Kind × Flags) × ℕ) × ℕ) × ℕ) × ℕ
handle_part h = (((((h.kind, (h.referenced, h.active, h.closing, h.begun, h.pending)), h.name.0), h.due.at), h.due.start), h.repeat)

abbrev handle_of : ((((Kind × Flags) × ℕ) × ℕ) × ℕ) × ℕ → HandleRecord
handle_of p = let flags = p.0.0.0.0.1 in record {
  name = record { 0 = p.0.0.0.1 };
  kind = p.0.0.0.0.0;
  referenced = flags.0;
  active = flags.1;
  closing = flags.2;
  begun = flags.3;
  pending = flags.4;
  due = record { at = p.0.0.1; start = p.0.1 };
  repeat = p.1;
}

pub handle_tells : Tells handle_code
unfolding handle_code
handle_tells = part_tells _ handle_part (settled_back handle_part handle_of (λ h. refl))
    (pair_tells _ _ (pair_tells _ _ (pair_tells _ _ (pair_tells _ _ (pair_tells _ _ kind_tells flags_tell) numbers_tell) numbers_tell) numbers_tell)
    numbers_tell)

-- ---- numbers below 128, a byte each

pub small_named : (id : Id) (c : Calls) → id.slot < 128 → id.generation < 128 → c.handle < 128 → c.after < 128 → c.close < 128
    → named_code (record { id = Some id; calls = c }) ≡ 1 ∷ id.slot ∷ id.generation ∷ c.handle ∷ c.after ∷ c.close ∷ []
unfolding named_code calls_code byte_code
small_named id c slot generation handle after close = simp number_small

pub small_handle : (n : ℕ) (h : HandleRecord) → n < 128 → h.name.0 < 128 → h.due.at < 128 → h.due.start < 128 → h.repeat < 128
    → slot_code (record { generation = n; content = Some (content.Handle h) })
    ≡ n ∷ 1 ∷ kind_number h.kind ∷ flags_of h ∷ h.name.0 ∷ h.due.at ∷ h.due.start ∷ h.repeat ∷ []
unfolding slot_code handle_code byte_code
small_handle n h generation name at start repeat = simp number_small
