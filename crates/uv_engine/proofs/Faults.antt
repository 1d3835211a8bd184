-- Which faults answer the input, and which those of a device.
use Rattle.uv_engine.proofs.Names.{◌≡◌, ◌<◌, ◌-◌, ◌^◌, ℕ, ◌+◌, List, length, arith, Result, Ok, Err, IfErr, OnOk, Fault, OnAnswer, IfOfInput, TakesWithin, IsTooLong, ReaderCounts, IsDeviceFault, IsConversationFault, IsReadingFault, IsTellingFault, IsReadFault, IsReplayFault}

-- ---- what holds on each answer

within : (tells : Type 0) (limit a b : ℕ) (first mid last : List ℕ) → (tells → b + length mid ≡ a + length last) →
    (tells → a + length first ≡ limit + length mid) → tells → TakesWithin limit first last
within tells limit a b first mid last h k reads = omega (arith, h reads, k reads)

-- what was taken before and by this call
pub taken : (f : Fault) (tells : Type 0) (limit a b : ℕ) (first mid last : List ℕ) → IfOfInput f (tells → b + length mid ≡ a + length last) →
    (tells → a + length first ≡ limit + length mid) → IfOfInput f (tells → TakesWithin limit first last)
taken each tells limit a b first mid last h k = grind arith

pub answer_taken : {A : Type 0} (r : Result A Fault) (tells : Type 0) (limit a b : ℕ) (first mid last : List ℕ) →
    OnAnswer r (tells → b + length mid ≡ a + length last) → (tells → a + length first ≡ limit + length mid) →
    OnAnswer r (tells → TakesWithin limit first last)
answer_taken r tells limit a b first mid last h k = grind arith

pub spent : (f : Fault) (tells : Type 0) (a b c : ℕ) (first mid last : List ℕ) → IfOfInput f (tells → c + length mid ≡ b + length last) →
    (tells → b + length first ≡ a + length mid) → IfOfInput f (tells → c + length first ≡ a + length last)
spent f tells a b c first mid last h k = grind arith

pub on_answer : {A : Type 0} (r : Result A Fault) {Holds : Type 0} → Holds → OnAnswer r Holds
on_answer r h = grind arith

-- ---- faults that are none of the input

pub no_read : (f : Fault) (Holds : Type 0) → IsReadFault f → IfOfInput f Holds
no_read f holds h = grind arith

-- a talk fails by its devices alone
pub talked_within : {A : Type 0} (r : Result A Fault) {P Q : Type 0} → IfErr r IsDeviceFault → OnOk r P → (P → Q) → OnAnswer r Q
talked_within r e h on = grind arith

-- ---- the faults of a conversation

pub talk_converses : {A : Type 0} (r : Result A Fault) → IfErr r IsDeviceFault → IfErr r IsConversationFault
talk_converses r h = grind arith

-- ---- the faults of a replay

pub reading_replays : (f : Fault) → IsReadingFault f → IsReplayFault f
reading_replays f h = grind arith

pub telling_replays : {A : Type 0} (r : Result A Fault) → IfErr r IsTellingFault → IfErr r IsReplayFault
telling_replays r h = grind arith

-- ---- what was read before this call, and by it

pub talk_counts : {A : Type 0} (r : Result A Fault) (tells : Type 0) (limit spent : ℕ) (first mid : List ℕ) (given at given' old between new : ℕ) →
    (tells → spent + length first ≡ limit + length mid) → (given + limit < 2 ^ 64 - 1 → at + spent ≡ given + limit) → between ≡ old →
    ReaderCounts r (IsTooLong tells spent mid at given') between new → ReaderCounts r (IsTooLong tells limit first given given') old new
talk_counts r tells limit spent first mid given at given' old between new budget gave same e15 = grind arith
