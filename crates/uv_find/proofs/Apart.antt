-- A move that is held back does behind the loop's step what it does before it.
use Rattle.uv_find.proofs.Names.{◌≡◌, ℕ, suc, ◌+◌, Bool, true, false, List, [], ◌∷◌, length, nat_lt, nat_le, slice_get, slice_set, ap, ◌∙◌, Option, Some, None, Result, if◌then◌else◌, arith, elements, Event, Id, Var, Why, Seen, Callback, Named, Program, Request, Run, State, named, live_handle, Moves, Refuses, next_work, finish, work_of, tick, io_run, io_handle, call_io, LATEST, is_apart, Offer, Which, Question, Recorded, Along, Kept, Left, Most, can_meet, asks_late, is_at_will, may_take_io, kept_after, kept_due, owed_after, along_after, owes, time_at_end, Rules, Place, is_within, take_by, event_of, lessened, lessened_by, keys_run, finish_by, ranked, is_call, line_answers, place_answers, is_uncalled, Range}
use Rattle.uv_ids.specs.declared.event.Event.TheVariants as event
use Rattle.uv_ids.specs.declared.seen.Seen.TheVariants as seen
use Rattle.uv_model.specs.Next.{next, take}
use Rattle.uv_records.specs.Names as names
use Rattle.uv_find.specs.declared.left.Left.TheVariants as left
use Rattle.uv_find.proofs.Keys.{runner_same}

-- ---- what comes from outside

-- a worker takes or finishes a request, or the clock goes on, if it may
abbrev pub is_outside : Bool → Event → Bool
is_outside ticks (event.Take worker) = true
is_outside ticks (event.Finish worker) = true
is_outside ticks (event.Tick ms) = ticks
is_outside ticks e = false

-- or a callback of I/O
abbrev pub may_come : Bool → Event → Bool
may_come ticks (event.Io v) = true
may_come ticks e = is_outside ticks e

taken_by : (o : Option ℕ) (ticks : Bool) (e : Event) → take_by o ≡ Some e → may_come ticks e ≡ true
taken_by o ticks e h = grind arith

-- what an offer is before it is known of which worker, where it is then from outside
pub record IsRanked (ticks : Bool) (o : Option Event) (e : Event) : Type 0 where
  pub event : Event
  pub is : o ≡ Some event
  pub comes : may_come ticks event ≡ true → may_come ticks e ≡ true
  pub outside : is_outside ticks e ≡ true → is_outside ticks event ≡ true

pub ranked_outside : (forget : Option ℕ) (ticks : Bool) (s : State) (o : Option Event) (e : Event) → ranked forget s o ≡ Some e
    → IsRanked ticks o e
ranked_outside each ticks s e3 e h = grind arith

-- which worker an event is of, the keys of what the workers run say
pub ranked_same : (forget : Option ℕ) (a s : State) → keys_run a ≡ keys_run s → (o : Option Event) → ranked forget a o ≡ ranked forget s o
ranked_same (Some n) a s same (Some (event.Finish rank)) = ap finish_by (runner_same a s same rank)
ranked_same each a s same e4 = assumption

-- where no callback of I/O may begin, none does
not_io : (p : Program) (s : State) (v : Var) (handle : Option Id) (run : Option Run) → run ≡ None → (b : State) (m : Option Seen)
    → (if nat_lt v.0 (length s.names) then call_io p s v run handle else Refuses Range) ≡ Moves b m → ⊥
not_io p s v handle run is b m h = grind arith

no_io : (p : Program) (s : State) (v : Var) → may_take_io p s.place ≡ false → (b : State) (m : Option Seen) → next p s (event.Io v) ≡ Moves b m → ⊥
unfolding next
no_io p s v none b m h = not_io p s v (io_handle (live_handle s v)) (io_run p s s.place) (grind arith) b m h

-- what comes there is from outside
pub comes_outside : (p : Program) (s : State) (ticks : Bool) (e : Event) → may_come ticks e ≡ true → may_take_io p s.place ≡ false
    → (b : State) (m : Option Seen) → next p s e ≡ Moves b m → is_outside ticks e ≡ true
comes_outside p s ticks e may none b m comes = grind (arith, no_io)

module _ (p : Program) (s a : State) (l : Option Seen) (k j : Kept) (goes : next p s event.Loop ≡ Moves a l) (idle : owes k ≡ false)
    (still : owes j ≡ false) (running : a.running ≡ s.running) where
  -- it is from outside, or a callback of I/O; and what is from outside stays
  pub event_stays : (ticks : Bool) (offer : Offer) (e : Event) → can_meet ticks offer ≡ true → event_of p s k offer ≡ Some e
      → (may_come ticks e ≡ true) × (is_outside ticks e ≡ true → event_of p a j offer ≡ Some e)
  event_stays ticks each e of h = grind arith

-- ---- its line

-- the line of such an event answers nothing
abbrev pub IsMute : Option Seen → Type 0
IsMute line = (p : Program) (q : Question) (due : ℕ) (s : State) → line_answers p q due s line ≡ false

line_of_take : (s : State) (k : ℕ) (r : Result (Id × Request) Why) (b : State) (m : Option Seen) → take s k r ≡ Moves b m → IsMute m
line_of_take s k r b m h = grind arith

line_of_finish : (s : State) (k : ℕ) (r : Result (Id × Request) Why) (b : State) (m : Option Seen) → finish s k r ≡ Moves b m → IsMute m
line_of_finish s k r b m h = grind arith

line_of_tick : (s : State) (ms : ℕ) (b : State) (m : Option Seen) → tick s ms ≡ Moves b m → IsMute m
line_of_tick s ms b m h = by (nat_le (s.clock + ms) LATEST) h where
  by : (c : Bool) → (if c then Moves (record s { clock = s.clock + ms }) (Some (seen.Tick ms)) else Refuses Range) ≡ Moves b m → IsMute m
  by c g = grind arith

pub outside_mute : (p : Program) (s b : State) (m : Option Seen) (ticks : Bool) (e : Event) → is_outside ticks e ≡ true → next p s e ≡ Moves b m
    → IsMute m
unfolding next
outside_mute p s b m ticks (event.Take k) out h = line_of_take s k (next_work s (slice_get s.running k)) b m h
outside_mute p s b m ticks (event.Finish k) out h = line_of_finish s k (work_of s (slice_get s.running k)) b m h
outside_mute p s b m ticks (event.Tick ms) out h = line_of_tick s ms b m h
outside_mute p s b m ticks each out h = grind arith

-- ---- what the loop's line answers

call_same : (w : Which) (name : Var) (n : Option ℕ) (a c : State) → named a name ≡ named c name → (x : Option (Callback × Var))
    → is_call w name n a x ≡ is_call w name n c x
call_same w name n a c same x = grind arith

named_same : (a c : State) → a.names ≡ c.names → (v : Var) → named a v ≡ named c v
named_same a c same v = ap (λ (all : List Named). names.named all v.0) same

uncalled_same : (a c : State) → a.names ≡ c.names → (v : Var) → is_uncalled a v ≡ is_uncalled c v
uncalled_same a c same v = cc

pub line_same : (p : Program) (q : Question) (due other : ℕ) (a c : State) → a.names ≡ c.names → asks_late q ≡ false → (line : Option Seen)
    → line_answers p q due a line ≡ line_answers p q other c line
line_same p each due other a c same prompt e8 = grind arith

-- what is called within the bounds, by the names
pub within_same : (a c : State) → a.names ≡ c.names → (most : List Most) → is_within most a ≡ is_within most c
within_same a c same most = grind arith

-- ---- what a place answers, where the loop goes on

pub place_mute : (r : Rules) (q : Place) (a : State) (l : Option Seen) → is_apart r.program q.state ≡ true
    → next r.program q.state event.Loop ≡ Moves a l
    → place_answers r q r.question ≡ false
place_mute r q a l first goes = grind arith

-- ---- what is kept

due_same : (q : Question) (s : State) (due : ℕ) → asks_late q ≡ false → kept_due q s due ≡ due
due_same each s due prompt = grind arith

no_time : (s : State) (b : Callback × Var) → time_at_end [] s b ≡ 0
no_time s b = grind arith

owed_none : (s : State) (line : Option Seen) → owed_after [] 0 s line ≡ 0
owed_none s line = grind arith

along_same : (recorded : List Recorded) (a : Along) (ticks : Bool) (e : Event) (line : Option Seen) → is_outside ticks e ≡ true
    → along_after recorded a e line ≡ a
along_same recorded a ticks each line out = grind arith

owes_none : (k : Kept) → owes k ≡ false → k.owed ≡ 0
owes_none k idle = grind arith

-- what is kept behind a step from outside is what was kept, and behind any step it is the same whatever state that led to
pub kept_outside : (recorded : List Recorded) (q : Question) (k : Kept) (ticks : Bool) (e : Event) (s : State) (line : Option Seen)
    → asks_late q ≡ false → owes k ≡ false → is_outside ticks e ≡ true → kept_after recorded [] q k e s line ≡ k
kept_outside recorded q k ticks e s line prompt idle out = grind (arith, owes_none, due_same, owed_none, along_same)

pub kept_same : (recorded : List Recorded) (q : Question) (k : Kept) (e : Event) (s t : State) (line : Option Seen) → asks_late q ≡ false
    → owes k ≡ false → kept_after recorded [] q k e s line ≡ kept_after recorded [] q k e t line
kept_same recorded q k e s t line prompt idle = simp (owes_none, due_same, owed_none)

pub still_idle : (recorded : List Recorded) (q : Question) (k : Kept) (e : Event) (s : State) (line : Option Seen) → owes k ≡ false
    → owes (kept_after recorded [] q k e s line) ≡ false
still_idle recorded q k e s line idle = simp (owes_none, owed_none)

-- ---- what is left

pub will_is : (x : Option Left) → is_at_will x ≡ true → x ≡ Some left.AtWill
will_is each e = grind arith

set_same : (xs : List Left) (n : ℕ) (x : Left) → slice_get xs n ≡ Some x → slice_set xs n x ≡ xs
set_same (y ∷ ys) (suc n) x e = ap (λ zs. y ∷ zs) (set_same ys n x e)
set_same each e1 x e = grind arith

-- an offer that may be taken as often as one likes leaves what is left as it was
pub at_will_stays : (xs : List Left) (n : ℕ) → is_at_will (slice_get xs n) ≡ true → lessened xs n ≡ xs
at_will_stays xs n at = let is = will_is (slice_get xs n) at in ap (lessened_by xs n) is ∙ set_same xs n left.AtWill is

-- and another one leaves what is left of this one
pub others_stay : (xs : List Left) (i n : ℕ) → (i ≡ n → ⊥) → slice_get (lessened xs i) n ≡ slice_get xs n
others_stay xs i n other = grind (arith, elements)
