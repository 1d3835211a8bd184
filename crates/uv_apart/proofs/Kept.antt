-- What each step of the loop keeps; and ticks, which may come before or behind one.
use Rattle.uv_apart.proofs.Names.{if◌then◌else◌, ◌≡◌, ℕ, ◌+◌, List, [], ◌∷◌, ◌++◌, Bool, true, false, Option, Some, refl, ap, sym, ◌∙◌, nat_le, Id, Seen, Event, Loop, Tick, Range, Program, seen_of, state_of, LATEST, State, Next, Moves, Refuses, tick, reads_clock, Meets, state_map}
use Rattle.uv_ids.specs.declared.seen.Seen.TheVariants as seen
use Rattle.uv_model.specs.Next.{next}
use Rattle.uv_apart.proofs.Changed.{Change, changed, Leaves, Hides, SameWork}
use Rattle.uv_apart.proofs.Walk.{next_changed}

-- ---- a change of the clock, of who waits and of who runs

abbrev pub moved : (ℕ → ℕ) → (List Id → List Id) → (List (Option Id) → List (Option Id)) → Change
moved clock waiting running = record {
  clock = clock;
  waiting = waiting;
  running = running;
  done = λ ids. ids;
  slots = λ slots. slots;
  stays = λ n. true;
}

module _ (clock : ℕ → ℕ) (waiting : List Id → List Id) (running : List (Option Id) → List (Option Id)) where
  pub moved_leaves : Leaves (moved clock waiting running)
  moved_leaves = record { sets = λ slots n x e. refl; gets = λ slots n e. refl }

  pub moved_hides : (s : State) → ((id : Id) → waiting s.waiting ++ id ∷ [] ≡ waiting (s.waiting ++ id ∷ [])) → Hides (moved clock waiting running) s
  moved_hides s waits = record {
    as_many = refl;
    pushes = λ x. refl;
    seen = λ id. refl;
    keeps = refl;
    pends = refl;
    used = refl;
    handles = λ id h e. refl;
    free = λ n ns e. refl;
    ended = λ id ids e. refl;
    waits = waits;
  }

-- of the clock and of who runs alone
abbrev pub timed : (ℕ → ℕ) → (List (Option Id) → List (Option Id)) → Change
timed clock running = moved clock (λ ids. ids) running

module _ (clock : ℕ → ℕ) (running : List (Option Id) → List (Option Id)) where
  timed_work : SameWork (timed clock running)
  timed_work = record { waiting = λ ids. refl; done = λ ids. refl; slots = λ slots. refl }

  pub next_timed : (p : Program) (s : State) → (reads_clock p s ≡ true → clock s.clock ≡ s.clock) →
      next p (changed (timed clock running) s) Loop ≡ state_map (changed (timed clock running)) (next p s Loop)
  next_timed p s time = next_changed p (timed clock running) (moved_leaves clock (λ ids. ids) running) s
      (moved_hides clock (λ ids. ids) running s (λ id. refl)) (λ e. timed_work) (λ e ids. refl) time

-- ---- what each step keeps

-- a step that goes alike in a state that is changed to itself, to a state that is changed to itself
pub stays_changed : (c : Change) (x : Next) (a : State) (l : Option Seen) → x ≡ state_map (changed c) x → x ≡ Moves a l → a ≡ changed c a
stays_changed c x a l same e = ap (state_of a) (sym e ∙ same ∙ ap (state_map (changed c)) e)

-- the loop's own step changes neither the clock nor what workers run
pub loop_keeps : (p : Program) (s a : State) (l : Option Seen) → next p s Loop ≡ Moves a l → (a.clock ≡ s.clock) × (a.running ≡ s.running)
loop_keeps p s a l e =
    let c = timed (λ n. s.clock) (λ ids. s.running) in
    let same : a ≡ changed c a = stays_changed c (next p s Loop) a l (next_timed (λ n. s.clock) (λ ids. s.running) p s (λ f. refl)) e in
    (ap (λ (u : State). u.clock) same, ap (λ (u : State). u.running) same)

-- ---- ticks

abbrev pub ticked : ℕ → Change
ticked ms = timed (λ n. n + ms) (λ ids. ids)

-- a tick that is taken
pub record Ticks (s : State) (ms : ℕ) (b : State) (m : Option Seen) : Type 0 where
  pub fits : nat_le (s.clock + ms) LATEST ≡ true
  pub is : b ≡ changed (ticked ms) s
  pub says : m ≡ Some (seen.Tick ms)

ticks : (s : State) (ms : ℕ) (b : State) (m : Option Seen) → tick s ms ≡ Moves b m → Ticks s ms b m
ticks s ms b m e = by (nat_le (s.clock + ms) LATEST) refl e where
  by : (x : Bool) → nat_le (s.clock + ms) LATEST ≡ x →
      (if x then Moves (record s { clock = s.clock + ms }) (Some (seen.Tick ms)) else Refuses Range) ≡ Moves b m → Ticks s ms b m
  by true f e = record { fits = f; is = ap (state_of s) (sym e); says = ap seen_of (sym e) }
  by false f e = cc e

tick_ticks : (s : State) (ms : ℕ) → nat_le (s.clock + ms) LATEST ≡ true → tick s ms ≡ Moves (changed (ticked ms) s) (Some (seen.Tick ms))
tick_ticks s ms e = rw e refl

pub next_ticks : (p : Program) (s : State) (ms : ℕ) (b : State) (m : Option Seen) → next p s (Tick ms) ≡ Moves b m → Ticks s ms b m
unfolding next
next_ticks p s ms b m e = ticks s ms b m e

next_tick : (p : Program) (s : State) (ms : ℕ) → nat_le (s.clock + ms) LATEST ≡ true →
    next p s (Tick ms) ≡ Moves (changed (ticked ms) s) (Some (seen.Tick ms))
unfolding next
next_tick p s ms e = tick_ticks s ms e

-- an event from the state that a change leads to does what it does before, changed
pub behind : (c : Change) (p : Program) (s a b : State) (e : Event) (l : Option Seen) → b ≡ changed c s →
    next p (changed c s) e ≡ state_map (changed c) (next p s e) →
    next p s e ≡ Moves a l → next p b e ≡ Moves (changed c a) l
behind c p s a b e l is same goes = ap (λ (u : State). next p u e) is ∙ same ∙ ap (state_map (changed c)) goes

pub ticks_apart : (p : Program) (s a b : State) (ms : ℕ) (l m : Option Seen) → reads_clock p s ≡ false → next p s Loop ≡ Moves a l →
    next p s (Tick ms) ≡ Moves b m → Meets p (Tick ms) a b l m
ticks_apart p s a b ms l m apart e f =
    let t = next_ticks p s ms b m f in
    let clock = (loop_keeps p s a l e).0 in
    record {
      state = changed (ticked ms) a;
      event_after = next_tick p a ms (ap (λ (n : ℕ). nat_le (n + ms) LATEST) clock ∙ t.fits)
          ∙ ap (λ (o : Option Seen). Moves (changed (ticked ms) a) o) (sym t.says);
      loop_after = behind (ticked ms) p s a b Loop l t.is (next_timed (λ n. n + ms) (λ ids. ids) p s (λ g. cc (apart, g))) e;
    }
