-- What the steps of sections leave as it was, in the memory and in the state, and what stands then.
use Rattle.uv_sections.proofs.Names.{◌≡◌, ℕ, List, map, refl, sym, ap, ◌∙◌, subst, Id, Due, ListName, Walk, plain_slots, Entry, id_in, Place, State, Watchers, members, Content, Image, StandsFor, timer_in, values_in, map_same, Listed}
use Rattle.uv_records.specs.Slots as plain
use Rattle.uv_arena.specs.Image as arena

-- ---- the memory

-- the memory with other slots, counts and loop's time
abbrev pub touched : Image Place → arena.Image Content → ℕ → ℕ → ℕ → Image Place
touched i k active opened time = record i {
  arena = k;
  active = active;
  running = record { workers = i.running.workers; count = opened };
  times = record { time = time; next_start = i.times.next_start };
}

-- ---- the state

-- beside its slots, its lists and its time the state is as before
pub record KeepsState (s t : State) : Type 0 where
  pub values : values_in t ≡ record (values_in s) { time = t.time }
  pub timers : t.timers ≡ s.timers

-- its slots, the lists that sections walk, those that close and those that are done, and its time
pub sections_kept : (s : State) (a : plain.Slots Content) (watchers : Watchers) (closing done : Walk Id) (time : ℕ)
    → KeepsState s (record s {
      arena = a;
      watchers = watchers;
      closing = closing;
      done = done;
      time = time;
    })
sections_kept s a watchers closing done time = record { values = refl; timers = refl }

-- ---- both

-- the ids of the timers are the same
abbrev pub SameTimers : arena.Image Content → arena.Image Content → List (Due × Id) → Type 0
SameTimers i k timers = (xs : List Entry) → timers ≡ map (timer_in i) xs → map (timer_in k) xs ≡ map (timer_in i) xs

pub all_timers : (i k : arena.Image Content) (timers : List (Due × Id)) → ((x : ℕ) → id_in k x ≡ id_in i x) → SameTimers i k timers
all_timers i k timers ids xs e = map_same (timer_in k) (timer_in i) (λ (e : Entry). ap (λ z. (e.due, z)) (ids e.slot)) xs

-- a list whose ids stay
pub listed_as : (i k : arena.Image Content) (t : State) (l : ListName) (ids : List Id) (ns : List ℕ) → ((x : ℕ) → id_in k x ≡ id_in i x)
    → ids ≡ map (id_in i) ns → members t l ≡ ids → arena.members k l ≡ ns → Listed k t l
listed_as i k t l ids ns same is there here = there ∙ is ∙ sym (map_same (id_in k) (id_in i) same ns) ∙ ap (map (id_in k)) (sym here)

module _ (i j : Image Place) (s t : State) (h : StandsFor i s) {k : arena.Image Content} {active opened time : ℕ}
    (frame : j ≡ touched i k active opened time) (state : KeepsState s t) where
  pub stands_then : time ≡ t.time → plain_slots k ≡ t.arena → ((l : ListName) → Listed k t l) → SameTimers i.arena k s.timers → StandsFor j t
  stands_then now slots lists timers = subst (λ q. StandsFor q t) (sym frame) (record {
    values = (λ l. record (h.values l) { time = now l }) ∙ sym state.values;
    slots = slots;
    lists = lists;
    timers = record {
      entries = h.timers.entries;
      ordered = h.timers.ordered;
      same = state.timers ∙ h.timers.same ∙ sym (timers h.timers.entries h.timers.same);
    };
  })
