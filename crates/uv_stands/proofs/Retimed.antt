-- The memory after a change of one handle and of the timers, and what it stands for.
use Rattle.uv_stands.proofs.ProofNames.{◌≡◌, ℕ, eqb, List, map, refl, sym, ap, ◌∙◌, subst, Id, Due, ListName, without, plain_slots, Entry, IsInOrder, Timed, id_in, Place, without_id, members, State, Content, Image, timed_of, with_timed, StandsFor, AreTimers, timer_in, values_in}
use Rattle.uv_stands.proofs.Holding.{map_same}
use Rattle.uv_stands.proofs.Lists.{Listed}
use Rattle.uv_stands.proofs.Without.{without_ids}
use Rattle.uv_arena.specs.Image as arena

-- ---- the memory after a change of timers

-- only what the calls of timers change differs
abbrev pub retimed : Image Place → Timed Content → Image Place
retimed i t = with_timed t i

-- ---- what it stands for

-- beside the next start number no single value changes
abbrev pub OnlyTimers : State → State → Type 0
OnlyTimers s t = values_in t ≡ record (values_in s) { next_start = t.next_start }

-- what the calls of timers change is the state's
pub record AreRetimed (j : Image Place) (s t : State) : Type 0 where
  pub slots : plain_slots j.arena ≡ t.arena
  pub lists : (l : ListName) → Listed j.arena t l
  pub timers : AreTimers j.arena j.heap t.timers
  pub time : j.times.time ≡ s.time
  pub next_start : j.times.next_start ≡ t.next_start

retimed_stands : (i : Image Place) (s t : State) (c : Timed Content) → StandsFor i s → OnlyTimers s t → AreRetimed (retimed i c) s t
    → StandsFor (retimed i c) t
retimed_stands i s t c h only now = record {
  values = (λ l. record (h.values l) { time = now.time l; next_start = now.next_start l }) ∙ sym only;
  slots = now.slots;
  lists = now.lists;
  timers = now.timers;
}

-- where the timers changed as the state's do
pub stands_then : (i j : Image Place) (s t : State) → j ≡ retimed i (timed_of j) → StandsFor i s → OnlyTimers s t
    → AreRetimed (retimed i (timed_of j)) s t → StandsFor j t
stands_then i j s t frame stands only now = subst (λ q. StandsFor q t) (sym frame) (retimed_stands i s t (timed_of j) stands only now)

-- ---- slots, lists and timers where one handle has another record

module _ (i : Image Place) (s : State) (stands : StandsFor i s) (k : arena.Image Content) (d : Id)
    (ids : (x : ℕ) → id_in k x ≡ id_in i.arena x) where
  -- a list that the handle left, in the memory and in the state
  pub list_left : (t : State) (l : ListName) → id_in i.arena d.slot ≡ d → arena.members k l ≡ without eqb (arena.members i.arena l) d.slot
      → members t l ≡ without_id (members s l) d → Listed k t l
  list_left t l one gone off =
      off
      ∙ ap (λ xs. without_id xs d) (stands.lists l)
      ∙ without_ids (id_in i.arena) d (λ x. refl) one (arena.members i.arena l)
      ∙ sym (map_same (id_in k) (id_in i.arena) ids (without eqb (arena.members i.arena l) d.slot))
      ∙ ap (map (id_in k)) (sym gone)

  -- the timers are these entries
  pub timers_are : (heap xs : List Entry) (timers : List (Due × Id)) → IsInOrder heap xs → timers ≡ map (timer_in i.arena) xs
      → AreTimers k heap timers
  timers_are heap xs timers ordered same = record {
    entries = xs;
    ordered = ordered;
    same = same ∙ sym (map_same (timer_in k) (timer_in i.arena) (λ (e : Entry). ap (λ z. (e.due, z)) (ids e.slot)) xs);
  }
