-- A handle off the order of timers and off its lists, in the memory and in the state.
use Rattle.uv_stands.proofs.ProofNames.{◌≡◌, inl, inr, ℕ, ◌<◌, ◌&&◌, ◌==◌, if◌then◌else◌, Bool, true, false, List, [], ◌∷◌, map, Some, refl, sym, ap, ◌∙◌, subst, and_parts, and_from, both_ways, Id, Due, HandleRecord, ListName, is_timer, record_at, Entry, inserted, cleared, id_in, Place, without_id, members, State, taken_off, with_timer, without_timer, Has, IsTimer, IsReached, Content, handle_of, IsFit, Image, StandsFor, timer_in}
use Rattle.uv_stands.proofs.Absent.{timer_kind, own_id, holds_it, stays, not_waiting, not_done, not_done_yet, not_closing, not_closing_yet}
use Rattle.uv_ids.specs.declared.phase.Kind.TheVariants as kind
use Rattle.uv_records.specs.declared.lists.ListName.TheVariants as name
use Rattle.uv_arena.specs.Image as arena
use Rattle.uv_stands.proofs.Keys.{one_id}
use Rattle.uv_stands.proofs.Entries.{entry_of, id_there, cleared_key, cleared_none, inserted_as}

-- ---- the timers without one

-- what a timer of a slot says of the handle there
pub record IsIts (h : HandleRecord) (key : Due) : Type 0 where
  pub kind : h.kind ≡ kind.Timer
  pub active : h.active ≡ true
  pub due : h.due ≡ key

-- one that is left was there before
left_there : (a : arena.Image Content) (slot : ℕ) (xs : List Entry) (due : Due) (id : Id) → Has (map (timer_in a) (cleared slot xs)) due id
    → Has (map (timer_in a) xs) due id
left_there a slot [] due id h = h
left_there a slot (x ∷ xs) due id h = at (x.slot == slot) h (left_there a slot xs due id) where
  at : (b : Bool) → Has (map (timer_in a) (if b then xs else x ∷ cleared slot xs)) due id
      → (Has (map (timer_in a) (cleared slot xs)) due id → Has (map (timer_in a) xs) due id) → Has (map (timer_in a) (x ∷ xs)) due id
  at true k rest = inr k
  at false (inl e) rest = inl e
  at false (inr k) rest = inr (rest k)

module _ (i : Image Place) (s : State) (stands : StandsFor i s) (reached : IsReached s) (d : Id) (h : HandleRecord)
    (there : record_at handle_of i.arena d ≡ Some h) where
  abbrev entries : List Entry
  entries = stands.timers.entries

  listed : (due : Due) (id : Id) → Has (map (timer_in i.arena) entries) due id → Has s.timers due id
  listed due id k = subst (λ ts. Has ts due id) (sym stands.timers.same) k

  one_slot : (due : Due) (id : Id) → Has (map (timer_in i.arena) entries) due id → id.slot ≡ d.slot → id ≡ d
  one_slot due id k e = sym (id_there i.arena entries due id k) ∙ ap (id_in i.arena) e ∙ own_id i d h there

  its : (due : Due) → IsTimer s due d → IsIts h due
  its due t =
      let same : t.its ≡ h = let mine = holds_it i d h there s stands in cc (t.holds, mine) in
      record {
        kind = ap (λ (z : HandleRecord). z.kind) (sym same) ∙ t.kind;
        active = ap (λ (z : HandleRecord). z.active) (sym same) ∙ t.active;
        due = ap (λ (z : HandleRecord). z.due) (sym same) ∙ t.due;
      }

  pub its_timer : (due : Due) (id : Id) → Has (map (timer_in i.arena) entries) due id → id.slot ≡ d.slot → IsIts h due
  its_timer due id k e =
      its due (subst (λ (z : Id). IsTimer s due z) (one_slot due id k e) (reached.timers.each due id (listed due id k)))

  -- an active timer leaves the order with its entry
  pub active_cleared : h.kind ≡ kind.Timer → h.active ≡ true → without_timer s.timers h.due ≡ map (timer_in i.arena) (cleared d.slot entries)
  active_cleared timer active =
      let mine : Has s.timers h.due d =
      reached.timers.all h.due d (record { its = h; holds = holds_it i d h there s stands; kind = timer; active = active; due = refl }) in
      ap (λ ts. without_timer ts h.due) stands.timers.same
      ∙ cleared_key i.arena entries d.slot h.due
      (λ due id k e. sym (its_timer due id k e).due)
      (λ due id k e. ap (λ (z : Id). z.slot)
      (one_id s.timers h.due id d reached.timers.sorted (subst (λ (z : Due). Has s.timers z id) e (listed due id k)) mine))

  -- what isn't one has no entry
  pub inert_cleared : (h.kind ≡ kind.Timer → h.active ≡ true → ⊥) → cleared d.slot entries ≡ entries
  inert_cleared inert = cleared_none i.arena entries d.slot (λ due id k e. let t = its_timer due id k e in inert t.kind t.active)

  pub timers_left : (taken_off s d h).timers ≡ map (timer_in i.arena) (cleared d.slot entries)
  timers_left = at (is_timer h.kind && h.active) refl where
    at : (b : Bool) → (is_timer h.kind && h.active) ≡ b
        → (if b then without_timer s.timers h.due else s.timers) ≡ map (timer_in i.arena) (cleared d.slot entries)
    at true e = let parts = and_parts (is_timer h.kind) h.active e in active_cleared (timer_kind h.kind parts.0) parts.1
    at false e =
        stands.timers.same
        ∙ ap (map (timer_in i.arena))
        (sym (inert_cleared (λ k a. both_ways (is_timer h.kind && h.active) e (and_from (is_timer h.kind) h.active (ap is_timer k) a))))

  -- one more, once it is off: where its start number is yet to be drawn
  pub timers_set : ((due : Due) (id : Id) → Has s.timers due id → due.start < s.next_start) → (key : Due) → key.start ≡ s.next_start
      → with_timer (taken_off s d h).timers key d ≡ map (timer_in i.arena) (inserted (entry_of key d.slot) (cleared d.slot entries))
  timers_set drawn key start =
      (λ l. with_timer (timers_left l) key (sym (own_id i d h there) l))
      ∙ inserted_as i.arena (cleared d.slot entries) d.slot key
      (λ due id k. subst (λ n. due.start < n) (sym start) (drawn due id (listed due id (left_there i.arena d.slot entries due id k))))

  -- ---- its lists

  -- one that doesn't close is off all lists then
  pub lists_left : IsFit i → h.closing ≡ false → (l : ListName) → members (taken_off s d h) l ≡ without_id (members s l) d
  lists_left fit unclosed name.Closing = sym (stays i d h there s stands name.Closing (not_closing i d h there s stands reached unclosed))
  lists_left fit unclosed name.ClosingYet = sym (stays i d h there s stands name.ClosingYet (not_closing_yet i d h there s stands reached unclosed))
  lists_left fit unclosed name.Waiting = sym (stays i d h there s stands name.Waiting (not_waiting i d h there fit))
  lists_left fit unclosed name.Done = sym (stays i d h there s stands name.Done (not_done i d h there fit))
  lists_left fit unclosed name.DoneYet = sym (stays i d h there s stands name.DoneYet (not_done_yet i d h there fit))
  lists_left fit unclosed l = refl
