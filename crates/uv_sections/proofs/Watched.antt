-- The walked lists of a state: what one of them holds, and what the others do where it changes.
use Rattle.uv_sections.proofs.Names.{◌≡◌, ◌≢◌, ℕ, List, refl, Id, ListName, WatcherKind, list_of, yet_of, Walk, Content, State, watched, with_watched, members}
use Rattle.uv_records.specs.declared.lists.ListName.TheVariants as name
use Rattle.uv_records.specs.declared.lists.WatcherKind.TheVariants as watcher
use Rattle.uv_records.specs.Slots as plain
use Rattle.uv_sections.proofs.Keeping.{KeepsState, sections_kept}

-- ---- what a section walks, as lists

pub list_is : (s : State) (w : WatcherKind) → members s (list_of w) ≡ (watched s w).list
list_is s watcher.Idle = refl
list_is s each = refl

pub yet_is : (s : State) (w : WatcherKind) → members s (yet_of w) ≡ (watched s w).yet
yet_is s watcher.Idle = refl
yet_is s each = refl

-- ---- one that changes

module _ (s : State) where
  pub list_now : (w : WatcherKind) (q : Walk Id) → members (with_watched s w q) (list_of w) ≡ q.list
  list_now watcher.Idle q = refl
  list_now each q = refl

  pub yet_now : (w : WatcherKind) (q : Walk Id) → members (with_watched s w q) (yet_of w) ≡ q.yet
  yet_now watcher.Idle q = refl
  yet_now each q = refl

  pub others_stay : (w : WatcherKind) (q : Walk Id) (l : ListName) → l ≢ list_of w → l ≢ yet_of w → members (with_watched s w q) l ≡ members s l
  others_stay watcher.Idle q name.Idle a b = absurd (a refl)
  others_stay watcher.Idle q name.IdleYet a b = absurd (b refl)
  others_stay watcher.Idle q l a b = refl
  others_stay watcher.Prepare q name.Prepare a b = absurd (a refl)
  others_stay watcher.Prepare q name.PrepareYet a b = absurd (b refl)
  others_stay watcher.Prepare q l a b = refl
  others_stay watcher.Check q name.Check a b = absurd (a refl)
  others_stay watcher.Check q name.CheckYet a b = absurd (b refl)
  others_stay watcher.Check q l a b = refl
  others_stay watcher.Async q name.Async a b = absurd (a refl)
  others_stay watcher.Async q name.AsyncYet a b = absurd (b refl)
  others_stay watcher.Async q l a b = refl

  pub arena_stays : (w : WatcherKind) (q : Walk Id) → (with_watched s w q).arena ≡ s.arena
  arena_stays w q = refl

  pub time_stays : (w : WatcherKind) (q : Walk Id) → (with_watched s w q).time ≡ s.time
  time_stays w q = refl

  pub state_stays : (w : WatcherKind) (q : Walk Id) → KeepsState s (with_watched s w q)
  state_stays w q = sections_kept s s.arena (with_watched s w q).watchers s.closing s.done s.time

-- ---- those that close, and those that are done

module _ (s : State) (a : plain.Slots Content) (time : ℕ) (q : Walk Id) where
  pub beside_closing : (l : ListName) → l ≢ name.Closing → l ≢ name.ClosingYet
      → members (record s { arena = a; closing = q; time = time }) l ≡ members s l
  beside_closing name.Closing x y = absurd (x refl)
  beside_closing name.ClosingYet x y = absurd (y refl)
  beside_closing l x y = refl

  pub beside_done : (l : ListName) → l ≢ name.Done → l ≢ name.DoneYet → members (record s { arena = a; done = q; time = time }) l ≡ members s l
  beside_done name.Done x y = absurd (x refl)
  beside_done name.DoneYet x y = absurd (y refl)
  beside_done l x y = refl

-- one that was at the front of those yet to run is gone from there
module _ (s : State) (a : plain.Slots Content) (yet : List Id) where
  pub beside_closing_yet : (l : ListName) → l ≢ name.ClosingYet
      → members (record s { arena = a; closing = record s.closing { yet = yet } }) l ≡ members s l
  beside_closing_yet name.ClosingYet x = absurd (x refl)
  beside_closing_yet l x = refl

  pub beside_done_yet : (l : ListName) → l ≢ name.DoneYet → members (record s { arena = a; done = record s.done { yet = yet } }) l ≡ members s l
  beside_done_yet name.DoneYet x = absurd (x refl)
  beside_done_yet l x = refl
