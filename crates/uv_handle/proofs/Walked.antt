-- The front of those yet to run is moved to the end of its list.
use Rattle.uv_handle.proofs.Names.{◌≡◌, ◌≢◌, ℕ, Bool, [], ◌∷◌, ◌++◌, Option, option_and_then, sym, ap, ◌∙◌, subst, Id, HandleRecord, woken, Image, rotate_undone, CanUndoRotate, IsFirst, IsRotated, RecordUndo, Counted, counted, record_at}
use Rattle.uv_records.specs.declared.lists.WatcherKind.{WatcherKind}
use Rattle.uv_records.specs.declared.lists.WatcherKind.TheVariants as watcher
use Rattle.uv_records.specs.Lists.{list_of, yet_of}
use Rattle.uv_records.specs.Slots as plain
use Rattle.uv_handle.specs.Watch.{pending_of, woken_if, IsWoken, IsMovedOn}

-- the two lists of a walk are two
pub lists_apart : (w : WatcherKind) → list_of w ≢ yet_of w
lists_apart watcher.Idle e = cc
lists_apart each e = cc

module _ {X : Type 0} (read : X → Option HandleRecord) (make : HandleRecord → X) where
  pub moved_done : (i l j : Image X) (n m : ℕ) (w : WatcherKind) (d : Id) (pending : Bool) (u : Option RecordUndo)
      → IsFirst i (yet_of w) d → IsRotated i l (yet_of w) (list_of w) d → IsWoken read make (counted l n) (counted j m) w d pending u
      → IsMovedOn read make (counted i n) (counted j m) w d pending (record { kind = w; woken = u })
  moved_done i l j n m w d pending u f r c =
      let a = r.unlinked in let b = r.pushed in
      let same : record_at read l d ≡ record_at read i d = ap (option_and_then read) (b.slots.contents d ∙ a.slots.contents d) in
      let ne = lists_apart w in
      let list = c.lists (list_of w) ∙ b.lists ∙ ap (λ xs. xs ++ d.slot ∷ []) (a.lists (list_of w) ∙ f.others (list_of w) ne) in
      let yet = c.lists (yet_of w) ∙ b.others (yet_of w) (λ e. ne (sym e)) ∙ a.lists (yet_of w) ∙ f.after in
      record {
        first = f;
        was = c.was ∙ ap (pending_of w) same;
        walk = λ h. record { list = list h; yet = yet h };
        others = λ q nl ny. c.lists q ∙ b.others q nl ∙ a.lists q ∙ f.others q ny;
        handle = c.handle ∙ ap (woken_if pending) same;
        asleep = λ no. c.asleep no ∙ b.slots.plain ∙ a.slots.plain;
        awake = λ h e yes. c.awake h (same ∙ e) yes
            ∙ ap (λ (q : plain.Slots X). (let z : plain.Slots X = record q { slots = plain.with_held q.slots d (make (woken h)) } in z))
            (b.slots.plain ∙ a.slots.plain);
        listed = c.kept d ∙ b.listed;
        contents = λ e nd. c.contents e nd ∙ b.slots.contents e ∙ a.slots.contents e;
        kept = λ e nd. c.kept e ∙ b.kept e nd ∙ a.kept e nd;
        counts = c.counts;
        undone = ap (λ (z : Counted X). counted (rotate_undone (yet_of w) (list_of w) z.arena) z.count) c.undone
            ∙ ap (λ z. counted z n) r.undone;
        can_undo = record {
          woken = c.can_undo;
          moved = subst (λ (z : Counted X). CanUndoRotate z.arena (yet_of w) (list_of w)) (sym c.undone) r.can_undo;
        };
      }
