-- A handle is closed, and a closing one is taken and freed.
use Rattle.uv_handle.proofs.Names.{◌≡◌, ℕ, ◌+◌, ◌∷◌, Option, Some, option_and_then, sym, ap, ◌∙◌, subst, arith, Id, HandleRecord, ListName, ClosingYet, one_if, keeps_in, active_count, ChainPlace, RemoveUndo, Image, members, IsSound, remove_undone, unlink_undone, CanUndoUnlink, IsPushed, IsUnlinked, IsRemoved, IsFirst, SameSlots, RecordUndo, counted, alive_count, record_at, record_undone, CanUndoRecord, Fits32, IsChanged, IsEnlisted, IsTaken}
use Rattle.uv_records.specs.Slots as plain
use Rattle.uv_handle.proofs.Counts.{count_below, count_removed}

module _ {X : Type 0} (read : X → Option HandleRecord) (make : HandleRecord → X) where
  -- moving slots between lists keeps the count
  pub same_count : (i j : Image X) → SameSlots i j → alive_count read j ≡ alive_count read i
  same_count i j h = ap (λ (s : plain.Slots X). active_count read s.slots) h.plain

  pub enlist_done : (i k j : Image X) (n m : ℕ) (d : Id) (h new : HandleRecord) (list : ListName) (u : RecordUndo) → record_at read i d ≡ Some h
      → IsChanged read make (counted i n) (counted k m) d h new u → IsPushed k j list d (d.slot ∷ members k list)
      → IsEnlisted read make (counted i n) (counted j m) d h new list (record { changed = u; pushed = record { slot = d.slot } })
  enlist_done i k j n m d h new list u there c p = record {
    there = there;
    handle = ap (option_and_then read) (p.slots.contents d) ∙ c.handle;
    plain = p.slots.plain ∙ c.set.plain;
    lists = p.lists ∙ ap (λ l. d.slot ∷ l) (c.set.lists list);
    others = λ l ne. p.others l ne ∙ c.set.lists l;
    listed = p.listed;
    contents = λ e ne. p.slots.contents e ∙ c.set.contents e ne;
    kept = λ e ne. p.kept e ne ∙ c.set.kept e;
    counts = c.counts ∙ sym (same_count k j p.slots);
    undone = ap (λ z. record_undone read make u (counted z m)) p.undone ∙ c.undone;
    can_undo = record { pushed = p.can_undo; changed = subst (λ z. CanUndoRecord read make (counted z m) u) (sym p.undone) c.can_undo };
  }

  take_count : (i k j : Image X) (n : ℕ) (d : Id) (v : X) (t : ChainPlace) (u : RemoveUndo) → n ≡ alive_count read i → IsUnlinked i k d t
      → IsRemoved k j d v u
      → alive_count read j + one_if (keeps_in (read v)) ≡ n
  take_count i k j n d v t u is a b = count_removed read k j d v u b ∙ same_count i k a.slots ∙ sym is

  pub take_fits : (i k j : Image X) (n : ℕ) (d : Id) (v : X) (t : ChainPlace) (u : RemoveUndo) → n ≡ alive_count read i → IsSound i
      → IsUnlinked i k d t → IsRemoved k j d v u
      → Fits32 n (one_if (keeps_in (read v))) 0
  take_fits i k j n d v t u is s a b =
      let c = take_count i k j n d v t u is a b in let below = count_below read i s in
      (alive_count read j, omega (arith, c), omega (arith, c, below, is))

  pub take_done : (i k j : Image X) (n m : ℕ) (d : Id) (v : X) (t : ChainPlace) (u : RemoveUndo) → n ≡ alive_count read i → IsFirst i ClosingYet d
      → IsUnlinked i k d t → IsRemoved k j d v u
      → m + one_if (keeps_in (read v)) ≡ n + 0 → IsTaken read make (counted i n) (counted j m) d v (record { unlinked = t; removed = u; active = n })
  take_done i k j n m d v t u is first a b e =
      let c = take_count i k j n d v t u is a b in
      let back : unlink_undone t (remove_undone u v j) ≡ i = ap (unlink_undone t) b.undone ∙ a.undone in
      record {
        first = first;
        was = sym (a.slots.contents d) ∙ b.was;
        plain = b.plain ∙ (λ l. plain.freed ((ap (λ (z : Image X). z.last) a.undone) l) d (a.slots.plain l));
        lists = λ l. b.lists l ∙ a.lists l;
        contents = λ f ne. b.contents f ne ∙ a.slots.contents f;
        kept = λ f ne. b.kept f ne ∙ a.kept f ne;
        counts = omega (arith, c, e);
        undone = ap (λ z. counted z n) back;
        can_undo = record {
          removed = b.can_undo;
          unlinked = subst (λ z. CanUndoUnlink z t) (sym b.undone) a.can_undo;
          counts = is ∙ ap (alive_count read) (sym back);
        };
      }
