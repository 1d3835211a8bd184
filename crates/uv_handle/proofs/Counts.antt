-- How the count of active referenced handles goes with the slots.
use Rattle.uv_handle.proofs.Names.{◌≡◌, ℕ, zero, suc, ◌+◌, ◌<◌, ◌≤◌, Bool, true, false, List, [], ◌∷◌, ◌++◌, length, set, slice_get, Option, Some, None, sym, ap, ◌∙◌, inl, inr, arith, eqb_tells, length-map, Id, HandleRecord, Slot, keeps_in, one_if, content_keeps, active_count, Cell, InsertUndo, RemoveUndo, Image, held, held_slots, plain_slots, IsSound, IsInserted, IsRemoved, IsSet, slot_tells, next_tells, alive_count}
use Rattle.uv_records.specs.Slots as plain
pub use Rattle.uv_arena.proofs.Contents.{content_of}

one_le : (b : Bool) (n m : ℕ) → n ≤ m → one_if b + n ≤ suc m
one_le true n m le = omega (arith, le)
one_le false n m le = omega (arith, le)

module _ {X : Type 0} (read : X → Option HandleRecord) where
  count_le : (ss : List (Slot X)) → active_count read ss ≤ length ss
  count_le [] = omega arith
  count_le (s ∷ ss) = one_le (content_keeps read s.content) (active_count read ss) (length ss) (count_le ss)

  count_set : (ss : List (Slot X)) (x : ℕ) (s t : Slot X) → slice_get ss x ≡ Some s
      → active_count read (set ss x t) + one_if (content_keeps read s.content) ≡ active_count read ss + one_if (content_keeps read t.content)
  count_set [] x s t e = cc
  count_set (r ∷ rs) zero s t e =
      let same : r ≡ s = cc in let k = ap (λ (q : Slot X). one_if (content_keeps read q.content)) same in omega (arith, k)
  count_set (r ∷ rs) (suc x) s t e = let rest = count_set rs x s t e in omega (arith, rest)

  count_more : (ss : List (Slot X)) (t : Slot X) → active_count read (ss ++ t ∷ []) ≡ active_count read ss + one_if (content_keeps read t.content)
  count_more [] t = omega arith
  count_more (s ∷ ss) t = let rest = count_more ss t in omega (arith, rest)

  -- the count is a number of slots
  pub count_below : (i : Image X) → IsSound i → alive_count read i < 4294967296
  count_below i s =
      let long = length-map i.memory.row.items (λ (c : Cell X). c.slot) in let le = count_le (held_slots i.memory) in
      let within = s.linked.within in let few = s.linked.few in omega (arith, long, le, within, few)

  pub count_changed : (i j : Image X) (d : Id) (new was : X) → held i d ≡ Some was → IsSet i j d new was
      → alive_count read j + one_if (keeps_in (read was)) ≡ alive_count read i + one_if (keeps_in (read new))
  count_changed i j d new was e h =
      let s = slot_tells (held_slots i.memory) d was e in let t : Slot X = record { generation = d.generation; content = Some new } in
      ap (λ l. active_count read l + one_if (keeps_in (read was))) (ap (λ (q : plain.Slots X). q.slots) h.plain)
      ∙ ap (λ o. active_count read (set (held_slots i.memory) d.slot t) + one_if (content_keeps read o)) (sym s.2)
      ∙ count_set (held_slots i.memory) d.slot s.0 t s.1

  count_taken : (s : plain.Slots X) (free : List ℕ) (d : Id) (v : X) → plain.next_id s.slots s.unused free ≡ Some d → plain.held s.slots d ≡ None
      → active_count read (plain.taken_from free d v s).slots ≡ active_count read s.slots + one_if (keeps_in (read v))
  count_taken s [] d v next none = count_more s.slots (record { generation = 0; content = Some v })
  count_taken s (n ∷ ns) d v next none =
      let q = next_tells s.slots d s.unused n ns next none in
      let set = count_set s.slots d.slot q.0 (record { generation = d.generation; content = Some v }) q.1 in
      let was = ap (λ o. one_if (content_keeps read o)) q.2 in omega (arith, set, was)

  pub count_inserted : (i j : Image X) (v : X) (d : Id) (u : InsertUndo) → IsInserted i j v d u
      → alive_count read j ≡ alive_count read i + one_if (keeps_in (read v))
  count_inserted i j v d u h =
      ap (active_count read) (ap (λ (q : plain.Slots X). q.slots) h.plain) ∙ count_taken (plain_slots i) (plain_slots i).free d v h.next h.vacant

  count_freed : (last : ℕ) (d : Id) (s : plain.Slots X) (v : X) → plain.held s.slots d ≡ Some v
      → active_count read (plain.freed last d s).slots + one_if (keeps_in (read v)) ≡ active_count read s.slots
  count_freed last d s v e =
      elim (eqb_tells d.generation last) [ inl q ↦ rw q.0 (out d.generation) | inr q ↦ rw q.0 (out (d.generation + 1)) ] where
        out : (g : ℕ) → active_count read (set s.slots d.slot (record { generation = g; content = None })) + one_if (keeps_in (read v))
            ≡ active_count read s.slots
        out g =
            let t = slot_tells s.slots d v e in let was = ap (λ o. one_if (content_keeps read o)) t.2 in
            let one = count_set s.slots d.slot t.0 (record { generation = g; content = None }) t.1 in omega (arith, one, was)

  pub count_removed : (i j : Image X) (d : Id) (v : X) (u : RemoveUndo) → IsRemoved i j d v u
      → alive_count read j + one_if (keeps_in (read v)) ≡ alive_count read i
  count_removed i j d v u h = ap (λ l. active_count read l + one_if (keeps_in (read v))) (ap (λ (q : plain.Slots X). q.slots) h.plain)
      ∙ count_freed i.last d (plain_slots i) v h.was
