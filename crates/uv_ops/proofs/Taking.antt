-- A slot is taken, and the ids of all stay.
use Rattle.uv_ops.proofs.Names.{◌≡◌, ℕ, zero, suc, List, [], ◌∷◌, ◌++◌, slice_get, Option, Some, None, option_and_then, refl, sym, ap, ◌∙◌, Id, Slot, Slots, next_id, next_free, id_of, taken, taken_from, plain_slots, slot_at, id_in, Content, slot_or, slot_by, generation_kept}
use Rattle.uv_arena.specs.Image as arena

module _ {X : Type 0} where
  grown_same : (ss : List (Slot X)) (x : ℕ) (v : X)
      → (slot_or (slice_get (ss ++ record { generation = 0; content = Some v } ∷ []) x)).generation ≡ (slot_or (slice_get ss x)).generation
  grown_same [] zero v = refl
  grown_same [] (suc x) v = refl
  grown_same (s ∷ ss) zero v = refl
  grown_same (s ∷ ss) (suc x) v = grown_same ss x v

  found_id : (o : Option (Slot X)) (n : ℕ) (d : Id) → option_and_then (λ (slot : Slot X). Some (id_of n slot)) o ≡ Some d
      → (d.slot ≡ n) × ((q : Slot X) → o ≡ Some q → q.generation ≡ d.generation)
  found_id None n d e = cc
  found_id (Some t) n d e =
      let is : id_of n t ≡ d = cc e in (
        sym (ap (λ (z : Id). z.slot) is),
        λ q same. (let one : q ≡ t = cc same in ap (λ (z : Slot X). z.generation) one ∙ ap (λ (z : Id). z.generation) is),
      )

  taken_same : (free : List ℕ) (ss : List (Slot X)) (unused : ℕ) (d : Id) (v : X) (x : ℕ) → next_id ss unused free ≡ Some d
      → (slot_or (slice_get (taken_from free d v (record { slots = ss; free = free; unused = unused })).slots x)).generation
      ≡ (slot_or (slice_get ss x)).generation
  taken_same [] ss unused d v x e = grown_same ss x v
  taken_same (n ∷ ns) ss unused d v x e =
      let f = found_id (slice_get ss n) n d e in
      generation_kept ss d.slot x (record { generation = d.generation; content = Some v }) (λ q at. f.1 q (ap (λ y. slice_get ss y) (sym f.0) ∙ at))

-- each slot's id is as it was
pub ids_taken : (i k : arena.Image Content) (d : Id) (v : Content) → next_free (plain_slots i) ≡ Some d
    → plain_slots k ≡ taken d v (plain_slots i) → (x : ℕ) → id_in k x ≡ id_in i x
ids_taken i k d v next same x =
    let p = plain_slots i in
    let here : (slot_at k.memory x).generation ≡ (slot_at i.memory x).generation =
    ap (λ (z : Slot Content). z.generation) (slot_by k.memory.row.items x)
    ∙ ap (λ (q : Slots Content). (slot_or (slice_get q.slots x)).generation) same
    ∙ taken_same p.free p.slots p.unused d v x next
    ∙ ap (λ (z : Slot Content). z.generation) (sym (slot_by i.memory.row.items x)) in
    λ l. record { slot = x; generation = here l }
