-- A slot is freed, or retired.
use Rattle.uv_arena.proofs.ProofNames.{◌≡◌, ◌≢◌, ◌+◌, ◌-◌, ◌<◌, ◌==◌, if◌then◌else◌, Bool, true, false, eq-eqb, [], ◌∷◌, length, set, Some, None, is_some, refl, sym, ap, ◌∙◌, subst, inl, inr, arith, eqb_tells, slice_get_within, Id, Slot, number, ChainPlace, link, first, FREE, Image, Memory, IsWithin, list_or_first, name_at, chain, links_in, slot_in, slot_at, place_at, put_in, taken_out, edited, in_memory, front_place, held_slots, plain_slots, held, on_list, IsSound, remove_undone, IsRemoved}
use Rattle.uv_records.specs.Slots as plain
use Rattle.uv_arena.specs.declared.undo.RemoveUndo.{RemoveUndo}
use Rattle.uv_arena.proofs.Memories.{place_of, put_made, head_is, slots_relinked, length_relinked, own_relinked, list_relinked, chain_edited, length_edited, linked_edited, own_edited, list_edited, slots_edited, edited_back, others_fit, fit_relinked, fit_edited, all_fit}
use Rattle.uv_arena.proofs.Places.{between}
use Rattle.uv_arena.proofs.Lookups.{held_tells, is_loose, on_list_by, name_below}
use Rattle.uv_arena.proofs.Changes.{held_other}

module _ {X : Type 0} where
  -- at the last generation it is retired
  pub record IsRetired (v : Image X) (d : Id) (was : X) : Type 0 where
    pub slot : d.slot < length v.memory.row.items
    pub sound : IsSound (in_memory (edited d.slot (record { generation = d.generation; content = None })) v)
    pub removed : IsRemoved v (in_memory (edited d.slot (record { generation = d.generation; content = None })) v) d was (record {
      slot = d.slot;
      retired = true;
    })

  pub retires : (v : Image X) → IsSound v → (d : Id) (was : X) → held v d ≡ Some was → on_list v d ≡ false → d.generation ≡ v.last → IsRetired v d was
  retires v s d was is bare last =
      let m = v.memory in let x = d.slot in let u : RemoveUndo = record { slot = x; retired = true } in
      let t = held_tells m d was is in let c = t.0 in
      let off = is_loose v d (ap is_some is) bare c t.1 in
      let written : Slot X = record { generation = d.generation; content = None } in
      let n = edited x written m in let j = in_memory (edited x written) v in
      let at = own_edited x written m c t.1 in
      let sound : IsSound j = record {
        linked = linked_edited m s.linked x written;
        fit = all_fit v.last x n.row.items (fit_edited v.last x written m (others_fit v.last x m.row.items s.fit)) (record {
          slot = written;
          links = c.links;
        }) at
            (record { below = omega (arith, last); free = λ e. refl; empty = λ e. inr (off, last) });
        names = s.names;
        last = s.last;
      } in
      let put : Slot X = record { generation = (slot_at n x).generation; content = Some was } in
      let same : put ≡ c.slot = λ i. record { generation = (ap (λ o. (slot_in o).generation) at ∙ sym t.3) i; content = sym t.2 i } in
      let back : remove_undone u was j ≡ v = ap (λ q. in_memory (edited x q) j) same
      ∙ ap (λ (q : Memory X). record { memory = q; names = v.names; last = v.last }) (edited_back m x written c t.1) in
      let slots = slots_edited x written m c t.1 in let long = length_edited x written m in
      let contents : (e : Id) → e.slot ≢ x → held j e ≡ held v e = λ e ne. held_other (held_slots m) (held_slots n) x written slots e ne in
      let way : Bool → plain.Slots X = λ b. if b then record {
        slots = set (held_slots m) x written;
        free = chain m FREE;
        unused =
            (plain_slots v).unused;
      }
      else record {
        slots = set (held_slots m) x (record { generation = d.generation + 1; content = None });
        free = x ∷ chain m FREE;
        unused =
            (plain_slots v).unused;
      } in
      record {
        slot = slice_get_within m.row.items x c t.1;
        sound = sound;
        removed = record {
          was = is;
          slot = refl;
          plain = (λ i. record { slots = slots i; free = chain_edited x written m FREE i; unused = m.row.capacity - long i })
              ∙ ap way (sym (eq-eqb d.generation v.last last));
          contents = contents;
          kept = λ e ne. on_list_by j v e (contents e ne) (ap (λ l. l.list) (list_edited x written m e.slot));
          lists = λ l. chain_edited x written m (name_at v.names (number l));
          undone = back;
          can_undo = record {
            slot = subst (λ q. x < q) (sym long) (slice_get_within m.row.items x c t.1);
            generation = λ e. cc;
            place = λ e. cc;
            sound = subst IsSound (sym back) s;
          };
        };
      }

  -- else it is at the front of the free list, its generation one larger
  pub record IsFreed (v : Image X) (d : Id) (was : X) (t : ChainPlace) : Type 0 where
    pub within : IsWithin t (length v.memory.row.items)
    pub sound : IsSound (in_memory (λ m. put_in t (edited d.slot (record { generation = d.generation + 1; content = None }) m)) v)
    pub removed : IsRemoved v (in_memory (λ m. put_in t (edited d.slot (record {
      generation = d.generation + 1;
      content =
          None;
    }) m)) v) d was (record { slot = d.slot; retired = false })

  freed_at : (v : Image X) → IsSound v → (d : Id) (was : X) → held v d ≡ Some was → on_list v d ≡ false → d.generation ≢ v.last
      → IsFreed v d was (between FREE [] d.slot (chain v.memory FREE))
  freed_at v s d was is bare more =
      let m = v.memory in let x = d.slot in let u : RemoveUndo = record { slot = x; retired = false } in
      let h = held_tells m d was is in let c = h.0 in let fit = s.fit x c h.1 in
      let off = is_loose v d (ap is_some is) bare c h.1 in
      let room : d.generation < v.last = omega (arith, fit.below, h.3, more) in
      let written : Slot X = record { generation = d.generation + 1; content = None } in
      let e = edited x written m in
      let at_e = own_edited x written m c h.1 in
      let linked_e = linked_edited m s.linked x written in
      let all = chain m FREE in
      let both = put_made e linked_e FREE x [] all (omega arith) (chain_edited x written m FREE) (record {
        slot = written;
        links =
            c.links;
      }) at_e off in
      let t = between FREE [] x all in let own = link FREE None (first all None) in
      let n = put_in t e in let j = in_memory (λ (q : Memory X). put_in t (edited x written q)) v in
      let at = own_relinked t (Some x) (Some x) own e (record { slot = written; links = c.links }) at_e in
      let sound : IsSound j = record {
        linked = both.0.linked;
        fit = all_fit v.last x n.row.items
            (fit_relinked v.last t (Some x) (Some x) own e (fit_edited v.last x written m (others_fit v.last x m.row.items s.fit)))
            (record { slot = written; links = own }) at
            (record { below = omega (arith, room); free = λ q. refl; empty = λ q. inl refl });
        names = s.names;
        last = s.last;
      } in
      let stands : place_at n x ≡ t = ap (λ o. place_of (list_or_first (links_in o).list) (links_in o).prev x (links_in o).next) at in
      let less : (slot_at n x).generation - 1 ≡ c.slot.generation = ap (λ o. (slot_in o).generation - 1) at ∙ omega (arith, h.3) in
      let put : Slot X = record { generation = (slot_at n x).generation - 1; content = Some was } in
      let same : put ≡ c.slot = λ i. record { generation = less i; content = sym h.2 i } in
      let back : remove_undone u was j ≡ v = ap (λ p. in_memory (λ q. edited x put (taken_out p q)) j) stands
      ∙ ap (λ q. in_memory (λ r. edited x q (taken_out t r)) j) same
      ∙ ap (λ (q : Memory X). in_memory (λ r. edited x c.slot q) v) both.1
      ∙ ap (λ (q : Memory X). record { memory = q; names = v.names; last = v.last }) (edited_back m x written c h.1) in
      let slots : held_slots n ≡ set (held_slots m) x written = slots_relinked t (Some x) (Some x) own e ∙ slots_edited x written m c h.1 in
      let long : length n.row.items ≡ length m.row.items = length_relinked t (Some x) (Some x) own e ∙ length_edited x written m in
      let contents : (i : Id) → i.slot ≢ x → held j i ≡ held v i = λ i ne. held_other (held_slots m) (held_slots n) x written slots i ne in
      let way : Bool → plain.Slots X = λ b. if b then record {
        slots =
            set (held_slots m) x (record { generation = d.generation; content = None });
        free = all;
        unused = (plain_slots v).unused;
      }
      else record { slots = set (held_slots m) x written; free = x ∷ all; unused = (plain_slots v).unused } in
      let no : (d.generation == v.last) ≡ false = elim (eqb_tells d.generation v.last) [ inl q ↦ absurd (more q.1) | inr q ↦ q.0 ] in
      record {
        within = subst (IsWithin t) long both.0.within;
        sound = sound;
        removed = record {
          was = is;
          slot = refl;
          plain = (λ i. record { slots = slots i; free = both.0.now i; unused = m.row.capacity - long i }) ∙ ap way (sym no);
          contents = contents;
          kept = λ i ne. on_list_by j v i (contents i ne) (list_relinked t (Some x) (Some x) own e i.slot (λ q. ne (sym q))
              ∙ ap (λ l. l.list) (list_edited x written m i.slot));
          lists = λ l. let low = name_below v s l in both.0.others (name_at v.names (number l)) (omega arith) (λ q. absurd (omega (
            arith,
            low,
            q,
          ))) ∙ chain_edited x written m (name_at v.names (number l));
          undone = back;
          can_undo = record {
            slot = subst (λ q. x < q) (sym long) (slice_get_within m.row.items x c h.1);
            generation = λ q. let gen : (slot_at n x).generation ≡ d.generation + 1 = ap (λ o. (slot_in o).generation) at in omega (arith, gen);
            place = λ q. subst (λ p. IsWithin p (length n.row.items)) (sym stands) both.0.within;
            sound = subst IsSound (sym back) s;
          };
        };
      }

  pub frees : (v : Image X) → IsSound v → (d : Id) (was : X) → held v d ≡ Some was → on_list v d ≡ false → d.generation ≢ v.last
      → IsFreed v d was (front_place FREE d.slot v.memory)
  frees v s d was is bare more =
      subst (λ o. IsFreed v d was (place_of FREE None d.slot o)) (sym (head_is v.memory s.linked FREE (omega arith)))
      (freed_at v s d was is bare more)
