-- A slot is taken, freed, or given other content.
use Rattle.uv_arena.proofs.ProofNames.{◌≡◌, ◌≢◌, ℕ, zero, suc, ◌-◌, ◌<◌, ◌≤◌, if◌then◌else◌, Bool, true, false, ◌&&◌, List, [], ◌∷◌, length, set, slice_get, Some, None, is_some, option_and_then, refl, sym, ap, ◌∙◌, subst, inl, inr, arith, eqb_tells, length-map, slice_get_within, slice_get_past, Id, Slot, ListName, number, Links, Cell, link, loose, first, IsIn, IsSegment, FREE, Image, Memory, IsWithin, list_or_first, name_at, chains, chain, links_in, links_at, slot_in, slot_at, place_at, put_in, taken_out, edited, grown, with_links, in_memory, front_place, head_at, held_slots, plain_slots, held, on_list, IsSound, IsLinked, AreFit, insert_undone, set_undone, IsInserted, IsSet}
use Rattle.uv_records.specs.Slots as plain
use Rattle.uv_arena.specs.declared.undo.InsertUndo.{InsertUndo}
use Rattle.uv_arena.proofs.Memories.{place_of, get-links, get-slots, take_made, head_is, slots_relinked, length_relinked, own_relinked, list_relinked, chain_edited, length_edited, linked_edited, own_edited, list_edited, slots_edited, edited_back, others_fit, fit_relinked, fit_edited, all_fit, member_tells}
use Rattle.uv_arena.proofs.Places.{between}
use Rattle.uv_arena.proofs.Lookups.{held_by, held_now, held_tells, on_list_by, name_below}
use Rattle.uv_arena.proofs.Pushes.{and_false}
use Rattle.uv_arena.proofs.Fresh.{get_last, get_other, cell_of, length_grown, linked_grown, chain_grown, fit_grown, slots_grown, shrunk_grown}

-- another place reads as before a write
get_set : {A : Type 0} (xs : List A) (x y : ℕ) (a : A) → x ≢ y → slice_get (set xs x a) y ≡ slice_get xs y
get_set (b ∷ bs) (suc x) (suc y) a n = get_set bs x y a (λ e. n (omega arith))
get_set each e1 e2 a n = grind arith

pub none_first : (xs : List ℕ) → first xs None ≡ None → xs ≡ []
none_first xs e = grind arith

pub some_first : (xs : List ℕ) (x : ℕ) → first xs None ≡ Some x → (rest : List ℕ) × (xs ≡ x ∷ rest)
some_first xs x e = grind arith

pub next_some : (n u : ℕ) → 0 < u → plain.next_unused n u ≡ Some (record { slot = n; generation = 0 })
next_some n u lt = grind arith

module _ {X : Type 0} where
  held_gone : (m : Memory X) (d : Id) (c : Cell X) → slice_get m.row.items d.slot ≡ Some c → c.slot.generation ≢ d.generation
      → plain.held (held_slots m) d ≡ None
  held_gone m d c at n = elim (eqb_tells c.slot.generation d.generation) [
    | inl q ↦ absurd (n q.1)
    | inr q ↦ held_by m d (Some c) at ∙ ap (λ (u : Bool). if u then c.slot.content else None) q.0
  ]

  pub held_other : (ss ts : List (Slot X)) (x : ℕ) (a : Slot X) → ts ≡ set ss x a → (d : Id) → d.slot ≢ x → plain.held ts d ≡ plain.held ss d
  held_other ss ts x a e d n = ap (option_and_then (plain.held_in d)) (ap (λ l. slice_get l d.slot) e ∙ get_set ss x d.slot a (λ q. n (sym q)))

  -- another generation of a slot whose content changed is held there neither before nor after
  on_kept : (v j : Image X) (e d : Id) (was new : X) → e.slot ≡ d.slot → held v d ≡ Some was → held j d ≡ Some new
      → (links_at j.memory e.slot).list ≡ (links_at v.memory e.slot).list → on_list j e ≡ on_list v e
  on_kept v j e d was new at h k l =
      let old = held_tells v.memory d was h in let now = held_tells j.memory d new k in
      let old_at = ap (slice_get v.memory.row.items) at ∙ old.1 in let now_at = ap (slice_get j.memory.row.items) at ∙ now.1 in
      let same : is_some (held j e) ≡ is_some (held v e) = elim (eqb_tells d.generation e.generation) [
        | inl q ↦ ap is_some (held_now j.memory e now.0 now_at (now.3 ∙ q.1) ∙ now.2)
            ∙ sym (ap is_some (held_now v.memory e old.0 old_at (old.3 ∙ q.1) ∙ old.2))
        | inr q ↦ ap is_some (held_gone j.memory e now.0 now_at (λ z. q.1 (sym now.3 ∙ z)))
            ∙ sym (ap is_some (held_gone v.memory e old.0 old_at (λ z. q.1 (sym old.3 ∙ z))))
      ] in
      λ i. same i && is_some (l i)

  -- ---- set

  pub record IsChanged (v : Image X) (d : Id) (new was : X) : Type 0 where
    pub within : d.slot < length v.memory.row.items
    pub generation : (slot_at v.memory d.slot).generation ≡ d.generation
    pub sound : IsSound (set_undone d.slot new v)
    pub set : IsSet v (set_undone d.slot new v) d new was

  pub changes : (v : Image X) → IsSound v → (d : Id) (new was : X) → held v d ≡ Some was → IsChanged v d new was
  changes v s d new was is =
      let m = v.memory in let x = d.slot in
      let t = held_tells m d was is in let c = t.0 in
      let gen : (slot_at m x).generation ≡ c.slot.generation = ap (λ o. (slot_in o).generation) t.1 in
      let written : Slot X = record { generation = (slot_at m x).generation; content = Some new } in
      let n = edited x written m in let j = set_undone x new v in
      let at = own_edited x written m c t.1 in
      let old = s.fit x c t.1 in
      let fit : AreFit v.last n.row.items =
      all_fit v.last x n.row.items (fit_edited v.last x written m (others_fit v.last x m.row.items s.fit))
      (record { slot = written; links = c.links }) at (record {
        below = subst (λ q. q ≤ v.last) (sym gen) old.below;
        free = λ e. cc (old.free e, t.2);
        empty = λ e. cc;
      }) in
      let sound : IsSound j = record { linked = linked_edited m s.linked x written; fit = fit; names = s.names; last = s.last } in
      let put : Slot X = record { generation = (slot_at n x).generation; content = Some was } in
      let same : put ≡ c.slot = λ i. record { generation = (ap (λ o. (slot_in o).generation) at ∙ gen) i; content = sym t.2 i } in
      let back : set_undone x was j ≡ v = ap (λ q. in_memory (edited x q) j) same
      ∙ ap (λ (q : Memory X). record { memory = q; names = v.names; last = v.last }) (edited_back m x written c t.1) in
      let slots = slots_edited x written m c t.1 in
      record {
        within = slice_get_within m.row.items x c t.1;
        generation = gen ∙ t.3;
        sound = sound;
        set = record {
          image = refl;
          plain = λ i. record {
            slots = (slots ∙ ap (λ (q : ℕ). set (held_slots m) x (record { generation = q; content = Some new })) (gen ∙ t.3)) i;
            free = chain_edited x written m FREE i;
            unused = m.row.capacity - length_edited x written m i;
          };
          now = held_now n d (record { slot = written; links = c.links }) at (gen ∙ t.3);
          contents = λ e ne. held_other (held_slots m) (held_slots n) x written slots e ne;
          kept = λ e. elim (eqb_tells e.slot x) [
            | inl q ↦ on_kept v j e d was new q.1 is (held_now n d (record { slot = written; links = c.links }) at (gen
                ∙ t.3)) (ap (λ l. l.list) (list_edited x written m e.slot))
            | inr q ↦ on_list_by j v e (held_other (held_slots m) (held_slots n) x written slots e q.1)
                (ap (λ l. l.list) (list_edited x written m e.slot))
          ];
          lists = λ l. chain_edited x written m (name_at v.names (number l));
          undone = back;
          can_undo = record {
            slot = subst (λ q. x < q) (sym (length_edited x written m)) (slice_get_within m.row.items x c t.1);
            sound = subst IsSound (sym back) s;
          };
        };
      }

  -- ---- insert

  -- a slot that was never used
  pub record IsGrown (v : Image X) (new : X) : Type 0 where
    pub sound : IsSound (in_memory (grown new) v)
    pub inserted : IsInserted v (in_memory (grown new) v) new (record { slot = length v.memory.row.items; generation = 0 }) (record {
      slot =
          length v.memory.row.items;
      fresh = true;
    })

  pub chain_none : (m : Memory X) → IsLinked m → head_at m FREE ≡ None → chain m FREE ≡ []
  chain_none m s e = none_first (chain m FREE) (sym (head_is m s FREE (omega arith)) ∙ e)

  pub grows : (v : Image X) → IsSound v → (new : X) → length v.memory.row.items < v.memory.row.capacity → head_at v.memory FREE ≡ None → IsGrown v new
  grows v s new room none =
      let m = v.memory in let x = length m.row.items in let n = grown new m in let j = in_memory (grown new) v in
      let d : Id = record { slot = x; generation = 0 } in let u : InsertUndo = record { slot = x; fresh = true } in
      let cell : Cell X = cell_of new in
      let sound : IsSound j = record {
        linked = linked_grown new m s.linked room;
        fit = fit_grown v.last new m s.fit;
        names = s.names;
        last =
            s.last;
      } in
      let at = get_last m.row.items cell in
      let empty = chain_none m s.linked none in
      let long = length-map m.row.items (λ (c : Cell X). c.slot) in
      let now = held_now n d cell at refl in
      let contents : (e : Id) → e.slot ≢ x → held j e ≡ held v e =
      λ e ne. ap (option_and_then (plain.held_in e)) (ap (λ l. slice_get l e.slot) (slots_grown new m)
      ∙ get_other (held_slots m) cell.slot e.slot (λ q. ne (q ∙ long))) in
      let left : n.row.capacity - length n.row.items ≡ m.row.capacity - x - 1 = omega (arith, length_grown new m) in
      record {
        sound = sound;
        inserted = record {
          next = ap (plain.next_id (held_slots m) (m.row.capacity - x)) empty
              ∙ next_some (length (held_slots m)) (m.row.capacity - x) (omega arith) ∙ (λ i. Some (record { slot = long i; generation = 0 }));
          vacant = held_by m d None (slice_get_past m.row.items x (omega arith));
          slot = refl;
          plain = (λ i. record { slots = slots_grown new m i; free = (chain_grown new m s.linked FREE (omega arith) ∙ empty) i; unused = left i })
              ∙ (λ i. plain.taken_from [] d new (record { slots = held_slots m; free = sym empty i; unused = m.row.capacity - x }))
              ∙ (λ i. plain.taken_from (sym empty i) d new (plain_slots v));
          now = now;
          loose = (λ i. is_some (held j d) && is_some (links_in (at i)).list) ∙ and_false (is_some (held j d));
          contents = contents;
          kept = λ e ne. on_list_by j v e (contents e ne) (ap (λ o. (links_in o).list) (get_other m.row.items cell e.slot ne));
          lists = λ l. let low = name_below v s l in chain_grown new m s.linked (name_at v.names (number l)) (omega arith);
          undone = ap (λ (q : Memory X). record { memory = q; names = v.names; last = v.last }) (shrunk_grown new m);
          can_undo = record {
            slot = omega (arith, length_grown new m);
            place = λ e. cc;
            sound = subst IsSound (sym (ap (λ (q : Memory X). record { memory = q; names = v.names; last = v.last }) (shrunk_grown new m))) s;
          };
        };
      }

  -- the front of the free list
  pub record IsReused (v : Image X) (new : X) (x : ℕ) : Type 0 where
    pub slot : x < length v.memory.row.items
    pub within : IsWithin (place_at v.memory x) (length v.memory.row.items)
    pub sound : IsSound (in_memory (λ m. edited x (record {
      generation = (slot_at v.memory x).generation;
      content =
          Some new;
    }) (taken_out (place_at v.memory x) m)) v)
    pub inserted : IsInserted v (in_memory (λ m. edited x (record {
      generation = (slot_at v.memory x).generation;
      content =
          Some new;
    }) (taken_out (place_at v.memory x) m)) v) new
        (record { slot = x; generation = (slot_at v.memory x).generation }) (record { slot = x; fresh = false })

  reused_at : (v : Image X) → IsSound v → (new : X) (x : ℕ) (rest : List ℕ) → chain v.memory FREE ≡ x ∷ rest → IsReused v new x
  reused_at v s new x rest is =
      let m = v.memory in
      let on = member_tells m s.linked FREE (omega arith) x (subst (IsIn x) (sym is) (inl refl)) in let c = on.0 in
      let empty : c.slot.content ≡ None = (s.fit x c on.1).free on.2 in
      let seg = subst (λ l. IsSegment (chains m).links FREE None l None) is (s.linked.stands.lists FREE (omega arith)).segment in
      let own : c.links ≡ link FREE None (first rest None) = cc (get-links m.row.items x c on.1, seg.0) in
      let t = between FREE [] x rest in
      let stands : place_at m x ≡ t = ap (λ (l : Links). place_of (list_or_first l.list) l.prev x l.next) (ap links_in on.1 ∙ own) in
      let gen : (slot_at m x).generation ≡ c.slot.generation = ap (λ o. (slot_in o).generation) on.1 in
      let both = take_made m s.linked FREE x [] rest (omega arith) is in
      let written : Slot X = record { generation = (slot_at m x).generation; content = Some new } in
      let out = taken_out t m in let n = edited x written out in
      let j = in_memory (λ (q : Memory X). edited x written (taken_out t q)) v in
      let at_out = own_relinked t t.after t.before loose m c on.1 in
      let at = own_edited x written out (with_links loose c) at_out in
      let d : Id = record { slot = x; generation = (slot_at m x).generation } in let u : InsertUndo = record { slot = x; fresh = false } in
      let sound : IsSound j = record {
        linked = linked_edited out both.0.linked x written;
        fit = all_fit v.last x n.row.items
            (fit_edited v.last x written out (fit_relinked v.last t t.after t.before loose m (others_fit v.last x m.row.items s.fit)))
            (record { slot = written; links = loose }) at
            (record { below = subst (λ q. q ≤ v.last) (sym gen) (s.fit x c on.1).below; free = λ e. cc; empty = λ e. cc });
        names = s.names;
        last = s.last;
      } in
      let slots : held_slots n ≡ set (held_slots m) x written = slots_edited x written out (with_links loose c) at_out
      ∙ ap (λ l. set l x written) (slots_relinked t t.after t.before loose m) in
      let long : length n.row.items ≡ length m.row.items = length_edited x written out ∙ length_relinked t t.after t.before loose m in
      let contents : (e : Id) → e.slot ≢ x → held j e ≡ held v e = λ e ne. held_other (held_slots m) (held_slots n) x written slots e ne in
      let now = held_now n d (record { slot = written; links = loose }) at refl in
      let put : Slot X = record { generation = (slot_at n x).generation; content = None } in
      let same : put ≡ c.slot = λ i. record { generation = (ap (λ o. (slot_in o).generation) at ∙ gen) i; content = sym empty i } in
      let front : front_place FREE x n ≡ t = ap (place_of FREE None x) (head_is n sound.linked FREE (omega arith)
      ∙ ap (λ l. first l None) (chain_edited x written out FREE ∙ both.0.now)) in
      let back : insert_undone u j ≡ v = ap (λ p. in_memory (λ q. put_in p (edited x put q)) j) front
      ∙ ap (λ q. in_memory (λ r. put_in t (edited x q r)) j) same
      ∙ ap (λ (q : Memory X). in_memory (λ r. put_in t q) v) (edited_back out x written (with_links loose c) at_out)
      ∙ ap (λ (q : Memory X). record { memory = q; names = v.names; last = v.last }) both.1 in
      let far : (l : ListName) → chain n (name_at v.names (number l)) ≡ chain m (name_at v.names (number l)) = λ l.
      let low = name_below v s l in chain_edited x written out (name_at v.names (number l))
      ∙ both.0.others (name_at v.names (number l)) (omega arith) (λ e. absurd (omega (arith, low, e))) in
      let inserted : IsInserted v j new d u = record {
        next = ap (plain.next_id (held_slots m) (m.row.capacity - length m.row.items)) is
            ∙ ap (option_and_then (λ (q : Slot X). Some (plain.id_of x q))) (get-slots m.row.items x c on.1)
            ∙ (λ i. Some (record { slot = x; generation = sym gen i }));
        vacant = held_now m d c on.1 (sym gen) ∙ empty;
        slot = refl;
        plain = (λ i. record { slots = slots i; free = (chain_edited x written out FREE ∙ both.0.now) i; unused = m.row.capacity - long i })
            ∙ (λ i. plain.taken_from (sym is i) d new (plain_slots v));
        now = now;
        loose = (λ i. is_some (held j d) && is_some (links_in (at i)).list) ∙ and_false (is_some (held j d));
        contents = contents;
        kept = λ e ne. on_list_by j v e (contents e ne) (ap (λ l. l.list) (list_edited x written out e.slot)
            ∙ list_relinked t t.after t.before loose m e.slot (λ q. ne (sym q)));
        lists = far;
        undone = back;
        can_undo = record {
          slot = subst (λ q. x < q) (sym long) (slice_get_within m.row.items x c on.1);
          place = λ e. subst (λ p. IsWithin p (length n.row.items)) (sym front)
              (subst (IsWithin t) (sym (length_edited x written out)) both.0.within);
          sound = subst IsSound (sym back) s;
        };
      } in
      record {
        slot = slice_get_within m.row.items x c on.1;
        within = subst (λ p. IsWithin p (length m.row.items)) (sym stands)
            (subst (IsWithin t) (length_relinked t t.after t.before loose m) both.0.within);
        sound = subst (λ p. IsSound (in_memory (λ q. edited x written (taken_out p q)) v)) (sym stands) sound;
        inserted = subst (λ p. IsInserted v (in_memory (λ q. edited x written (taken_out p q)) v) new d u) (sym stands) inserted;
      }

  pub reuses : (v : Image X) → IsSound v → (new : X) (x : ℕ) → head_at v.memory FREE ≡ Some x → IsReused v new x
  reuses v s new x e = let cut = some_first (chain v.memory FREE) x (sym (head_is v.memory s.linked FREE (omega arith)) ∙ e) in
      reused_at v s new x cut.0 cut.1
