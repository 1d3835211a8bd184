-- A slot is put on a list, or taken off it.
use Rattle.uv_arena.proofs.ProofNames.{◌≡◌, ◌≢◌, ℕ, ◌-◌, ◌<◌, Bool, true, false, ◌&&◌, eqb, List, [], ◌∷◌, ◌++◌, length, Some, None, is_some, refl, sym, ap, ◌∙◌, subst, inl, inr, arith, append-nil, eqb_tells, slice_get_within, Id, LIST_COUNT, ListName, number, without, Links, ChainPlace, Cell, link, loose, first, last, IsApart, IsSegment, FREE, Image, Memory, IsWithin, list_or_first, name_at, chain, links_in, links_at, place_at, put_in, taken_out, with_links, in_memory, front_place, back_place, members, held_slots, plain_slots, held, on_list, IsSound, AreFit, chains, head_at, tail_at, push_undone, unlink_undone, rotate_undone, CanUndoUnlink, slot_or_first, front_again, IsPushed, IsUnlinked, IsFirst, IsRotated}
use Rattle.uv_records.specs.Slots as plain
use Rattle.uv_arena.proofs.Memories.{place_of, get-links, put_made, take_made, placed, head_is, tail_is, slots_relinked, length_relinked, own_relinked, list_relinked, others_fit, fit_relinked, all_fit, member_tells}
use Rattle.uv_arena.proofs.Lists.{last_append}
use Rattle.uv_arena.proofs.Places.{between}
use Rattle.uv_arena.proofs.Lookups.{is_there, is_loose, is_on, IsThereOn, on_list_by, name_below, name_other, without_none, without_one}

pub and_false : (b : Bool) → (b && false) ≡ false
and_false b = grind arith

module _ {X : Type 0} where
  -- ---- the parts that both share

  -- the plain slots, once the free list and the number of slots are as before
  pub plain_same : (v j : Image X) → held_slots j.memory ≡ held_slots v.memory → chain j.memory FREE ≡ chain v.memory FREE
      → length j.memory.row.items ≡ length v.memory.row.items
      → j.memory.row.capacity ≡ v.memory.row.capacity → plain_slots j ≡ plain_slots v
  plain_same v j e f g h = λ k. record { slots = e k; free = f k; unused = h k - g k }

  pub held_same : (i j : Memory X) → held_slots j ≡ held_slots i → (d : Id) → plain.held (held_slots j) d ≡ plain.held (held_slots i) d
  held_same i j e d = ap (λ s. plain.held s d) e

  -- ---- pushes

  -- what is known once a slot stands in a place
  pub record IsPut (v : Image X) (list : ListName) (d : Id) (t : ChainPlace) (now : List ℕ) : Type 0 where
    pub within : IsWithin t (length v.memory.row.items)
    pub sound : IsSound (in_memory (put_in t) v)
    pub pushed : IsPushed v (in_memory (put_in t) v) list d now

  put_between : (v : Image X) → IsSound v → (list : ListName) (d : Id) → is_some (held v d) ≡ true → on_list v d ≡ false → (us vs : List ℕ)
      → members v list ≡ us ++ vs
      → IsPut v list d (between (name_at v.names (number list)) us d.slot vs) (us ++ d.slot ∷ vs)
  put_between v s list d h bare us vs is =
      let k = name_at v.names (number list) in let x = d.slot in let m = v.memory in
      let lt : k < LIST_COUNT = name_below v s list in
      let there = is_there m d h in let c = there.cell in
      let both = put_made m s.linked k x us vs (omega arith) is c there.at (is_loose v d h bare c there.at) in
      let t = between k us x vs in let own = link k (last None us) (first vs None) in
      let n = put_in t m in let j = in_memory (put_in t) v in
      let long = length_relinked t (Some x) (Some x) own m in
      let at = own_relinked t (Some x) (Some x) own m c there.at in
      let old = s.fit x c there.at in
      let fit : AreFit v.last n.row.items =
      all_fit v.last x n.row.items (fit_relinked v.last t (Some x) (Some x) own m (others_fit v.last x m.row.items s.fit))
      (with_links own c) at (record {
        below = old.below;
        free = λ e. let same : k ≡ FREE = cc in absurd (omega (arith, same, lt));
        empty = λ e. cc (e, there.holds);
      }) in
      let stands : place_at n x ≡ t = ap (λ o. place_of (list_or_first (links_in o).list) (links_in o).prev x (links_in o).next) at in
      let slots = slots_relinked t (Some x) (Some x) own m in
      let back : push_undone x j ≡ v = ap (λ p. in_memory (taken_out p) j) stands
      ∙ ap (λ (q : Memory X). record { memory = q; names = v.names; last = v.last }) both.1 in
      record {
        within = subst (IsWithin t) long both.0.within;
        sound = record { linked = both.0.linked; fit = fit; names = s.names; last = s.last };
        pushed = record {
          lists = both.0.now;
          others = λ l ne. both.0.others (name_at v.names (number l)) (let low = name_below v s l in omega arith) (name_other v s l list ne);
          slots = record {
            plain = plain_same v j slots (both.0.others FREE (omega arith) (λ e. absurd (omega (arith, e, lt)))) long refl;
            contents = held_same m n slots;
          };
          listed = (λ i. is_some (held_same m n slots d i) && is_some (links_in (at i)).list) ∙ ap (λ u. u && true) h;
          kept = λ e ne. on_list_by j v e (held_same m n slots e) (list_relinked t (Some x) (Some x) own m e.slot (λ q. ne (sym q)));
          undone = back;
          can_undo = record {
            place = subst (λ p. IsWithin p (length n.row.items)) (sym stands) both.0.within;
            sound = subst IsSound (sym back) s;
          };
        };
      }

  pub put_front : (v : Image X) → IsSound v → (list : ListName) (d : Id) → is_some (held v d) ≡ true → on_list v d ≡ false
      → IsPut v list d (front_place (name_at v.names (number list)) d.slot v.memory) (d.slot ∷ members v list)
  put_front v s list d h bare =
      let k = name_at v.names (number list) in let lt : k < LIST_COUNT = name_below v s list in
      subst (λ o. IsPut v list d (place_of k None d.slot o) (d.slot ∷ members v list)) (sym (head_is v.memory s.linked k (omega arith)))
      (put_between v s list d h bare [] (members v list) refl)

  pub put_back : (v : Image X) → IsSound v → (list : ListName) (d : Id) → is_some (held v d) ≡ true → on_list v d ≡ false
      → IsPut v list d (back_place (name_at v.names (number list)) d.slot v.memory) (members v list ++ d.slot ∷ [])
  put_back v s list d h bare =
      let k = name_at v.names (number list) in let lt : k < LIST_COUNT = name_below v s list in
      subst (λ o. IsPut v list d (place_of k o d.slot None) (members v list ++ d.slot ∷ [])) (sym (tail_is v.memory s.linked k (omega arith)))
      (put_between v s list d h bare (members v list) [] (sym (append-nil (members v list))))

  -- ---- unlinking

  pub record IsTaken (v : Image X) (d : Id) : Type 0 where
    pub slot : d.slot < length v.memory.row.items
    pub within : IsWithin (place_at v.memory d.slot) (length v.memory.row.items)
    pub sound : IsSound (in_memory (taken_out (place_at v.memory d.slot)) v)
    pub unlinked : IsUnlinked v (in_memory (taken_out (place_at v.memory d.slot)) v) d (place_at v.memory d.slot)

  taken_between : (v : Image X) → IsSound v → (d : Id) (on : IsThereOn v.memory d) (us vs : List ℕ) → chain v.memory on.list ≡ us ++ d.slot ∷ vs
      → (let t = between on.list us d.slot vs in IsWithin t (length v.memory.row.items) × IsSound (in_memory (taken_out t) v)
      × IsUnlinked v (in_memory (taken_out t) v) d t)
  taken_between v s d on us vs is =
      let k = on.list in let x = d.slot in let m = v.memory in let lt : k < LIST_COUNT = on.below in
      let there = on.there in let c = there.cell in
      let both = take_made m s.linked k x us vs (omega arith) is in
      let t = between k us x vs in
      let n = taken_out t m in let j = in_memory (taken_out t) v in
      let long = length_relinked t t.after t.before loose m in
      let at = own_relinked t t.after t.before loose m c there.at in
      let old = s.fit x c there.at in
      let fit : AreFit v.last n.row.items =
      all_fit v.last x n.row.items (fit_relinked v.last t t.after t.before loose m (others_fit v.last x m.row.items s.fit))
      (with_links loose c) at (record {
        below = old.below;
        free = λ e. cc;
        empty = λ e. cc (e, there.holds);
      }) in
      let slots = slots_relinked t t.after t.before loose m in
      let back : unlink_undone t j ≡ v = ap (λ (q : Memory X). record { memory = q; names = v.names; last = v.last }) both.1 in
      let listed : (l : ListName) → members j l ≡ without eqb (members v l) x = λ l.
      let low : name_at v.names (number l) < LIST_COUNT = name_below v s l in
      elim (eqb_tells (name_at v.names (number l)) k) [
        | inl e ↦ ap (chain n) e.1 ∙ both.0.now ∙ sym (ap (λ q. without eqb q x) (ap (chain m) e.1 ∙ is)
            ∙ without_one us vs x (subst IsApart is (s.linked.stands.lists k (omega arith)).apart))
        | inr ne ↦ both.0.others (name_at v.names (number l)) (omega arith) ne.1
            ∙ sym (without_none (members v l) x (λ i. let tells = member_tells m s.linked (name_at v.names (number l)) (omega arith) x i in
            ne.1 (let same : tells.0 ≡ c = cc (tells.1, there.at) in cc (ap (λ (z : Cell X). z.links.list) same, tells.2, on.on))))
      ] in (
        subst (IsWithin t) long both.0.within,
        record { linked = both.0.linked; fit = fit; names = s.names; last = s.last },
        record {
          slot = refl;
          lists = listed;
          slots = record {
            plain = plain_same v j slots (both.0.others FREE (omega arith) (λ e. absurd (omega (arith, e, lt)))) long refl;
            contents = held_same m n slots;
          };
          loose = (λ i. is_some (held j d) && is_some (links_in (at i)).list) ∙ and_false (is_some (held j d));
          kept = λ e ne. on_list_by j v e (held_same m n slots e) (list_relinked t t.after t.before loose m e.slot (λ q. ne (sym q)));
          undone = back;
          can_undo = record { place = both.0.within; sound = subst IsSound (sym back) s };
        },
      )

  pub take_off : (v : Image X) → IsSound v → (d : Id) → on_list v d ≡ true → IsTaken v d
  take_off v s d h =
      let on = is_on v s d h in let c = on.there.cell in let m = v.memory in
      let cut = placed m s.linked on.list d.slot c on.there.at on.on in let us = cut.1.0 in let vs = cut.1.1 in
      let t = between on.list us d.slot vs in
      let own : links_at m d.slot ≡ link on.list (last None us) (first vs None) = ap links_in on.there.at ∙ cut.1.3 in
      let stands : place_at m d.slot ≡ t = ap (λ (l : Links). place_of (list_or_first l.list) l.prev d.slot l.next) own in
      let all = taken_between v s d on us vs cut.1.2 in
      record {
        slot = slice_get_within m.row.items d.slot c on.there.at;
        within = subst (λ p. IsWithin p (length m.row.items)) (sym stands) all.0;
        sound = subst (λ p. IsSound (in_memory (taken_out p) v)) (sym stands) all.1;
        unlinked = subst (λ p. IsUnlinked v (in_memory (taken_out p) v) d p) (sym stands) all.2;
      }

  -- ---- the front of a list becomes the last of another one

  module _ (v : Image X) (s : IsSound v) (from to : ListName) (d : Id) (apart : from ≢ to) (f : IsFirst v from d) where
    -- where the front stands
    abbrev pub front_of : ChainPlace
    front_of = between (name_at v.names (number from)) [] d.slot f.rest

    pub stands_first : links_at v.memory d.slot ≡ link (name_at v.names (number from)) None (first f.rest None)
    stands_first =
        let k = name_at v.names (number from) in let lt : k < LIST_COUNT = name_below v s from in
        let there = is_there v.memory d f.listed.held in let c = there.cell in
        let seg = subst (λ l. IsSegment (chains v.memory).links k None l None) f.is (s.linked.stands.lists k (omega arith)).segment in
        let got = get-links v.memory.row.items d.slot c there.at in
        ap links_in there.at ∙ cc (got, seg.0)

    pub place_first : place_at v.memory d.slot ≡ front_of
    place_first = ap (λ (l : Links). place_of (list_or_first l.list) l.prev d.slot l.next) stands_first

    off : IsTaken v d
    off = take_off v s d f.listed.listed

    abbrev pub without_first : Image X
    without_first = in_memory (taken_out front_of) v

    unlinked : IsUnlinked v without_first d front_of
    unlinked = subst (λ p. IsUnlinked v (in_memory (taken_out p) v) d p) place_first off.unlinked

    sound : IsSound without_first
    sound = subst (λ p. IsSound (in_memory (taken_out p) v)) place_first off.sound

    to_kept : members without_first to ≡ members v to
    to_kept = unlinked.lists to ∙ f.others to (λ e. apart (sym e))

    from_left : members without_first from ≡ f.rest
    from_left = unlinked.lists from ∙ f.after

    put : IsPut without_first to d (back_place (name_at v.names (number to)) d.slot without_first.memory) (members without_first to ++ d.slot ∷ [])
    put = put_back without_first sound to d (ap is_some (unlinked.slots.contents d) ∙ f.listed.held) unlinked.loose

    same_back : back_place (name_at v.names (number to)) d.slot v.memory ≡ back_place (name_at v.names (number to)) d.slot without_first.memory
    same_back =
        let k = name_at v.names (number to) in let lt : k < LIST_COUNT = name_below v s to in
        ap (λ o. place_of k o d.slot None) (tail_is v.memory s.linked k (omega arith)
        ∙ ap (last None) (sym to_kept) ∙ sym (tail_is without_first.memory sound.linked k (omega arith)))

    -- what is known once the front is the last of the other list
    abbrev pub back_of : ChainPlace
    back_of = back_place (name_at v.names (number to)) d.slot v.memory

    abbrev pub with_last : Image X
    with_last = in_memory (λ m. put_in back_of (taken_out front_of m)) v

    pub record IsTurned : Type 0 where
      pub slot : d.slot < length v.memory.row.items
      pub from_within : IsWithin front_of (length v.memory.row.items)
      pub to_within : IsWithin back_of (length v.memory.row.items)
      pub sound : IsSound with_last
      pub rotated : IsRotated v with_last from to d

    is_put : IsPut without_first to d back_of (members without_first to ++ d.slot ∷ [])
    is_put = subst (λ t. IsPut without_first to d t (members without_first to ++ d.slot ∷ [])) (sym same_back) put

    last_there : tail_at with_last.memory (name_at v.names (number to)) ≡ Some d.slot
    last_there =
        let k = name_at v.names (number to) in let lt : k < LIST_COUNT = name_below v s to in
        tail_is with_last.memory is_put.sound.linked k (omega arith) ∙ ap (last None) is_put.pushed.lists
        ∙ last_append (members without_first to) (d.slot ∷ []) None

    front_back : front_again from d.slot without_first ≡ front_of
    front_back =
        let k = name_at v.names (number from) in let lt : k < LIST_COUNT = name_below v s from in
        ap (λ o. place_of k None d.slot o) (head_is without_first.memory sound.linked k (omega arith) ∙ ap (λ xs. first xs None) from_left)

    front_kept : front_again from d.slot without_first ≡ front_again from d.slot with_last
    front_kept =
        let k = name_at v.names (number from) in let lt : k < LIST_COUNT = name_below v s from in
        ap (λ o. place_of k None d.slot o) (head_is without_first.memory sound.linked k (omega arith)
        ∙ ap (λ xs. first xs None) (sym (is_put.pushed.others from apart))
        ∙ sym (head_is with_last.memory is_put.sound.linked k (omega arith)))

    pub turned : IsTurned
    turned =
        let m = v.memory in
        let long = length_relinked front_of front_of.after front_of.before loose m in
        record {
          slot = off.slot;
          from_within = subst (λ p. IsWithin p (length m.row.items)) place_first off.within;
          to_within = subst (IsWithin back_of) long is_put.within;
          sound = is_put.sound;
          rotated = record {
            between = without_first;
            place = front_of;
            unlinked = unlinked;
            pushed = is_put.pushed;
            undone =
                ap (λ o. (let k = push_undone (slot_or_first o) with_last in unlink_undone (front_again from (slot_or_first o) k) k)) last_there
                ∙ ap (λ (k : Image X). unlink_undone (front_again from d.slot k) k) is_put.pushed.undone
                ∙ ap (λ t. unlink_undone t without_first) front_back ∙ unlinked.undone;
            can_undo = record {
              slot = d.slot;
              last = last_there;
              front = ap (front_again from d.slot) is_put.pushed.undone ∙ front_kept;
              pushed = is_put.pushed.can_undo;
              unlinked = subst (λ (k : Image X). CanUndoUnlink k (front_again from d.slot k)) (sym is_put.pushed.undone)
                  (subst (CanUndoUnlink without_first) (sym front_back) unlinked.can_undo);
            };
          };
        }
