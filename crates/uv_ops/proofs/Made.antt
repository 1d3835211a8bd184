-- A handle is made, or a request queued: what the memory stands for then.
use Rattle.uv_ops.proofs.Names.{◌≡◌, ◌≢◌, ℕ, ◌∷◌, [], ◌++◌, false, List, map, Option, Some, None, is_some, refl, sym, ap, ◌∙◌, subst, map-append, Id, Var, ListName, next_free, taken, plain_slots, Entry, id_in, Place, found_or, State, live, make, refuses, members, Content, Image, Does, StandsFor, timer_in, map_same, Listed, all_but_one}
use Rattle.uv_ids.specs.declared.code.Code.TheVariants as code
use Rattle.uv_ids.specs.declared.code.Answer.TheVariants as answer
use Rattle.uv_records.specs.declared.lists.ListName.TheVariants as name
use Rattle.uv_arena.specs.Image as arena
use Rattle.uv_ops.proofs.Taking.{ids_taken}

-- ---- what is made, or not

not_live : {A : Type 0} (o : Option A) → is_some o ≡ false → o ≡ None
not_live None e = refl
not_live (Some a) e = cc

-- the name is bound to nothing live
module _ (i : Image Place) (v : Var) (made : State → Id → State) (free : (s : State) → StandsFor i s → is_some (live s v) ≡ false) where
  makes : (s : State) → StandsFor i s → (o : Option Id) → next_free (plain_slots i.arena) ≡ o
      → make s (live s v) (made s) ≡ found_or o (λ id. record { state = made s id; answer = answer.Id id }) (refuses s code.Efull)
  makes s h o e =
      ap (λ x. make s x (made s)) (not_live (live s v) (free s h))
      ∙ ap (λ x. found_or x (λ id. record { state = made s id; answer = answer.Id id }) (refuses s code.Efull))
      (sym (ap next_free h.slots) ∙ e)

  -- no slot is left
  pub make_full : (j : Image Place) → j ≡ i → next_free (plain_slots i.arena) ≡ None
      → Does (λ s. make s (live s v) (made s)) i j (answer.Code code.Efull)
  make_full j same e s h reached = (s, makes s h None e, subst (λ q. StandsFor q s) (sym same) h)

  -- it is made
  pub make_done : (j : Image Place) (d : Id) → next_free (plain_slots i.arena) ≡ Some d
      → ((s : State) → StandsFor i s → StandsFor j (made s d)) → Does (λ s. make s (live s v) (made s)) i j (answer.Id d)
  make_done j d e stands s h reached = (made s d, makes s h (Some d) e, stands s h)

-- ---- what the memory stands for

module _ (i : Image Place) (s : State) (h : StandsFor i s) (k : arena.Image Content) (d : Id) (v : Content)
    (next : next_free (plain_slots i.arena) ≡ Some d) (slots : plain_slots k ≡ taken d v (plain_slots i.arena)) where
  pub taken_ids : (x : ℕ) → id_in k x ≡ id_in i.arena x
  taken_ids = ids_taken i.arena k d v next slots

  pub taken_slots : plain_slots k ≡ taken d v s.arena
  taken_slots = slots ∙ ap (taken d v) h.slots

  -- a list at whose end the new one is
  pub at_end : (l : ListName) → id_in k d.slot ≡ d → arena.members k l ≡ arena.members i.arena l ++ d.slot ∷ []
      → members s l ++ d ∷ [] ≡ map (id_in k) (arena.members k l)
  at_end l one more =
      let was = arena.members i.arena l in
      (λ j. (h.lists l ∙ sym (map_same (id_in k) (id_in i.arena) taken_ids was)) j ++ sym one j ∷ [])
      ∙ sym (map-append (id_in k) was (d.slot ∷ []))
      ∙ ap (map (id_in k)) (sym more)

  -- a handle is new, and these are the async ones
  module _ (asyncs : List Id) where
    abbrev pub with_asyncs : State
    with_asyncs = record s {
      arena = taken d v s.arena;
      watchers = record s.watchers { async = record { list = asyncs; yet = s.watchers.async.yet } };
    }

    beside_asyncs : (l : ListName) → l ≢ name.Async → members with_asyncs l ≡ members s l
    beside_asyncs name.Async ne = absurd (ne refl)
    beside_asyncs l ne = refl

    pub handle_stands : (m : ℕ) → ((l : ListName) → l ≢ name.Async → arena.members k l ≡ arena.members i.arena l)
        → Listed k with_asyncs name.Async → StandsFor (record i { arena = k; active = m }) with_asyncs
    handle_stands m others listed = record {
      values = h.values;
      slots = taken_slots;
      lists = all_but_one i s h k with_asyncs taken_ids name.Async others beside_asyncs listed;
      timers = record {
        entries = h.timers.entries;
        ordered = h.timers.ordered;
        same = h.timers.same
            ∙ sym (map_same (timer_in k) (timer_in i.arena) (λ (e : Entry). ap (λ z. (e.due, z)) (taken_ids e.slot)) h.timers.entries);
      };
    }
