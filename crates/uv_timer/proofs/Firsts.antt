-- The timer that is due first, and the one that is called next.
use Rattle.uv_timer.proofs.Names.{◌≡◌, ℕ, ◌≤◌, Bool, true, false, nat_le, List, slice_get, Option, Some, None, IfSome, is_some, option_and_then, refl, sym, ap, ◌∙◌, subst, inl, inr, if◌then◌else◌, le-leb, leb-true, Id, HandleRecord, Ready, id_of, IsFirst, Image, slot_in, slot_at, held, is_there, record_at, Entry, handle_of, handle_first, due_of, first_due, first_ready, IsDue, NoneIsDue, NoneIsReady}

-- what is read of something is read of what is there
is_read : {A B : Type 0} (f : A → Option B) (o : Option A) (b : B) → option_and_then f o ≡ Some b → is_some o ≡ true
is_read f None b e = cc e
is_read f (Some a) b e = refl

module _ {X : Type 0} (read : X → Option HandleRecord) (i : Image X) where
  -- an id that something is held under is that of its slot
  own_id : (d : Id) → is_some (held i d) ≡ true → d ≡ id_of d.slot (slot_at i.memory d.slot)
  own_id d h =
      let t = is_there i.memory d h in
      let same : d.generation ≡ (slot_at i.memory d.slot).generation = sym (ap (λ o. (slot_in o).generation) t.at ∙ t.generation) in
      λ k. record { slot = d.slot; generation = same k }

  handle_here : (d : Id) (h : HandleRecord) → record_at read i d ≡ Some h → handle_of read i d.slot ≡ Some d
  handle_here d h e =
      subst (λ (z : Id). (if is_some (record_at read i z) then Some z else None) ≡ Some d) (own_id d (is_read read (held i d) h e))
      (ap (λ (b : Bool). if b then Some d else None) (ap is_some e))

  no_handle : (slot : ℕ) → record_at read i (id_of slot (slot_at i.memory slot)) ≡ None → handle_of read i slot ≡ None
  no_handle slot e = ap (λ (b : Bool). if b then Some (id_of slot (slot_at i.memory slot)) else None) (ap is_some e)

  pub none_due : (array : List Entry) (time : ℕ) → NoneIsDue read i array time → None ≡ first_due read i array time
  none_due array time none = at (slice_get array 0) none where
    at : (o : Option Entry) → IfSome o (λ e. e.due.at ≤ time → record_at read i (id_of e.slot (slot_at i.memory e.slot)) ≡ None)
        → None ≡ due_of read i time o
    at None n = refl
    at (Some e) n = by (nat_le e.due.at time) refl where
      by : (b : Bool) → nat_le e.due.at time ≡ b → None ≡ (if b then handle_of read i e.slot else None)
      by true q = sym (no_handle e.slot (n (leb-true e.due.at time q)))
      by false q = refl

  pub ready_is : (d : Id) (h : HandleRecord) → IsFirst i Ready d → record_at read i d ≡ Some h → Some d ≡ first_ready read i
  ready_is d h f e = sym (ap (handle_first read i) f.is ∙ handle_here d h e)

  pub none_ready : NoneIsReady read i → None ≡ first_ready read i
  none_ready (inl e) = sym (ap (handle_first read i) e)
  none_ready (inr t) =
      sym (ap (handle_first read i) t.1.is
      ∙ no_handle t.0.slot (subst (λ (z : Id). record_at read i z ≡ None) (own_id t.0 t.1.listed.held) t.2))
