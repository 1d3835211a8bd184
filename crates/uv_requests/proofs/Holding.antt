-- What is held under ids, before and after a call.
use Rattle.uv_requests.proofs.Names.{◌≡◌, ℕ, ◌<◌, Bool, true, false, Option, Some, None, is_some, refl, sym, ap, ◌∙◌, subst, inl, inr, arith, Id, LIST_COUNT, ListName, Waiting, EndedYet, number, IsIn, IsApart, Image, slot_in, slot_at, name_at, members, held, IsSound, IsListed, IsFirst, or_none, held_tells, name_below, is_member, Request, is_open, Running, working, id_in, request_in, IsHeld, IsWork}
pub use Rattle.uv_arena.proofs.Contents.{content_of}

module _ {X : Type 0} where
  -- an id under which something is held is that of its slot
  pub id_is : (i : Image X) (d : Id) (v : X) → held i d ≡ Some v → id_in i d.slot ≡ d
  id_is i d v e =
      let t = held_tells i.memory d v e in
      let gen : (slot_at i.memory d.slot).generation ≡ d.generation = ap (λ o. (slot_in o).generation) t.1 ∙ t.3 in
      λ l. record { slot = d.slot; generation = gen l }

  pub listed_id : (i : Image X) (d : Id) → is_some (held i d) ≡ true → id_in i d.slot ≡ d
  listed_id i d e = elim (or_none (held i d)) [ inl n ↦ cc (ap is_some n, e) | inr v ↦ id_is i d v.0 v.1 ]

  -- two ids of one slot, under both of which something is held, are one
  pub one_id : (i : Image X) (d e : Id) (v w : X) → held i d ≡ Some v → held i e ≡ Some w → e.slot ≡ d.slot → e ≡ d
  one_id i d e v w a b s = sym (id_is i e w b) ∙ ap (id_in i) s ∙ id_is i d v a

  -- a member of a list is held, and on a list
  pub member : (i : Image X) → IsSound i → (l : ListName) (x : ℕ) → IsIn x (members i l) → IsListed i (id_in i x)
  member i s l x h = (is_member i s (name_at i.names (number l)) x (name_below i s l) h).listed

  -- no slot is on a list twice
  pub list_apart : (i : Image X) → IsSound i → (l : ListName) → IsApart (members i l)
  list_apart i s l =
      let lt : name_at i.names (number l) < LIST_COUNT = name_below i s l in
      (s.linked.stands.lists (name_at i.names (number l)) (omega arith)).apart

module _ {X : Type 0} (read : X → Option Request) where
  pub held_id : (i : Image X) (d : Id) (b : Bool) → IsHeld read i d b → id_in i d.slot ≡ d
  held_id i d b h = let c = content_of read i d h.request h.is in id_is i d c.0 c.1

  pub one_held : (i : Image X) (d e : Id) (a b : Bool) → IsHeld read i d a → IsHeld read i e b → e.slot ≡ d.slot → e ≡ d
  one_held i d e a b g h s = sym (held_id i e b h) ∙ ap (id_in i) s ∙ held_id i d a g

  -- it isn't open and done at once
  pub not_both : (i : Image X) (d : Id) → IsHeld read i d true → IsHeld read i d false → ⊥
  not_both i d a b =
      let same : a.request ≡ b.request = cc (a.is, b.is) in
      let opened : is_open a.request.outcome ≡ is_open b.request.outcome = ap (λ (r : Request). is_open r.outcome) same in
      cc (opened, a.outcome, b.outcome)

  -- the first of a list is what the members of that list are
  pub front_held : (i : Image X) (l : ListName) (d : Id) (b : Bool) → IsFirst i l d → ((x : ℕ) → IsIn x (members i l) → IsHeld read i (id_in i x) b)
      → IsHeld read i d b
  front_held i l d b f h = subst (λ z. IsHeld read i z b) (listed_id i d f.listed.held) (h d.slot (subst (IsIn d.slot) (sym f.is) (inl refl)))

-- so the first that waits, or that is yet to be called back, is a request
module _ {X : Type 0} {read : X → Option Request} {i : Image X} {r : Running} {d : Id} (w : IsWork read (working i r)) where
  pub waiting_is_held : IsFirst i Waiting d → request_in read i d ≡ None → ⊥
  waiting_is_held f none = let h = (front_held read i Waiting d true f w.waiting).is in cc

  pub yet_is_held : IsFirst i EndedYet d → request_in read i d ≡ None → ⊥
  yet_is_held f none = let h = (front_held read i EndedYet d false f w.yet).is in cc
