-- One place is taken out of a row, put back or seen, and a block is cut into places.
--     others               the places of a row but the i-th
--     place_out, place_in  the i-th place as room, whatever it held, and back with a value
--     place_seen           the value that a `&` to the row shows there
--     cut_up, put_together  room for n items is n empty places, and any n places are room
use mathlib.Core.Path.{◌≡◌, refl}
use Rattle.uv_raw.proofs.Names.{zero, suc, not-suc-le-zero, replicate, Ura, full_share, ty_array, Val, ent, sep, Fml, Lft, ftrue, fsep, fat, froom, Logic, sem, ‵, some, ◌⊛◌, ◌$◌, ◌∵◌, !, qed, by, move, keep, use1, use2, pick, split, rewrite, frame, fsplit, done, part_at, shared_of, Option, Some, None, slice_get, type_size, El, R, el_x, elτ, place, row, place_shared, row_shared}
use Prim.Native.Nat.{ℕ, ◌+◌, ◌*◌, ◌<◌}
use native.Mathlib.Omega.{arith}
use native.Mathlib.Nat.{zero-mul, suc-mul}
use mathlib.Core.List.{List, [], ◌∷◌}
use lib.ListN.{length, set}
use borrow.Table.OneValue.{part_in, part_out}

module _ (E : El) where
  abbrev pub size : ℕ
  size = type_size (R E)

  abbrev pub Places : Type 0
  Places = List (Option (el_x E))

  abbrev pub others : ℕ → ℕ → Places → ℕ → Fml
  others b o [] i = ftrue
  others b o (c ∷ cs) zero = row (R E) b (o + size) cs
  others b o (c ∷ cs) (suc i) = fsep (place (R E) b o c) (others b (o + size) cs i)

module _ (E : El) {M : Type 1} {𝓤 : Ura M} (𝓛 : Logic 𝓤) (b : ℕ) where
  open 𝓛 use {H}

  abbrev s : ℕ
  s = size E

  vacated : (c : Option (el_x E)) (o : ℕ) → ent 𝓤 (sem 𝓛 (place (R E) b o c)) (H.room (elτ E) b o)
  vacated None o = 𝓛.laws.raw-room (elτ E) b o
  vacated (Some x) o = qed 𝓛 (‵ (part_at (R E) full_share x b o) ∷ []) ∵
      use1 𝓛 (some (λ (v : Val). ‵ (fat full_share (elτ E) b o v) ⊛ ‵ (E.row.own_val x (v ∷ [])))) (part_out 𝓛 (R E) refl full_share x b o) $
      pick ! (λ v. split ! $
      keep ! (0 ∷ []) $ by ! (𝓛.laws.at_room (elτ E) b o v))

  pub place_out : (cs : Places E) (i o at : ℕ) → i < length cs → at ≡ i * s + o
      → ent 𝓤 (sem 𝓛 (row (R E) b o cs)) (sep 𝓤 (H.room (elτ E) b at) (sem 𝓛 (others E b o cs i)))
  place_out [] i o at l e = absurd (not-suc-le-zero l)
  place_out (c ∷ cs) zero o at l e = qed 𝓛 (‵ (row (R E) b o (c ∷ cs)) ∷ []) ∵ fsplit ! $ use1 𝓛 (‵ (froom (elτ E) b o)) (vacated c o) $
      rewrite ! 0 (λ (k : ℕ). ‵ (froom (elτ E) b k)) {x = at} (omega (arith, zero-mul s)) refl $ done !
  place_out (c ∷ cs) (suc i) o at l e = let long : suc i < suc (length cs) = l in qed 𝓛 (‵ (row (R E) b o (c ∷ cs)) ∷ []) ∵ fsplit ! $
      move ! (1 ∷ []) $
      use1 𝓛 (‵ (froom (elτ E) b at) ⊛ ‵ (others E b (o + s) cs i)) (place_out cs i (o + s) at (omega arith) (omega (arith, suc-mul i s))) $
      split ! $ frame ! $ move ! (1 ∷ 0 ∷ []) $ done !

  pub place_in : (cs : Places E) (i o at : ℕ) (x : el_x E) (v : Val) → i < length cs → at ≡ i * s + o
      → ent 𝓤 (sep 𝓤 (H.at full_share (elτ E) b at v) (sep 𝓤 (sem 𝓛 (E.row.own_val x (v ∷ []))) (sem 𝓛 (others E b o cs i))))
      (sem 𝓛 (row (R E) b o (set cs i (Some x))))
  place_in [] i o at x v l e = absurd (not-suc-le-zero l)
  place_in (c ∷ cs) zero o at x v l e = qed 𝓛 (‵ (fat full_share (elτ E) b at v) ∷ ‵ (E.row.own_val x (v ∷ [])) ∷ ‵ (row (R E) b (o + s) cs) ∷ []) ∵
      use2 𝓛 (‵ (part_at (R E) full_share x b at)) (part_in 𝓛 (R E) refl full_share x b at v) $
      rewrite ! 0 (λ (k : ℕ). ‵ (part_at (R E) full_share x b k)) {x = o} (omega (arith, zero-mul s)) refl $ done !
  place_in (c ∷ cs) (suc i) o at x v l e = let long : suc i < suc (length cs) = l in
      qed 𝓛 (‵ (fat full_share (elτ E) b at v) ∷ ‵ (E.row.own_val x (v ∷ [])) ∷ ‵ (others E b o (c ∷ cs) (suc i)) ∷ []) ∵ move ! (2 ∷ []) $
      fsplit ! $ frame ! $
      move ! (1 ∷ 2 ∷ 0 ∷ []) $ by ! (place_in cs i (o + s) at x v (omega arith) (omega (arith, suc-mul i s)))

  pub place_seen : (κ : Lft) (cs : Places E) (i o at : ℕ) (x : el_x E) → slice_get cs i ≡ Some (Some x) → at ≡ i * s + o
      → ent 𝓤 (sem 𝓛 (row_shared (R E) b o cs κ)) (sem 𝓛 (shared_of (R E) x b at κ))
  place_seen κ [] i o at x is e = cc
  place_seen κ (c ∷ cs) zero o at x is e = qed 𝓛 (‵ (row_shared (R E) b o (c ∷ cs) κ) ∷ []) ∵ fsplit ! $ keep ! (0 ∷ []) $
      rewrite ! 0 (λ (d : Option (el_x E)). ‵ (place_shared (R E) b o d κ)) {x = Some x} (cc) refl $
      rewrite ! 0 (λ (k : ℕ). ‵ (shared_of (R E) x b k κ)) {x = at} (omega (arith, zero-mul s)) refl $ done !
  place_seen κ (c ∷ cs) (suc i) o at x is e = qed 𝓛 (‵ (row_shared (R E) b o (c ∷ cs) κ) ∷ []) ∵ fsplit ! $ keep ! (1 ∷ []) $
      by ! (place_seen κ cs i (o + s) at x is (omega (arith, suc-mul i s)))

  -- room for one item more is an empty place, and room for the others behind it
  one_cut_off : (n o : ℕ)
      → ent 𝓤 (H.room (ty_array (elτ E) (suc n)) b o) (sep 𝓤 (sem 𝓛 (place (R E) b o None)) (H.room (ty_array (elτ E) n) b (o + s)))
  one_cut_off n o =
      let block = ‵ (froom (ty_array (elτ E) (suc n)) b o) in let rest = ‵ (froom (ty_array (elτ E) n) b (o + s)) in
      qed 𝓛 (block ∷ []) ∵ use1 𝓛 (‵ (froom (elτ E) b o) ⊛ rest) (𝓛.laws.room_uncons (elτ E) n b o) $ split ! $
      use1 𝓛 (‵ (place (R E) b o None)) (𝓛.laws.room-raw (elτ E) b o) $ done !

  -- so room for n items is n empty places
  pub cut_up : (n o : ℕ) → ent 𝓤 (H.room (ty_array (elτ E) n) b o) (sem 𝓛 (row (R E) b o (replicate n None)))
  cut_up zero o = qed 𝓛 (‵ (froom (ty_array (elτ E) 0) b o) ∷ []) ∵ keep ! ([]) $ done !
  cut_up (suc n) o = qed 𝓛 (‵ (froom (ty_array (elτ E) (suc n)) b o) ∷ []) ∵
      use1 𝓛 (‵ (place (R E) b o None) ⊛ ‵ (froom (ty_array (elτ E) n) b (o + s))) (one_cut_off n o) $
      split ! $ frame ! $ by ! (cut_up n (o + s))

  pub put_together : (cs : Places E) (o : ℕ) → ent 𝓤 (sem 𝓛 (row (R E) b o cs)) (H.room (ty_array (elτ E) (length cs)) b o)
  put_together [] o = 𝓛.laws.room_nil (elτ E) b o
  put_together (c ∷ cs) o = qed 𝓛 (‵ (place (R E) b o c) ∷ ‵ (row (R E) b (o + s) cs) ∷ []) ∵
      use1 𝓛 (‵ (froom (elτ E) b o)) (vacated c o) $ move ! (1 ∷ []) $
      use1 𝓛 (‵ (froom (ty_array (elτ E) (length cs)) b (o + s))) (put_together cs (o + s)) $ move ! (1 ∷ []) $
      by ! (𝓛.laws.room_cons (elτ E) (length cs) b o)
