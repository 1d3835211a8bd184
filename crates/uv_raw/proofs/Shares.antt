-- A `&` to a row is made where one to an item is.
use Prim.Native.Nat.{ℕ, ◌+◌}
use Rattle.uv_raw.proofs.Names.{List, [], ◌∷◌, Option, Some, None, type_size, Ura, Lft, ftrue, ffalse, Logic, RattleType, RowLaws, Ptr, block_ptr, null_ptr, length, Shares, Lends, Lends-both, Lends-first, Lends-nothing, Lends-said, Lends-false, heap_token, place, row, fits, block, held, room_owns, place_shared, row_shared, room_shares}
use denote.Sharing.{ShrLaws, said}
use denote.SharingLaws.{beside_shr_laws, nothing_shr_laws, said_shr_laws}

module _ (R : RattleType) (L : RowLaws R) where
  place_laws : (b o : ℕ) (c : Option R.Denot) → ShrLaws (place_shared R b o c)
  place_laws b o (Some x) = L x b o
  place_laws b o None = nothing_shr_laws

  row_laws : (b o : ℕ) (cs : List (Option R.Denot)) → ShrLaws (row_shared R b o cs)
  row_laws b o [] = nothing_shr_laws
  row_laws b o (c ∷ cs) = beside_shr_laws _ _ (place_laws b o c) (row_laws b (o + type_size R) cs)

  pub room_laws : (p : Ptr) (cs : List (Option R.Denot)) → ShrLaws (room_shares R p cs)
  room_laws (block_ptr b o) cs = beside_shr_laws _ _ (said_shr_laws (fits R cs) tt) (row_laws b o cs)
  room_laws null_ptr cs = said_shr_laws ffalse tt

module _ {M : Type 1} {𝓤 : Ura M} (𝓛 : Logic 𝓤) (R : RattleType) (l : Lft) (item : Shares 𝓛 R l) where
  Lends-place : (b o : ℕ) (c : Option R.Denot) → Lends 𝓛 (place R b o c) (place_shared R b o c) l
  Lends-place b o (Some x) = λ κ ts. item x κ ts b o
  Lends-place b o None = Lends-nothing 𝓛 (place R b o None) l

  Lends-row : (b o : ℕ) (cs : List (Option R.Denot)) → Lends 𝓛 (row R b o cs) (row_shared R b o cs) l
  Lends-row b o [] = Lends-nothing 𝓛 ftrue l
  Lends-row b o (c ∷ cs) = let next = o + type_size R in
      Lends-both 𝓛 (place R b o c) (row R b next cs) (place_shared R b o c) (row_shared R b next cs) l (Lends-place b o c)
      (Lends-row b (o + type_size R) cs)

  pub Lends-room : (p : Ptr) (cs : List (Option R.Denot)) → Lends 𝓛 (room_owns R p cs) (room_shares R p cs) l
  Lends-room (block_ptr b o) cs = Lends-both 𝓛 (fits R cs) (held R b o cs) (said (fits R cs)) (row_shared R b o cs) l (Lends-said 𝓛 (fits R cs) tt l)
      (Lends-first 𝓛 (row R b o cs) (heap_token (block R (length cs)) (block_ptr b o)) (row_shared R b o cs) l (Lends-row b o cs))
  Lends-room null_ptr cs = Lends-false 𝓛 (said ffalse) l
