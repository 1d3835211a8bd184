-- What a `Room` owns is taken apart and made, and a `&mut` to one is opened and closed.
use Rattle.uv_raw.proofs.Names.{◌≡◌, ℕ, ◌*◌, ◌^◌, ◌<◌, List, [], ◌∷◌, ◌++◌, length, refl, sym, ap, ◌∙◌, Ura, full_share, id⊢, never, Lft, GName, Share, fsep, flft, fobs, fauth, fbor, fobor, Gv, Val, of_list, vstruct, Logic, Borrowed, Item, Goal, Seq, Step, Soaks, step, ‵, ◌$◌, move, drop, fsplit, fjoin, feq_i, feq_l, flt_i, flt_l, fpick, fpack, rewrite, cell_at, mem, RattleType, Valss, Ptr, block_ptr, ptr_val, in_a_block, opens, closes, nothing, Struct, within, shape, El, R, word, ent, sep, sem, !, qed, ◌⊛◌, ◌∵◌, keep, use1, split, done, hidden_shr, RawPtr, lent_out, fhide, el_x, held, room_owns, room_shares}
use denote.Opens.{unhide}
use Prim.Native.Nat.{◌+◌}
use Rattle.uv_raw.specs.contracts.room.Room as C
use Rattle.uv_raw.proofs.Places.{size}

module _ (E : El) where
  abbrev pub Room : RattleType
  Room = C.the_row (R E)

  -- the one data field
  abbrev pub Data : RattleType
  Data = Struct (shape (C.the_type (R E)))

module _ (E : El) {M : Type 1} {𝓤 : Ura M} {𝓛 : Logic 𝓤} {K : Type 0} {Γ : List (Item 𝓤)} {G : Goal 𝓤 𝓛.H} where
  pub room_had : K → (d : (Room E).Denot) (vs : List Val)
      → ((b o : ℕ) → d.start ≡ block_ptr b o → vs ≡ word (block_ptr b o) ∷ [] → length d.places * size E < 2 ^ 63
      → Seq K 𝓛 (‵ (held (R E) b o d.places) ∷ Γ) G)
      → Seq K 𝓛 (‵ ((Room E).own_val d vs) ∷ Γ) G
  room_had t d vs k =
      fsplit t $ fpick t (λ vss. fsplit t $ feq_l t (λ all. fsplit t $ feq_l t (λ e. drop t $
      in_a_block t d.start (λ p. room_owns (R E) p d.places) (id⊢ 𝓤 (never 𝓤)) (λ b o at. fsplit t $ flt_l t (λ fit.
      k b o at (all ∙ ((λ i. vstruct (of_list (e i ++ [])) ∷ []) ∙ ap (λ (p : Ptr). word p ∷ []) at)) fit)))))

  pub room_made : K → (d : (Room E).Denot) (b o : ℕ) → d.start ≡ block_ptr b o → length d.places * size E < 2 ^ 63
      → Step K 𝓛 (‵ ((Room E).own_val d (word (block_ptr b o) ∷ [])) ∷ Γ) G (‵ (held (R E) b o d.places) ∷ Γ) G
  room_made t d b o at fit = step (λ s.
      flt_i t (length d.places * size E) (2 ^ 63) fit $ fjoin t $
      nothing t $ feq_i t (List Val) (ptr_val (block_ptr b o) ∷ []) (ptr_val (block_ptr b o) ∷ []) refl $ fjoin t $
      feq_i t (List Val) (word (block_ptr b o) ∷ []) (word (block_ptr b o) ∷ []) refl $ fjoin t $
      fpack t (Valss (shape (C.the_type (R E))).fields) (within (shape (C.the_type (R E))) (
        block_ptr b o,
        tt,
      ) (word (block_ptr b o) ∷ [])) (ptr_val (block_ptr b o) ∷ [], tt) $ fjoin t $
      rewrite t 0 (λ (p : Ptr). ‵ (fsep ((Data E).own_val (p, tt) (word (block_ptr b o) ∷ [])) (room_owns (R E) p d.places))) (sym at) refl $ s)

module _ (E : El) {M : Type 1} {𝓤 : Ura M} {𝓛 : Logic 𝓤} {K : Type 0} {Γ : List (Item 𝓤)} {G : Goal 𝓤 𝓛.H} where
  -- [the places; the pointer; the open borrow; obs; auth]
  pub room_opens : K → Soaks G → {κ : Lft} {q : Share} {γ : GName} (d : (Room E).Denot) (rb ro : ℕ)
      → ((b o : ℕ) → d.start ≡ block_ptr b o → length d.places * size E < 2 ^ 63
      → Seq K 𝓛 (‵ (held (R E) b o d.places) ∷ ‵ (cell_at full_share (Room E).mir (word (block_ptr b o) ∷ []) rb ro) ∷ ‵
      (fobor κ q (Borrowed (mem (Room E)) rb ro γ)) ∷ ‵ (fobs γ ((Room E).coded.code d)) ∷ ‵ (fauth γ ((Room E).coded.code d)) ∷ Γ) G)
      → Seq K 𝓛 (‵ (fobs γ ((Room E).coded.code d)) ∷ ‵ (fbor κ (Borrowed (mem (Room E)) rb ro γ)) ∷ ‵ (flft κ q) ∷ Γ) G
  room_opens t z d rb ro k = opens t z (Room E) {h = d} rb ro (λ vs. move t (1 ∷ []) $ room_had E t d vs (λ b o at is fit.
      rewrite t 1 (λ (ws : List Val). ‵ (cell_at full_share (Room E).mir ws rb ro)) is refl $ k b o at fit))

  pub room_closes : K → Soaks G → {κ : Lft} {q : Share} {u v : Gv} {γ : GName} (d : (Room E).Denot) (b o rb ro : ℕ) → d.start ≡ block_ptr b o
      → length d.places * size E < 2 ^ 63
      → Step K 𝓛 (‵ (fobs γ ((Room E).coded.code d)) ∷ ‵ (fbor κ (Borrowed (mem (Room E)) rb ro γ)) ∷ ‵ (flft κ q) ∷ Γ) G
      (‵ (held (R E) b o d.places) ∷ ‵ (cell_at full_share (Room E).mir (word (block_ptr b o) ∷ []) rb ro) ∷ ‵
      (fobor κ q (Borrowed (mem (Room E)) rb ro γ)) ∷ ‵ (fobs γ u) ∷ ‵ (fauth γ v) ∷ Γ) G
  room_closes t z d b o rb ro at fit = step (λ s. room_made E t d b o at fit $ move t (1 ∷ 0 ∷ []) $
      closes t z (Room E) d (word (block_ptr b o) ∷ []) rb ro $ s)

-- What a `&` shows: the pointer, and the values.
pub room_seen : (E : El) {M : Type 1} {𝓤 : Ura M} (𝓛 : Logic 𝓤) (κ : Lft) (d : (Room E).Denot) (b o : ℕ)
    → ent 𝓤 (sem 𝓛 (hidden_shr (Room E) κ d b o))
    (sep 𝓤 (sem 𝓛 (hidden_shr RawPtr κ d.start b (o + 0))) (sem 𝓛 (room_shares (R E) d.start d.places κ)))
room_seen E 𝓛 κ d b o = qed 𝓛 (‵ (hidden_shr (Room E) κ d b o) ∷ []) ∵
    use1 𝓛 (‵ (hidden_shr (Data E) κ (d.start, tt) b o) ⊛ ‵ (fhide (C.the_lent (R E) d d.start κ)))
    (lent_out 𝓛 (C.struct (R E)) (C.the_codes (el_x E) (R E).coded) (C.the_heap (R E)) (C.the_lent (R E)) κ d b o) $ split ! $
    unhide ! $ fsplit ! $ fsplit ! $ keep ! (0 ∷ 3 ∷ []) $ done !
