-- The heap's two functions at a call: what each is handed, and what the caller has afterwards.
use Rattle.uv_raw.proofs.Names.{done, ◌≡◌, ℕ, ◌<◌, ◌^◌, List, [], ◌∷◌, ◌++◌, refl, ap, ◌∙◌, w64, Ura, SProp, ent, never, Lft, Share, ftrue, fsep, froom, flft, Val, vptr, vint, of_list, Logic, sem, Item, Goal, Seq, ‵, raw, some, later, ◌⊛◌, ◌$◌, ◌∵◌, !, qed, move, drop, use0, join, fsplit, fjoin, feq_i, feq_l, flt_i, fpick, in_a_block, live, hidden_shr, Ptr, block_ptr, ptr_val, nothing, fact, emp, sep, fst∗, Fun, fact_i, Ty, Memory, unit, null_ptr, room_for, only, heap_token, Answer, answer_val, true, false}
use prog.Routine.{Routine}
use denote.Triple.Statement.{Contract}
use denote.Triple.Spec.{triple_of}
use Rattle.core.specs.Allocator.{block_if_ok, HasLayout}
use Rattle.core.specs.declared.result.Result.TheVariants.{Ok, Err}
use Rattle.std_heap.specs.contracts.Global as Heap
use Rattle.std_heap.specs.contracts.GlobalAllocator.allocate as Allocate
use Rattle.std_heap.specs.contracts.GlobalAllocator.deallocate as Deallocate

module _ {M : Type 1} {𝓤 : Ura M} (𝓛 : Logic 𝓤) (at_mem : Memory → SProp 𝓤) (run : Routine
    → Fun 𝓤) (κ : Lft) (q : Share) (p : ℕ × ℕ) (a : (Heap.the_row).Denot) (n al : ℕ) (τ : Ty) where
  open 𝓛 use {H, A}

  abbrev pub Takes : Contract 𝓤
  Takes = triple_of 𝓛 Allocate.signature (Allocate.spec 𝓛 at_mem run)

  abbrev pub at_takes : Takes.Ghost
  at_takes = (
    (
      (κ, tt),
      (q, tt),
      tt,
      (record { ref_ptr = p; now = a }, (n, (al, tt))),
      (vptr p.0 p.1 ∷ [], (vint w64 n ∷ [], (vint w64 al ∷ [], tt))),
    ),
    τ,
  )

  pub Takes-goes : HasLayout τ n al → n < 2 ^ 64 → al < 2 ^ 64
      → ent 𝓤 (sep 𝓤 (sem 𝓛 (hidden_shr Heap.the_row κ a p.0 p.1)) (A.lft κ q)) (Takes.pre at_takes)
  Takes-goes fits fn fa = qed 𝓛 (‵ (hidden_shr Heap.the_row κ a p.0 p.1) ∷ ‵ (flft κ q) ∷ []) ∵
      use0 𝓛 (raw (fact 𝓤 (HasLayout τ n al))) (fact_i 𝓤 (HasLayout τ n al) (emp 𝓤) fits) $
      nothing ! $ flt_i ! al (2 ^ 64) fa $ feq_i ! (List Val) (vint w64 al ∷ []) (vint w64 al ∷ []) refl $ fjoin ! $ fjoin ! $
      flt_i ! n (2 ^ 64) fn $ feq_i ! (List Val) (vint w64 n ∷ []) (vint w64 n ∷ []) refl $ fjoin ! $ fjoin ! $
      move ! (2 ∷ []) $ feq_i ! (List Val) (vptr p.0 p.1 ∷ []) (vptr p.0 p.1 ∷ []) refl $ fjoin ! $ fjoin ! $
      nothing ! $ move ! (3 ∷ 0 ∷ []) $ join ! $ join ! $ done !

  abbrev pub Took : (v : Val) → Item 𝓤
  Took v = later (some (λ (r : Answer.Denot). ((‵ (flft κ q) ⊛ ‵ ftrue) ⊛ ‵ (Answer.own_val r (v ∷ []))) ⊛ some (λ (ws : Unit {0}
      × (Unit {0} × (Unit {0} × Unit {0}))). ‵ (fsep ftrue (fsep ftrue (fsep ftrue ftrue))) ⊛ ‵ (block_if_ok heap_token τ r))))

  abbrev pub Gives : Contract 𝓤
  Gives = triple_of 𝓛 Deallocate.signature (Deallocate.spec 𝓛 at_mem run)

  abbrev pub Gave : (v : Val) → Item 𝓤
  Gave v = later (some (λ (r : Unit {0}). ((‵ (flft κ q) ⊛ ‵ ftrue) ⊛ ‵ (unit.own_val r (v ∷ []))) ⊛ some (λ (ws : Unit {0}
      × (Unit {0} × (Unit {0} × (Unit {0} × Unit {0})))). ‵ (fsep ftrue (fsep ftrue (fsep ftrue (fsep ftrue ftrue)))) ⊛ ‵ ftrue)))

  module _ (b o : ℕ) where
    abbrev pub at_gives : Gives.Ghost
    at_gives = (
      (
        (κ, tt),
        (q, tt),
        tt,
        (record { ref_ptr = p; now = a }, (block_ptr b o, (n, (al, tt)))),
        (vptr p.0 p.1 ∷ [], (vptr b o ∷ [], (vint w64 n ∷ [], (vint w64 al ∷ [], tt)))),
      ),
      τ,
    )

    pub Gives-goes : HasLayout τ n al → n < 2 ^ 64 → al < 2 ^ 64
        → ent 𝓤 (sep 𝓤 (H.room τ b o) (sep 𝓤 (sem 𝓛 (heap_token τ (block_ptr b o)))
        (sep 𝓤 (sem 𝓛 (hidden_shr Heap.the_row κ a p.0 p.1)) (A.lft κ q)))) (Gives.pre at_gives)
    Gives-goes fits fn fa = qed 𝓛 (‵ (froom τ b o) ∷ ‵ (heap_token τ (block_ptr b o)) ∷ ‵ (hidden_shr Heap.the_row κ a p.0 p.1) ∷ ‵
        (flft κ q) ∷ []) ∵ fjoin ! $
        use0 𝓛 (raw (fact 𝓤 (HasLayout τ n al))) (fact_i 𝓤 (HasLayout τ n al) (emp 𝓤) fits) $ join ! $
        nothing ! $ flt_i ! al (2 ^ 64) fa $ feq_i ! (List Val) (vint w64 al ∷ []) (vint w64 al ∷ []) refl $ fjoin ! $ fjoin ! $
        flt_i ! n (2 ^ 64) fn $ feq_i ! (List Val) (vint w64 n ∷ []) (vint w64 n ∷ []) refl $ fjoin ! $ fjoin ! $
        feq_i ! (List Val) (vptr b o ∷ []) (vptr b o ∷ []) refl $ fjoin ! $
        move ! (2 ∷ []) $ feq_i ! (List Val) (vptr p.0 p.1 ∷ []) (vptr p.0 p.1 ∷ []) refl $ fjoin ! $ fjoin ! $
        nothing ! $ move ! (3 ∷ 0 ∷ []) $ join ! $ join ! $ done !

-- the two cases of what `allocate` answered
pub answers : {M : Type 1} {𝓤 : Ura M} {𝓛 : Logic 𝓤} {K : Type 0} {Γ : List (Item 𝓤)} {G : Goal 𝓤 𝓛.H} → K → (τ : Ty) (v : Val) (r : Answer.Denot)
    → ((b o : ℕ) → v ≡ answer_val true b o → Seq K 𝓛 (‵ (froom τ b o) ∷ ‵ (heap_token τ (block_ptr b o)) ∷ Γ) G)
    → (v ≡ answer_val false 0 0 → Seq K 𝓛 Γ G)
    → Seq K 𝓛 (‵ (Answer.own_val r (v ∷ [])) ∷ ‵ (block_if_ok heap_token τ r) ∷ Γ) G
answers {𝓤 = 𝓤} {𝓛 = 𝓛} t τ v (Ok r) ok none = fpick t (λ us. fsplit t $
    feq_l t (λ e. fpick t (λ vss. fsplit t $ feq_l t (λ e'. fsplit t $ feq_l t (λ e''. drop t $
    in_a_block t r (λ z. fsep (room_for τ z) (heap_token τ z)) (fst∗ 𝓤 (never 𝓤) (sem 𝓛 (heap_token τ null_ptr))) (λ b o at. fsplit t $
    ok b o (ap only e ∙ ap (λ (ws : List Val). live 0 (of_list ws)) (e'
    ∙ ap (λ (ws : List Val). ws ++ []) (e'' ∙ ap (λ (z : Ptr). ptr_val z ∷ []) at)))))))))
answers t τ v (Err n) ok none = fpick t (λ us. fsplit t $ feq_l t (λ e. fpick t (λ vss. fsplit t $
    feq_l t (λ e'. fsplit t $ fpick t (λ ws. fsplit t $ feq_l t (λ e''. drop t $ drop t $ drop t $
    none (ap only e ∙ ap (λ (ws : List Val). live 1 (of_list ws)) (e' ∙ ap (λ (ws : List Val). ws ++ []) e''))))))))
