-- `deallocate` makes one block of the places, and gives it back.
use Rattle.uv_raw.proofs.Names.{◌≡◌, ℕ, ◌*◌, ◌<◌, ◌^◌, List, [], ◌∷◌, ◌++◌, length, refl, sym, ap, subst, arith, w64, SProp, id⊢, flft, froom, ftrue, ty_array, ty_unit, inst_fn, Val, vptr, vint, vunit, has_ty, WT, align, capped, capped_fits, WpFn, ‵, raw, ◌⊛◌, at_ret, prop, ◌$◌, ◌∵◌, !, qed, move, keep, drop, use1, split, join, group, fsplit, fsplit3, fjoin, feq_i, feq_l, pick, await, rewrite, regoal, suffices, done, whole, sub, enter, stop, fld, bin, size_word, align_word, unit_lit, of_opd, and_then, no_more, first, blocks, exec, returns, alloc_all, pass_all, free_all, look_at, get, get_in, sets, is, lands_last, env, tables, ◌⊑◌, fact, framed, RefOf, usize, yes, no, owns, block_ptr, plain, types_at, nothing, heard, Stays, stay_dropped, walk_of, ends_at, Goes-dropped, proved_at, calls_at_last, after, El, R, args, elτ, word, word-Good, as_raw, only, Goes-blank, uncapped, block_ty, block_size, block_align, heap_token, block}
use lib.Dec.{T}
use Rattle.std_heap.specs.contracts.Global as Heap
use Rattle.std_heap.proofs.GlobalAllocator.deallocate.Met as callee
use Rattle.uv_raw.proofs.Heap.{Gives, at_gives, Gives-goes, Gave}
use Rattle.uv_raw.proofs.Places.{size, put_together}
use Rattle.uv_raw.proofs.Opened.{Room, room_had}
use Rattle.uv_raw.specs.contracts.room.deallocate.{ended, clauses}
use Rattle.uv_raw.specs.contracts.room.deallocate.Key.{name as #self}
use Rattle.uv_raw.proofs.room.deallocate.Statement.{statement}
use Rattle.uv_raw.proofs.room.deallocate.Code as code

pub deallocate_spec : {M : Type 1} → statement M
deallocate_spec 𝓤 𝓛 𝓜 𝓡 wired X L =
    let E : El = record { row = X; laws = L } in let En = ended X in let c = clauses X 𝓛 𝓜.mem 𝓡.returns in let 𝓣 = tables 𝓤 𝓛.H 𝓜 𝓡 𝓡.env in
    let fn = inst_fn (args E) code.function in
    let hs : Stays En.signature.params En.kept = (
      stay_dropped (RefOf (0 ∷ []) tt (plain (λ _. Heap.the_row)) (λ _. tt)) yes,
      (stay_dropped (plain (λ _. Room E)) no, (stay_dropped (plain (λ _. usize)) yes, tt)),
    ) in
    proved_at 𝓛 En hs c 𝓜 𝓡 (
      Goes-dropped 𝓛 2 (RefOf (0 ∷ []) tt (plain (λ _. Heap.the_row)) (λ _. tt)) yes (λ κs x f. refl),
      (Goes-blank 𝓛 2 (plain (λ _. Room E)) no (λ κs x f. tt), (Goes-dropped 𝓛 2 (plain (λ _. usize)) yes (λ κs x f. refl), tt)),
    )
    (#self (args E)) fn (code.unfolded 𝓤 𝓛.H 𝓜 𝓡 wired (X, tt)) (λ z are.
    let κ = z.0.0.0 in let κ₁ = z.0.0.1.0 in let q = z.0.1.0 in let q₁ = z.0.1.1.0 in let vss = z.0.4 in let a = z.0.3.0.now in
    let d : (Room E).Denot = z.0.3.1.0 in let n : ℕ = z.0.3.1.1.0 in let s : ℕ = size E in let fits : n < 2 ^ 64 = are.1.1.0.1 in
    let p : ℕ × ℕ = z.0.3.0.ref_ptr in let Post : Val → SProp 𝓤 = (walk_of 𝓛 En hs c).post z in let al : ℕ = capped (align (elτ E)) in
    qed 𝓛 (((‵ (flft κ q) ⊛ ‵ (flft κ₁ q₁) ⊛ ‵ ftrue) ⊛ ‵ (owns (types_at En.signature.params z.0.0) z.0.3 vss)) ∷
    (raw (fact 𝓤 (κ₁ ⊑ X.lives)) ⊛ raw (fact 𝓤 (n ≡ length d.places))) ∷ []) ∵
    move ! (1 ∷ []) $ split ! $ drop ! $ heard ! (n ≡ length d.places) (λ count.
    split ! $ split ! $ move ! (2 ∷ []) $ fsplit3 ! $ fsplit ! $ move ! (2 ∷ []) $ room_had E ! d vss.1.0 (λ b o at word_is fit. fsplit ! $
    let small : n * s < 2 ^ 63 = subst (λ (k : ℕ). k * s < 2 ^ 63) (sym count) fit in let bytes : n * s < 2 ^ 64 = omega arith in
    let w : Val = word (block_ptr b o) in
    use1 𝓛 (‵ (froom (ty_array (elτ E) (length d.places)) b o)) (put_together E 𝓛 b d.places o) $
    rewrite ! 0 (λ (k : ℕ). ‵ (froom (ty_array (elτ E) k) b o)) (sym count) refl $ as_raw ! (ty_array (elτ E) n) b o $
    rewrite ! 1 (λ (k : ℕ). ‵ (heap_token (block (R E) k) (block_ptr b o))) (sym count) refl $ keep ! (0 ∷ 1 ∷ 3 ∷ 5 ∷ 6 ∷ []) $
    -- [the room; the right to free it; the heap; its token; the other token]
    regoal ! (λ (us : List Val). prop (WpFn 𝓤 𝓛.H 𝓣.C 𝓣.Λ fn us Post)) (λ j. are.0.0 j ++ (word_is j ++ (are.1.1.0.0 j ++ []))) refl $
    enter ! 𝓣.C 𝓣.Λ fn (vptr p.0 p.1 ∷ w ∷ vint w64 n ∷ []) Post $
    alloc_all ! (λ l. pass_all ! refl ((tt, tt), (word-Good [] (block_ptr b o), ((tt, record { fits = fits }), tt))) $
    let Ev = env fn.locals l in let y = at_gives 𝓛 𝓜.mem 𝓡.returns κ q p a (n * s) al (block_ty E n) b o in
    let G = Gives 𝓛 𝓜.mem 𝓡.returns κ q p a (n * s) al (block_ty E n) in
    sets ! (of_opd ! (get_in ! (fld ! refl (stop !)) (sub ! 0 refl (whole !)))) refl (tt, tt) $ first ! $ blocks ! $
    sets ! (of_opd ! (get ! refl)) refl (tt, tt) $
    sets ! (is ! (bin ! (get ! refl) (size_word !) (record {
      fits =
          subst (λ (k : ℕ). k < 2 ^ 64) (sym (uncapped n s bytes)) bytes;
    })) (ap (vint w64) (uncapped n s bytes))) refl (
      tt,
      record { fits = bytes },
    ) $
    group ! 4 $ use1 𝓛 (raw (G.pre y)) (Gives-goes 𝓛 𝓜.mem 𝓡.returns κ q p a (n * s) al (block_ty E n) b o (
      block_size E n bytes,
      block_align E n,
    ) bytes (capped_fits (align (elτ E)))) $
    calls_at_last ! (framed 𝓤 𝓛.H 𝓜 𝓣) G (callee.met 𝓤 𝓛 𝓜 𝓡 (code.calls-std_heap::GlobalAllocator::deallocate 𝓡.env wired)) y
    (and_then ! (get ! refl) (and_then ! (get ! refl) (and_then ! (get ! refl) (and_then ! (align_word !) (no_more !))))) (λ v.
    use1 𝓛 (Gave 𝓛 𝓜.mem 𝓡.returns κ q p a (n * s) al (block_ty E n) v) (id⊢ 𝓤 _) $ await ! tt $
    pick ! (λ r. split ! $ move ! (1 ∷ []) $ drop ! $ split ! $ split ! $ move ! (2 ∷ []) $ feq_l ! (λ e.
    lands_last ! refl (subst (λ (u : Val). T (has_ty ty_unit u) × WT u) (sym (ap only e)) (tt, tt)) $
    exec ! 𝓣.C 𝓣.Λ Ev (after 2 fn.body) (at_ret Ev Post) $ sets ! (of_opd ! (unit_lit !)) refl (tt, tt) $
    returns ! (look_at ! 0 refl) $ free_all ! refl $ keep ! (0 ∷ 2 ∷ []) $
    suffices ! _ (ends_at 𝓛 En hs c z vunit tt (tt, (tt, (tt, tt))) (tt, (tt, (tt, tt)))) $
    join ! $ feq_i ! (List Val) (vunit ∷ []) (vunit ∷ []) refl $ nothing ! $ nothing ! $ fjoin ! $ nothing ! $ fjoin ! $ nothing ! $ fjoin ! $
    join ! $ move ! (1 ∷ 0 ∷ []) $ join ! $ nothing ! $ move ! (1 ∷ 0 ∷ []) $ done !)))))))
