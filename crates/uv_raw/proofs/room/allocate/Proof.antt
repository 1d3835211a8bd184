-- `allocate` cuts a new block into empty places.
use Rattle.uv_raw.proofs.Names.{◌≡◌, ℕ, ◌*◌, ◌<◌, ◌^◌, List, [], ◌∷◌, ◌++◌, None, refl, sym, ap, subst, arith, lit<, w64, SProp, id⊢, flft, ftrue, Body, ty_array, inst_fn, Val, vptr, vint, vstruct, vcons, vnil, align, capped, capped_fits, Wp, WpFn, after_seq, at_return, ‵, raw, ◌⊛◌, any_q, at_ret, prop, ◌$◌, ◌∵◌, !, qed, move, keep, drop, use1, use2, split, join, fsplit, fjoin, pick, await, regoal, suffices, done, whole, agg, enter, stop, fld, bin, lit, size_word, align_word, of_opd, and_then, no_more, first, exec, returns, switches_on, live, vrt, in_variant, alloc_all, pass_all, free_all, look_at, get, get_in, get_tag, sets, sets_last, is, lands_as, env, tables, ◌⊑◌, fact, framed, RefOf, usize, yes, Is, RattleType, owns, block_ptr, plain, types_at, nothing, owned, heard, Struct, Stays, stay_dropped, walk_of, says, ends_at, Goes-dropped, proved_at, calls_at, after, head, arm_body, El, R, args, elτ, word, word-Good, as_written, true, false, replicate, length-replicate, ⋆, by, ent, Struct-Makes, IfOk, Answer-typed, uncapped, block_ty, block_size, block_align, first_Good, rewrite, heap_token, row, block}
use types.Kit.{Post as After}
use denote.Param.{layout}
use denote.Struct.Declared as Declared
use Rattle.std.specs.Prelude.{Ok, Err}
use Rattle.std.specs.Vec.Ownership.{FitsInBlock}
use Rattle.core.specs.contracts.result.Result as Result
use Rattle.core.specs.contracts.alloc.AllocError as Refused
use Rattle.std_alloc.proofs.ResultValues.{ok_of, err_of}
use Rattle.std_heap.specs.contracts.Global as Heap
use Rattle.std_heap.proofs.GlobalAllocator.allocate.Met as callee
use Rattle.uv_raw.proofs.Heap.{Takes, at_takes, Takes-goes, Took, answers}
use Rattle.uv_raw.proofs.Places.{size, cut_up}
use Rattle.uv_raw.proofs.Opened.{Room, room_made}
use Rattle.uv_raw.specs.contracts.room.allocate.{ended, clauses}
use Rattle.uv_raw.specs.contracts.room.allocate.Key.{name as #self}
use Rattle.uv_raw.proofs.room.allocate.Statement.{statement}
use Rattle.uv_raw.proofs.room.allocate.Code as code

pub allocate_spec : {M : Type 1} → statement M
allocate_spec 𝓤 𝓛 𝓜 𝓡 wired T L =
    let E : El = record { row = T; laws = L } in let En = ended T in let c = clauses T 𝓛 𝓜.mem 𝓡.returns in let 𝓣 = tables 𝓤 𝓛.H 𝓜 𝓡 𝓡.env in
    let fn = inst_fn (args E) code.function in
    let hs : Stays En.signature.params En.kept = (
      stay_dropped (RefOf (0 ∷ []) tt (plain (λ _. Heap.the_row)) (λ _. tt)) yes,
      (stay_dropped (plain (λ _. usize)) yes, tt),
    ) in
    proved_at 𝓛 En hs c 𝓜 𝓡 (
      Goes-dropped 𝓛 2 (RefOf (0 ∷ []) tt (plain (λ _. Heap.the_row)) (λ _. tt)) yes (λ κs x f. refl),
      (Goes-dropped 𝓛 2 (plain (λ _. usize)) yes (λ κs x f. refl), tt),
    )
    (#self (args E)) fn (code.unfolded 𝓤 𝓛.H 𝓜 𝓡 wired (T, tt)) (λ z are.
    let κ = z.0.0.0 in let κ₁ = z.0.0.1.0 in let q = z.0.1.0 in let q₁ = z.0.1.1.0 in let vss = z.0.4 in let a = z.0.3.0.now in
    let n : ℕ = z.0.3.1.0 in let s : ℕ = size E in let fits : n < 2 ^ 64 = are.1.0.1 in
    let p : ℕ × ℕ = z.0.3.0.ref_ptr in let Post : Val → SProp 𝓤 = (walk_of 𝓛 En hs c).post z in let al : ℕ = capped (align (elτ E)) in
    let Out : RattleType = Result.the_row (Room E) Refused.the_row in
    let out : (r : Out.Denot) (v : Val) → IfOk r (λ m. m.places ≡ replicate n None)
    → ent 𝓤 (⋆ 𝓛 (‵ (Out.own_val r (v ∷ [])) ∷ ‵ (flft κ q) ∷ (‵ (flft κ₁ q₁) ⊛ ‵ ftrue) ∷ [])) (Post v) =
    λ r v said. qed 𝓛 (‵ (Out.own_val r (v ∷ [])) ∷ ‵ (flft κ q) ∷ (‵ (flft κ₁ q₁) ⊛ ‵ ftrue) ∷ []) ∵
    suffices ! _ (ends_at 𝓛 En hs c z v r (tt, (tt, tt)) (tt, (tt, tt))) $ says ! said $
    move ! (1 ∷ 2 ∷ []) $ join ! $ nothing ! $ nothing ! $ fjoin ! $ nothing ! $ fjoin ! $ move ! (1 ∷ 0 ∷ 2 ∷ []) $ done ! in
    qed 𝓛 (((‵ (flft κ q) ⊛ ‵ (flft κ₁ q₁) ⊛ ‵ ftrue) ⊛ ‵ (owns (types_at En.signature.params z.0.0) z.0.3 vss)) ∷
    (raw (fact 𝓤 (κ₁ ⊑ T.lives)) ⊛ raw (fact 𝓤 (FitsInBlock (R E) n))) ∷ []) ∵
    move ! (1 ∷ []) $ split ! $ drop ! $ heard ! (FitsInBlock (R E) n) (λ asked. let small : n * s < 2 ^ 63 = asked.0 in
    let bytes : n * s < 2 ^ 64 = omega arith in
    split ! $ split ! $ move ! (2 ∷ []) $ fsplit ! $ fsplit ! $ keep ! (1 ∷ 3 ∷ 4 ∷ []) $
    -- [the heap; its token; the other token]
    regoal ! (λ (us : List Val). prop (WpFn 𝓤 𝓛.H 𝓣.C 𝓣.Λ fn us Post)) (λ j. are.0.0 j ++ (are.1.0.0 j ++ [])) refl $
    enter ! 𝓣.C 𝓣.Λ fn (vptr p.0 p.1 ∷ vint w64 n ∷ []) Post $ alloc_all ! (λ l. pass_all ! refl ((tt, tt), ((tt, record { fits = fits }), tt)) $
    let Ev = env fn.locals l in let both : Body = head (after 2 fn.body) in
    let Then : After 𝓤 𝓛.H = any_q (after_seq 𝓤 𝓛.H (Wp 𝓤 𝓛.H 𝓣.C 𝓣.Λ Ev (after 3 fn.body) (at_return 𝓤 𝓛.H Ev Post)) (at_return 𝓤 𝓛.H Ev Post)) in
    let y = at_takes 𝓛 𝓜.mem 𝓡.returns κ q p a (n * s) al (block_ty E n) in let G = Takes 𝓛 𝓜.mem 𝓡.returns κ q p a (n * s) al (block_ty E n) in
    sets ! (is ! (bin ! (get ! refl) (size_word !) (record {
      fits =
          subst (λ (k : ℕ). k < 2 ^ 64) (sym (uncapped n s bytes)) bytes;
    })) (ap (vint w64) (uncapped n s bytes))) refl (
      tt,
      record { fits = bytes },
    ) $
    use2 𝓛 (raw (G.pre y)) (Takes-goes 𝓛 𝓜.mem 𝓡.returns κ q p a (n * s) al (block_ty E n) (
      block_size E n bytes,
      block_align E n,
    ) bytes (capped_fits (align (elτ E)))) $
    calls_at ! (framed 𝓤 𝓛.H 𝓜 𝓣) G (callee.met 𝓤 𝓛 𝓜 𝓡 (code.calls-std_heap::GlobalAllocator::allocate 𝓡.env wired)) y
    (and_then ! (get ! refl) (and_then ! (get ! refl) (and_then ! (align_word !) (no_more !)))) (λ v.
    use1 𝓛 (Took 𝓛 𝓜.mem 𝓡.returns κ q p a (n * s) al (block_ty E n) v) (id⊢ 𝓤 _) $ await ! tt $
    pick ! (λ r. split ! $ move ! (1 ∷ []) $ pick ! (λ ws. split ! $ drop ! $ move ! (1 ∷ []) $ split ! $ split ! $ move ! (2 ∷ 3 ∷ []) $
    answers ! (block_ty E n) v r
    (λ b o e.
    let room : (Room E).Denot = record { start = block_ptr b o; places = replicate n None } in let w : Val = word (block_ptr b o) in
    let typed = word-Good [] (block_ptr b o) in let ok = first_Good (layout (Room E)) w typed in
    lands_as ! e refl (Answer-typed true b o) $ first ! $ switches_on ! (get_tag ! (vrt ! refl (fld ! refl (stop !))) (whole !)) $
    exec ! 𝓣.C 𝓣.Λ Ev (arm_body 0 both) Then $
    sets ! (of_opd ! (get_in ! (vrt ! refl (fld ! refl (stop !))) (in_variant ! 0 0 refl refl (whole !)))) refl (tt, tt) $
    sets ! (of_opd ! (get ! refl)) refl (tt, tt) $
    sets ! (agg ! (and_then ! (get ! refl) (no_more !))) refl typed $
    sets_last ! (agg ! (and_then ! (lit ! tt) (and_then ! (get ! refl) (no_more !)))) refl ok $
    exec ! 𝓣.C 𝓣.Λ Ev (after 3 fn.body) (at_ret Ev Post) $ sets ! (of_opd ! (get ! refl)) refl ok $
    as_written ! (ty_array (elτ E) n) b o $ use1 𝓛 (‵ (row (R E) b o room.places)) (cut_up E 𝓛 b n o) $
    move ! (1 ∷ []) $ rewrite ! 0 (λ (k : ℕ). ‵ (heap_token (block (R E) k) (block_ptr b o))) (sym (length-replicate n None)) refl $
    move ! (1 ∷ 0 ∷ []) $ fjoin ! $
    room_made E ! room b o refl (subst (λ (k : ℕ). k * s < 2 ^ 63) (sym (length-replicate n None)) small) $
    use1 𝓛 (‵ (Out.own_val (Ok room) (live 0 (vcons w vnil) ∷ []))) (ok_of 𝓛 (Room E) Refused.the_row room w) $
    returns ! (look_at ! 0 refl) $ free_all ! refl $ keep ! (0 ∷ 1 ∷ 3 ∷ []) $ by ! (out (Ok room) (live 0 (vcons w vnil)) refl))
    (λ e. let Error : RattleType = Struct (Declared.shape Refused.the_type) in let none : Val = live 1 (vcons (vstruct vnil) vnil) in
    lands_as ! e refl (Answer-typed false 0 0) $ first ! $ switches_on ! (get_tag ! (vrt ! refl (fld ! refl (stop !))) (whole !)) $
    exec ! 𝓣.C 𝓣.Λ Ev (arm_body 1 both) Then $
    sets ! (of_opd ! (get_in ! (vrt ! refl (fld ! refl (stop !))) (in_variant ! 1 0 refl refl (whole !)))) refl (tt, tt) $
    sets_last ! (agg ! (and_then ! (lit ! tt) (and_then ! (get ! refl) (no_more !)))) refl (tt, (record { fits = lit< tt }, (tt, tt))) $
    exec ! 𝓣.C 𝓣.Λ Ev (after 3 fn.body) (at_ret Ev Post) $ sets ! (of_opd ! (get ! refl)) refl (tt, (record { fits = lit< tt }, (tt, tt))) $
    owned ! Error (Is Error) (Struct-Makes 𝓛 (Declared.shape Refused.the_type) tt) tt (vstruct vnil ∷ []) (tt, (refl, tt)) $
    use1 𝓛 (‵ (Out.own_val (Err (record {})) (none ∷ []))) (err_of 𝓛 (Room E) Refused.the_row (record {}) (vstruct vnil)) $
    returns ! (look_at ! 0 refl) $ free_all ! refl $ keep ! (0 ∷ 1 ∷ 3 ∷ []) $ by ! (out (Err (record {})) none tt))))))))
