-- `put` makes room of a place, and writes the value there.
use Rattle.uv_raw.proofs.Names.{◌≡◌, ℕ, ◌+◌, ◌*◌, ◌^◌, ◌<◌, List, [], ◌∷◌, ◌++◌, length, set, Some, refl, sym, subst, arith, w64, length-set, SProp, ftrue, froom, flft, inst_fn, Val, vptr, vint, vunit, WpFn, ‵, raw, ◌⊛◌, at_ret, prop, ◌$◌, ◌∵◌, !, qed, move, keep, drop, use1, use3, split, join, fsplit, fsplit3, fjoin, fjoin3, feq_i, rewrite, regoal, suffices, done, whole, sub, look_in, enter, init, stop, fld, load, bin, unit_lit, size_lit, of_opd, first, blocks, exec, assigns_last, returns, alloc_all, pass_all, free_all, look_at, get, through, sets, env, tables, ◌⊑◌, fact, usize, yes, no, owns, block_ptr, plain, types_at, nothing, heard, Stays, stay_dropped, stay_ref, walk_of, says, ends_at, Goes-dropped, Goes-ref, proved_at, after, El, R, args, elτ, el_x, lawful, one, times_below, one_below, heap_token, row, block}
use Rattle.uv_raw.proofs.Places.{size, others, place_out, place_in}
use Rattle.uv_raw.proofs.Opened.{Room, room_opens, room_closes}
use Rattle.uv_raw.specs.contracts.room.Room.put.{ended, clauses}
use Rattle.uv_raw.specs.contracts.room.Room.put.Key.{name as #self}
use Rattle.uv_raw.proofs.room.Room.put.Statement.{statement}
use Rattle.uv_raw.proofs.room.Room.put.Code as code

pub put_spec : {M : Type 1} → statement M
put_spec 𝓤 𝓛 𝓜 𝓡 wired T L =
    let E : El = record { row = T; laws = L } in let En = ended T in let c = clauses T 𝓛 𝓜.mem 𝓡.returns in let 𝓣 = tables 𝓤 𝓛.H 𝓜 𝓡 𝓡.env in
    let fn = inst_fn (args E) code.function in
    let hs : Stays En.signature.params En.kept = (
      stay_ref (0 ∷ []) tt (plain (λ _. Room E)),
      (stay_dropped (plain (λ _. usize)) yes, (stay_dropped (plain (λ _. R E)) no, tt)),
    ) in
    proved_at 𝓛 En hs c 𝓜 𝓡 (
      Goes-ref 𝓛 2 0 tt (plain (λ _. Room E)),
      (Goes-dropped 𝓛 2 (plain (λ _. usize)) yes (λ κs x f. refl), (Goes-dropped 𝓛 2 (plain (λ _. R E)) no (λ κs x f. refl), tt)),
    )
    (#self (args E)) fn (code.unfolded 𝓤 𝓛.H 𝓜 𝓡 wired (T, tt)) (λ z are.
    let κ = z.0.0.0 in let κ₁ = z.0.0.1.0 in let q = z.0.1.0 in let q₁ = z.0.1.1.0 in let vss = z.0.4 in
    let rb : ℕ = z.0.3.0.ref_ptr.0 in let ro : ℕ = z.0.3.0.ref_ptr.1 in let d : (Room E).Denot = z.0.3.0.now in let i : ℕ = z.0.3.1.0 in
    let x : el_x E = z.0.3.1.1.0 in
    let Post : Val → SProp 𝓤 = (walk_of 𝓛 En hs c).post z in let s : ℕ = size E in
    let got = one E vss.1.1.0 ((lawful E 𝓛).typed x vss.1.1.0 are.1.1.0) in let v : Val = got.0 in let fi : i < 2 ^ 64 = are.1.0.1 in
    let new : (Room E).Denot = record { start = d.start; places = set d.places i (Some x) } in
    qed 𝓛 (((‵ (flft κ q) ⊛ ‵ (flft κ₁ q₁) ⊛ ‵ ftrue) ⊛ ‵ (owns (types_at En.signature.params z.0.0) z.0.3 vss)) ∷
    (raw (fact 𝓤 (κ₁ ⊑ T.lives)) ⊛ raw (fact 𝓤 (i < length d.places))) ∷ []) ∵
    move ! (1 ∷ []) $ split ! $ drop ! $ heard ! (i < length d.places) (λ within. split ! $ split ! $ move ! (2 ∷ []) $ fsplit3 ! $ fsplit3 ! $
    move ! (4 ∷ []) $ fsplit ! $ keep ! (3 ∷ 4 ∷ 6 ∷ 0 ∷ 7 ∷ []) $
    rewrite ! 3 (λ (us : List Val). ‵ (T.own_val x us)) got.1 refl $
    regoal ! (λ (us : List Val). prop (WpFn 𝓤 𝓛.H 𝓣.C 𝓣.Λ fn us Post)) (λ j. are.0.0 j ++ (are.1.0.0 j ++ (got.1 j ++ []))) refl $
    enter ! 𝓣.C 𝓣.Λ fn (vptr rb ro ∷ vint w64 i ∷ v ∷ []) Post $
    alloc_all ! (λ l. pass_all ! refl ((tt, tt), ((tt, record { fits = fi }), (got.2, tt))) $
    room_opens E ! tt d rb ro (λ b o at fit.
    let tiny : s < 2 ^ 64 = omega (arith, one_below (length d.places) s (2 ^ 63) (omega arith) fit) in
    let far : i * s < 2 ^ 64 = omega (arith, times_below i (length d.places) s (2 ^ 63) (omega arith) fit) in
    fsplit ! $ use1 𝓛 (‵ (froom (elτ E) b (i * s + o)) ⊛ ‵ (others E b o d.places i)) (place_out E 𝓛 b d.places i o (i * s + o) within refl) $
    split ! $
    -- [the place; the others; the right to free; the pointer; the open borrow; obs; auth; what the value owns; the other token]
    first ! $ blocks ! $ sets ! (of_opd ! (load ! (through ! refl (fld ! refl (stop !))) (look_in ! 3 (sub ! 0 refl (whole !))))) refl (tt, tt) $
    sets ! (bin ! (get ! refl) (size_lit ! (record { fits = tiny })) (record { fits = far })) refl (tt, record { fits = far }) $
    sets ! (bin ! (get ! refl) (get ! refl) tt) refl (tt, tt) $
    sets ! (of_opd ! (get ! refl)) refl got.2 $ assigns_last ! (of_opd ! (get ! refl)) (through ! refl (stop !)) (init ! 0 refl got.2) $
    exec ! 𝓣.C 𝓣.Λ (env fn.locals l) (after 1 fn.body) (at_ret (env fn.locals l) Post) $ sets ! (of_opd ! (unit_lit !)) refl (tt, tt) $
    move ! (0 ∷ 7 ∷ 1 ∷ []) $ use3 𝓛 (‵ (row (R E) b o new.places)) (place_in E 𝓛 b d.places i o (i * s + o) x v within refl) $
    let same : length d.places ≡ length new.places = sym (length-set d.places i (Some x)) in
    move ! (1 ∷ 0 ∷ []) $ rewrite ! 0 (λ (k : ℕ). ‵ (heap_token (block (R E) k) (block_ptr b o))) same refl $ move ! (1 ∷ 0 ∷ []) $ fjoin ! $
    room_closes E ! tt new b o rb ro at (subst (λ (k : ℕ). k * s < 2 ^ 63) same fit) $ returns ! (look_at ! 0 refl) $ free_all ! refl $
    suffices ! _ (ends_at 𝓛 En hs c z vunit tt (new, (tt, (tt, tt))) (tt, (tt, (tt, tt)))) $ says ! refl $
    feq_i ! (List Val) vss.0 (vptr rb ro ∷ []) are.0.0 $ fjoin3 ! $ nothing ! $ nothing ! $ fjoin ! $ nothing ! $ fjoin ! $ move ! (1 ∷ 0 ∷ []) $
    fjoin ! $
    move ! (1 ∷ 2 ∷ []) $ join ! $ feq_i ! (List Val) (vunit ∷ []) (vunit ∷ []) refl $ keep ! (1 ∷ 2 ∷ 0 ∷ []) $ done !))))
