-- `get` hands on the `&` to one value that the places lend.
use Rattle.uv_raw.proofs.Names.{◌≡◌, ℕ, ◌+◌, ◌*◌, ◌^◌, ◌<◌, List, [], ◌∷◌, ◌++◌, length, slice_get, Some, refl, arith, w64, SProp, id⊢, never, flft, ftrue, inst_fn, Val, vptr, vint, WpFn, ‵, raw, ◌⊛◌, at_ret, prop, ◌$◌, ◌∵◌, !, qed, move, keep, drop, use1, split, join, fsplit, fjoin, feq_i, flt_l, regoal, suffices, done, enter, stop, fld, load, look, addr, bin, size_lit, of_opd, first, blocks, exec, returns, alloc_all, pass_all, free_all, look_at, get, through, sets, sets_last, env, tables, ◌⊑◌, fact, RefOf, usize, yes, hidden_shr, shared_of, owns, RawPtr, in_a_block, plain, types_at, nothing, heard, Stays, stay_dropped, walk_of, says, ends_at, Goes-dropped, proved_at, after, El, R, args, el_x, times_below, one_below, slice_get_within, room_shares}
use Rattle.core.proofs.slots.Lent.{pointer_in, pointer_out}
use Rattle.uv_raw.proofs.Places.{size, place_seen}
use Rattle.uv_raw.proofs.Opened.{Room, room_seen}
use Rattle.uv_raw.specs.contracts.room.Room.get.{ended, clauses}
use Rattle.uv_raw.specs.contracts.room.Room.get.Key.{name as #self}
use Rattle.uv_raw.proofs.room.Room.get.Statement.{statement}
use Rattle.uv_raw.proofs.room.Room.get.Code as code

pub get_spec : {M : Type 1} → statement M
get_spec 𝓤 𝓛 𝓜 𝓡 wired T L =
    let E : El = record { row = T; laws = L } in let En = ended T in let c = clauses T 𝓛 𝓜.mem 𝓡.returns in let 𝓣 = tables 𝓤 𝓛.H 𝓜 𝓡 𝓡.env in
    let fn = inst_fn (args E) code.function in
    let hs : Stays En.signature.params En.kept = (
      stay_dropped (RefOf (0 ∷ []) tt (plain (λ _. Room E)) (λ _. tt)) yes,
      (stay_dropped (plain (λ _. usize)) yes, tt),
    ) in
    proved_at 𝓛 En hs c 𝓜 𝓡 (
      Goes-dropped 𝓛 2 (RefOf (0 ∷ []) tt (plain (λ _. Room E)) (λ _. tt)) yes (λ κs x f. refl),
      (Goes-dropped 𝓛 2 (plain (λ _. usize)) yes (λ κs x f. refl), tt),
    )
    (#self (args E)) fn (code.unfolded 𝓤 𝓛.H 𝓜 𝓡 wired (T, tt)) (λ z are.
    let κ = z.0.0.0 in let κ₁ = z.0.0.1.0 in let q = z.0.1.0 in let q₁ = z.0.1.1.0 in let vss = z.0.4 in let fi : z.0.3.1.0 < 2 ^ 64 = are.1.0.1 in
    let rb : ℕ = z.0.3.0.ref_ptr.0 in let ro : ℕ = z.0.3.0.ref_ptr.1 in let d : (Room E).Denot = z.0.3.0.now in let i : ℕ = z.0.3.1.0 in
    let s : ℕ = size E in
    let Post : Val → SProp 𝓤 = (walk_of 𝓛 En hs c).post z in let Asked : Type 0 = (x : el_x E) × (slice_get d.places i ≡ Some (Some x)) in
    qed 𝓛 (((‵ (flft κ q) ⊛ ‵ (flft κ₁ q₁) ⊛ ‵ ftrue) ⊛ ‵ (owns (types_at En.signature.params z.0.0) z.0.3 vss)) ∷
    (raw (fact 𝓤 (κ₁ ⊑ T.lives)) ⊛ raw (fact 𝓤 Asked)) ∷ []) ∵
    move ! (1 ∷ []) $ split ! $ drop ! $ heard ! Asked (λ asked. let x = asked.0 in let within = slice_get_within d.places i (Some x) asked.1 in
    split ! $ split ! $ move ! (2 ∷ []) $ fsplit ! $ fsplit ! $ drop ! $
    use1 𝓛 (‵ (hidden_shr RawPtr κ d.start rb (ro + 0)) ⊛ ‵ (room_shares (R E) d.start d.places κ)) (room_seen E 𝓛 κ d rb ro) $ split ! $
    move ! (1 ∷ []) $
    in_a_block ! d.start (λ p. room_shares (R E) p d.places κ) (id⊢ 𝓤 (never 𝓤)) (λ b o at. fsplit ! $ flt_l ! (λ fit.
    let tiny : s < 2 ^ 64 = omega (arith, one_below (length d.places) s (2 ^ 63) (omega arith) fit) in
    let far : i * s < 2 ^ 64 = omega (arith, times_below i (length d.places) s (2 ^ 63) (omega arith) fit) in
    use1 𝓛 (‵ (shared_of (R E) x b (i * s + o) κ)) (place_seen E 𝓛 b κ d.places i o (i * s + o) x asked.1 refl) $ keep ! (1 ∷ 3 ∷ 4 ∷ 0 ∷ []) $
    -- [the pointer; its token; the other token; the value]
    regoal ! (λ (us : List Val). prop (WpFn 𝓤 𝓛.H 𝓣.C 𝓣.Λ fn us Post)) (λ j. are.0.0 j ++ (are.1.0.0 j ++ [])) refl $
    enter ! 𝓣.C 𝓣.Λ fn (vptr rb ro ∷ vint w64 i ∷ []) Post $ alloc_all ! (λ l. pass_all ! refl ((tt, tt), ((tt, record { fits = fi }), tt)) $
    first ! $ blocks ! $ pointer_in ! tt d.start b o at rb (ro + 0)
    (λ q'. sets ! (of_opd ! (load ! (through ! refl (fld ! refl (stop !))) (look ! 0 refl))) refl (tt, tt) $
    pointer_out ! tt d.start b o at rb (ro + 0) $
    sets ! (bin ! (get ! refl) (size_lit ! (record { fits = tiny })) (record { fits = far })) refl (tt, record { fits = far }) $
    sets ! (bin ! (get ! refl) (get ! refl) tt) refl (tt, tt) $
    sets_last ! (addr ! (through ! refl (stop !))) refl (tt, tt) $
    exec ! 𝓣.C 𝓣.Λ (env fn.locals l) (after 1 fn.body) (at_ret (env fn.locals l) Post) $ sets ! (of_opd ! (get ! refl)) refl (tt, tt) $
    returns ! (look_at ! 0 refl) $ free_all ! refl $
    suffices ! _ (ends_at 𝓛 En hs c z (vptr b (i * s + o)) (record { ref_ptr = (b, i * s + o); now = x }) (tt, (tt, tt)) (tt, (tt, tt))) $
    says ! asked.1 $
    move ! (0 ∷ 1 ∷ []) $ join ! $ move ! (1 ∷ []) $ feq_i ! (List Val) (vptr b (i * s + o) ∷ []) (vptr b (i * s + o) ∷ []) refl $ fjoin ! $
    nothing ! $ nothing ! $ fjoin ! $ nothing ! $ fjoin ! $ keep ! (2 ∷ 0 ∷ 1 ∷ []) $ done !))))))
