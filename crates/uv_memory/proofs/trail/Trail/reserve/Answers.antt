use Rattle.uv_memory.proofs.Names.{Bool, true, false, Result, Ok, Err, is_err, OnOk, OnErr, ◌≡◌, List, refl, ap, ◌∙◌, Row, Entry, Small, Medium, Large, Fits, records_of, Kept}
use Rattle.uv_memory.proofs.Spare.{fits, fits_both, grown, stays, least_more, lacks, of_first, of_second, of_third, of_fourth}
use Rattle.uv_memory.proofs.trail.Trail.reserve.Goals as goal

went_well : {X E : Type 0} {P : Type 0} (r : Result X E) (b : Bool) → b ≡ is_err r → b ≡ false → OnOk r P → P
went_well (Ok x) b e f p = p
went_well (Err x) b e f p = cc

went_wrong : {X E : Type 0} {P : Type 0} (r : Result X E) (b : Bool) → b ≡ is_err r → b ≡ true → OnErr r P → P
went_wrong (Ok x) b e f p = cc
went_wrong (Err x) b e f p = p

module _ {P : Type 0} (rs qs : List Row) (ss ts : List (Entry P Small)) (ms ns : List (Entry P Medium)) (ls ks : List (Entry P Large)) where
  fit_still : qs ≡ rs → ts ≡ ss → ns ≡ ms → ks ≡ ls → Fits rs ss ms ls → Fits qs ts ns ks
  fit_still e f g h fit = rw e (rw f (rw g (rw h fit)))

  records_still : qs ≡ rs → ts ≡ ss → ns ≡ ms → ks ≡ ls → records_of qs ts ns ks ≡ records_of rs ss ms ls
  records_still e f g h = λ l. records_of (e l) (f l) (g l) (h l)

pub returns-then-is_err-clause-kept : goal.returns-then-is_err-clause-kept
returns-then-is_err-clause-kept g c =
    rw (← c.self.view_is) (least_more _ _ _ _ _ _ _ _
    (grown _ _ _ _ c.reserve.ensures.capacity c.reserve.ensures.len)
    (stays _)
    (stays _)
    (stays _))

pub returns-then-is_err-clause-wanted : goal.returns-then-is_err-clause-wanted
returns-then-is_err-clause-wanted g c =
    rw (← c.self.view_is) (of_first c.args.count _ _ _ _ (lacks c.args.count _ _ c.self.inside.rows.ok.1
    (went_wrong c.reserve.result _ c.is_err.ensures.value c.if-is_err.true c.reserve.ensures.full)))

pub returns-then-is_err-2-clause-kept : goal.returns-then-is_err-2-clause-kept
returns-then-is_err-2-clause-kept g c =
    rw (← c.self.view_is) (least_more _ _ _ _ _ _ _ _
    (grown _ _ _ _ c.reserve.ensures.capacity c.reserve.ensures.len)
    (grown _ _ _ _ c.reserve-2.ensures.capacity c.reserve-2.ensures.len)
    (stays _)
    (stays _))

pub returns-then-is_err-2-clause-wanted : goal.returns-then-is_err-2-clause-wanted
returns-then-is_err-2-clause-wanted g c =
    rw (← c.self.view_is) (of_second c.args.count _ _ _ _ (lacks c.args.count _ _ c.self.inside.smalls.ok.1
    (went_wrong c.reserve-2.result _ c.is_err-2.ensures.value c.if-is_err-2.true c.reserve-2.ensures.full)))

pub returns-then-is_err-3-clause-kept : goal.returns-then-is_err-3-clause-kept
returns-then-is_err-3-clause-kept g c =
    rw (← c.self.view_is) (least_more _ _ _ _ _ _ _ _
    (grown _ _ _ _ c.reserve.ensures.capacity c.reserve.ensures.len)
    (grown _ _ _ _ c.reserve-2.ensures.capacity c.reserve-2.ensures.len)
    (grown _ _ _ _ c.reserve-3.ensures.capacity c.reserve-3.ensures.len)
    (stays _))

pub returns-then-is_err-3-clause-wanted : goal.returns-then-is_err-3-clause-wanted
returns-then-is_err-3-clause-wanted g c =
    rw (← c.self.view_is) (of_third c.args.count _ _ _ _ (lacks c.args.count _ _ c.self.inside.mediums.ok.1
    (went_wrong c.reserve-3.result _ c.is_err-3.ensures.value c.if-is_err-3.true c.reserve-3.ensures.full)))

pub returns-then-is_err-4-clause-kept : goal.returns-then-is_err-4-clause-kept
returns-then-is_err-4-clause-kept g c =
    rw (← c.self.view_is) (least_more _ _ _ _ _ _ _ _
    (grown _ _ _ _ c.reserve.ensures.capacity c.reserve.ensures.len)
    (grown _ _ _ _ c.reserve-2.ensures.capacity c.reserve-2.ensures.len)
    (grown _ _ _ _ c.reserve-3.ensures.capacity c.reserve-3.ensures.len)
    (grown _ _ _ _ c.reserve-4.ensures.capacity c.reserve-4.ensures.len))

pub returns-then-is_err-4-clause-wanted : goal.returns-then-is_err-4-clause-wanted
returns-then-is_err-4-clause-wanted g c =
    rw (← c.self.view_is) (of_fourth c.args.count _ _ _ _ (lacks c.args.count _ _ c.self.inside.larges.ok.1
    (went_wrong c.reserve-4.result _ c.is_err-4.ensures.value c.if-is_err-4.true c.reserve-4.ensures.full)))

pub returns-clause-kept : goal.returns-clause-kept
returns-clause-kept g c =
    rw (← c.self.view_is) (least_more _ _ _ _ _ _ _ _
    (grown _ _ _ _ c.reserve.ensures.capacity c.reserve.ensures.len)
    (grown _ _ _ _ c.reserve-2.ensures.capacity c.reserve-2.ensures.len)
    (grown _ _ _ _ c.reserve-3.ensures.capacity c.reserve-3.ensures.len)
    (grown _ _ _ _ c.reserve-4.ensures.capacity c.reserve-4.ensures.len))

pub returns-clause-ok : goal.returns-clause-ok
returns-clause-ok g c =
    fits_both c.args.count _ _
    (fits_both c.args.count _ _
    (fits c.args.count _ _ (went_well c.reserve.result _ c.is_err.ensures.value c.if-is_err.false c.reserve.ensures.ok))
    (fits c.args.count _ _ (went_well c.reserve-2.result _ c.is_err-2.ensures.value c.if-is_err-2.false c.reserve-2.ensures.ok)))
    (fits_both c.args.count _ _
    (fits c.args.count _ _ (went_well c.reserve-3.result _ c.is_err-3.ensures.value c.if-is_err-3.false c.reserve-3.ensures.ok))
    (fits c.args.count _ _ (went_well c.reserve-4.result _ c.is_err-4.ensures.value c.if-is_err-4.false c.reserve-4.ensures.ok)))

pub invariant_of-self : goal.invariant_of-self
invariant_of-self g c = fit_still _ _ _ _ _ _ _ _ c.reserve.ensures.items refl refl refl c.self.invariant

pub returns-then-is_err-clause-same : goal.returns-then-is_err-clause-same
returns-then-is_err-clause-same g c =
    records_still _ _ _ _ _ _ _ _ c.reserve.ensures.items refl refl refl
    ∙ ap (λ (t : Kept _). t.records) c.self.view_is

pub invariant_of-self-then-is_err-2 : goal.invariant_of-self-then-is_err-2
invariant_of-self-then-is_err-2 g c =
    fit_still _ _ _ _ _ _ _ _ c.reserve.ensures.items c.reserve-2.ensures.items refl refl
    c.self.invariant

pub returns-then-is_err-2-clause-same : goal.returns-then-is_err-2-clause-same
returns-then-is_err-2-clause-same g c =
    records_still _ _ _ _ _ _ _ _ c.reserve.ensures.items c.reserve-2.ensures.items refl refl
    ∙ ap (λ (t : Kept _). t.records) c.self.view_is

pub invariant_of-self-then-is_err-3 : goal.invariant_of-self-then-is_err-3
invariant_of-self-then-is_err-3 g c =
    fit_still _ _ _ _ _ _ _ _ c.reserve.ensures.items c.reserve-2.ensures.items c.reserve-3.ensures.items refl
    c.self.invariant

pub returns-then-is_err-3-clause-same : goal.returns-then-is_err-3-clause-same
returns-then-is_err-3-clause-same g c =
    records_still _ _ _ _ _ _ _ _ c.reserve.ensures.items c.reserve-2.ensures.items c.reserve-3.ensures.items refl
    ∙ ap (λ (t : Kept _). t.records) c.self.view_is

pub invariant_of-self-then-is_err-4 : goal.invariant_of-self-then-is_err-4
invariant_of-self-then-is_err-4 g c =
    fit_still _ _ _ _ _ _ _ _ c.reserve.ensures.items c.reserve-2.ensures.items c.reserve-3.ensures.items c.reserve-4.ensures.items
    c.self.invariant

pub returns-then-is_err-4-clause-same : goal.returns-then-is_err-4-clause-same
returns-then-is_err-4-clause-same g c =
    records_still _ _ _ _ _ _ _ _ c.reserve.ensures.items c.reserve-2.ensures.items c.reserve-3.ensures.items c.reserve-4.ensures.items
    ∙ ap (λ (t : Kept _). t.records) c.self.view_is

pub invariant_of-self-2 : goal.invariant_of-self-2
invariant_of-self-2 g c =
    fit_still _ _ _ _ _ _ _ _ c.reserve.ensures.items c.reserve-2.ensures.items c.reserve-3.ensures.items c.reserve-4.ensures.items
    c.self.invariant

pub returns-clause-same : goal.returns-clause-same
returns-clause-same g c =
    records_still _ _ _ _ _ _ _ _ c.reserve.ensures.items c.reserve-2.ensures.items c.reserve-3.ensures.items c.reserve-4.ensures.items
    ∙ ap (λ (t : Kept _). t.records) c.self.view_is
