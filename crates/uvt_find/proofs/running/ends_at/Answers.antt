use Rattle.std.proofs.Common.{◌≡◌, ◌+◌, Some, arith, sym, subst}
use Rattle.uv_asking.specs.Asked.{asked_in}
use Rattle.uv_find.specs.Found.{RisesTo}
use Rattle.uv_find.specs.Spots.{first_spot}
use Rattle.uvt_find.specs.Searched.{searched_rules}
use Rattle.uvt_find.proofs.running.ends_at.Goals as goal

pub settled-requires-clause-risen : goal.settled-requires-clause-risen
settled-requires-clause-risen g c =
    let i = c.args.inquiry.now in
    let r = searched_rules i.script (asked_in i.asking) in
    let up : c.saturating_sub-late.result + 1 ≡ c.args.risen.ms = omega (arith, c.saturating_sub-late.ensures, c.requires.some) in
    subst (λ n. RisesTo r (first_spot r) c.args.name i.asking.states n (Some c.in-Some.kept)) (sym up) (rw c.in-Some.is at c.requires.risen)
