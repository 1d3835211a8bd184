use Rattle.uv_pool.proofs.Names.{rules, refl}
use Rattle.uv_pool.proofs.Kept.{kept_same}
use Rattle.uv_pool.proofs.held.Held.reserve.Goals as goal

pub returns-in_err-reserve-2-clause-kept : goal.returns-in_err-reserve-2-clause-kept
returns-in_err-reserve-2-clause-kept c =
    kept_same c.args.self.now _ c.requires.kept (search rules) (search rules) (λ q. refl)

pub returns-in_err-reserve-3-clause-kept : goal.returns-in_err-reserve-3-clause-kept
returns-in_err-reserve-3-clause-kept c =
    kept_same c.args.self.now _ c.requires.kept (search rules) (search rules) (λ q. refl)

pub returns-in_err-reserve-4-clause-kept : goal.returns-in_err-reserve-4-clause-kept
returns-in_err-reserve-4-clause-kept c =
    kept_same c.args.self.now _ c.requires.kept (search rules) (search rules) (λ q. c.reserve-4.ensures.entries.2 q)

pub returns-clause-kept : goal.returns-clause-kept
returns-clause-kept c =
    kept_same c.args.self.now _ c.requires.kept (search rules) (search rules) (λ q. c.reserve-4.ensures.entries.2 q)
