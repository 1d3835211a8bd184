use Rattle.uv_pool.proofs.Names.{rules, ◌≡◌, ◌∷◌, refl, rows_of, place_of}
use Rattle.uv_pool.proofs.Kept.{kept_collect, kept_same}
use Rattle.uv_pool.proofs.Results.{front_result, collect_clears}
use Rattle.uv_pool.proofs.held.Held.collect.Goals as goal

pub returns-in_err-front-clause-kept : goal.returns-in_err-front-clause-kept
returns-in_err-front-clause-kept c =
    kept_same c.args.self.now _ c.requires.kept refl (search rules) (λ q. refl)

pub returns-clause-kept : goal.returns-clause-kept
returns-clause-kept c =
    let s = c.args.self.now in
    let rest = c.pop_front.new.self.items in
    let front : s.done.items ≡ c.in_ok-front.front ∷ rest = search rules in
    kept_collect s _ c.in_ok-front.front rest _ c.requires.kept front (search rules) c.push_reserved.ensures.items c.forget.ensures

pub returns-clause-results : goal.returns-clause-results
returns-clause-results c =
    let s = c.args.self.now in
    let rest = c.pop_front.new.self.items in
    let front : s.done.items ≡ c.in_ok-front.front ∷ rest = search rules in (
      front_result s.done.items rest c.in_ok-front.front front,
      collect_clears (rows_of s) (place_of s) c.in_ok-front.front rest c.requires.kept.indexed front,
    )
