use Rattle.uv_pool.proofs.Names.{◌≡◌, Some, None, sym, ◌∙◌, false, same_id, id_at, rows_of, place_of}
use Rattle.uv_pool.proofs.Standing.{unknown_nowhere, elsewhere_nowhere, other_id}
use Rattle.uv_pool.proofs.held.Held.looked_up.Goals as goal

pub returns-in_default : goal.returns-in_default
returns-in_default c =
    let h = c.args.self.now in
    let known : place_of h c.args.id ≡ Some c.in-Some.place.now = sym c.in-Some.ensures.value in
    let there : id_at (rows_of h) c.in-Some.place.now ≡ Some c.in-Some-id_at.there = cc in
    let no : same_id c.in-Some-id_at.there c.args.id ≡ false = cc in
    search (elsewhere_nowhere, other_id)

pub returns-in_default-2 : goal.returns-in_default-2
returns-in_default-2 c =
    let h = c.args.self.now in
    let known : place_of h c.args.id ≡ Some c.in-Some.place.now = sym c.in-Some.ensures.value in
    let none : id_at (rows_of h) c.in-Some.place.now ≡ None = cc in
    elsewhere_nowhere (rows_of h) (place_of h) c.args.id c.in-Some.place.now c.requires.indexed known
    (λ k. let e : None ≡ Some c.args.id = sym none ∙ k in cc)

pub returns-in-None : goal.returns-in-None
returns-in-None c =
    let h = c.args.self.now in
    unknown_nowhere (rows_of h) (place_of h) c.args.id c.requires.indexed (sym c.in-None.ensures.value)
