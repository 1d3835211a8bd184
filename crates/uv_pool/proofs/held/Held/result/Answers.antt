use Rattle.uv_pool.proofs.Names.{◌≡◌, Some, sym, ◌∙◌, ap, rows_of, place_of, at_number, id_of_done}
use Rattle.uv_pool.proofs.Found.{result_there}
use Rattle.uv_pool.proofs.held.Held.result.Goals as goal

pub returns-in-Some : goal.returns-in-Some
returns-in-Some c =
    let h = c.args.self.now in
    let there : at_number h.collected h.done.items c.in-Some-Done.number ≡ Some c.in-Some.member = sym c.in-Some.ensures in
    let stands : id_of_done (at_number h.collected h.done.items c.in-Some-Done.number) ≡ Some c.args.id = rw c.in-Some-Done.field-0-is at
    c.in-Some-Done.ensures.place in
    let both : Some c.in-Some.member.id ≡ Some c.args.id = sym (ap id_of_done there) ∙ stands in
    let same : c.in-Some.member.id ≡ c.args.id = cc in
    sym (result_there (rows_of h) (place_of h) c.in-Some-Done.number c.in-Some.member c.args.id c.requires.indexed there same)
