use Rattle.uv_script.proofs.ProofNames.{sym}
use Rattle.uv_script.proofs.Places.{found_place, no_place, place_of-found, place_of-none, place_of-sound, place_of-finds}
use Rattle.uv_script.proofs.names.Names.number.Goals as goal

pub returns-in-Some-clause-place : goal.returns-in-Some-clause-place
returns-in-Some-clause-place c =
    let names = c.args.self.now in
    sym (place_of-found names c.args.name.now c.in-Some.index
    (found_place (λ name. name.items) c.self.inside.set.keys names c.args.name.now c.in-Some.index c.self.view_is (sym c.in-Some.ensures.index)))

pub returns-in-Some-clause-some : goal.returns-in-Some-clause-some
returns-in-Some-clause-some c = search (place_of-sound, returns-in-Some-clause-place)

pub returns-in-None-clause-place : goal.returns-in-None-clause-place
returns-in-None-clause-place c =
    let names = c.args.self.now in
    sym (place_of-none names c.args.name.now
    (no_place (λ name. name.items) c.self.inside.set.keys names c.args.name.now c.self.view_is (sym c.in-None.ensures.index)))

pub returns-in-None-clause-none : goal.returns-in-None-clause-none
returns-in-None-clause-none c = place_of-finds c.args.self.now c.args.name.now (sym (returns-in-None-clause-place c))
