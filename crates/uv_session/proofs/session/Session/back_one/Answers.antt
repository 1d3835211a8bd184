use Rattle.uv_session.proofs.Names.{◌<◌, arith, common_steps}
use Rattle.uv_session.proofs.Moves.{split_moved}
use Rattle.uv_session.proofs.session.Session.back_one.Goals as goal

pub returns-clause-ok : goal.returns-clause-ok
returns-clause-ok g c =
    let low : 0 < c.self.inside.standing = grind (arith, common_steps, c.requires, c.self.view_is) in
    rw (← c.self.view_is, c.back.ensures.program)
    (search split_moved)
