use Rattle.uv_live.proofs.Names.{◌∙◌, refl}
use Rattle.uv_live.proofs.Noted.{noted_more}
use Rattle.uv_live.proofs.outside.Outside.note_names.Goals as goal

pub names-preserved : goal.names-preserved
names-preserved g c =
    let one = c.note_one.ensures in
    let before = c.names.invariant in
    record {
      board = one.board ∙ before.board;
      seat = one.seat ∙ before.seat;
      lost = one.lost ∙ before.lost;
      noted = noted_more _ _ _ _ _ refl c.in_ok-note_one.ensures.kept c.in_ok-note_one.ensures.noted before.noted;
    }
