use Rattle.uv_live.proofs.Entered.{cancel_entered}
use Rattle.uv_live.proofs.turning.enter_cancel.Goals as goal

pub returns-clause-log : goal.returns-clause-log
returns-clause-log g c = λ legal.
    cancel_entered c.args.book.now.hold c.cancel.new.self.hold c.args.id c.cancel.result
    (record { room = c.requires.room; less = c.requires.less; replay = c.is_sound.ensures; legal = legal }) c.cancel.ensures.call
