use Rattle.uv_live.proofs.Entered.{queue_entered}
use Rattle.uv_live.proofs.turning.enter_queue.Goals as goal

pub returns-clause-log : goal.returns-clause-log
returns-clause-log g c = λ legal.
    queue_entered c.args.book.now.hold c.submit.new.self.hold c.args.job c.submit.result
    (record { room = c.requires.room; less = c.requires.less; replay = c.is_sound.ensures; legal = legal }) c.submit.ensures.call
