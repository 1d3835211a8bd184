use Rattle.uv_live.proofs.Entered.{collect_entered}
use Rattle.uv_live.proofs.turning.enter_collect.Goals as goal

pub returns-clause-log : goal.returns-clause-log
returns-clause-log g c = λ legal.
    collect_entered c.args.book.now.hold c.collect.new.self.hold c.args.id c.collect.result
    (record { room = c.requires.room; less = c.requires.less; replay = c.is_sound.ensures; legal = legal }) c.collect.ensures.call
