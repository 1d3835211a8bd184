use Rattle.uv_engine.proofs.Reruns.{judged_parted, judged_short}
use Rattle.uv_engine.proofs.rerun.Rerun.verdict.Goals as goal

pub returns-in-Some-parted : goal.returns-in-Some-parted
returns-in-Some-parted g c = λ es called ran met.
    judged_parted _ es _ called c.args.self.now.looked c.args.self.now.count c.in-Some-parted.place (rw c.in_default.is at ran)
    (rw (c.in_default.is, c.in-Some-parted.is) at met)

pub returns-in-Some-next_called : goal.returns-in-Some-next_called
returns-in-Some-next_called g c = λ es called ran met.
    rw c.next_called.ensures.count
    (judged_short _ es _ called c.args.self.now.looked c.next_called.new.self.looked c.args.self.now.count c.in-Some-next_called.field-0
    (rw c.in_default.is at ran) (rw (c.in_default.is, c.in_default-parted.is) at met) c.in-Some-next_called.ensures.some)
