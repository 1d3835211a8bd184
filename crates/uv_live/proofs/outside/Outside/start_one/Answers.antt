use Rattle.uv_live.proofs.Names.{◌≡◌, ◌+◌, ℕ, length, sym, subst, arith, OnOk}
use Rattle.std.proofs.lemmas.Bool.Decides.{nat_tests}
use Rattle.uv_live.proofs.Own.{counts_none, counts_one}
use Rattle.uv_live.proofs.outside.Outside.start_one.Goals as goal

pub returns-then-is_empty-clause-threads : goal.returns-then-is_empty-clause-threads
returns-then-is_empty-clause-threads g c =
    let none : length c.args.names.items ≡ 0 = grind (arith, nat_tests, c.is_empty.ensures, c.if-is_empty.true) in
    omega (arith, counts_none c.args.thread c.args.lines.now c.args.names.items c.requires.own none)

pub returns-clause-threads : goal.returns-clause-threads
returns-clause-threads g c =
    let one = counts_one c.args.thread c.args.lines.now c.args.names.items c.requires.own
    (λ none. grind (arith, nat_tests, none, c.is_empty.ensures, c.if-is_empty.false)) in
    subst (λ (n : ℕ). OnOk c.start_sender.result (c.start_sender.new.self.seat.knows.splits ≡ c.args.self.now.seat.knows.splits + n)) (sym one)
    c.start_sender.ensures.threads
