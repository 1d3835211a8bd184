-- What may be asked of one timer may be asked of another one, and of another number of ms.
use Rattle.uv_find.proofs.Names.{◌≡◌, ℕ, true, arith, Var, asks_late, Rules, asked_late, MayForget, MayHold}

pub later_forgets : (r : Rules) (name : Var) (ms : ℕ) → MayForget r → MayForget (asked_late r name ms)
later_forgets r name ms may n some =
    let c = may n some in
    grind arith

pub later_holds : (r : Rules) (name : Var) (ms : ℕ) → asks_late r.question ≡ true → MayHold r → MayHold (asked_late r name ms)
later_holds r name ms late may = grind arith

pub ruleset asking_later = (later_forgets, later_holds)
