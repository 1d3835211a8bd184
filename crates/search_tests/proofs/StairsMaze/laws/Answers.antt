use Rattle.std.proofs.Common.{◌≡◌, true, false}
use Rattle.search_tests.proofs.Same.{same_stairs}
use Rattle.search_tests.proofs.StairsMaze.laws.Goals as goal

pub returns-clause-alike : goal.returns-clause-alike
returns-clause-alike c = same_stairs

pub returns-clause-same : goal.returns-clause-same
returns-clause-same c = λ goal n p q u v e. same_stairs goal p q tt tt e

pub returns-clause-meet : goal.returns-clause-meet
returns-clause-meet c = λ goal n p k i room first. absurd (let f : false ≡ true = first in cc)
