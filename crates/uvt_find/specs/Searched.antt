-- What is searched for a script.
use Rattle.std.specs.Prelude.{if◌then◌else◌}
use Rattle.uv_script.specs.Program.{Program}
use Rattle.uv_script.specs.SameWork.{same_work}
use Rattle.uv_asking.specs.Asked.{Asked}
use Rattle.uv_asking.specs.declared.asking.Question.{Question}
use Rattle.uv_find.specs.Courses.{NeverAnswered}
use Rattle.uv_find.specs.Forgetting.{may_forget}
use Rattle.uv_find.specs.Orders.{Rules}
use Rattle.uv_find.specs.Spots.{rules_of, first_spot}

-- the script in which each request asks for the same work, where no more is asked of a state than is told of it: no question asks what a
-- request came to but whether it was cancelled
abbrev pub searched : Program → Asked → Program
searched p a = if may_forget p a then same_work p else p

abbrev pub searched_rules : Program → Asked → Rules
searched_rules p a = rules_of (searched p a) a

-- of the script itself, no events answer this question; that is told of as many as of what is searched
abbrev pub NeverHere : Program → Asked → Question → Type 0
NeverHere p a q =
    let r = record (rules_of p a) { question = q; mates = (searched_rules p a).mates } in
    NeverAnswered r (first_spot r)
