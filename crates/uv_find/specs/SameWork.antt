-- That it makes no difference which work requests ask for: what is found and never found of the script in which each asks for the same is so
-- of the script itself.
use Rattle.std.specs.Prelude.{◌≡◌, List, None}
use Rattle.uv_ids.specs.declared.event.Event.{Event}
use Rattle.uv_script.specs.Program.{Program}
use Rattle.uv_script.specs.SameWork.{same_work}
use Rattle.uv_asking.specs.Asked.{Asked}
use Rattle.uv_asking.specs.declared.asking.Question.{Question}
use Rattle.uv_find.specs.Courses.{IsAnswer, NeverAnswered}
use Rattle.uv_find.specs.Found.{IsDeepest}
use Rattle.uv_find.specs.Mates.{mates_in}
use Rattle.uv_find.specs.Orders.{Rules, Place, beginning}
use Rattle.uv_find.specs.Spots.{rules_of, first_spot}

-- what is searched for this question
abbrev pub asking : Program → Asked → Question → Rules
asking p a q = record (rules_of p a) { question = q }

-- events that answer the question there do here
abbrev pub AnswersStand : Type 0
AnswersStand = (p : Program) (a : Asked) (q : Question) (es : List Event) (t : Place) → a.differ ≡ None
    → IsAnswer (asking (same_work p) a q) (beginning (asking (same_work p) a q)) es t
    → (u : Place) × IsAnswer (asking p a q) (beginning (asking p a q)) es u

-- the same, told of as many events as there, where requests may be alike
abbrev pub asking_alike : Program → Asked → Question → Rules
asking_alike p a q = record (asking p a q) { mates = mates_in (same_work p) a }

-- where none do there, none do here
abbrev pub NeverStands : Type 0
NeverStands = (p : Program) (a : Asked) (q : Question) → a.differ ≡ None
    → NeverAnswered (asking (same_work p) a q) (first_spot (asking (same_work p) a q))
    → NeverAnswered (asking_alike p a q) (first_spot (asking_alike p a q))

-- where events lead to where no more may be taken there, they do here
abbrev pub DepthStands : Type 0
DepthStands = (p : Program) (a : Asked) (q : Question) → a.differ ≡ None
    → IsDeepest (asking (same_work p) a q) (beginning (asking (same_work p) a q)) → IsDeepest (asking p a q) (beginning (asking p a q))
