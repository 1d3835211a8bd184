-- In which order the callbacks of idle, prepare and check handles come, and close callbacks, by the lines of a trace alone. A handle that is
-- started goes in front of those of its kind, and a stop or a close takes it off (uv_idle_start, uv_idle_stop); one that is closed goes in front
-- of those that close (uv_close). A section calls those that there are at its line, front first, without those that are taken off before.
use Rattle.std.specs.Prelude.{◌≡◌, ◌&&◌, not, Bool, true, false, List, [], ◌∷◌, Option, Some, None, option_and_then, if◌then◌else◌}
use Rattle.uv_ids.specs.declared.id.Id.{Id}
use Rattle.uv_ids.specs.declared.id.Var.{Var}
use Rattle.uv_ids.specs.declared.phase.Kind.{Kind}
use Rattle.uv_ids.specs.declared.phase.Kind.TheVariants as kind
use Rattle.uv_ids.specs.declared.phase.Phase.{Phase}
use Rattle.uv_ids.specs.declared.phase.Phase.TheVariants as phase
use Rattle.uv_ids.specs.declared.seen.Seen.{Seen}
use Rattle.uv_ids.specs.declared.seen.Seen.TheVariants as seen
use Rattle.uv_script.specs.declared.op.Op.{Op}
use Rattle.uv_script.specs.declared.op.Op.TheVariants as op
use Rattle.uv_script.specs.Program.{Program}
use Rattle.uv_model.specs.Ids.{without_id}
use Rattle.uv_order.specs.Active.{has_id}
use Rattle.uv_order.specs.Once.{Answered, answered, bound, is_success}
use Rattle.uv_order.specs.Documented.{names_by, taken_off, without_ids}
use Rattle.uv_order.specs.Answers.{facts}

-- ---- the list of a section

-- the section calls handles of this kind; that of the close callbacks those of each
abbrev pub calls_kind : Phase → Option Kind → Bool
calls_kind phase.Idle (Some kind.Idle) = true
calls_kind phase.Prepare (Some kind.Prepare) = true
calls_kind phase.Check (Some kind.Check) = true
calls_kind phase.Closing k = true
calls_kind word k = false

-- the name of the handle that an accepted op puts in front of the list
abbrev pub fronts : Phase → Op → Option Var
fronts phase.Closing (op.Close v) = Some v
fronts phase.Closing o = None
fronts word (op.StartWatcher v) = Some v
fronts word o = None

-- one that the section calls goes in front; one that is on the list stays where it is
abbrev pub with_front : Program → List Seen → Phase → Option Id → List Id → List Id
with_front p past word None ids = ids
with_front p past word (Some id) ids = if calls_kind word (facts p past id).kind && not (has_id ids id) then id ∷ ids else ids

-- an accepted op takes one off, and puts one in front
abbrev pub listed_by : Program → List Seen → Phase → Answered → List Id → List Id
listed_by p past word d ids =
    if is_success d.answer
    then with_front p past word (option_and_then (bound p past) (fronts word d.op)) (without_ids ids (taken_off word (names_by p past) d.op d.answer))
    else ids

abbrev pub listed_answered : Program → List Seen → Phase → Option Answered → List Id → List Id
listed_answered p past word None ids = ids
listed_answered p past word (Some d) ids = listed_by p past word d ids

-- a close callback, as it begins, takes its handle off
abbrev pub listed_line : Program → List Seen → Seen → Phase → List Id → List Id
listed_line p past (seen.Closed v id) phase.Closing ids = without_id ids id
listed_line p past l word ids = listed_answered p past word (answered p l) ids

-- the list of the section, as these lines tell
abbrev pub listed : Program → List Seen → Phase → List Id
listed p [] word = []
listed p (l ∷ past) word = listed_line p past l word (listed p past word)

-- ---- who is still to be called

-- the line of a section of this word, which has a list
abbrev pub begins_list : Phase → Phase → Bool
begins_list phase.Idle phase.Idle = true
begins_list phase.Prepare phase.Prepare = true
begins_list phase.Check phase.Check = true
begins_list phase.Closing phase.Closing = true
begins_list word line = false

abbrev pub left_answered : Program → List Seen → Phase → Option Answered → List Id → List Id
left_answered p past word None ids = ids
left_answered p past word (Some d) ids = without_ids ids (taken_off word (names_by p past) d.op d.answer)

-- its line has all of its list; who is called, or taken off, isn't called any more
abbrev pub left_line : Program → List Seen → Seen → Phase → List Id → List Id
left_line p past (seen.Section line) word ids = if begins_list word line then listed p past word else ids
left_line p past (seen.Call v id) word ids = without_id ids id
left_line p past (seen.Closed v id) word ids = without_id ids id
left_line p past l word ids = left_answered p past word (answered p l) ids

-- whom the section is still to call
abbrev pub left_to_call : Program → List Seen → Phase → List Id
left_to_call p [] word = []
left_to_call p (l ∷ past) word = left_line p past l word (left_to_call p past word)

-- ---- the lines

-- it is the first of these
abbrev pub IsFirstOf : List Id → Id → Type 0
IsFirstOf [] id = ⊥
IsFirstOf (x ∷ ids) id = x ≡ id

-- nobody is still to be called
abbrev pub AllCalled : Program → List Seen → Type 0
AllCalled p past = (word : Phase) → left_to_call p past word ≡ []

-- a handle of this kind is called in its turn
abbrev pub KindInTurn : Program → List Seen → Id → Option Kind → Type 0
KindInTurn p past id (Some kind.Idle) = IsFirstOf (left_to_call p past phase.Idle) id
KindInTurn p past id (Some kind.Prepare) = IsFirstOf (left_to_call p past phase.Prepare) id
KindInTurn p past id (Some kind.Check) = IsFirstOf (left_to_call p past phase.Check) id
KindInTurn p past id k = Unit {0}

-- so is each handle that a line calls; and a section, a poll or the end of a run comes once all were called
abbrev pub InTurn : Program → List Seen → Seen → Type 0
InTurn p past (seen.Call v id) = KindInTurn p past id (facts p past id).kind
InTurn p past (seen.Closed v id) = IsFirstOf (left_to_call p past phase.Closing) id
InTurn p past (seen.Section word) = AllCalled p past
InTurn p past (seen.Poll timeout) = AllCalled p past
InTurn p past (seen.End alive) = AllCalled p past
InTurn p past l = Unit {0}

abbrev pub InTurnFrom : Program → List Seen → List Seen → Type 0
InTurnFrom p past [] = Unit {0}
InTurnFrom p past (l ∷ ls) = InTurn p past l × InTurnFrom p (l ∷ past) ls

-- callbacks come in their turn, by these lines
abbrev pub AreInTurn : Program → List Seen → Type 0
AreInTurn p ls = InTurnFrom p [] ls
