-- What a run of the program comes to.
use Rattle.std.specs.Prelude.{◌≡◌, ℕ, ◌+◌, ◌≤◌, ◌==◌, ◌++◌, true, List, [], ◌∷◌, Result, Ok, Err, IfOk, IfErr}
use Rattle.std.specs.List.{list_any}
use Rattle.uv_ids.specs.declared.event.Event.{Event}
use Rattle.uv_ids.specs.declared.fault.Fault.{Fault}
use Rattle.uv_ids.specs.declared.id.Var.{Var}
use Rattle.uv_ids.specs.declared.fault.Fault.TheVariants as fault
use Rattle.uv_script.specs.Program.{Program}
use Rattle.uv_engine.specs.Devices.{ReaderCounts, WriterCounts}
use Rattle.uv_script.specs.Writes.{CutShort}
use Rattle.uv_asking.specs.Asked.{Asked}
use Rattle.uv_asking.specs.declared.asking.Question.TheVariants.{Late}
use Rattle.uv_find.specs.Orders.{Place, asked_late, beginning}
use Rattle.uv_find.specs.Courses.{IsAnswer}
use Rattle.uv_find.specs.Found.{AreReached, IsNever, IsMore, IsDeepest}
use Rattle.uv_find.specs.Spots.{rules_of, first_spot}
use Rattle.uvt_find.specs.Searched.{searched_rules, NeverHere}
use Rattle.uv_inquiry.specs.Grammar.{IsInquiry, IsBadInput}
use Rattle.uv_inquiry.specs.Texts.{latest_text, at_least_text, found_text, never_text, unsettled_text, too_deep_text, out_of_memory_text}

-- the text that answers what is asked of a script, and its status
pub data Answers (p : Program) (a : Asked) : List ℕ → ℕ → Type 0 where
  -- these events answer the question: the last of them does
  found : (es : List Event) (q : Place) (states : ℕ) → IsAnswer (rules_of p a) (beginning (rules_of p a)) es q → states ≤ a.states →
      Answers p a (found_text p es states) 0
  -- no events do, however many (`NeverAnswered`); of what is searched, the places that they lead to are told apart by so many keys
  never : (states : ℕ) → NeverHere p a a.question → IsNever (searched_rules p a) (first_spot (searched_rules p a)) states →
      states ≤ a.states → Answers p a (never_text p a states) 1
  -- these events call the timer that is asked about so many ms late, and no events call it later
  latest : (name : Var) (ms : ℕ) (es : List Event) (q : Place) (late states : ℕ) → a.greatest ≡ true → a.question ≡ Late name ms →
      IsAnswer (asked_late (rules_of p a) name late) (beginning (rules_of p a)) es q →
      NeverHere p a (Late name (late + 1)) →
      IsNever (asked_late (searched_rules p a) name (late + 1)) (first_spot (searched_rules p a)) states → states ≤ a.states →
      Answers p a (latest_text p a es late states) 0
  -- these events call it so many ms late; whether others do later isn't settled
  at_least : (name : Var) (ms : ℕ) (es : List Event) (q : Place) (late : ℕ) → a.greatest ≡ true → a.question ≡ Late name ms →
      IsAnswer (asked_late (rules_of p a) name late) (beginning (rules_of p a)) es q → Answers p a (at_least_text p es late a.states) 3
  -- it isn't settled whether any events call it
  nothing_settled : a.greatest ≡ true → Answers p a (unsettled_text a.states) 3
  -- of what is searched there are more places than may be kept
  unsettled : IsMore (searched_rules p a) (beginning (searched_rules p a)) a.states → Answers p a (unsettled_text a.states) 3
  -- events lead to where no more of them may be taken
  too_deep : IsDeepest (rules_of p a) (beginning (rules_of p a)) → Answers p a too_deep_text 3
  -- memory was refused, and events lead to so many places that were kept until then
  out_of_memory : (states : ℕ) (keys : List (List ℕ)) → AreReached (searched_rules p a) (beginning (searched_rules p a)) states keys →
      states ≤ a.states → Answers p a (out_of_memory_text states) 3

-- the status of a fault
abbrev pub status_of : Fault → ℕ
status_of (fault.Script line) = 2
status_of _ = 4

-- the statuses with which a run may end
abbrev pub MayEnd : ℕ → Type 0
MayEnd status = list_any (λ s. s == status) (0 ∷ 1 ∷ 2 ∷ 3 ∷ 4 ∷ []) ≡ true

-- the status of an answer: 0, 1 or 3
abbrev pub IsAnswerStatus : ℕ → Type 0
IsAnswerStatus status = list_any (λ s. s == status) (0 ∷ 1 ∷ 3 ∷ []) ≡ true

-- the faults by which a run may end
abbrev pub IsRunFault : Fault → Type 0
IsRunFault (fault.Script line) = Unit {0}
IsRunFault fault.Memory = Unit {0}
IsRunFault fault.Read = Unit {0}
IsRunFault fault.Write = Unit {0}
IsRunFault _ = ⊥

-- those of the answer alone
abbrev pub IsReplyFault : Fault → Type 0
IsReplyFault fault.Memory = Unit {0}
IsReplyFault fault.Write = Unit {0}
IsReplyFault _ = ⊥

-- the status of what a run comes to: that of its answer, or that of its fault
abbrev pub status_by : Result ℕ Fault → ℕ
status_by (Ok status) = status
status_by (Err f) = status_of f

-- a run ends with the status of what it came to, an answer or a fault. The fault is `Read` where the reader failed, and else only where the
-- input is too long; it is `Write` where the writer failed, and only there
pub record EndsBy (TooLong : Type 0) (reads reads' writes writes' status : ℕ) : Type 0 where
  pub came_to : Result ℕ Fault
  pub is : status ≡ status_by came_to
  pub answer : IfOk came_to IsAnswerStatus
  pub fault : IfErr came_to IsRunFault
  pub reader : ReaderCounts came_to TooLong reads reads'
  pub writer : WriterCounts came_to writes writes'

-- what is written for what is asked of a script. 0, 1 or 3: the answer. 4: nothing, or a beginning of the answer
pub data Responds (p : Program) (a : Asked) (old new : List ℕ) : ℕ → Type 0 where
  whole : (text : List ℕ) (status : ℕ) → Answers p a text status → new ≡ old ++ text → Responds p a old new status
  nothing : new ≡ old → Responds p a old new 4
  cut_short : (text : List ℕ) (status : ℕ) → Answers p a text status → CutShort old text new → Responds p a old new 4

-- a run: what the input asks is answered; or it has a bad line, and nothing is written; or nothing is written for want of memory, or since the
-- reader failed
pub data Ran (input old new : List ℕ) : ℕ → Type 0 where
  answered : (p : Program) (a : Asked) (status : ℕ) → IsInquiry input p a → Responds p a old new status → Ran input old new status
  bad_line : (line : ℕ) → IsBadInput input line → new ≡ old → Ran input old new 2
  nothing_read : new ≡ old → Ran input old new 4
