-- What is found, and how a run ends.
use Rattle.std.proofs.Common.{◌≡◌, ℕ, List, ◌+◌, ◌≤◌, length, Err, Some, None, Bool, true, false, if◌then◌else◌, refl, sym, subst, arith}
use Rattle.uv_ids.specs.declared.event.Event.{Event}
use Rattle.uv_ids.specs.declared.fault.Fault.{Fault}
use Rattle.uv_ids.specs.declared.fault.Fault.TheVariants as fault
use Rattle.uv_script.specs.Program.{Program}
use Rattle.uv_model.specs.After.{STEPS}
use Rattle.uv_ids.specs.declared.id.Var.{Var}
use Rattle.uv_asking.specs.Asked.{Asked}
use Rattle.uv_asking.specs.declared.asking.Question.TheVariants.{Late}
use Rattle.uv_find.specs.declared.finding.Answer.{Answer}
use Rattle.uv_find.specs.declared.finding.Answer.TheVariants as answer
use Rattle.uv_asking.specs.declared.asking.Question.{Question}
use Rattle.uv_script.specs.SameWork.{same_work}
use Rattle.uv_find.specs.Courses.{IsAnswer, NeverAnswered}
use Rattle.uv_find.specs.Forgetting.{may_forget}
use Rattle.uv_find.specs.Mates.{mates_in}
use Rattle.uv_find.specs.Orders.{Rules, Place, asked_late, beginning}
use Rattle.uv_find.specs.Found.{Finds, IsDeepest, IsNever, RisesTo}
use Rattle.uv_find.specs.SameWork.{asking, AnswersStand, DepthStands, NeverStands}
use Rattle.uv_find.specs.Spots.{Spot, rules_of, first_spot}
use Rattle.uv_inquiry.specs.Grammar.{ReadsInquiry}
use Rattle.uv_inquiry.specs.Texts.{latest_text, at_least_text, found_text, never_text, unsettled_text, too_deep_text, out_of_memory_text}
use Rattle.uvt_find.specs.Searched.{searched, NeverHere}
use Rattle.uvt_find.specs.Status.{Answers, found, never, latest, at_least, unsettled, too_deep, out_of_memory, Ran, bad_line, nothing_read, status_of}

-- ---- what is so of what is searched, of the script itself

no_recording : (p : Program) (a : Asked) → may_forget p a ≡ true → a.differ ≡ None
no_recording p a may = grind arith

module _ (p : Program) (a : Asked) (q : Question) where
  answer_here : AnswersStand → (es : List Event) (t : Place) → IsAnswer (asking (searched p a) a q) (beginning (asking (searched p a) a q)) es t
      → (u : Place) × IsAnswer (asking p a q) (beginning (asking p a q)) es u
  answer_here stand es t = by (may_forget p a) refl where
    by : (b : Bool) → may_forget p a ≡ b
        → IsAnswer (asking (if b then same_work p else p) a q) (beginning (asking (if b then same_work p else p) a q)) es t
        → (u : Place) × IsAnswer (asking p a q) (beginning (asking p a q)) es u
    by true may h = stand p a q es t (no_recording p a may) h
    by false may h = (t, h)

  never_here : NeverStands → NeverAnswered (asking (searched p a) a q) (first_spot (asking (searched p a) a q)) → NeverHere p a q
  never_here stand = by (may_forget p a) refl where
    by : (b : Bool) → may_forget p a ≡ b
        → NeverAnswered (asking (if b then same_work p else p) a q) (first_spot (asking (if b then same_work p else p) a q))
        → NeverAnswered (record (asking p a q) { mates = mates_in (if b then same_work p else p) a })
        (first_spot (record (asking p a q) { mates = mates_in (if b then same_work p else p) a }))
    by true may h = stand p a q (no_recording p a may) h
    by false may h = h

  deep_here : DepthStands → IsDeepest (asking (searched p a) a q) (beginning (asking (searched p a) a q))
      → IsDeepest (asking p a q) (beginning (asking p a q))
  deep_here stand = by (may_forget p a) refl where
    by : (b : Bool) → may_forget p a ≡ b
        → IsDeepest (asking (if b then same_work p else p) a q) (beginning (asking (if b then same_work p else p) a q))
        → IsDeepest (asking p a q) (beginning (asking p a q))
    by true may h = stand p a q (no_recording p a may) h
    by false may h = h

-- ---- each answer

module _ (p : Program) (a : Asked) (r : Rules) (s t : Spot) (rules : r ≡ rules_of (searched p a) a) (spot : s ≡ first_spot r) where
  abbrev there : Rules
  there = rules_of (searched p a) a

  begun : (x : Answer) → Finds r s a.states x t → Finds there (first_spot there) a.states x t
  begun x f = subst (λ u. Finds u (first_spot u) a.states x t) rules (subst (λ u. Finds r u a.states x t) spot f)

  pub tells_found : AnswersStand → (n : ℕ) → Finds r s a.states (answer.Found n) t → Answers p a (found_text p t.steps n) 0
  tells_found stand n f =
      let g = begun (answer.Found n) f in
      let here = answer_here p a a.question stand g.1.0 t.place g.1.1.1 in
      subst (λ (es : List Event). Answers p a (found_text p es n) 0) (sym g.1.1.0) (found g.1.0 here.0 n here.1 g.0)

  pub tells_never : NeverStands → (n : ℕ) → Finds r s a.states (answer.Never n) t → Answers p a (never_text p a n) 1
  tells_never stand n f = let g = begun (answer.Never n) f in never n (never_here p a a.question stand g.1.never) g.1 g.0

  pub tells_unsettled : Finds r s a.states answer.Unsettled t → Answers p a (unsettled_text a.states) 3
  tells_unsettled f = unsettled (begun answer.Unsettled f)

  pub tells_deep : DepthStands → Finds r s a.states answer.TooDeep t → Answers p a too_deep_text 3
  tells_deep stand f =
      let g = begun answer.TooDeep f in
      too_deep (deep_here p a a.question stand (g.1, g.0.place, g.3, subst (λ (es : List Event). STEPS ≤ length es + 1) g.2 g.4))

  pub tells_no_memory : (n : ℕ) → Finds r s a.states (answer.OutOfMemory n) t → Answers p a (out_of_memory_text n) 3
  tells_no_memory n f = let g = begun (answer.OutOfMemory n) f in out_of_memory n g.1.0 g.1.1 g.0

-- how late the timer is called at most
module _ (p : Program) (a : Asked) (name : Var) (ms : ℕ) (greatest : a.greatest ≡ true) (question : a.question ≡ Late name ms) where
  abbrev asked : Rules
  asked = rules_of (searched p a) a

  pub never_late : NeverStands → (n : ℕ) → RisesTo asked (first_spot asked) name a.states ms (Some n) → Answers p a (never_text p a n) 1
  never_late stand n f =
      let is = subst (λ q. IsNever (record asked { question = q }) (first_spot asked) n) (sym question) f.1 in
      never n (never_here p a a.question stand is.never) is f.0

  module _ (late : ℕ) (r : Rules) (s t : Spot) (rules : r ≡ asked_late asked name late) (spot : s ≡ first_spot r) where
    asked_again : (x : Answer) → Finds r s a.states x t → Finds (asked_late asked name late) (first_spot (asked_late asked name late)) a.states x t
    asked_again x f = subst (λ u. Finds u (first_spot u) a.states x t) rules (subst (λ u. Finds r u a.states x t) spot f)

    pub tells_latest : AnswersStand → NeverStands → (n states : ℕ) → Finds r s a.states (answer.Found n) t →
        RisesTo asked (first_spot asked) name a.states (late + 1) (Some states) → Answers p a (latest_text p a t.steps late states) 0
    tells_latest stand none n states f more =
        let g = asked_again (answer.Found n) f in
        let here = answer_here p a (Late name late) stand g.1.0 t.place g.1.1.1 in
        subst (λ (es : List Event). Answers p a (latest_text p a es late states) 0) (sym g.1.1.0)
        (latest name ms g.1.0 here.0 late states greatest question here.1 (never_here p a (Late name (late + 1)) none more.1.never) more.1 more.0)

    pub tells_at_least : AnswersStand → (n : ℕ) → Finds r s a.states (answer.Found n) t → Answers p a (at_least_text p t.steps late a.states) 3
    tells_at_least stand n f =
        let g = asked_again (answer.Found n) f in
        let here = answer_here p a (Late name late) stand g.1.0 t.place g.1.1.1 in
        subst (λ (es : List Event). Answers p a (at_least_text p es late a.states) 3) (sym g.1.1.0)
        (at_least name ms g.1.0 here.0 late greatest question here.1)

-- what is read that asks nothing
pub unread : (input old : List ℕ) (f : Fault) → ReadsInquiry input (Err f) → Ran input old old (status_of f)
unread input old (fault.Script line) h = bad_line line h refl
unread input old fault.Memory h = nothing_read refl
unread input old fault.Read h = nothing_read refl
unread input old _ h = absurd h
