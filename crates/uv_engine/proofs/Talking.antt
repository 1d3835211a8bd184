-- The answers to lines, one line after another.
use Rattle.uv_engine.proofs.Names.{◌≡◌, ◌≢◌, ℕ, List, [], ◌∷◌, ◌++◌, Result, Ok, Err, suc, ◌==◌, arith, Bool, false, refl, ap, sym, ◌∙◌, subst, append_assoc, append-nil, Fault, Shown, Loop, Step, Back, Forward, AddBreak, ClearBreaks, BackToBreak, Trace, Walk, State, StateOf, Image, Record, Quit, Asked, Nothing, Do, Bad, Asks, asked_of, lines_of, TakesLine, NoFeed, Ended, append_cancel_left, Grown, CutOff, Gathers, GathersOne, Talks, input_ends, quits, goes_on, IsAnswer, asked_after, TalksCut, TalksOn, Finishes, cond_both, has_step, PrintsFor, Event}
use Rattle.uv_engine.specs.declared.conversation.Ended.TheVariants as ended
use Rattle.uv_engine.specs.Out.{refused}
use Rattle.uv_engine.proofs.Gathers.{grown_more}

-- what was written and gathered goes on to the answers to all lines, by any answers to the lines that are left
pub record CanTalkOn (all : List (List ℕ)) (s0 : Shown) (lines : List (List ℕ)) (s : Shown) (old written gathered : List ℕ) : Type 0 where
  pub part : List ℕ
  pub grown : Grown old written
  pub said : written ++ gathered ≡ old ++ part
  pub onward : (rest : List ℕ) (end : Ended) → Talks lines s rest end → Talks all s0 (part ++ rest) end

-- every line asks for something
abbrev pub EveryLine : Type 0
EveryLine = (names : List (List ℕ)) (line : List ℕ) → Asks names line (asked_of names line)

-- some answers to the lines
pub record SomeTalk (lines : List (List ℕ)) (s : Shown) : Type 0 where
  pub text : List ℕ
  pub end : Ended
  pub is : Talks lines s text end

on_line : (line : List ℕ) (lines : List (List ℕ)) (s : Shown) (asked : Asked) (text : List ℕ)
    → Asks s.program.names line asked → asked ≢ Do Quit → IsAnswer asked s text → SomeTalk lines (asked_after asked s) → SomeTalk (line ∷ lines) s
on_line line lines s asked text a q h k = record { text = text ++ k.text; end = k.end; is = goes_on asked text k.text a q h k.is }

-- a step prints something, also one that the script hasn't
some_print : (s : Shown) (e : Event) → (text : List ℕ) × IsAnswer (Do (Step e)) s text
some_print s e = cond_both (has_step s.program e) (Do (Step e)) Bad (λ (x : Asked). (text : List ℕ) × PrintsFor x s text)
    (λ _. (_, refl)) (λ _. (_, refl))

pub some_talk : EveryLine → (lines : List (List ℕ)) (s : Shown) → SomeTalk lines s
some_talk every [] s = record { text = []; end = ended.Input; is = input_ends }
some_talk every (line ∷ lines) s = at (asked_of s.program.names line) (every s.program.names line) (λ t. some_talk every lines t) where
  at : (asked : Asked) → Asks s.program.names line asked → ((t : Shown) → SomeTalk lines t) → SomeTalk (line ∷ lines) s
  at Nothing a k = on_line line lines s Nothing [] a (λ e. cc e) refl (k s)
  at Bad a k = on_line line lines s Bad _ a (λ e. cc e) refl (k s)
  at (Do (Loop n)) a k = on_line line lines s (Do (Loop n)) _ a (λ e. cc e) refl (k _)
  at (Do (Step e)) a k = let said = some_print s e in on_line line lines s (Do (Step e)) said.0 a (λ q. cc q) said.1 (k _)
  at (Do (Back n)) a k = on_line line lines s (Do (Back n)) _ a (λ e. cc e) refl (k _)
  at (Do (Forward n)) a k = on_line line lines s (Do (Forward n)) _ a (λ e. cc e) refl (k _)
  at (Do (AddBreak b)) a k = on_line line lines s (Do (AddBreak b)) _ a (λ e. cc e) refl (k _)
  at (Do ClearBreaks) a k = on_line line lines s (Do ClearBreaks) _ a (λ e. cc e) refl (k _)
  at (Do BackToBreak) a k = on_line line lines s (Do BackToBreak) _ a (λ e. cc e) refl (k _)
  at (Do Trace) a k = on_line line lines s (Do Trace) _ a (λ e. cc e) refl (k s)
  at (Do Walk) a k = on_line line lines s (Do Walk) _ a (λ e. cc e) refl (k s)
  at (Do (StateOf v)) a k = on_line line lines s (Do (StateOf v)) _ a (λ e. cc e) refl (k s)
  at (Do State) a k = on_line line lines s (Do State) _ a (λ e. cc e) refl (k s)
  at (Do Image) a k = on_line line lines s (Do Image) _ a (λ e. cc e) (refused refl) (k s)
  at (Do Record) a k = on_line line lines s (Do Record) _ a (λ e. cc e) refl (k s)
  at (Do Quit) a k = record { text = []; end = ended.Quit; is = quits a }

all_head : (b : ℕ) (bs : List ℕ) → NoFeed (b ∷ bs) → (b == 10) ≡ false
all_head b bs h = h 0 0 (omega arith)

all_tail : (b : ℕ) (bs : List ℕ) → NoFeed (b ∷ bs) → NoFeed bs
all_tail b bs h = λ k d l. h (suc k) d (omega arith)

pub lines_fed : (line rest : List ℕ) → NoFeed line → lines_of (line ++ 10 ∷ rest) ≡ line ∷ lines_of rest
lines_fed [] rest h = refl
lines_fed (b ∷ bs) rest h = rw (all_head b bs h, lines_fed bs rest (all_tail b bs h)) refl

pub lines_last : (line : List ℕ) → NoFeed line → line ≢ [] → lines_of line ≡ line ∷ []
lines_last [] h n = absurd (n refl)
lines_last (b ∷ []) h n = rw (all_head b [] h) refl
lines_last (b ∷ c ∷ bs) h n = rw (all_head b (c ∷ bs) h, lines_last (c ∷ bs) (all_tail b (c ∷ bs) h) (λ e. cc e)) refl

-- the lines with the next one
pub lines_next : (old new line : List ℕ) (fed : Bool) → TakesLine old line fed new → lines_of old ≡ line ∷ lines_of new
lines_next old new line fed h = grind (arith, lines_fed, lines_last)

-- what was written is a beginning of answers to all
pub cut_talk : (all : List (List ℕ)) (s0 : Shown) (old new whole rest : List ℕ) (end : Ended) → Talks all s0 whole end → Grown old new
    → new ++ rest ≡ old ++ whole → TalksCut all s0 old new
cut_talk all s0 old new whole rest end talks grown e = grind (arith, append_cancel_left, append_assoc)

-- more was written of what was gathered
pub can_write : {all : List (List ℕ)} {s0 : Shown} {lines : List (List ℕ)} {s : Shown} {old w t v u : List ℕ} → CanTalkOn all s0 lines s old w t
    → Gathers (Ok tt) w t [] v u → CanTalkOn all s0 lines s old v u
can_write {all} {s0} {lines} {s} {old} {w} {t} {v} {u} h k = record {
  part = h.part;
  grown = grown_more old w v h.grown k.0;
  said = k.1 ∙ append-nil (w ++ t) ∙ h.said;
  onward = h.onward;
}

-- a line was answered
pub can_answer : {all : List (List ℕ)} {s0 : Shown} {line : List ℕ} {lines : List (List ℕ)} {s r : Shown} {asked : Asked} {old w t v u : List ℕ}
    → CanTalkOn all s0 (line ∷ lines) s old w t → Asks s.program.names line asked → asked ≢ Do Quit → GathersOne (IsAnswer asked s) (Ok tt) w t v u
    → r ≡ asked_after asked s → CanTalkOn all s0 lines r old v u
can_answer {all} {s0} {line} {lines} {s} {r} {asked} {old} {w} {t} {v} {u} h a q k e = record {
  part = h.part ++ k.text;
  grown = grown_more old w v h.grown k.gathers.0;
  said = k.gathers.1 ∙ ap (λ (xs : List ℕ). xs ++ k.text) h.said ∙ append_assoc old h.part k.text;
  onward = λ rest end talks. subst (λ (xs : List ℕ). Talks all s0 xs end) (sym (append_assoc h.part k.text rest))
      (h.onward (k.text ++ rest) end (goes_on asked k.text rest a q k.is (subst (λ (x : Shown). Talks lines x rest end) e talks)));
}

-- ---- the ends
-- the next line can't be had
pub cut_waiting : {all : List (List ℕ)} {s0 : Shown} {lines : List (List ℕ)} {s : Shown} {old w t : List ℕ} → EveryLine
    → CanTalkOn all s0 lines s old w t → TalksCut all s0 old w
cut_waiting {all} {s0} {lines} {s} {old} {w} {t} every h =
    let some = some_talk every lines s in
    grind (arith, cut_talk, append_assoc)

-- a write failed
pub cut_writing : {all : List (List ℕ)} {s0 : Shown} {lines : List (List ℕ)} {s : Shown} {old w t v : List ℕ} → EveryLine
    → CanTalkOn all s0 lines s old w t → CutOff w ((w ++ t) ++ []) v → TalksCut all s0 old v
cut_writing {all} {s0} {lines} {s} {old} {w} {t} {v} every h k =
    let some = some_talk every lines s in
    cut_talk all s0 old v (h.part ++ some.text) (k.rest ++ some.text) some.end (h.onward some.text some.end some.is)
    (grown_more old w v h.grown k.grown)
    (grind (arith, append_assoc, append-nil))

-- an answer was cut off
pub cut_answer : {all : List (List ℕ)} {s0 : Shown} {line : List ℕ} {lines : List (List ℕ)} {s : Shown} {asked : Asked} {f : Fault}
    {old w t v u : List ℕ} → EveryLine → CanTalkOn all s0 (line ∷ lines) s old w t → Asks s.program.names line asked → asked ≢ Do Quit
    → GathersOne (IsAnswer asked s) (Err f) w t v u → TalksCut all s0 old v
cut_answer {all} {s0} {line} {lines} {s} {asked} {f} {old} {w} {t} {v} {u} every h a q k =
    let some = some_talk every lines (asked_after asked s) in
    let text = k.text ++ some.text in
    let cut = k.gathers in
    cut_talk all s0 old v (h.part ++ text) (cut.rest ++ some.text) some.end (h.onward text some.end (goes_on asked k.text some.text a q k.is some.is))
    (grown_more old w v h.grown cut.grown)
    (grind (arith, append_assoc))

-- the last text is written, or a beginning of it
finish_talk : (all : List (List ℕ)) (s0 : Shown) (lines : List (List ℕ)) (s : Shown) (old w t v : List ℕ) (end : Ended)
    (r : Result Ended Fault) → EveryLine → CanTalkOn all s0 lines s old w t → Talks lines s [] end → Finishes r end w t v → TalksOn all s0 r old v
finish_talk all s0 lines s old w t v end r every h talks k = grind (arith, append-nil, cut_talk, grown_more, append_assoc)

-- the input is at its end
pub talk_ends : {all : List (List ℕ)} {s0 : Shown} {lines : List (List ℕ)} {s : Shown} {old w t : List ℕ} (v : List ℕ) (r : Result Ended Fault)
    → EveryLine → CanTalkOn all s0 lines s old w t → lines ≡ [] → Finishes r ended.Input w t v → TalksOn all s0 r old v
talk_ends {all} {s0} {lines} {s} {old} {w} {t} v r every h e k = finish_talk all s0 lines s old w t v ended.Input r every h
    (subst (λ (ls : List (List ℕ)). Talks ls s [] ended.Input) (sym e) input_ends) k

-- `quit` was read
pub talk_quits : {all : List (List ℕ)} {s0 : Shown} {line : List ℕ} {lines : List (List ℕ)} {s : Shown} {old w t : List ℕ} (v : List ℕ)
    (r : Result Ended Fault) → EveryLine → CanTalkOn all s0 (line ∷ lines) s old w t → Asks s.program.names line (Do Quit) →
    Finishes r ended.Quit w t v
    → TalksOn all s0 r old v
talk_quits {all} {s0} {line} {lines} {s} {old} {w} {t} v r every h a k = finish_talk all s0 (line ∷ lines) s old w t v ended.Quit r every h
    (quits a) k

-- the next line stands in front of the others
pub can_next : {all : List (List ℕ)} {s0 s : Shown} (before after : List ℕ) {line : List ℕ} (fed : Bool) {old w t : List ℕ}
    → TakesLine before line fed after
    → CanTalkOn all s0 (lines_of before) s old w t → CanTalkOn all s0 (line ∷ lines_of after) s old w t
can_next {all} {s0} {s} before after {line} fed {old} {w} {t} h k = subst (λ (ls : List (List ℕ)). CanTalkOn all s0 ls s old w t)
    (lines_next before after line fed h) k
