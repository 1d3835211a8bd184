-- The tests of the code decide which commands there are.
use Rattle.uv_text.proofs.Names.{if◌then◌else◌, Bool, ◌≡◌, ℕ, ◌≤◌, List, [], ◌∷◌, true, false, ◌&&◌, nat_le, Option, Some, None, option_map, refl, ap, sym, ◌∙◌, bytes_eq, same_Some, and_parts, cond_both, leb-true, le-leb, both_ways, Var, Code, Event, Program, has_step, Take, Finish, Cancel, Send, Io, Tick, Phase, code_word, phase_word, fields_of, IsLine, IsNumber, IsDeclared, is_line, is_skipped, line_begins, is_line_decides, is_skipped_decides, number_of-sound, number_of-complete, place_of-sound, place_of-finds, AreDistinct, declared_contains, place_complete, Break, Command, Step, Back, Forward, AddBreak, Asked, Nothing, Do, Bad, IsBreak, IsStep, IsCommand, IsNoCommand, Asks, nothing, command, bad, MOST, LAST_WORKER, section_of, break_of, command_alone, worker_step, step_by, command_by, clears, command_with, command_with_two, command_of, asked_for, asked_of, codes, IfSome, code_named, number_of, StateOf}
use Rattle.uv_ids.specs.declared.phase.Phase.TheVariants as phase
use Rattle.uv_ids.specs.Words.{phase_named}
use Rattle.uv_ids.proofs.Words.{same, code_right, code_found, phase_right}
use Rattle.uv_script.specs.Reading.{place_of}
use Rattle.uv_session.specs.declared.breaks.Break.TheVariants as at
use Rattle.uv_text.specs.declared.command.Command.TheVariants.{Loop}
use Rattle.uv_text.specs.Commands as is

section_found : (x : Phase) → section_of (phase_word x) ≡ Some (at.Section x)
unfolding phase_named
section_found phase.Pending = refl
section_found each = refl

-- ---- what is read is so

-- what was found for the fields is right
abbrev Right : List (List ℕ) → List (List ℕ) → Option Command → Type 0
Right names fields (Some c) = IsCommand names fields c
Right names fields None = Unit {0}

alone : (word first : List ℕ) → word ≡ first → word ∷ [] ≡ first ∷ []
alone word first e = ap (λ (w : List ℕ). w ∷ []) e

pair : (word argument first : List ℕ) → word ≡ first → word ∷ argument ∷ [] ≡ first ∷ argument ∷ []
pair word argument first e = ap (λ (w : List ℕ). w ∷ argument ∷ []) e

alone_right : (names : List (List ℕ)) (word : List ℕ) → Right names (word ∷ []) (command_alone word)
alone_right names word =
    let P : Option Command → Type 0 = Right names (word ∷ []) in
    cond_both (bytes_eq word (codes "loop")) _ _ P (λ a. is.one_step (alone word _ (same _ _ a)))
    (λ _. cond_both (bytes_eq word (codes "rback")) _ _ P (λ a. is.back_to_break (alone word _ (same _ _ a)))
    (λ _. cond_both (bytes_eq word (codes "trace")) _ _ P (λ a. is.trace (alone word _ (same _ _ a)))
    (λ _. cond_both (bytes_eq word (codes "walk")) _ _ P (λ a. is.walk (alone word _ (same _ _ a)))
    (λ _. cond_both (bytes_eq word (codes "state")) _ _ P (λ a. is.state (alone word _ (same _ _ a)))
    (λ _. cond_both (bytes_eq word (codes "image")) _ _ P (λ a. is.image (alone word _ (same _ _ a)))
    (λ _. cond_both (bytes_eq word (codes "record")) _ _ P (λ a. is.recording (alone word _ (same _ _ a)))
    (λ _. cond_both (bytes_eq word (codes "quit")) _ _ P (λ a. is.quit (alone word _ (same _ _ a))) (λ _. tt))))))))

-- what was found for a word and what follows it is right
abbrev RightStep : List (List ℕ) → List ℕ → List ℕ → Option Event → Type 0
RightStep names word argument (Some e) = IsStep names word argument e
RightStep names word argument None = Unit {0}

worker_right : (names : List (List ℕ)) (word argument : List ℕ) (n : ℕ) → IsNumber argument n → n ≤ LAST_WORKER →
    RightStep names word argument (worker_step word n)
worker_right names word argument n k l =
    let P : Option Event → Type 0 = RightStep names word argument in
    cond_both (bytes_eq word (codes "take")) _ _ P (λ a. is.take n (same _ _ a) k l)
    (λ _. cond_both (bytes_eq word (codes "finish")) _ _ P (λ a. is.finish n (same _ _ a) k l) (λ _. tt))

step_right : (names : List (List ℕ)) (word argument : List ℕ) (n : ℕ) → IsNumber argument n → RightStep names word argument (step_by word n)
step_right names word argument n k =
    let P : Option Event → Type 0 = RightStep names word argument in
    cond_both (bytes_eq word (codes "tick")) _ _ P (λ a. is.tick n (same _ _ a) k)
    (λ _. cond_both (nat_le n LAST_WORKER) (worker_step word n) None P (λ u. worker_right names word argument n k (leb-true n LAST_WORKER u))
    (λ _. tt))

steps_right : (names : List (List ℕ)) (word argument : List ℕ) (o : Option Event) → RightStep names word argument o →
    Right names (word ∷ argument ∷ []) (option_map Step o)
steps_right names word argument None h = tt
steps_right names word argument (Some e) h = is.step word argument e refl h

by_right : (names : List (List ℕ)) (word argument : List ℕ) (r : Option ℕ) → number_of argument ≡ r →
    Right names (word ∷ argument ∷ []) (command_by word r)
by_right names word argument None z = tt
by_right names word argument (Some n) z =
    let P : Option Command → Type 0 = Right names (word ∷ argument ∷ []) in
    let k = number_of-sound argument n z in
    cond_both (bytes_eq word (codes "loop")) _ _ P
    (λ a. cond_both (nat_le 1 n && nat_le n MOST) (Some (Loop n)) None P
    (λ u. let parts = and_parts _ _ u in is.steps argument n (pair word argument _ (same _ _ a)) k (leb-true 1 n parts.0) (leb-true n MOST parts.1))
    (λ _. tt))
    (λ _. cond_both (bytes_eq word (codes "back")) _ _ P
    (λ a. cond_both (nat_le n MOST) (Some (Back n)) None P
    (λ u. is.back argument n (pair word argument _ (same _ _ a)) k (leb-true n MOST u)) (λ _. tt))
    (λ _. cond_both (bytes_eq word (codes "forward")) _ _ P
    (λ a. cond_both (nat_le n MOST) (Some (Forward n)) None P
    (λ u. is.forward argument n (pair word argument _ (same _ _ a)) k (leb-true n MOST u)) (λ _. tt))
    (λ _. steps_right names word argument (step_by word n) (step_right names word argument n k))))

clears_right : (names : List (List ℕ)) (word argument : List ℕ) → word ≡ codes "break" → Right names (word ∷ argument ∷ []) (clears argument)
clears_right names word argument w =
    cond_both (bytes_eq argument (codes "clear")) _ _ (Right names (word ∷ argument ∷ []))
    (λ a. is.clear_breaks (pair word argument _ w ∙ ap (λ (x : List ℕ). codes "break" ∷ x ∷ []) (same _ _ a))) (λ _. tt)

cancels_right : (names : List (List ℕ)) (word argument : List ℕ) (v : Option Var) → word ≡ codes "cancel" → place_of names argument ≡ v →
    Right names (word ∷ argument ∷ []) (option_map (λ (u : Var). Step (Cancel u)) v)
cancels_right names word argument None w z = tt
cancels_right names word argument (Some v) w z = is.step word argument (Cancel v) refl (is.cancel v w (place_of-sound names argument v z))

sends_right : (names : List (List ℕ)) (word argument : List ℕ) (v : Option Var) → word ≡ codes "send" → place_of names argument ≡ v →
    Right names (word ∷ argument ∷ []) (option_map (λ (u : Var). Step (Send u)) v)
sends_right names word argument None w z = tt
sends_right names word argument (Some v) w z = is.step word argument (Send v) refl (is.send v w (place_of-sound names argument v z))

ios_right : (names : List (List ℕ)) (word argument : List ℕ) (v : Option Var) → word ≡ codes "io" → place_of names argument ≡ v →
    Right names (word ∷ argument ∷ []) (option_map (λ (u : Var). Step (Io u)) v)
ios_right names word argument None w z = tt
ios_right names word argument (Some v) w z = is.step word argument (Io v) refl (is.io v w (place_of-sound names argument v z))

states_right : (names : List (List ℕ)) (word argument : List ℕ) (v : Option Var) → word ≡ codes "state" → place_of names argument ≡ v →
    Right names (word ∷ argument ∷ []) (option_map StateOf v)
states_right names word argument None w z = tt
states_right names word argument (Some v) w z = is.state_of argument v (pair word argument _ w) (place_of-sound names argument v z)

with_right : (names : List (List ℕ)) (word argument : List ℕ) → Right names (word ∷ argument ∷ []) (command_with names word argument)
with_right names word argument =
    let P : Option Command → Type 0 = Right names (word ∷ argument ∷ []) in
    cond_both (bytes_eq word (codes "cancel")) _ _ P (λ a. cancels_right names word argument (place_of names argument) (same _ _ a) refl)
    (λ _. cond_both (bytes_eq word (codes "send")) _ _ P (λ a. sends_right names word argument (place_of names argument) (same _ _ a) refl)
    (λ _. cond_both (bytes_eq word (codes "io")) _ _ P (λ a. ios_right names word argument (place_of names argument) (same _ _ a) refl)
    (λ _. cond_both (bytes_eq word (codes "state")) _ _ P (λ a. states_right names word argument (place_of names argument) (same _ _ a) refl)
    (λ _. cond_both (bytes_eq word (codes "break")) _ _ P (λ a. clears_right names word argument (same _ _ a))
    (λ _. by_right names word argument (number_of argument) refl)))))

-- ---- a break

-- what was found for the fields behind `break` is right
abbrev RightBreak : List (List ℕ) → List ℕ → List ℕ → Option Break → Type 0
RightBreak names what argument (Some b) = IsBreak names what argument b
RightBreak names what argument None = Unit {0}

calls_right : (names : List (List ℕ)) (what argument : List ℕ) (v : Option Var) → what ≡ codes "call" → place_of names argument ≡ v →
    RightBreak names what argument (option_map at.Call v)
calls_right names what argument None w z = tt
calls_right names what argument (Some v) w z = is.call v w (place_of-sound names argument v z)

codes_right : (names : List (List ℕ)) (what argument : List ℕ) (c : Option Code) → what ≡ codes "code" → IfSome c
    (λ (x : Code). argument ≡ code_word x) →
    RightBreak names what argument (option_map at.Code c)
codes_right names what argument None w h = tt
codes_right names what argument (Some c) w h = is.code c w h

phases_right : (names : List (List ℕ)) (what argument : List ℕ) (x : Option Phase) → what ≡ codes "section" → IfSome x
    (λ (y : Phase). argument ≡ phase_word y) →
    RightBreak names what argument (option_map at.Section x)
phases_right names what argument None w h = tt
phases_right names what argument (Some x) w h = is.section x w h

break_right : (names : List (List ℕ)) (what argument : List ℕ) → RightBreak names what argument (break_of names what argument)
break_right names what argument =
    let P : Option Break → Type 0 = RightBreak names what argument in
    cond_both (bytes_eq what (codes "call")) _ _ P (λ a. calls_right names what argument (place_of names argument) (same _ _ a) refl)
    (λ _. cond_both (bytes_eq what (codes "code")) _ _ P
    (λ a. codes_right names what argument (code_named argument) (same _ _ a) (code_right argument))
    (λ _. cond_both (bytes_eq what (codes "section")) _ _ P
    (λ a. cond_both (bytes_eq argument (codes "poll")) (Some at.Poll) (option_map at.Section (phase_named argument)) P
    (λ p. is.poll (same _ _ a) (same _ _ p)) (λ _. phases_right names what argument (phase_named argument) (same _ _ a) (phase_right argument)))
    (λ _. tt)))

adds_right : (names : List (List ℕ)) (word what argument : List ℕ) (b : Option Break) → word ≡ codes "break" → RightBreak names what argument b →
    Right names (word ∷ what ∷ argument ∷ []) (option_map AddBreak b)
adds_right names word what argument None w h = tt
adds_right names word what argument (Some b) w h = is.add_break what argument b (ap (λ (x : List ℕ). x ∷ what ∷ argument ∷ []) w) h

two_right : (names : List (List ℕ)) (word what argument : List ℕ) →
    Right names (word ∷ what ∷ argument ∷ []) (command_with_two names word what argument)
two_right names word what argument =
    cond_both (bytes_eq word (codes "break")) _ _ (Right names (word ∷ what ∷ argument ∷ []))
    (λ a. adds_right names word what argument (break_of names what argument) (same _ _ a) (break_right names what argument)) (λ _. tt)

-- ---- any fields
fields_right : (names fields : List (List ℕ)) → Right names fields (command_of names fields)
fields_right names [] = tt
fields_right names (word ∷ []) = alone_right names word
fields_right names (word ∷ argument ∷ []) = with_right names word argument
fields_right names (word ∷ what ∷ argument ∷ []) = two_right names word what argument
fields_right names (word ∷ what ∷ argument ∷ more ∷ rest) = tt

-- ---- every command is read

-- the number that a declared name has; it is the declared one where no name is declared twice
record Place (names : List (List ℕ)) (name : List ℕ) (v : Var) : Type 0 where
  number : Var
  found : place_of names name ≡ Some number
  same : AreDistinct names → number ≡ v

place : (names : List (List ℕ)) (name : List ℕ) (v : Var) → IsDeclared names name v → Place names name v
place names name v held = by (place_of names name) refl where
  by : (o : Option Var) → place_of names name ≡ o → Place names name v
  by None e = absurd (place_of-finds names name e (declared_contains names name v held))
  by (Some w) e = record { number = w; found = e; same = λ d. same_Some _ _ (sym e ∙ place_complete names name v d held) }

-- the break that is read from fields that are one
record ReadsBreak (names : List (List ℕ)) (what argument : List ℕ) (b : Break) : Type 0 where
  break : Break
  found : break_of names what argument ≡ Some break
  same : AreDistinct names → break ≡ b

reads_break : (names : List (List ℕ)) (what argument : List ℕ) (b : Break) → IsBreak names what argument b → ReadsBreak names what argument b
reads_break names what argument b (is.call v w held) =
    let p = place names argument v held in
    record { break = at.Call p.number; found = rw w (ap (option_map at.Call) p.found); same = λ d. ap at.Call (p.same d) }
reads_break names what argument b (is.code c w e) =
    record { break = at.Code c; found = rw (w, e) (ap (option_map at.Code) (code_found c)); same = λ d. refl }
reads_break names what argument b (is.section x w e) = record { break = at.Section x; found = rw (w, e) (section_found x); same = λ d. refl }
reads_break names what argument b (is.poll w e) = record { break = at.Poll; found = rw (w, e) refl; same = λ d. refl }

-- the command that is read from fields that are one
record Reads (names fields : List (List ℕ)) (c : Command) : Type 0 where
  command : Command
  found : command_of names fields ≡ Some command
  same : AreDistinct names → command ≡ c

reads : (names fields : List (List ℕ)) (c : Command) → command_of names fields ≡ Some c → Reads names fields c
reads names fields c e = record { command = c; found = e; same = λ d. refl }

-- the step from outside that is read from fields that are one
record ReadsStep (names : List (List ℕ)) (word argument : List ℕ) (e : Event) : Type 0 where
  step : Event
  found : command_with names word argument ≡ Some (Step step)
  same : AreDistinct names → step ≡ e
  alike : (p : Program) → has_step p step ≡ has_step p e

reads_step : (names : List (List ℕ)) (word argument : List ℕ) (e : Event) → IsStep names word argument e → ReadsStep names word argument e
reads_step names word argument e (is.take worker w h l) = record {
  step = Take worker;
  found = rw w (ap (command_by (codes "take")) (number_of-complete argument worker h) ∙ rw (le-leb worker LAST_WORKER l) refl);
  same = λ d. refl;
  alike = λ p. refl;
}
reads_step names word argument e (is.finish worker w h l) = record {
  step = Finish worker;
  found = rw w (ap (command_by (codes "finish")) (number_of-complete argument worker h) ∙ rw (le-leb worker LAST_WORKER l) refl);
  same = λ d. refl;
  alike = λ p. refl;
}
reads_step names word argument e (is.cancel v w held) =
    let p = place names argument v held in
    record {
      step = Cancel p.number;
      found = rw w (ap (option_map (λ (u : Var). Step (Cancel u))) p.found);
      same = λ d. ap Cancel (p.same d);
      alike = λ p. refl;
    }
reads_step names word argument e (is.send v w held) =
    let p = place names argument v held in
    record {
      step = Send p.number;
      found = rw w (ap (option_map (λ (u : Var). Step (Send u))) p.found);
      same = λ d. ap Send (p.same d);
      alike = λ p. refl;
    }
reads_step names word argument e (is.io v w held) =
    let p = place names argument v held in
    record {
      step = Io p.number;
      found = rw w (ap (option_map (λ (u : Var). Step (Io u))) p.found);
      same = λ d. ap Io (p.same d);
      alike = λ p. refl;
    }
reads_step names word argument e (is.tick ms w h) = record {
  step = Tick ms;
  found = rw w (ap (command_by (codes "tick")) (number_of-complete argument ms h));
  same = λ d. refl;
  alike = λ p. refl;
}

reads_command : (names fields : List (List ℕ)) (c : Command) → IsCommand names fields c → Reads names fields c
reads_command names fields c (is.one_step e) = reads names fields c (ap (command_of names) e)
reads_command names fields c (is.steps number n e h l u) = reads names fields c
    (ap (command_of names) e ∙ ap (command_by (codes "loop")) (number_of-complete number n h) ∙ rw (le-leb 1 n l, le-leb n MOST u) refl)
reads_command names fields c (is.step word argument e f h) =
    let r = reads_step names word argument e h in
    record { command = Step r.step; found = ap (command_of names) f ∙ r.found; same = λ d. ap Step (r.same d) }
reads_command names fields c (is.back number n e h l) = reads names fields c
    (ap (command_of names) e ∙ ap (command_by (codes "back")) (number_of-complete number n h) ∙ rw (le-leb n MOST l) refl)
reads_command names fields c (is.forward number n e h l) = reads names fields c
    (ap (command_of names) e ∙ ap (command_by (codes "forward")) (number_of-complete number n h) ∙ rw (le-leb n MOST l) refl)
reads_command names fields c (is.add_break what argument b e h) =
    let p = reads_break names what argument b h in
    record {
      command = AddBreak p.break;
      found = ap (command_of names) e ∙ ap (λ (o : Option Break). option_map AddBreak o) p.found;
      same = λ d. ap AddBreak (p.same d);
    }
reads_command names fields c (is.clear_breaks e) = reads names fields c (ap (command_of names) e)
reads_command names fields c (is.back_to_break e) = reads names fields c (ap (command_of names) e)
reads_command names fields c (is.trace e) = reads names fields c (ap (command_of names) e)
reads_command names fields c (is.walk e) = reads names fields c (ap (command_of names) e)
reads_command names fields c (is.state e) = reads names fields c (ap (command_of names) e)
reads_command names fields c (is.state_of name v e held) =
    let p = place names name v held in
    record { command = StateOf p.number; found = ap (command_of names) e ∙ ap (option_map StateOf) p.found; same = λ d. ap StateOf (p.same d) }
reads_command names fields c (is.image e) = reads names fields c (ap (command_of names) e)
reads_command names fields c (is.recording e) = reads names fields c (ap (command_of names) e)
reads_command names fields c (is.quit e) = reads names fields c (ap (command_of names) e)

-- where nothing is read there is no command
none_read : (names fields : List (List ℕ)) → command_of names fields ≡ None → IsNoCommand names fields
none_read names fields z c h = let found = (reads_command names fields c h).found in cc (found, z)

-- ---- any line
told : (names : List (List ℕ)) (line : List ℕ) → is_line line ≡ true → is_skipped line ≡ false → (r : Option Command)
    → command_of names (fields_of line) ≡ r → Right names (fields_of line) r → Asks names line (asked_for r)
told names line e s (Some c) z h = command c ((is_line_decides line).0 e) h
told names line e s None z h = bad (λ _ k. both_ways _ s ((is_skipped_decides line).1 k)) (λ _. none_read names (fields_of line) z)

pub asks : (names : List (List ℕ)) (line : List ℕ) → Asks names line (asked_of names line)
asks names line = cond_both (is_line line) _ _ (Asks names line)
    (λ e. cond_both (is_skipped line) _ _ (Asks names line)
    (λ s. nothing ((is_line_decides line).0 e) ((is_skipped_decides line).0 s))
    (λ s. told names line e s (command_of names (fields_of line)) refl (fields_right names (fields_of line))))
    (λ e. bad (λ l _. both_ways _ e ((is_line_decides line).1 l)) (λ l. absurd (both_ways _ e ((is_line_decides line).1 l))))

-- ---- one line asks for one thing

-- a step from outside isn't skipped
step_says : {names : List (List ℕ)} {e : Event} (line word argument : List ℕ) → fields_of line ≡ word ∷ argument ∷ [] → IsStep names word argument e →
    is_skipped line ≡ false
step_says line word argument f (is.take worker w h l) = line_begins line _ _ _ (f ∙ pair word argument _ w)
step_says line word argument f (is.finish worker w h l) = line_begins line _ _ _ (f ∙ pair word argument _ w)
step_says line word argument f (is.cancel v w held) = line_begins line _ _ _ (f ∙ pair word argument _ w)
step_says line word argument f (is.send v w held) = line_begins line _ _ _ (f ∙ pair word argument _ w)
step_says line word argument f (is.io v w held) = line_begins line _ _ _ (f ∙ pair word argument _ w)
step_says line word argument f (is.tick ms w h) = line_begins line _ _ _ (f ∙ pair word argument _ w)

-- a command isn't skipped
says_something : (names : List (List ℕ)) (line : List ℕ) (c : Command) → IsCommand names (fields_of line) c → is_skipped line ≡ false
says_something names line c (is.one_step e) = line_begins line _ _ _ e
says_something names line c (is.steps number n e h l u) = line_begins line _ _ _ e
says_something names line c (is.step word argument e f h) = step_says line word argument f h
says_something names line c (is.back number n e h l) = line_begins line _ _ _ e
says_something names line c (is.forward number n e h l) = line_begins line _ _ _ e
says_something names line c (is.add_break what argument b e h) = line_begins line _ _ _ e
says_something names line c (is.clear_breaks e) = line_begins line _ _ _ e
says_something names line c (is.back_to_break e) = line_begins line _ _ _ e
says_something names line c (is.trace e) = line_begins line _ _ _ e
says_something names line c (is.walk e) = line_begins line _ _ _ e
says_something names line c (is.state e) = line_begins line _ _ _ e
says_something names line c (is.state_of name v e held) = line_begins line _ _ _ e
says_something names line c (is.image e) = line_begins line _ _ _ e
says_something names line c (is.recording e) = line_begins line _ _ _ e
says_something names line c (is.quit e) = line_begins line _ _ _ e

reads_only : (names fields : List (List ℕ)) (c : Command) → AreDistinct names → IsCommand names fields c → command_of names fields ≡ Some c
reads_only names fields c distinct h = let r = reads_command names fields c h in r.found ∙ ap Some (r.same distinct)

no_command : (names fields : List (List ℕ)) → IsNoCommand names fields → command_of names fields ≡ None
no_command names fields none = by (command_of names fields) refl (fields_right names fields) where
  by : (o : Option Command) → command_of names fields ≡ o → Right names fields o → o ≡ None
  by None e h = refl
  by (Some c) e h = absurd (none c h)

-- what a line asks for is what the code reads
pub asks_only : (names : List (List ℕ)) (line : List ℕ) (asked : Asked) → AreDistinct names → Asks names line asked → asked ≡ asked_of names line
asks_only names line asked distinct (nothing l s) = rw ((is_line_decides line).1 l, (is_skipped_decides line).1 s) refl
asks_only names line asked distinct (command c l h) =
    rw ((is_line_decides line).1 l, says_something names line c h, reads_only names (fields_of line) c distinct h) refl
asks_only names line asked distinct (bad skip none) = by (is_line line) refl (is_skipped line) refl where
  by : (a : Bool) → is_line line ≡ a → (b : Bool) → is_skipped line ≡ b
      → ◌≡◌ {A = Asked} Bad (if a then (if b then Nothing else asked_for (command_of names (fields_of line))) else Bad)
  by false e b f = refl
  by true e true f = absurd (skip ((is_line_decides line).0 e) ((is_skipped_decides line).0 f))
  by true e false f = rw (no_command names (fields_of line) (none ((is_line_decides line).0 e))) refl

pub asks_one : (names : List (List ℕ)) (line : List ℕ) (a b : Asked) → AreDistinct names → Asks names line a → Asks names line b → a ≡ b
asks_one names line a b distinct h k = asks_only names line a distinct h ∙ sym (asks_only names line b distinct k)

pub asks_read : (names : List (List ℕ)) (line : List ℕ) (asked : Asked) → asked ≡ asked_of names line → Asks names line asked
asks_read names line asked e = rw e (asks names line)

-- a step from outside is found, if not the same one where a name is declared twice
pub step_found : (p : Program) (line : List ℕ) (e : Event) → IsLine line → IsCommand p.names (fields_of line) (Step e) →
    (step : Event) × (asked_of p.names line ≡ Do (Step step)) × (has_step p step ≡ has_step p e)
step_found p line e l (is.step word argument _ f h) =
    let r = reads_step p.names word argument e h in
    (r.step, rw ((is_line_decides line).1 l, step_says line word argument f h, f, r.found) refl, r.alike p)

pub ruleset reading = (asks, asks_read, asks_one)
