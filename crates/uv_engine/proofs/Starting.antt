-- The lines of a script, one after another.
use Rattle.uv_engine.proofs.Names.{◌≡◌, ◌≢◌, inl, inr, ℕ, ◌+◌, List, [], ◌∷◌, ◌++◌, Bool, true, false, length, Result, Ok, Err, refl, ap, sym, ◌∙◌, subst, arith, ◌==◌, IfErr, append_assoc, append-nil, codes, Fault, Program, lines_of, bytes_eq, bytes_eq-Decides, both_ways, Decides-eqb, elements, Draft, IsScript, MakesFrom, IsBadLine, Parses, ParsesFrom, unread, HasReading, STEPS, Shown, Ended, TalksCut, TalksOn, TakesLine, NoFeed, Buffered, pending, left, Out, Begins, NeverBegins, Ends, BadScript, Converses, IsDeviceFault, fresh_session, talks, here, here_at_end, later, nothing, last_line, one_line, bad_line, no_begin, bad_input, HasAnswer, HasScript, ReadsScript, MissesBegin, after_last, at_line, NoScript, IsStartFault, with_line}
use Rattle.uv_ids.specs.declared.fault.Fault.TheVariants as fault
use Rattle.uv_engine.proofs.Talking.{EveryLine, some_talk}
use Rattle.uv_engine.proofs.Replies.{same_shown}
use Rattle.uv_engine.specs.Out.{IsCut}

-- what was read goes on to the whole input: where the rest has a script its front is this text, and where the rest is
-- never `begin` nor is the whole, which is this text and the rest
pub record CanBegin (input text rest : List ℕ) : Type 0 where
  pub begins : (script commands : List ℕ) → Begins rest script commands → Begins input (text ++ script) commands
  pub never : NeverBegins rest → NeverBegins input
  pub whole : input ≡ text ++ rest

pub can_start : (input : List ℕ) → CanBegin input [] input
can_start input = record { begins = λ script commands h. h; never = λ h. h; whole = refl }

-- one line more that isn't `begin`
more_fed : (input text before line after : List ℕ) → CanBegin input text before → NoFeed line → before ≡ line ++ 10 ∷ after → line ≢ codes "begin"
    → CanBegin input (text ++ (line ++ 10 ∷ [])) after
more_fed input text before line after h n e other = record {
  begins = λ script commands k.
      let front : (text ++ (line ++ 10 ∷ [])) ++ script ≡ text ++ (line ++ 10 ∷ script) = append_assoc text (line ++ 10 ∷ []) script
      ∙ ap (λ (xs : List ℕ). text ++ xs) (append_assoc line (10 ∷ []) script) in
      subst (λ (xs : List ℕ). Begins input xs commands) (sym front)
      (h.begins (line ++ 10 ∷ script) commands (subst (λ (xs : List ℕ). Begins xs (line ++ 10 ∷ script) commands) (sym e) (later n other k)));
  never = λ k. h.never (subst NeverBegins (sym e) (one_line n other k));
  whole = h.whole ∙ ap (λ (xs : List ℕ). text ++ xs) (e ∙ sym (append_assoc line (10 ∷ []) after)) ∙ sym (append_assoc text (line ++ 10 ∷ []) after);
}

-- behind the last line nothing begins
pub fed_line : (line rest : List ℕ) → line ++ 10 ∷ rest ≡ [] → ⊥
fed_line [] rest e = cc e
fed_line (b ∷ bs) rest e = cc e

more_last : (input text before line after : List ℕ) → CanBegin input text before → NoFeed line → before ≡ line → after ≡ [] → line ≢ codes "begin"
    → CanBegin input (text ++ line) after
more_last input text before line after h n e z other =
    let never_line : NeverBegins before = subst NeverBegins (sym e) (last_line n other) in record {
      begins = λ script commands k. absurd (grind (arith, fed_line));
      never = λ k. h.never never_line;
      whole = grind (arith, append-nil, append_assoc);
    }

pub can_go_on : {input text before line after more : List ℕ} (fed : Bool) → CanBegin input text before → TakesLine before line fed after
    → line ≢ codes "begin" → more ≡ text ++ with_line line fed → CanBegin input more after
can_go_on {input} {text} {before} {line} {after} {more} true h k other e = subst (λ (xs : List ℕ). CanBegin input xs after) (sym e)
    (more_fed input text before line after h k.0 k.1 other)
can_go_on {input} {text} {before} {line} {after} {more} false h k other e = subst (λ (xs : List ℕ). CanBegin input xs after) (sym e)
    (more_last input text before line after h k.0 k.2 k.3 other)

begins_here : (before line after : List ℕ) (fed : Bool) → TakesLine before line fed after → line ≡ codes "begin" → Begins before [] after
begins_here before line after true k e = subst (λ (xs : List ℕ). Begins xs [] after) (sym (k.1 ∙ ap (λ (xs : List ℕ). xs ++ 10 ∷ after) e)) here
begins_here before line after false k e = subst (λ (xs : List ℕ). Begins before [] xs) (sym k.3)
    (subst (λ (xs : List ℕ). Begins xs [] []) (sym (k.2 ∙ e)) here_at_end)

-- the line `begin` was read
pub front_begun : {input text before line : List ℕ} (after : List ℕ) (fed : Bool) → CanBegin input text before → TakesLine before line fed after →
    line ≡ codes "begin" → Begins input text after
front_begun {input} {text} {before} {line} after fed h k e =
    subst (λ (xs : List ℕ). Begins input xs after) (append-nil text) (h.begins [] after (begins_here before line after fed k e))

-- the input is at its end
pub front_missing : {input text before : List ℕ} → CanBegin input text before → before ≡ [] → NeverBegins input × (input ≡ text)
front_missing {input} {text} {before} h e =
    (h.never (subst NeverBegins (sym e) nothing), h.whole ∙ ap (λ (xs : List ℕ). text ++ xs) e ∙ append-nil text)

pub missing : (input text : List ℕ) (line : ℕ) → NeverBegins input → input ≡ text → MissesBegin unread text line → Out input [] (BadScript line)
missing input text _ n e (after_last p h) = subst (λ (xs : List ℕ). Out input [] (BadScript (length (lines_of xs) + 1))) e
    (no_begin p n (subst (λ (xs : List ℕ). IsScript xs p) (sym e) h))
missing input text line n e (at_line h) = bad_input n (subst (λ (xs : List ℕ). IsBadLine xs line) (sym e) h)

-- a script that has no line `begin`
pub no_script : (d : Draft) (text : List ℕ) (p : Program) (f : Fault) → MakesFrom d (lines_of text) p →
    f ≡ fault.Script (length (lines_of text) + 1) → NoScript d text f
no_script d text p f h e = subst (NoScript d text) (sym e) (after_last p h)

pub no_script_fault : (d : Draft) (text : List ℕ) (f : Fault) → ParsesFrom d text (Err f) → NoScript d text f
no_script_fault d text (fault.Script line) h = at_line h
no_script_fault d text each h = assumption

-- ---- every input asks for something
-- where an input begins, if it does
pub data Starts (input : List ℕ) : Type 0 where
  begun : (script commands : List ℕ) → Begins input script commands → Starts input
  never : NeverBegins input → Starts input

ends_here : (part : List ℕ) → NoFeed part → Starts part
ends_here part n = at (bytes_eq part (codes "begin")) refl where
  at : (x : Bool) → bytes_eq part (codes "begin") ≡ x → Starts part
  at true e = subst Starts (sym ((bytes_eq-Decides part (codes "begin")).0 e)) (begun [] [] here_at_end)
  at false e = never (last_line n (λ h. both_ways _ e ((bytes_eq-Decides part (codes "begin")).1 h)))

line_starts : (part rest : List ℕ) → NoFeed part → part ≢ codes "begin" → Starts rest → Starts (part ++ 10 ∷ rest)
line_starts part rest n other (begun script commands b) = begun (part ++ 10 ∷ script) commands (later n other b)
line_starts part rest n other (never k) = never (one_line n other k)

line_here : (part rest : List ℕ) → NoFeed part → Starts rest → Starts (part ++ 10 ∷ rest)
line_here part rest n h = at (bytes_eq part (codes "begin")) refl where
  at : (x : Bool) → bytes_eq part (codes "begin") ≡ x → Starts (part ++ 10 ∷ rest)
  at true e = subst (λ (xs : List ℕ). Starts (xs ++ 10 ∷ rest)) (sym ((bytes_eq-Decides part (codes "begin")).0 e)) (begun [] rest here)
  at false e = line_starts part rest n (λ k. both_ways _ e ((bytes_eq-Decides part (codes "begin")).1 k)) h

starts_from : (part bytes : List ℕ) → NoFeed part → Starts (part ++ bytes)
starts_from part [] n = subst Starts (sym (append-nil part)) (ends_here part n)
starts_from part (b ∷ bs) n = at (b == 10) refl (λ more k. starts_from more bs k) where
  at : (x : Bool) → (b == 10) ≡ x → ((more : List ℕ) → NoFeed more → Starts (more ++ bs)) → Starts (part ++ b ∷ bs)
  at true e on = subst (λ (c : ℕ). Starts (part ++ c ∷ bs)) (sym ((Decides-eqb b 10).0 e))
      (line_here part bs n (on [] (λ k d l. absurd (omega arith))))
  at false e on = subst Starts (append_assoc part (b ∷ []) bs) (on (part ++ b ∷ []) (grind (arith, elements)))

pub starts : (input : List ℕ) → Starts input
starts input = starts_from [] input (λ k d l. absurd (omega arith))

abbrev pub EveryText : Type 0
EveryText = (text : List ℕ) → HasReading text

-- something is written for every input
of_begun : EveryText → EveryLine → (input script commands : List ℕ) → Begins input script commands → HasAnswer input
of_begun texts lines input script commands b = at (texts script) where
  at : HasReading script → HasAnswer input
  at (inl r) = let some = some_talk lines (lines_of commands)
      (fresh_session r.0) in record { text = some.text; end = Ends some.end; is = talks script commands r.0 b r.1 some.is }
  at (inr r) = record { text = []; end = BadScript r.0; is = bad_line script commands b r.1 }

of_never : EveryText → (input : List ℕ) → NeverBegins input → HasAnswer input
of_never texts input n = at (texts input) where
  at : HasReading input → HasAnswer input
  at (inl r) = record { text = []; end = BadScript (length (lines_of input) + 1); is = no_begin r.0 n r.1 }
  at (inr r) = record { text = []; end = BadScript r.0; is = bad_input n r.1 }

pub some_out : EveryText → EveryLine → (input : List ℕ) → HasAnswer input
some_out texts lines input = grind (arith, starts, of_begun, of_never)

-- ---- the whole
-- nothing was written yet
pub cut_start : EveryText → EveryLine → (input old : List ℕ) → IsCut input old old
cut_start texts lines input old = let some = some_out texts lines input in record {
  text = some.text;
  end = some.end;
  is = some.is;
  cut = record { part = []; rest = some.text; whole = refl; written = sym (append-nil old) };
}

pub no_start : EveryText → EveryLine → (input rest old : List ℕ) (f : Fault) → IsStartFault f → ReadsScript input (Err f) rest
    → Converses input (Err f) old old
no_start texts lines input rest old f s h = grind (arith, cut_start)

-- there is no memory for the machine
pub no_machine : EveryText → EveryLine → (input old : List ℕ) (f : Fault) → f ≡ fault.Memory → Converses input (Err f) old old
no_machine texts lines input old f e = subst (λ (x : Fault). Converses input (Err x) old old) (sym e) (cut_start texts lines input old)

talk_cut : (input : List ℕ) (p : Program) (commands old new : List ℕ) → HasScript input p commands
    → TalksCut (lines_of commands) (fresh_session p) old new → IsCut input old new
talk_cut input p commands old new h t = record { text = t.text; end = Ends t.end; is = talks h.script commands p h.begins h.is t.is; cut = t.cut }

-- the commands were answered
pub talked : (input : List ℕ) (p : Program) (commands : List ℕ) (s : Shown) (old new : List ℕ) (r : Result Ended Fault) → HasScript input p commands
    → s ≡ fresh_session p → IfErr r IsDeviceFault → TalksOn (lines_of commands) s r old new → Converses input r old new
talked input p commands s old new r h e d t = at r d (subst (λ (x : Shown). TalksOn (lines_of commands) x r old new) e t) where
  at : (r : Result Ended Fault) → IfErr r IsDeviceFault → TalksOn (lines_of commands) (fresh_session p) r old new → Converses input r old new
  at (Ok end) d t = record { text = t.text; is = talks h.script commands p h.begins h.is t.is; written = t.written }
  at (Err fault.Memory) d t = talk_cut input p commands old new h t
  at (Err fault.Read) d t = talk_cut input p commands old new h t
  at (Err fault.Write) d t = talk_cut input p commands old new h t
  at (Err (fault.Script line)) d t = absurd d
  at (Err (fault.Refused why)) d t = absurd d
  at (Err fault.StepsFull) d t = absurd d
  at (Err (fault.Torn place)) d t = absurd d
  at (Err fault.Stalled) d t = absurd d
  at (Err (fault.Differs place)) d t = absurd d
  at (Err fault.Limit) d t = absurd d

-- the session of a machine that has begun
pub begun_session : (s : Shown) (p q : Program) → s.program ≡ q → q ≡ p → s.limit ≡ STEPS → s.standing ≡ [] → s.taken_back ≡ [] → s.breaks ≡ [] →
    s ≡ fresh_session p
begun_session s p q a b l x y z = same_shown s (fresh_session p) (a ∙ b) l x y z

-- before anything was read the whole input is left
pub reads_whole : (b : Buffered) (input rest : List ℕ) (r : Result Program Fault) → pending b ≡ [] → ReadsScript (left b input) r rest
    → ReadsScript input r rest
reads_whole b input rest r e h = subst (λ (xs : List ℕ). ReadsScript xs r rest) (ap (λ (xs : List ℕ). xs ++ input) e) h
