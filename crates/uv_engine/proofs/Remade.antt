-- The recording of a script and of steps that it takes is read as that very script, those steps and their callbacks; so its rerun says same,
-- and nothing else.
use Rattle.uv_script.specs.Text.{script_text}
use Rattle.uv_engine.proofs.Names.{ℕ, ◌+◌, ◌≤◌, List, [], ◌∷◌, ◌++◌, length, map, Contains, refl, sym, subst, arith, append_assoc, append-nil, codes, AllByRecursion, Event, Var, Callback, CallbackLine, MainOp, Program, worker_count, lines_of, IsLine, IsSkipped, main_line, callback_line, script_callbacks, script_lines, IsName, unread, IsScript, is_line_decides, settled, lines_back, lines_read_back, read_lines, script_written, SaysStep, IsCallbackLine, step_line, callback_lines, recording_lines, played, callbacks_said, step_said, CanBe, Same, Start, InScript, InSteps, InCalls, Whole, version, begins, step, calls, callback, ends, ReadsAll, none, one, NoneSkipped, AllTaken, same, HasVerdict, ◌≡◌, Bool, true, false, has_io, from_heap, first_line, version_line, unread_in, Version, Settings, Draft, Reads, AreWritten, text_makes, reads_without_io, has_step, setting_lines}
use Rattle.uv_script.specs.Grammar as script
use Rattle.uv_text.specs.Recording.{recording_text}
use Rattle.uv_engine.specs.declared.version.Version.TheVariants as versions
use Rattle.uv_engine.proofs.Recordings.{reads_on, begins_says, script_on}

-- ---- its lines

every_append : (P : List ℕ → Type 0) (xs ys : List (List ℕ)) → AllByRecursion P xs → AllByRecursion P ys → AllByRecursion P (xs ++ ys)
every_append P [] ys h k = k
every_append P (x ∷ xs) ys h k = (h.0, every_append P xs ys h.1 k)

step_is_line : (p : Program) (line : List ℕ) (e : Event) → SaysStep p line e → IsLine line
step_is_line p line e e3 = grind arith

called_is_line : (line : List ℕ) → IsCallbackLine line → IsLine line
called_is_line line each = grind arith

called_are_lines : (ls : List (List ℕ)) → AllByRecursion IsCallbackLine ls → AllByRecursion IsLine ls
called_are_lines [] h = tt
called_are_lines (l ∷ ls) h = (called_is_line l h.0, called_are_lines ls h.1)

-- the steps say what they are
abbrev pub Said : Program → Event → Type 0
Said p e = SaysStep p (step_line p.names e) e

steps_are_lines : (p : Program) (es : List Event) → AllByRecursion (Said p) es → AllByRecursion IsLine (map (step_line p.names) es)
steps_are_lines p [] h = tt
steps_are_lines p (e ∷ es) h = (step_is_line p (step_line p.names e) e h.0, steps_are_lines p es h.1)

-- no line of a script's text is skipped
none_append : (xs ys : List (List ℕ)) → NoneSkipped xs → NoneSkipped ys → NoneSkipped (xs ++ ys)
none_append [] ys h k = k
none_append (x ∷ xs) ys h k = (h.0, none_append xs ys h.1 k)

none_mapped : {A : Type 0} (f : A → List ℕ) (xs : List A) → ((x : A) → IsSkipped (f x) → ⊥) → NoneSkipped (map f xs)
none_mapped f [] each = tt
none_mapped f (x ∷ xs) each = (each x, none_mapped f xs each)

callback_says : (names : List (List ℕ)) (kind : Callback) (v : Var) (line : CallbackLine) → IsSkipped (callback_line names kind v line) → ⊥
callback_says names each v line = grind arith

callbacks_say : (p : Program) (n : ℕ) (names : List (List ℕ)) → NoneSkipped (script_callbacks p n names)
callbacks_say p n [] = tt
callbacks_say p n (name ∷ names) = search (none_mapped, callback_says, none_append, (callbacks_say p (n + 1) names))

steps_on : (p : Program) (before es : List Event) → AllByRecursion (Said p) es →
    ReadsAll (InSteps p before) (map (step_line p.names) es) (InSteps p (before ++ es))
steps_on p before [] h = subst (λ (xs : List Event). ReadsAll (InSteps p before) [] (InSteps p xs)) (sym (append-nil before)) none
steps_on p before (e ∷ es) h =
    subst (λ (xs : List Event). ReadsAll (InSteps p before) (map (step_line p.names) (e ∷ es)) (InSteps p xs)) (append_assoc before (e ∷ []) es)
    (one (step h.0) (steps_on p (before ++ e ∷ []) es h.1))

calls_on : (p : Program) (es : List Event) (before ls : List (List ℕ)) → AllByRecursion IsCallbackLine ls →
    ReadsAll (InCalls p es before) ls (InCalls p es (before ++ ls))
calls_on p es before [] h =
    subst (λ (xs : List (List ℕ)). ReadsAll (InCalls p es before) [] (InCalls p es xs)) (sym (append-nil before)) none
calls_on p es before (l ∷ ls) h =
    subst (λ (xs : List (List ℕ)). ReadsAll (InCalls p es before) (l ∷ ls) (InCalls p es xs)) (append_assoc before (l ∷ []) ls)
    (one (callback h.0) (calls_on p es (before ++ l ∷ []) ls h.1))

-- ---- it is read back

-- what is known of a script that was read, and of steps that it takes
pub record IsMade (p : Program) (es : List Event) : Type 0 where
  -- of which version it is
  pub version : Version
  pub first : first_line p ≡ version_line version
  pub said : Settings
  pub script : script.ReadsAll (unread_in version) (script_lines p) (record { program = p; said = said })
  pub steps : AllByRecursion (Said p) es
  pub called : AllByRecursion IsCallbackLine (callback_lines p es)

steps_said : (p : Program) (each : (name : List ℕ) → Contains p.names name → IsName name) (m k : ℕ) (es : List Event) → m ≤ length p.names →
    k ≤ 1024 → AllByRecursion (CanBe m k) es → AllByRecursion (λ (e : Event). has_step p e ≡ true) es → AllByRecursion (Said p) es
steps_said p each m k [] all few h has = tt
steps_said p each m k (e ∷ es) all few h has = (step_said p each m k e all few h.0 has.0, steps_said p each m k es all few h.1 has.1)

-- its first line is that of the version by which its script is read
record IsVersion (p : Program) (v : Version) : Type 0 where
  first : first_line p ≡ version_line v
  said : Settings
  script : script.ReadsAll (unread_in v) (script_lines p) (record { program = p; said = said })

newest : (p : Program) → AreWritten p → first_line p ≡ codes "uvt 3" → IsVersion p versions.V3
newest p written first = record { first = first; said = (settled p).said; script = lines_read_back p written }

without_io : (p : Program) → AreWritten p → has_io p ≡ false → from_heap p ≡ false → IsVersion p versions.V2
unfolding script_text
without_io p written io heap =
    let lines = lines_back (script_lines p) (read_lines unread (settled p) (script_lines p) (lines_read_back p written)) in
    let made = reads_without_io (script_text p) p (text_makes p written) io heap in
    grind arith

pub is_made : (text : List ℕ) (p : Program) (es : List Event) → IsScript text p → AllTaken p es → IsMade p es
is_made text p es is taken = by (has_io p) (from_heap p) refl refl where
  written : AreWritten p
  written = script_written p (lines_of text) is

  each : (name : List ℕ) → Contains p.names name → IsName name
  each name h = (written.names name h).0

  made : (v : Version) → IsVersion p v → IsMade p es
  made v is_version =
      let run = played p es written.size.slots taken.0 taken.1 in
      record {
        version = v;
        first = is_version.first;
        said = is_version.said;
        script = is_version.script;
        steps = steps_said p each (length p.callbacks) (worker_count p) es (omega (arith, written.each)) written.workers.1 run.steps run.has;
        called = callbacks_said p each es run.lines;
      }

  by : (io heap : Bool) → has_io p ≡ io → from_heap p ≡ heap → IsMade p es
  by true heap e f = made versions.V3 (newest p written (rw e refl))
  by false true e f = made versions.V3 (newest p written (rw (e, f) refl))
  by false false e f = made versions.V2 (without_io p written e f)

are_lines : (p : Program) (es : List Event) → IsMade p es → AllByRecursion IsLine (recording_lines p es)
are_lines p es h =
    let front = subst IsLine (sym h.first) (grind arith) in
    let begin = (is_line_decides (codes "begin")).0 refl in
    let middle = (is_line_decides (codes "calls")).0 refl in
    let last = (is_line_decides (codes "end")).0 refl in
    let ks = first_line p ∷ script_lines p in
    let bs = codes "begin" ∷ map (step_line p.names) es in
    let cs = codes "calls" ∷ callback_lines p es in
    search (every_append, read_lines, steps_are_lines, called_are_lines)

are_read : (p : Program) (es : List Event) → IsMade p es → ReadsAll Start (recording_lines p es) (Whole p es (callback_lines p es))
are_read p es h =
    let called = callback_lines p es in
    let d : Draft = record { program = p; said = h.said } in
    let ks = first_line p ∷ script_lines p in
    let bs = codes "begin" ∷ map (step_line p.names) es in
    let cs = codes "calls" ∷ called in
    reads_on Start (InCalls p es called) (Whole p es called) (ks ++ bs ++ cs) (codes "end" ∷ [])
    (reads_on Start (InSteps p es) (InCalls p es called) (ks ++ bs) cs
    (reads_on Start (InScript d) (InSteps p es) ks bs
    (one (subst (λ (l : List ℕ). Reads Start l (InScript (unread_in h.version))) (sym h.first) (version h.version))
    (grind (arith, script_on, none_append, none_mapped, begins_says, callbacks_say)))
    (one begins (steps_on p [] es h.steps)))
    (one calls (calls_on p es [] called h.called))) (one ends none)

pub made_read : (p : Program) (es : List Event) → IsMade p es → ReadsAll Start (lines_of (recording_text p es)) (Whole p es (callback_lines p es))
unfolding recording_text
made_read p es h = search (lines_back, are_lines, are_read)

pub says_same : (text : List ℕ) (p : Program) (es : List Event) → IsScript text p → AllTaken p es → HasVerdict (recording_text p es) Same
says_same text p es is taken = record {
  program = p;
  steps = es;
  called = callback_lines p es;
  recording = made_read p es (is_made text p es is taken);
  verdict = same taken refl;
}
