-- The lines behind `begin`: what may come from outside, how far the search goes, and what it looks for. A line has one of the forms listed
-- here, by its fields in their order, and says what fits that form.
use Rattle.std.specs.Prelude.{◌≡◌, ◌≢◌, ℕ, ◌≤◌, Bool, true, false, ◌⊎◌, List, [], ◌∷◌, ◌++◌, Some, None, codes}
use Rattle.uv_ids.specs.declared.id.Var.{Var}
use Rattle.uv_ids.specs.declared.code.Code.{Code}
use Rattle.uv_ids.specs.declared.event.Event.{Event}
use Rattle.uv_ids.specs.declared.event.Event.TheVariants as event
use Rattle.uv_ids.specs.declared.phase.Phase.{Phase}
use Rattle.uv_ids.specs.Words.{code_word, phase_word}
use Rattle.uv_script.specs.Lines.{fields_of, IsLine, IsSkipped}
use Rattle.uv_script.specs.Words.{IsNumber}
use Rattle.uv_script.specs.Reading.{place_of}
use Rattle.uv_asking.specs.declared.asking.Offer.{Offer}
use Rattle.uv_asking.specs.declared.asking.Offer.TheVariants.{Step, SendDuring, Wait, WaitFor}
use Rattle.uv_asking.specs.declared.asking.Which.{Which}
use Rattle.uv_asking.specs.declared.asking.Which.TheVariants as which
use Rattle.uv_asking.specs.declared.asking.Question.{Question}
use Rattle.uv_asking.specs.declared.asking.Question.TheVariants as question
use Rattle.uv_asking.specs.declared.part.Part.{Part}
use Rattle.uv_asking.specs.declared.part.Part.TheVariants.{Offers, Differ, Recorded, Takes, Clock, Calls, States, Full, Finds, Latest}
use Rattle.uv_asking.specs.declared.part.Said.{Said}
use Rattle.uv_asking.specs.declared.part.Said.TheVariants.{Nothing, One, Bad}
use Rattle.uv_asking.specs.Limits.{MOST_COUNT, MOST_MS, MOST_WORKER}

-- ---- what fields are

-- a number of this range, as it is written
pub record IsWithin (low high : ℕ) (text : List ℕ) (n : ℕ) : Type 0 where
  pub number : IsNumber text n
  pub first : low ≤ n
  pub last : n ≤ high

-- the number of a call, `@K`
pub record IsNth (field : List ℕ) (k : ℕ) : Type 0 where
  pub digits : List ℕ
  pub marked : field ≡ 64 ∷ digits
  pub within : IsWithin 1 MOST_COUNT digits k

-- a name that is declared, by its place
abbrev pub IsVar : List (List ℕ) → List ℕ → Var → Type 0
IsVar names field v = place_of names field ≡ Some v

-- the word for these callbacks of a name
abbrev pub which_word : Which → List ℕ
which_word which.Any = codes "call"
which_word which.Handle = codes "on"
which_word which.After = codes "after"
which_word which.Close = codes "closed"

-- the two fields of an offer that is counted, where these names are declared
pub data IsOffer (names : List (List ℕ)) (what argument : List ℕ) : Offer → Type 0 where
  send : (v : Var) → what ≡ codes "send" → IsVar names argument v → IsOffer names what argument (Step (event.Send v))
  cancel : (v : Var) → what ≡ codes "cancel" → IsVar names argument v → IsOffer names what argument (Step (event.Cancel v))
  io : (v : Var) → what ≡ codes "io" → IsVar names argument v → IsOffer names what argument (Step (event.Io v))
  tick : (ms : ℕ) → what ≡ codes "tick" → IsWithin 1 MOST_MS argument ms → IsOffer names what argument (Step (event.Tick ms))
  wait : (ms : ℕ) → what ≡ codes "wait" → IsWithin 1 MOST_MS argument ms → IsOffer names what argument (WaitFor ms)

-- the two fields of an event that came in a recording, and whether it is a wait
pub data IsCame (names : List (List ℕ)) (what argument : List ℕ) : Event × Bool → Type 0 where
  take : (n : ℕ) → what ≡ codes "take" → IsWithin 0 MOST_WORKER argument n → IsCame names what argument (event.Take n, false)
  finish : (n : ℕ) → what ≡ codes "finish" → IsWithin 0 MOST_WORKER argument n → IsCame names what argument (event.Finish n, false)
  outside : (e : Event) → IsOffer names what argument (Step e) → IsCame names what argument (e, false)
  waited : (ms : ℕ) → IsOffer names what argument (WaitFor ms) → IsCame names what argument (event.Tick ms, true)

-- ---- forms of a line

-- what fields may be, one after another, and what is said by them
pub data Form (A : Type 0) : Type 0 where
  -- no field is left
  says : A → Form A
  -- this word, and then that
  word : List ℕ → Form A → Form A
  -- a name, and then that; a name that is neither of two words; a name that isn't this one
  name : (Var → Form A) → Form A
  name_but : List ℕ → List ℕ → (Var → Form A) → Form A
  other_name : Var → (Var → Form A) → Form A
  -- a number from the first to the second; the number of a call
  number : ℕ → ℕ → (ℕ → Form A) → Form A
  nth : (ℕ → Form A) → Form A
  -- a code, a section, callbacks of a name
  code : (Code → Form A) → Form A
  section : (Phase → Form A) → Form A
  callbacks : (Which → Form A) → Form A
  -- two fields: an offer, or an event that came
  offer : (Offer → Form A) → Form A
  came : (Event × Bool → Form A) → Form A

-- the first field is read as x, and those behind it fit what then comes
abbrev pub First : {X : Type 0} → (List ℕ → X → Type 0) → (X → List (List ℕ) → Type 0) → List (List ℕ) → Type 0
First Is Behind [] = ⊥
First {X} Is Behind (field ∷ rest) = (x : X) × Is field x × Behind x rest

-- so the first two
abbrev pub FirstTwo : {X : Type 0} → (List ℕ → List ℕ → X → Type 0) → (X → List (List ℕ) → Type 0) → List (List ℕ) → Type 0
FirstTwo Is Behind [] = ⊥
FirstTwo Is Behind (field ∷ rest) = First (Is field) Behind rest

-- these fields fit the form, and say this, where these names are declared
abbrev pub Fits : {A : Type 0} → List (List ℕ) → Form A → List (List ℕ) → A → Type 0
Fits names (says x) fields said = (fields ≡ []) × (x ≡ said)
Fits names (word text form) fields said = First (λ field (is : Unit {0}). field ≡ text) (λ is rest. Fits names form rest said) fields
Fits names (name form) fields said = First (λ field v. IsVar names field v) (λ v rest. Fits names (form v) rest said) fields
Fits names (name_but this that form) fields said =
    First (λ field v. (field ≢ this) × (field ≢ that) × IsVar names field v) (λ v rest. Fits names (form v) rest said) fields
Fits names (other_name v form) fields said =
    First (λ field w. (v.0 ≢ w.0) × IsVar names field w) (λ w rest. Fits names (form w) rest said) fields
Fits names (number low high form) fields said = First (λ field n. IsWithin low high field n) (λ n rest. Fits names (form n) rest said) fields
Fits names (nth form) fields said = First (λ field k. IsNth field k) (λ k rest. Fits names (form k) rest said) fields
Fits names (code form) fields said = First (λ field c. field ≡ code_word c) (λ c rest. Fits names (form c) rest said) fields
Fits names (section form) fields said = First (λ field x. field ≡ phase_word x) (λ x rest. Fits names (form x) rest said) fields
Fits names (callbacks form) fields said = First (λ field w. field ≡ which_word w) (λ w rest. Fits names (form w) rest said) fields
Fits names (offer form) fields said =
    FirstTwo (λ what argument o. IsOffer names what argument o) (λ o rest. Fits names (form o) rest said) fields
Fits names (came form) fields said =
    FirstTwo (λ what argument e. IsCame names what argument e) (λ e rest. Fits names (form e) rest said) fields

-- so they fit one of these forms
abbrev pub FitsOne : {A : Type 0} → List (List ℕ) → List (Form A) → List (List ℕ) → A → Type 0
FitsOne names [] fields said = ⊥
FitsOne names (form ∷ forms) fields said = Fits names form fields said ⊎ FitsOne names forms fields said

-- ---- what may come

-- `may OFFER N`
abbrev pub may : Form Part
may = word (codes "may") (offer (λ o. number 1 MOST_COUNT (λ n. says (Offers (record { offer = o; times = Some n })))))

-- `may send NAME N during JOB`, and not one name twice
abbrev pub may_during : Form Part
may_during = word (codes "may") (word (codes "send") (name (λ v. number 1 MOST_COUNT (λ n. word (codes "during") (other_name v (λ w.
    says (Offers (record { offer = SendDuring v w; times = Some n }))))))))

abbrev pub may_wait : Form Part
may_wait = word (codes "may") (word (codes "wait") (says (Offers (record { offer = Wait; times = None }))))

abbrev pub may_differ : Form Part
may_differ = word (codes "may") (word (codes "differ") (number 0 MOST_COUNT (λ k. says (Differ k))))

-- `recorded POLLS STEPS EVENT`
abbrev pub recorded : Form Part
recorded = word (codes "recorded") (number 0 MOST_COUNT (λ m. number 0 MOST_COUNT (λ n. came (λ e.
    says (Recorded (record { event = e.0; waits = e.1; polls = m; steps = n }))))))

abbrev pub offers : List (Form Part)
offers = may ∷ may_during ∷ may_wait ∷ may_differ ∷ recorded ∷ []

-- ---- how long callbacks take, and how far the search goes

-- `takes NAME MS`
abbrev pub takes : Form Part
takes = word (codes "takes") (name (λ v. number 0 MOST_MS (λ ms. says (Takes (record { name = v; call = None; ms = ms })))))

-- `takes NAME @K MS`
abbrev pub takes_once : Form Part
takes_once = word (codes "takes") (name (λ v. nth (λ k. number 0 MOST_MS (λ ms. says (Takes (record { name = v; call = Some k; ms = ms }))))))

abbrev pub most_clock : Form Part
most_clock = word (codes "most") (word (codes "clock") (number 0 MOST_MS (λ ms. says (Clock ms))))

abbrev pub most_states : Form Part
most_states = word (codes "most") (word (codes "states") (number 1 MOST_COUNT (λ n. says (States n))))

-- `most NAME CALLS`: `clock` and `states` are the words here, also where a name is called so
abbrev pub most_calls : Form Part
most_calls =
    word (codes "most") (name_but (codes "clock") (codes "states") (λ v. number 0 MOST_COUNT (λ n. says (Calls (record { name = v; calls = n })))))

abbrev pub full : Form Part
full = word (codes "full") (says Full)

abbrev pub bounds : List (Form Part)
bounds = takes ∷ takes_once ∷ most_clock ∷ most_states ∷ most_calls ∷ full ∷ []

-- ---- what is looked for

abbrev pub latest : Form Part
latest = word (codes "find") (word (codes "latest") (name (λ v. says (Latest v))))

abbrev pub asks : Question → Form Part
asks q = says (Finds q)

abbrev pub stuck : Form Part
stuck = word (codes "find") (word (codes "stuck") (asks question.Stuck))

abbrev pub code_alone : Form Part
code_alone = word (codes "find") (word (codes "code") (code (λ c. asks (question.Code c None))))

abbrev pub code_of : Form Part
code_of = word (codes "find") (word (codes "code") (code (λ c. word (codes "of") (name (λ v. asks (question.Code c (Some v)))))))

-- the poll is a section here
abbrev pub poll : Form Part
poll = word (codes "find") (word (codes "section") (word (codes "poll") (asks question.Poll)))

abbrev pub section_begins : Form Part
section_begins = word (codes "find") (word (codes "section") (section (λ x. asks (question.Section x))))

-- `call NAME`, and so `on`, `after`, `closed`
abbrev pub call : Form Part
call = word (codes "find") (callbacks (λ w. name (λ v. asks (question.Call w v None))))

-- `before` and `after` are the words between two names here, also where a name is called so
abbrev pub nth_call : Form Part
nth_call = word (codes "find") (callbacks (λ w. name_but (codes "before") (codes "after") (λ v. number 1 MOST_COUNT (λ n.
    asks (question.Call w v (Some n))))))

abbrev pub late : Form Part
late = word (codes "find") (word (codes "late") (name_but (codes "before") (codes "after") (λ v. number 0 MOST_MS (λ ms.
    asks (question.Late v ms)))))

abbrev pub never : Form Part
never = word (codes "find") (word (codes "never") (name (λ v. asks (question.Never v))))

-- two names with a word between them, and not one name twice
abbrev pub pair : List ℕ → (Var → Var → Question) → Form Part
pair between q = word (codes "find") (name (λ v. word between (other_name v (λ w. asks (q v w)))))

abbrev pub before : Form Part
before = pair (codes "before") question.Before

abbrev pub behind : Form Part
behind = pair (codes "after") question.Behind

abbrev pub questions : List (Form Part)
questions = latest ∷ stuck ∷ code_alone ∷ code_of ∷ poll ∷ section_begins ∷ []

abbrev pub calls : List (Form Part)
calls = call ∷ nth_call ∷ late ∷ never ∷ before ∷ behind ∷ []

-- ---- any line

abbrev pub forms : List (Form Part)
forms = offers ++ bounds ++ questions ++ calls

-- how a line is read, where these names are declared: empty lines and comments say nothing, and what fits no form is bad
pub data Says (names : List (List ℕ)) (line : List ℕ) : Said → Type 0 where
  nothing : IsLine line → IsSkipped line → Says names line Nothing
  one : (said : Part) → IsLine line → FitsOne names forms (fields_of line) said → Says names line (One said)
  bad : (IsLine line → IsSkipped line → ⊥) → (IsLine line → (said : Part) → FitsOne names forms (fields_of line) said → ⊥) → Says names line Bad
