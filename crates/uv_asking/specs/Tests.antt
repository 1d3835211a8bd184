-- How a line behind `begin` is read, as tests that the code computes; beside each clause that cites one stands the rule itself.
use Rattle.std.specs.Prelude.{ℕ, Bool, true, false, ◌==◌, ◌||◌, ◌&&◌, List, [], ◌∷◌, drop, nat_le, Option, Some, None, option_map, option_and_then, if◌then◌else◌, codes}
use Rattle.std.specs.Option.{option_or}
use Rattle.std.specs.Str.{bytes_eq}
use Rattle.uv_ids.specs.declared.id.Var.{Var}
use Rattle.uv_ids.specs.declared.event.Event.{Event}
use Rattle.uv_ids.specs.declared.event.Event.TheVariants as event
use Rattle.uv_ids.specs.Words.{code_named, phase_named}
use Rattle.uv_script.specs.Lines.{fields_of}
use Rattle.uv_script.specs.Checks.{is_line, is_skipped, number_of}
use Rattle.uv_script.specs.Reading.{none_left, place_of}
use Rattle.uv_asking.specs.declared.asking.Offer.{Offer}
use Rattle.uv_asking.specs.declared.asking.Offer.TheVariants.{Step, WaitFor}
use Rattle.uv_asking.specs.declared.asking.Which.{Which}
use Rattle.uv_asking.specs.declared.asking.Which.TheVariants as which
use Rattle.uv_asking.specs.declared.part.Part.{Part}
use Rattle.uv_asking.specs.declared.part.Said.{Said}
use Rattle.uv_asking.specs.declared.part.Said.TheVariants.{Nothing, One, Bad}
use Rattle.uv_asking.specs.Grammar.{Form, says, word, name, name_but, other_name, number, nth, code, section, callbacks, offer, came, forms}
use Rattle.uv_asking.specs.Limits.{MOST_COUNT, MOST_MS, MOST_WORKER}

-- ---- what a field is

-- this word
abbrev pub is_word : List ℕ → List ℕ → Option (Unit {0})
is_word text field = if bytes_eq field text then Some tt else None

-- a name that is neither of two words
abbrev pub name_but_of : List (List ℕ) → List ℕ → List ℕ → List ℕ → Option Var
name_but_of names this that field = if bytes_eq field this || bytes_eq field that then None else place_of names field

-- a name that isn't this one
abbrev pub other_of : List (List ℕ) → Var → List ℕ → Option Var
other_of names v field = option_and_then (λ (w : Var). if v.0 == w.0 then None else Some w) (place_of names field)

-- a number of this range
abbrev pub if_within : ℕ → ℕ → ℕ → Option ℕ
if_within low high n = if nat_le low n && nat_le n high then Some n else None

abbrev pub number_in : ℕ → ℕ → List ℕ → Option ℕ
number_in low high field = option_and_then (if_within low high) (number_of field)

-- the number of a call, `@K`
abbrev pub call_in : List ℕ → Option ℕ
call_in [] = None
call_in (b ∷ bs) = if b == 64 then number_in 1 MOST_COUNT bs else None

-- the callbacks of a name
abbrev pub which_named : List ℕ → Option Which
which_named field =
    if bytes_eq field (codes "call") then Some which.Any
    else if bytes_eq field (codes "on") then Some which.Handle
    else if bytes_eq field (codes "after") then Some which.After
    else if bytes_eq field (codes "closed") then Some which.Close
    else None

-- the two fields of an offer that is counted
abbrev pub offer_of : List (List ℕ) → List ℕ → List ℕ → Option Offer
offer_of names what argument =
    if bytes_eq what (codes "send") then option_map (λ (v : Var). Step (event.Send v)) (place_of names argument)
    else if bytes_eq what (codes "cancel") then option_map (λ (v : Var). Step (event.Cancel v)) (place_of names argument)
    else if bytes_eq what (codes "io") then option_map (λ (v : Var). Step (event.Io v)) (place_of names argument)
    else if bytes_eq what (codes "tick") then option_map (λ (ms : ℕ). Step (event.Tick ms)) (number_in 1 MOST_MS argument)
    else if bytes_eq what (codes "wait") then option_map (λ (ms : ℕ). WaitFor ms) (number_in 1 MOST_MS argument)
    else None

-- those of an event that came in a recording, and whether it is a wait
abbrev pub came_by : Option Offer → Option (Event × Bool)
came_by (Some (Step e)) = Some (e, false)
came_by (Some (WaitFor ms)) = Some (event.Tick ms, true)
came_by _ = None

abbrev pub came_of : List (List ℕ) → List ℕ → List ℕ → Option (Event × Bool)
came_of names what argument =
    if bytes_eq what (codes "take") then option_map (λ (n : ℕ). (event.Take n, false)) (number_in 0 MOST_WORKER argument)
    else if bytes_eq what (codes "finish") then option_map (λ (n : ℕ). (event.Finish n, false)) (number_in 0 MOST_WORKER argument)
    else came_by (offer_of names what argument)

-- ---- fields, one after another

-- what the first field is read as
abbrev pub first_as : {A : Type 0} → (List ℕ → Option A) → List (List ℕ) → Option A
first_as read [] = None
first_as read (field ∷ rest) = read field

-- that, and what then is read of those behind it
abbrev pub next : {A B : Type 0} → (List ℕ → Option A) → List (List ℕ) → (A → List (List ℕ) → Option B) → Option B
next read fields more = option_and_then (λ x. more x (drop 1 fields)) (first_as read fields)

-- the same of the first two
abbrev pub first_two : {A : Type 0} → (List ℕ → List ℕ → Option A) → List (List ℕ) → Option A
first_two read fields = next Some fields (λ field more. first_as (read field) more)

abbrev pub next_two : {A B : Type 0} → (List ℕ → List ℕ → Option A) → List (List ℕ) → (A → List (List ℕ) → Option B) → Option B
next_two read fields more = option_and_then (λ x. more x (drop 1 (drop 1 fields))) (first_two read fields)

-- what fields of this form say
abbrev pub reads : {A : Type 0} → List (List ℕ) → Form A → List (List ℕ) → Option A
reads names (says x) fields = option_map (λ (end : Unit {0}). x) (none_left fields)
reads names (word text form) fields = next (is_word text) fields (λ is rest. reads names form rest)
reads names (name form) fields = next (place_of names) fields (λ v rest. reads names (form v) rest)
reads names (name_but this that form) fields = next (name_but_of names this that) fields (λ v rest. reads names (form v) rest)
reads names (other_name v form) fields = next (other_of names v) fields (λ w rest. reads names (form w) rest)
reads names (number low high form) fields = next (number_in low high) fields (λ n rest. reads names (form n) rest)
reads names (nth form) fields = next call_in fields (λ k rest. reads names (form k) rest)
reads names (code form) fields = next code_named fields (λ c rest. reads names (form c) rest)
reads names (section form) fields = next phase_named fields (λ x rest. reads names (form x) rest)
reads names (callbacks form) fields = next which_named fields (λ w rest. reads names (form w) rest)
reads names (offer form) fields = next_two (offer_of names) fields (λ o rest. reads names (form o) rest)
reads names (came form) fields = next_two (came_of names) fields (λ e rest. reads names (form e) rest)

-- what was read before, or else what the first of these forms says that fits
abbrev pub reads_one : {A : Type 0} → List (List ℕ) → Option A → List (Form A) → List (List ℕ) → Option A
reads_one names read [] fields = read
reads_one names read (form ∷ more) fields = reads_one names (option_or read (reads names form fields)) more fields

-- ---- any line

abbrev pub said_by : Option Part → Said
said_by (Some said) = One said
said_by None = Bad

-- how a line is read, where these names are declared
abbrev pub said_of : List (List ℕ) → List ℕ → Said
said_of names line = if is_line line then (if is_skipped line then Nothing else said_by (reads_one names None forms (fields_of line))) else Bad
