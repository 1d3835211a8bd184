-- A whole input.
use Rattle.uv_inquiry.proofs.Names.{◌≡◌, ℕ, ◌+◌, List, length, Option, Some, None, option_map, Err, refl, sym, subst, arith, Fault, lines_of, Program, IsScript, ParsesFrom, unread, Begins, NeverBegins, NoScript, Question, Draft, unsaid, asked_by, finished, ReadsAll, no_question, IsBadInput, no_begin, in_script, behind, Parses, IsBadBehind, ReadsAsking}
use Rattle.uv_ids.specs.declared.fault.Fault.TheVariants as fault

-- no line asks
pub not_asked : (names : List (List ℕ)) (text : List ℕ) (before line : ℕ) (d : Draft) → ReadsAll names unsaid (lines_of text) d →
    None ≡ finished d → line ≡ before + length (lines_of text) + 1 → IsBadBehind names text before line
not_asked names text before line d read e count = record {
  number = length (lines_of text) + 1;
  bad = no_question d read (grind arith);
  counted = omega (arith, count);
}

-- the input has no line `begin`
pub never_begun : (input : List ℕ) (f : Fault) → NeverBegins input → NoScript unread input f → Parses input (Err f)
never_begun input (fault.Script line) never h = no_begin line never h
never_begun input fault.Memory never h = tt
never_begun input _ never h = absurd h

-- the script is bad
pub bad_script : (input script lines : List ℕ) (f : Fault) → Begins input script lines → ParsesFrom unread script (Err f) → Parses input (Err f)
bad_script input script lines (fault.Script line) begins h = in_script script lines line begins h
bad_script input script lines fault.Memory begins h = tt
bad_script input script lines _ begins h = absurd h

-- a line behind `begin` is
pub bad_asking : (input script lines : List ℕ) (p : Program) (before : ℕ) (f : Fault) → Begins input script lines → IsScript script p →
    before ≡ length (lines_of script) + 1 → ReadsAsking p.names lines before (Err f) → Parses input (Err f)
bad_asking input script lines p before (fault.Script line) begins is count h =
    let same : length (lines_of script) + 1 + h.number ≡ line = omega (arith, count, h.counted) in
    subst (IsBadInput input) same (behind script lines p h.number begins is h.bad)
bad_asking input script lines p before fault.Memory begins is count h = tt
bad_asking input script lines p before _ begins is count h = absurd h
