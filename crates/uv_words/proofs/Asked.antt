-- What the words ask for, by what `clap` finds of them.
use Rattle.std.proofs.Common.{◌≡◌, ◌⊎◌, inl, inr, List, [], ◌∷◌, true, Option, Some, None, option_map, refl, ap, ap₂, sym, subst, ◌∙◌, codes}
use Rattle.std.specs.Prelude.{Box}
use Rattle.std.specs.Box.{box_value}
use Rattle.std.proofs.lemmas.Option.{same_Some}
use Rattle.clap.specs.Kinds.{Kinds, IsAmong}
use Rattle.clap.specs.Words.{App, Row, Text, is_simple, is_simple_and_free, matches_of, rows_of, found_of, subcommand_of, subcommand_rows, subcommand_rows_of, fault_of}
use Rattle.clap.specs.declared.parser.matches.ArgMatches.{ArgMatches}
use Rattle.clap.specs.declared.parser.matches.ArgMatches.TheViews.{out-SubCommand}
use Rattle.clap.specs.declared.parser.matches.SubCommand.{SubCommand}
use Rattle.clap.specs.declared.error.kind.ErrorKind.{ErrorKind}
use Rattle.clap.proofs.OnLiterals.{clap_on_literals}
use Rattle.uv_script.specs.Checks.{number_of}
use Rattle.uv_words.specs.declared.command_line.Job.TheVariants.{Debug, Replay, Live}
use Rattle.uv_words.specs.Words.{uvt_app, job_by, job_in, job_of}

simple : is_simple uvt_app ≡ true
unfolding clap_on_literals
simple = refl

simple_and_free : is_simple_and_free uvt_app ≡ true
unfolding clap_on_literals
simple_and_free = refl

-- a name and the options, each told apart
pub both : (found : Option (Text × List Row)) (name : Text) (rows : List Row) → option_map (λ p. p.0) found ≡ Some name →
    option_map (λ p. p.1) found ≡ Some rows → found ≡ Some (name, rows)
both None name rows a b = cc
both (Some p) name rows a b = let x = same_Some _ _ a in let y = same_Some _ _ b in λ i. Some (x i, y i)

pub neither : (found : Option (Text × List Row)) → option_map (λ p. p.0) found ≡ None → found ≡ None
neither None e = refl
neither (Some p) e = cc

-- the words were taken
pub found : (a : App) (words : List Text) (m : ArgMatches) → a ≡ uvt_app →
    (is_simple a ≡ true → (rows_of (found_of m) ≡ matches_of a words) × (subcommand_rows_of m ≡ subcommand_of a words)) →
    (is_simple_and_free a ≡ true → fault_of a words ≡ []) → job_of words ≡ job_by (subcommand_rows_of m)
unfolding job_of
found a words m same matches kinds =
    let none = kinds (ap is_simple_and_free same ∙ simple_and_free) in
    let rows = (matches (ap is_simple same ∙ simple)).1 in
    let here : fault_of uvt_app words ≡ [] = ap (λ (x : App). fault_of x words) (sym same) ∙ none in
    let there : subcommand_of uvt_app words ≡ subcommand_rows_of m = ap (λ (x : App). subcommand_of x words) (sym same) ∙ sym rows in
    ap₂ job_in here there

in_none : (k : ErrorKind) (kinds : Kinds) (rows : Option (Text × List Row)) → IsAmong k kinds → job_in kinds rows ≡ None
in_none k [] rows h = absurd h
in_none k (x ∷ xs) rows h = refl

-- they were refused, and not for want of memory
pub refused : (a : App) (words : List Text) (k : ErrorKind) (memory : Type 0) → a ≡ uvt_app →
    (is_simple_and_free a ≡ true → memory ⊎ IsAmong k (fault_of a words)) → (memory → ⊥) → job_of words ≡ None
unfolding job_of
refused a words k memory same kinds other = at (kinds (ap is_simple_and_free same ∙ simple_and_free)) where
  at : memory ⊎ IsAmong k (fault_of a words) → job_in (fault_of uvt_app words) (subcommand_of uvt_app words) ≡ None
  at (inl h) = absurd (other h)
  at (inr h) = in_none k (fault_of uvt_app words) (subcommand_of uvt_app words)
      (subst (λ (x : App). IsAmong k (fault_of x words)) same h)

-- two words, of which the second names a job
asks_debug : (name : Text) → job_of (name ∷ codes "debug" ∷ []) ≡ Some Debug
unfolding job_of clap_on_literals
asks_debug name = refl

asks_replay : (name : Text) → job_of (name ∷ codes "replay" ∷ []) ≡ Some Replay
unfolding job_of clap_on_literals
asks_replay name = refl

asks_live : (name : Text) → job_of (name ∷ codes "live" ∷ []) ≡ Some (Live None)
unfolding job_of clap_on_literals
asks_live name = refl

asks_live_with : (name : Text) → job_of (name ∷ codes "live" ∷ codes "--workers" ∷ codes "7" ∷ []) ≡ Some (Live (Some 7))
unfolding job_of clap_on_literals number_of
asks_live_with name = refl

asks_live_by : (name : Text) → job_of (name ∷ codes "live" ∷ codes "--workers=1024" ∷ []) ≡ Some (Live (Some 1024))
unfolding job_of clap_on_literals number_of
asks_live_by name = refl

asks_too_many : (name : Text) → job_of (name ∷ codes "live" ∷ codes "--workers=1025" ∷ []) ≡ None
unfolding job_of clap_on_literals number_of
asks_too_many name = refl

asks_none : (name : Text) → job_of (name ∷ codes "live" ∷ codes "--workers=0" ∷ []) ≡ None
unfolding job_of clap_on_literals number_of
asks_none name = refl
