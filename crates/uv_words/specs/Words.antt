-- What the words of a command line ask for, by clap's rules of words (`fault_of`, `subcommand_of`).
use Rattle.std.specs.Prelude.{ℕ, List, [], ◌∷◌, ◌&&◌, nat_le, true, Option, Some, None, IfSome, option_map, option_and_then, codes, if◌then◌else◌}
use Rattle.std.specs.Str.{bytes_eq}
use Rattle.uv_ids.specs.Limits.{MOST_WORKERS}
use Rattle.clap.specs.Kinds.{Kinds}
use Rattle.clap.specs.Words.{App, Row, Rule, Text, new_app, new_rule, with_rule, with_subcommand, first_of, subcommand_of, fault_of}
use Rattle.clap.specs.declared.builder.action.ArgAction.TheVariants.{Set}
use Rattle.uv_script.specs.Program.{IsWorkerCount}
use Rattle.uv_script.specs.Checks.{number_of}
use Rattle.uv_words.specs.declared.command_line.Job.{Job}
use Rattle.uv_words.specs.declared.command_line.Job.TheVariants.{Debug, Replay, Live}

-- a subcommand that takes no more words, help neither
abbrev pub job_app : Text → App
job_app name = let a = new_app name in record a { top = record a.top { disable_help_flag = true } }

-- the option `--workers`
abbrev pub workers_rule : Rule
workers_rule = record (new_rule (codes "workers")) { long = Some (codes "workers"); action = Some Set }

-- the program, before it has subcommands: it wants one, and knows no help and no version
abbrev pub bare_app : App
bare_app =
    let a = new_app (codes "uvt") in
    record a {
      top = record a.top { disable_help_flag = true; disable_version_flag = true; disable_help_subcommand = true; subcommand_required = true };
    }

-- the program, with the two subcommands that take no option
abbrev pub two_app : App
two_app = with_subcommand (with_subcommand bare_app (job_app (codes "debug")).top) (job_app (codes "replay")).top

-- the program, with its three subcommands
abbrev pub uvt_app : App
uvt_app = with_subcommand two_app (with_rule (job_app (codes "live")) workers_rule).top

-- how many workers there may be
abbrev pub count_of : ℕ → Option ℕ
count_of n = if nat_le 1 n && nat_le n MOST_WORKERS then Some n else None

-- the number of workers that a word says
abbrev pub count_in : Text → Option ℕ
count_in word = option_and_then count_of (number_of word)

-- a live run, with the number of workers that is asked for, if one is
abbrev pub live_by : Option Text → Option Job
live_by None = Some (Live None)
live_by (Some word) = option_map (λ n. Live (Some n)) (count_in word)

-- the job that a word names, with its options
abbrev pub job_named : Text → List Row → Option Job
job_named word options =
    if bytes_eq word (codes "debug") then Some Debug
    else (if bytes_eq word (codes "replay") then Some Replay
    else (if bytes_eq word (codes "live") then live_by (first_of (codes "workers") options) else None))

-- the job of a subcommand, if there is one
abbrev pub job_by : Option (Text × List Row) → Option Job
job_by None = None
job_by (Some found) = job_named found.0 found.1

-- that of the subcommand, where the words have no fault
abbrev pub job_in : Kinds → Option (Text × List Row) → Option Job
job_in [] found = job_by found
job_in (fault ∷ faults) found = None

-- what the words ask for, the first of which is the program's own; none if they are no command line
unfoldable pub job_of : List Text → Option Job
job_of words = job_in (fault_of uvt_app words) (subcommand_of uvt_app words)

-- a number of workers is within the limits
abbrev pub IsJob : Job → Type 0
IsJob Debug = Unit {0}
IsJob Replay = Unit {0}
IsJob (Live workers) = IfSome workers IsWorkerCount
