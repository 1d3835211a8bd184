-- What a live run wrote.
use Rattle.std.proofs.Common.{◌≡◌, ℕ, List, [], ◌++◌, append-nil}
use Rattle.uv_script.specs.Writes.{CutShort}
use Rattle.uv_session.specs.Shown.{Shown}
use Rattle.uv_text.specs.Recording.{recording_text}
use Rattle.uv_script.specs.Program.{Program}
use Rattle.uv_engine.specs.Alone.{SaysInFront}
use Rattle.std.proofs.Common.{Option, Ok, Some, subst, ◌∙◌}
use Rattle.uv_ids.specs.declared.fault.Why.TheVariants.{Ended}
use Rattle.uv_live.specs.Running.{RunSettles}
use Rattle.uv_run.specs.Bound.{plan_of, course_of, refusal_in}
use Rattle.uv_cli.specs.Live.{to_run, IsRecording}

-- all of a text is a beginning of it
pub all_of : (old text new : List ℕ) → new ≡ old ++ text → CutShort old text new
all_of old text new e = record { part = text; rest = []; whole = append-nil text; written = e }

-- the recording of a session that ran
pub recording : (workers : Option ℕ) (input text : List ℕ) (p q : Program) (s : Shown) → SaysInFront input (Ok p) → q ≡ to_run workers p →
    s.program ≡ q → refusal_in s ≡ Some Ended → RunSettles (plan_of q q.threads) (course_of s) →
    text ≡ recording_text s.program s.standing → IsRecording workers input text
recording workers input text p q s read asked program end settled is = record {
  script = p;
  read = read;
  session = s;
  lived = record {
    program = program ∙ asked;
    end = end;
    settled = subst (λ (r : Program). RunSettles (plan_of r r.threads) (course_of s)) asked settled;
  };
  is = is;
}
