-- A text that says neither `io` nor `timers heap` is read as in the time when there were no such lines.
use Rattle.uv_script.proofs.ProofNames.{◌≡◌, ℕ, true, false, List, [], ◌∷◌, refl, subst, ◌∙◌, Settings, Statement, Declares, InMain, InCallback, Sizes, HasWorkers, Orders, HasIo, FromHeap, InThread, IsNew, with_statement, with_said, Draft, Reads, skips, says, ReadsAll, none, one, unread, IsScript, IsReadWithoutIo, lines_of, Program}
use Rattle.uv_script.proofs.AfterLines.{with_one}

-- the settings, with both of these
abbrev both_said : Settings → Settings
both_said said = record said { io = true; timers = true }

abbrev pub older : Draft → Draft
older d = record { program = d.program; said = both_said d.said }

-- neither was said
record IsNeither (said : Settings) : Type 0 where
  io : said.io ≡ false
  timers : said.timers ≡ false

neither_before : (said : Settings) (s : Statement) → IsNeither (with_said said s) → IsNeither said
neither_before said HasIo h = let wrong = h.io in absurd cc
neither_before said FromHeap h = let wrong = h.timers in absurd cc
neither_before said each h = assumption

neither_all : (d e : Draft) (lines : List (List ℕ)) → ReadsAll d lines e → IsNeither e.said → IsNeither d.said
neither_all d e [] none h = h
neither_all d e (line ∷ lines) (one {e = m} first rest) h = at m first (neither_all m e lines rest h)
  where
    at : (f : Draft) → Reads d line f → IsNeither f.said → IsNeither d.said
    at f (skips is skipped) k = k
    at f (says s is said new room may) k = neither_before d.said s k

new_still : (said : Settings) (s : Statement) → IsNeither (with_said said s) → IsNew said s → IsNew (both_said said) s
new_still said (Declares name) h new = tt
new_still said (InMain o) h new = tt
new_still said (InCallback kind v line) h new = tt
new_still said (Sizes size) h new = new
new_still said (HasWorkers n) h new = new
new_still said (Orders o) h new = new
new_still said HasIo h new = let wrong = h.io in absurd cc
new_still said FromHeap h new = let wrong = h.timers in absurd cc
new_still said (InThread line) h new = tt

said_still : (said : Settings) (s : Statement) → with_said (both_said said) s ≡ both_said (with_said said s)
said_still said (Declares name) = refl
said_still said (InMain o) = refl
said_still said (InCallback kind v line) = refl
said_still said (Sizes size) = refl
said_still said (HasWorkers n) = refl
said_still said (Orders o) = refl
said_still said HasIo = refl
said_still said FromHeap = refl
said_still said (InThread line) = refl

reads_still : (d e : Draft) (line : List ℕ) → Reads d line e → IsNeither e.said → Reads (older d) line (older e)
reads_still d e line (skips is skipped) h = skips is skipped
reads_still d e line (says s is said new room may) h =
    subst (λ (now : Settings). Reads (older d) line (record { program = with_statement d.program s; said = now })) (said_still d.said s)
    (says s is said (new_still d.said s h new) room may)

-- lines that say neither
pub reads_older : (d e : Draft) (lines : List (List ℕ)) → ReadsAll d lines e → e.said.io ≡ false → e.said.timers ≡ false →
    ReadsAll (older d) lines (older e)
reads_older d e [] none io timers = none
reads_older d e (line ∷ lines) (one {e = m} first rest) io timers =
    one (reads_still d m line first (neither_all m e lines rest (record { io = io; timers = timers }))) (reads_older m e lines rest io timers)

-- a script has the settings that its lines said
record IsAsSaid (d : Draft) : Type 0 where
  io : d.said.io ≡ d.program.io
  timers : d.said.timers ≡ d.program.heap

as_said_then : (d : Draft) (s : Statement) → IsAsSaid d → IsAsSaid (with_one d s)
as_said_then d (Declares name) h = record { io = h.io; timers = h.timers }
as_said_then d (InMain o) h = record { io = h.io; timers = h.timers }
as_said_then d (InCallback kind v line) h = record { io = h.io; timers = h.timers }
as_said_then d (Sizes size) h = record { io = h.io; timers = h.timers }
as_said_then d (HasWorkers n) h = record { io = h.io; timers = h.timers }
as_said_then d (Orders o) h = record { io = h.io; timers = h.timers }
as_said_then d HasIo h = record { io = refl; timers = h.timers }
as_said_then d FromHeap h = record { io = h.io; timers = refl }
as_said_then d (InThread line) h = record { io = h.io; timers = h.timers }

as_said : (d e : Draft) (lines : List (List ℕ)) → ReadsAll d lines e → IsAsSaid d → IsAsSaid e
as_said d e [] none h = h
as_said d e (line ∷ lines) (one {e = m} first rest) h = as_said m e lines rest (at m first)
  where
    at : (f : Draft) → Reads d line f → IsAsSaid f
    at f (skips is skipped) = h
    at f (says s is said new room may) = as_said_then d s h

pub reads_without_io : (text : List ℕ) (p : Program) → IsScript text p → IsReadWithoutIo text p
reads_without_io text p is io heap =
    let settings = as_said unread (record { program = p; said = is.said }) (lines_of text) is.read (record { io = refl; timers = refl }) in
    record {
      said = both_said is.said;
      read = reads_older unread (record { program = p; said = is.said }) (lines_of text) is.read (settings.io ∙ io) (settings.timers ∙ heap);
    }
