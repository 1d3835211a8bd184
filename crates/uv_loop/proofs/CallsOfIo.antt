-- What the event of I/O is answered, by what the memory shows.
use Rattle.uv_loop.proofs.Names.{◌≡◌, ◌<◌, ◌≤◌, length, Option, Some, sym, ap, ◌∙◌, Id, Var, Io, Seen, Range, Program, Run, Place, State, live_handle, Refuses, call_io, calls, io_handle, io_run, stage_polled, time_polled, Image, StandsFor, Goes, MayCall, Leads}
use Rattle.uv_ids.specs.declared.seen.Seen.TheVariants as seen
use Rattle.uv_ids.specs.declared.seen.Callback.TheVariants as callback
use Rattle.uv_model.specs.Next.{next}
use Rattle.uv_loop.proofs.Events.{is_name, no_name}

module _ (p : Program) (i : Image Place) (s : State) (v : Var) (h : StandsFor i s) where
  -- there is no such name
  pub io_out : length i.names ≤ v.0 → next p s (Io v) ≡ Refuses Range
  unfolding next
  io_out l = no_name i s v _ _ h l

  -- what is done by the run under way and by the handle
  pub io_done : (run : Option Run) (id : Option Id) → v.0 < length i.names → io_run p s s.place ≡ run → io_handle (live_handle s v) ≡ id
      → next p s (Io v) ≡ call_io p s v run id
  unfolding next
  io_done run id l at waits = is_name i s v _ _ h l ∙ (λ j. call_io p s v (at j) (waits j))

pub io_leads : (p : Program) (i j : Image Place) (run : Run) (v : Var) (id : Id) (line : Seen) → MayCall p i run v id → line ≡ seen.Io v id
    → Goes (λ s. calls p (record s { time = time_polled s run.stage }) (record run { stage = stage_polled s run.stage }) callback.Handle v line)
    i j (Some line)
    → Leads p i j (Io v) (Some line)
io_leads p i j run v id line may is goes s h reached =
    let t = goes s h reached in
    let left : Run = record run { stage = stage_polled s run.stage } in (
      t.0,
      io_done p i s v h (Some run) (Some id) may.within (may.begins s h reached) (may.waits s h reached)
          ∙ ap (λ (x : Seen). calls p (record s { time = time_polled s run.stage }) left callback.Handle v x) (sym is)
          ∙ t.1,
      t.2,
    )
