-- What a run is settled by doesn't depend on how many steps its session may take.
use Rattle.uv_run.proofs.Names.{◌≡◌, subst, Program, Plan, Course, RunSettles, Asked}

-- what the script alone says of the run
abbrev pub of_script : Plan Asked → Plan Program
of_script plan = record { script = plan.script.program; workers = plan.workers; names = plan.names; lines = plan.lines }

pub settled_by : (plan : Plan Asked) (q : Plan Program) (s : Course) → of_script plan ≡ q → RunSettles plan s → RunSettles q s
settled_by plan q s e h = subst (λ (x : Plan Program). RunSettles x s) e (
  h.0,
  h.1,
  h.2,
  record {
    closed = h.3.closed;
    workers = h.3.workers;
    whole = h.3.whole;
    crew = h.3.crew;
    each = h.3.each;
    finishes = h.3.finishes;
    sends = h.3.sends;
    unthreaded = h.3.unthreaded;
  },
)
