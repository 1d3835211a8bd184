use Rattle.uv_run.proofs.Names.{length, refl, sym, ap, ap₂, ◌∙◌, subst, Program, Shown, is_documented, is_once, AreNamed, RunSettles, plan_of, plan_within, course_of}
use Rattle.uv_run.proofs.Named.{are_named}
use Rattle.uv_run.proofs.Plans.{of_script, settled_by}
use Rattle.uv_run.proofs.running.live_within.Goals as goal

pub of-requires : goal.of-requires
of-requires g c =
    let lines = c.in_ok-lines.lines.items in
    let all = are_named c.args.script lines (c.in_ok-lines.ensures.items ∙ c.thread_lines.ensures.lines)
    (rw c.thread_lines.ensures.lines at c.thread_lines.ensures.known) in
    subst (λ (p : Program). AreNamed (length p.names) lines) (sym (c.new.ensures.program ∙ c.in_ok-machine.ensures.program)) all

-- it is settled by the script that was given, and its `thread` lines
pub returns-clause-settled : goal.returns-clause-settled
returns-clause-settled g c =
    let ran = c.in_ok-session-2.session in
    let program = ap (λ (s : Shown). s.program) c.in_ok-session.ensures.session ∙ c.new.ensures.program ∙ c.in_ok-machine.ensures.program in
    let lines = c.in_ok-session.ensures.lines ∙ c.in_ok-lines.ensures.items ∙ c.thread_lines.ensures.lines in
    let same = ap of_script c.in_ok-session-2.ensures.plan ∙ ap₂ plan_of program lines in
    subst (λ (s : Shown). RunSettles (plan_of c.args.script c.args.script.threads) (course_of s)) (sym c.into_session.ensures)
    (settled_by (plan_within ran.session ran.lines) (plan_of c.args.script c.args.script.threads) (course_of ran.session) same
    c.in_ok-session-2.ensures.settled)

-- the lines of every session are documented, and by them each handle closes once
pub returns-clause-documented : goal.returns-clause-documented
returns-clause-documented g c = is_documented c.into_session.result _ refl

pub returns-clause-once : goal.returns-clause-once
returns-clause-once g c = is_once c.into_session.result _ refl
