use Rattle.uv_inquiry.proofs.Names.{◌<◌, Var, HasOp}
use Rattle.uv_ids.specs.declared.phase.Kind.TheVariants as kind
use Rattle.uv_script.specs.declared.op.Op.TheVariants as op
use Rattle.uv_inquiry.proofs.repeats.idles.Given as goal

-- none of the names before is an idle handle that is started
abbrev pub invariant-loop-name : goal.invariant-loop-name
invariant-loop-name l = (v : Var) → v.0 < l.name → HasOp l.script (op.Init v kind.Idle) → HasOp l.script (op.StartWatcher v) → ⊥
