-- What holds of each op of a script.
use Rattle.std.specs.Prelude.{ℕ, ◌+◌, ◌==◌, not, Bool, true, ◌&&◌, List, Option, Some, None}
use Rattle.std.specs.List.{list_all}
use Rattle.uv_script.specs.declared.op.Op.{Op}
use Rattle.uv_script.specs.declared.op.MainOp.{MainOp}
use Rattle.uv_script.specs.declared.op.MainOp.TheVariants as main
use Rattle.uv_script.specs.declared.op.CallbackLine.{CallbackLine}
use Rattle.uv_ids.specs.declared.id.Var.{Var}
use Rattle.uv_script.specs.Program.{Program, Callbacks, op_name}

-- of a line of the main program, of which a run has none
abbrev pub of_main : (Op → Bool) → MainOp → Bool
of_main test (main.Op o) = test o
of_main test (main.Run mode) = true

abbrev pub of_lines : (Op → Bool) → List CallbackLine → Bool
of_lines test lines = list_all (λ (line : CallbackLine). test line.op) lines

-- of a name's callbacks
abbrev pub of_callbacks : (Op → Bool) → Callbacks → Bool
of_callbacks test c = of_lines test c.handle && of_lines test c.after && of_lines test c.close

-- a name is neither this one nor the next one
abbrev pub is_beside : ℕ → Option Var → Bool
is_beside a None = true
is_beside a (Some v) = not (v.0 == a) && not (v.0 == a + 1)

-- an op names neither
abbrev pub spares : ℕ → Op → Bool
spares a o = is_beside a (op_name o)

abbrev pub each_op : (Op → Bool) → Program → Bool
each_op test p = list_all (of_main test) p.main && list_all (of_callbacks test) p.callbacks
