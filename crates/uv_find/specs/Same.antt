-- Callbacks that do the same, except for their own names.
use Rattle.std.specs.Prelude.{ℕ, zero, suc, ◌+◌, ◌==◌, ◌&&◌, Bool, true, false, nat_eq, List, [], ◌∷◌, Option, Some, None, if◌then◌else◌}
use Rattle.std.specs.Cmp.Lexicographic.{pointwise}
use Rattle.uv_ids.specs.declared.id.Var.{Var}
use Rattle.uv_script.specs.declared.op.Op.{Op}
use Rattle.uv_script.specs.declared.op.Op.TheVariants as op
use Rattle.uv_script.specs.declared.op.CallbackLine.{CallbackLine}
use Rattle.uv_script.specs.Program.{Program, Callbacks, callbacks_of, op_name}
use Rattle.uv_state_key.specs.Key.{kind_number}
use Rattle.uv_work.specs.Tasks.{text_of}
use Rattle.uv_work.specs.declared.task.Task.{Task}

-- ---- which op it is, by numbers (own)

abbrev pub op_code : Op → ℕ
op_code (op.Init name k) = kind_number k
op_code (op.Start name timeout again) = 6
op_code (op.StartWatcher name) = 7
op_code (op.Stop name) = 8
op_code (op.Again name) = 9
op_code (op.SetRepeat name again) = 10
op_code (op.DueIn name) = 11
op_code (op.Ref name) = 12
op_code (op.Unref name) = 13
op_code (op.HasRef name) = 14
op_code (op.IsActive name) = 15
op_code (op.Close name) = 16
op_code (op.IsClosing name) = 17
op_code (op.Send name) = 18
op_code (op.Queue name task) = 19
op_code (op.Cancel name) = 20
op_code op.CloseLoop = 21
op_code op.StopLoop = 22
op_code op.UpdateTime = 23
op_code op.Now = 24
op_code op.IsAlive = 25
op_code op.Timeout = 26

-- the ms that it names
abbrev pub op_times : Op → ℕ × ℕ
op_times (op.Start name timeout again) = (timeout, again)
op_times (op.SetRepeat name again) = (again, 0)
op_times o = (0, 0)

abbrev pub op_task : Op → Option Task
op_task (op.Queue name task) = Some task
op_task o = None

-- ---- the same, except for two names that are exchanged

-- the name that takes this one's place, where a name and the next one change places
abbrev pub other_name : ℕ → Var → Var
other_name a v = if v.0 == a then record { 0 = a + 1 } else if v.0 == a + 1 then record { 0 = a } else v

abbrev pub same_task : Task → Task → Bool
same_task x y = (x.rounds == y.rounds) && pointwise nat_eq (text_of x) (text_of y)

abbrev pub same_tasks : Option Task → Option Task → Bool
same_tasks None None = true
same_tasks (Some x) (Some y) = same_task x y
same_tasks x y = false

abbrev pub turned_name : ℕ → Option Var → Option Var → Bool
turned_name a None None = true
turned_name a (Some x) (Some y) = (other_name a x).0 == y.0
turned_name a x y = false

abbrev pub same_call : Option ℕ → Option ℕ → Bool
same_call None None = true
same_call (Some x) (Some y) = x == y
same_call x y = false

abbrev pub turned_op : ℕ → Op → Op → Bool
turned_op a x y =
    (op_code x == op_code y) && ((op_times x).0 == (op_times y).0) && ((op_times x).1 == (op_times y).1) && turned_name a (op_name x) (op_name y)
    && same_tasks (op_task x) (op_task y)

abbrev pub turned_line : ℕ → CallbackLine → CallbackLine → Bool
turned_line a x y = same_call x.call y.call && turned_op a x.op y.op

abbrev pub turned_lines : ℕ → List CallbackLine → List CallbackLine → Bool
turned_lines a [] [] = true
turned_lines a (x ∷ xs) (y ∷ ys) = turned_line a x y && turned_lines a xs ys
turned_lines a xs ys = false

abbrev pub turned_callbacks : ℕ → Callbacks → Callbacks → Bool
turned_callbacks a x y = turned_lines a x.handle y.handle && turned_lines a x.after y.after && turned_lines a x.close y.close

-- of the first names, each has the callbacks of the one whose place it takes, with the two names exchanged in their lines
abbrev pub all_turned : ℕ → Program → ℕ → Bool
all_turned a p zero = true
all_turned a p (suc n) = all_turned a p n && turned_callbacks a (callbacks_of p (record { 0 = n })) (callbacks_of p (other_name a (record { 0 = n })))
