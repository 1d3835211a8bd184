-- What a change leaves as it is: names, or ids, or the lines of calls.
use Rattle.uv_alike.proofs.Names.{◌≡◌, List, [], ◌∷◌, Option, refl, ap, sym, arith, Id, Stage, Var, Op, MainOp, CallbackLine, Event, Loop, Take, Finish, Cancel, Send, Io, Tick, Slot, Content, Task, list_any, Bool, ap₂, ℕ, State, slice_get, slice_set, ◌||◌, map, option_map, Walk, IsWork, Change, same, changed, changed_stage, changed_walk, changed_op, changed_callback, changed_main, changed_event, HidesTimes, same_times, Program}
use Rattle.uv_script.specs.declared.op.Op.TheVariants as op
use Rattle.uv_script.specs.declared.op.MainOp.TheVariants as main

pub option_same : {X : Type 0} (f : X → X) → ((x : X) → f x ≡ x) → (o : Option X) → option_map f o ≡ o
option_same f same o = grind arith

pub list_same : {X : Type 0} (f : X → X) → ((x : X) → f x ≡ x) → (xs : List X) → map f xs ≡ xs
list_same f same [] = refl
list_same f same (x ∷ xs) = ap₂ (λ y ys. y ∷ ys) (same x) (list_same f same xs)

-- a test that no change of a slot's content can tell
pub any_same : (f : Content → Content) (test : Option Content → Bool) → ((o : Option Content) → test (option_map f o) ≡ test o) →
    (slots : List (Slot Content)) →
    list_any (λ (slot : Slot Content). test slot.content) (map (λ (slot : Slot Content). record slot { content = option_map f slot.content }) slots)
    ≡ list_any (λ (slot : Slot Content). test slot.content) slots
any_same f test same [] = refl
any_same f test same (x ∷ xs) = ap₂ (λ a b. a || b) (same x.content) (any_same f test same xs)

-- what the workers run, where no id is another
pub runs_same : (s : State) (k : ℕ) → (slice_get s.running k ≡ option_map (option_map (λ (x : Id). x)) (slice_get s.running k))
    × ((x : Option Id) → slice_set s.running k (option_map (λ (y : Id). y) x) ≡ slice_set s.running k x)
runs_same s k = grind arith

-- what requests ask for stays
pub work_same : IsWork same
work_same = record { opens = refl; cancels = refl; finishes = λ t. refl; tells = λ o. refl }

-- and so do times
pub times_same : (p : Program) (s : State) → HidesTimes same_times p s
times_same p s = record {
  order = λ a b. refl;
  passed = λ a. refl;
  left = λ a. refl;
  rests = λ active k due e. refl;
  ticks = λ k due e. refl;
  more = refl;
  repeats = λ x h e. refl;
  starts = λ at v timeout repeat e. refl;
  fires = λ t e due. refl;
  falls = λ t e due. refl;
  waits = λ n. refl;
}

-- where no name is named anew, and requests ask for what they did, the script stays
module _ (c : Change) (var : (v : Var) → c.var v ≡ v) (task : (t : Task) → c.work.task t ≡ t) where
  pub op_same : (o : Op) → changed_op c o ≡ o
  op_same (op.Init v k) = ap (λ w. op.Init w k) (var v)
  op_same (op.Queue v t) = ap₂ (λ w x. op.Queue w x) (var v) (task t)
  op_same (op.Cancel v) = ap op.Cancel (var v)
  op_same (op.Start v timeout repeat) = ap (λ w. op.Start w timeout repeat) (var v)
  op_same (op.StartWatcher v) = ap op.StartWatcher (var v)
  op_same (op.Stop v) = ap op.Stop (var v)
  op_same (op.Again v) = ap op.Again (var v)
  op_same (op.SetRepeat v repeat) = ap (λ w. op.SetRepeat w repeat) (var v)
  op_same (op.DueIn v) = ap op.DueIn (var v)
  op_same (op.Close v) = ap op.Close (var v)
  op_same (op.Ref v) = ap op.Ref (var v)
  op_same (op.Unref v) = ap op.Unref (var v)
  op_same (op.HasRef v) = ap op.HasRef (var v)
  op_same (op.IsActive v) = ap op.IsActive (var v)
  op_same (op.IsClosing v) = ap op.IsClosing (var v)
  op_same (op.Send v) = ap op.Send (var v)
  op_same op.StopLoop = refl
  op_same op.UpdateTime = refl
  op_same op.Now = refl
  op_same op.IsAlive = refl
  op_same op.Timeout = refl
  op_same op.CloseLoop = refl

  pub lines_same : (o : Option CallbackLine) → o ≡ option_map (changed_callback c) o
  lines_same o = sym (option_same (changed_callback c) (λ (l : CallbackLine). ap (λ (x : Op). record l { op = x }) (op_same l.op)) o)

  pub main_same : (o : Option MainOp) → o ≡ option_map (changed_main c) o
  main_same o = sym (option_same (changed_main c) by o) where
    by : (o : MainOp) → changed_main c o ≡ o
    by (main.Op o) = ap main.Op (op_same o)
    by (main.Run mode) = refl

-- what comes from outside stays, too
module _ (c : Change) (var : (v : Var) → c.var v ≡ v) where
  pub event_same : (e : Event) → changed_event c e ≡ e
  event_same Loop = refl
  event_same (Take k) = refl
  event_same (Finish k) = refl
  event_same (Cancel v) = ap Cancel (var v)
  event_same (Send v) = ap Send (var v)
  event_same (Io v) = ap Io (var v)
  event_same (Tick ms) = refl

-- a stage, where the time stays
pub stage_same : (c : Change) → ((n : ℕ) → c.times.time n ≡ n) → (stage : Stage) → changed_stage c stage ≡ stage
stage_same c time stage = grind arith

-- where no id is another, the lists of handles stay, and so do the requests whose callbacks are under way
module _ (c : Change) (id : (x : Id) → c.id x ≡ x) where
  walk_same : (w : Walk Id) → changed_walk c w ≡ w
  walk_same w = λ i. record { list = list_same c.id id w.list i; yet = list_same c.id id w.yet i }

  pub lists_same : (s : State) → changed c s ≡ record (changed c s)
      { ready = s.ready; watchers = s.watchers; closing = s.closing; done = record { list = c.ends s.done.list; yet = s.done.yet } }
  lists_same s = λ i. record (changed c s) {
    ready = list_same c.id id s.ready i;
    watchers = record {
      idle = walk_same s.watchers.idle i;
      prepare = walk_same s.watchers.prepare i;
      check = walk_same s.watchers.check i;
      async = walk_same s.watchers.async i;
    };
    closing = walk_same s.closing i;
    done = record { list = c.ends s.done.list; yet = list_same c.id id s.done.yet i };
  }
