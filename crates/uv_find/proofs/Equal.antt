-- Lines that are told to be the same, except for two names that are exchanged, are.
use Rattle.uv_find.proofs.Names.{◌≡◌, ℕ, zero, suc, ◌+◌, ◌<◌, ◌≤◌, ◌==◌, ◌&&◌, Bool, true, false, List, [], ◌∷◌, length, drop, nat_eq, nat_lt, get_or, refl, ap, ap₂, sym, subst, ◌∙◌, Option, Some, None, arith, map, option_map, slice_index_or, unwrap_or, and_parts, eqb-true, ltb-true, nat_tests, drop_all, slice_get_past, drop-cons, Var, Callback, Op, CallbackLine, Program, Callbacks, callbacks_of, lines_in, lines_of, no_callbacks, op_name, Change, changed_op, changed_callback, moved_var, by_names, place_of, op_code, op_times, op_task, other_name, same_task, same_tasks, turned_name, same_call, turned_op, turned_line, turned_lines, turned_callbacks, all_turned, pointwise, text_of, Task, option_same}
use Rattle.std.specs.Cmp.Lexicographic.{same_text}
use Rattle.uv_ids.specs.declared.phase.Kind.TheVariants as kind
use Rattle.uv_script.specs.declared.op.Op.TheVariants as op
use Rattle.uv_work.proofs.TaskLemmas as tasks
use Rattle.uv_find.proofs.Swap.{swap, is_equal, differs, first_goes, second_goes, other_stays}

-- ---- an op is what is told of it

name_by : Option Var → Var
name_by name = unwrap_or name (record { 0 = 0 })

op_by : ℕ → ℕ × ℕ → Option Var → Option Task → Op
op_by code times name None = slice_index_or (
    op.Init (name_by name) kind.Timer
    ∷ op.Init (name_by name) kind.Idle
    ∷ op.Init (name_by name) kind.Prepare
    ∷ op.Init (name_by name) kind.Check
    ∷ op.Init (name_by name) kind.Async
    ∷ op.Init (name_by name) kind.Io
    ∷ op.Start (name_by name) times.0 times.1
    ∷ op.StartWatcher (name_by name)
    ∷ op.Stop (name_by name)
    ∷ op.Again (name_by name)
    ∷ op.SetRepeat (name_by name) times.0
    ∷ op.DueIn (name_by name)
    ∷ op.Ref (name_by name)
    ∷ op.Unref (name_by name)
    ∷ op.HasRef (name_by name)
    ∷ op.IsActive (name_by name)
    ∷ op.Close (name_by name)
    ∷ op.IsClosing (name_by name)
    ∷ op.Send (name_by name)
    ∷ op.Now
    ∷ op.Cancel (name_by name)
    ∷ op.CloseLoop
    ∷ op.StopLoop
    ∷ op.UpdateTime
    ∷ op.Now
    ∷ op.IsAlive
    ∷ op.Timeout
    ∷ []) code op.Now
op_by code times name (Some task) = op.Queue (name_by name) task

told : (o : Op) → op_by (op_code o) (op_times o) (op_name o) (op_task o) ≡ o
unfolding op_by name_by
told (op.Init name kind.Timer) = refl
told (op.Init name kind.Idle) = refl
told (op.Init name kind.Prepare) = refl
told (op.Init name kind.Check) = refl
told (op.Init name kind.Async) = refl
told (op.Init name kind.Io) = refl
told (op.Start name timeout again) = refl
told (op.StartWatcher name) = refl
told (op.Stop name) = refl
told (op.Again name) = refl
told (op.SetRepeat name again) = refl
told (op.DueIn name) = refl
told (op.Ref name) = refl
told (op.Unref name) = refl
told (op.HasRef name) = refl
told (op.IsActive name) = refl
told (op.Close name) = refl
told (op.IsClosing name) = refl
told (op.Send name) = refl
told (op.Queue name task) = refl
told (op.Cancel name) = refl
told op.CloseLoop = refl
told op.StopLoop = refl
told op.UpdateTime = refl
told op.Now = refl
told op.IsAlive = refl
told op.Timeout = refl

-- and where names are others
pub name_changed : (c : Change) (o : Op) → op_name (changed_op c o) ≡ option_map c.var (op_name o)
name_changed c o = grind arith

turned : (a : ℕ) (o : Op) → op_by (op_code o) (op_times o) (option_map (moved_var (swap a)) (op_name o)) (op_task o)
    ≡ changed_op (by_names (swap a)) o
turned a o =
    let c = by_names (swap a) in
    ap₂ (λ code times. op_by code times (option_map c.var (op_name o)) (op_task o)) (sym (grind arith)) (sym (grind arith))
    ∙ ap₂ (op_by (op_code (changed_op c o)) (op_times (changed_op c o))) (sym (name_changed c o))
    (sym (option_same _ (λ t. refl) (op_task o)) ∙ sym (grind arith))
    ∙ told (changed_op c o)

-- ---- which name takes a name's place

pub other_is : (a : ℕ) (v : Var) → moved_var (swap a) v ≡ other_name a v
other_is a v = grind (arith, is_equal, first_goes, second_goes, other_stays, differs)

-- ---- what is told to be the same is

pub task_right : (x y : Task) → same_task x y ≡ true → x ≡ y
task_right x y e =
    let parts = and_parts (x.rounds == y.rounds) (pointwise nat_eq (text_of x) (text_of y)) e in
    tasks.same_task x y (eqb-true x.rounds y.rounds parts.0) (same_text (text_of x) (text_of y) (sym parts.1))

tasks_right : (x y : Option Task) → same_tasks x y ≡ true → x ≡ y
tasks_right None None e = refl
tasks_right (Some x) (Some y) e = ap Some (task_right x y e)
tasks_right None (Some y) e = absurd (let f : false ≡ true = e in cc)
tasks_right (Some x) None e = absurd (let f : false ≡ true = e in cc)

call_right : (x y : Option ℕ) → same_call x y ≡ true → x ≡ y
call_right each e1 e = grind arith

module _ (a : ℕ) where
  name_right : (x y : Option Var) → turned_name a x y ≡ true → option_map (moved_var (swap a)) x ≡ y
  name_right each e1 e = grind (arith, other_is, eqb-true, other_name)

  op_right : (x y : Op) → turned_op a x y ≡ true → changed_op (by_names (swap a)) x ≡ y
  op_right x y e =
      let task = and_parts _ _ e in
      let name = and_parts _ _ task.0 in
      let again = and_parts _ _ name.0 in
      let first = and_parts _ _ again.0 in
      let times : op_times x ≡ op_times y =
      λ i. (eqb-true (op_times x).0 (op_times y).0 first.1 i, eqb-true (op_times x).1 (op_times y).1 again.1 i) in
      sym (turned a x)
      ∙ ap₂ (λ c t. op_by c t (option_map (moved_var (swap a)) (op_name x)) (op_task x)) (eqb-true (op_code x) (op_code y) first.0) times
      ∙ ap₂ (λ n t. op_by (op_code y) (op_times y) n t) (name_right (op_name x) (op_name y) name.1)
      (tasks_right (op_task x) (op_task y) task.1)
      ∙ told y

  line_right : (x y : CallbackLine) → turned_line a x y ≡ true → changed_callback (by_names (swap a)) x ≡ y
  line_right x y e = grind (arith, and_parts, call_right, op_right)

  lines_right : (xs ys : List CallbackLine) → turned_lines a xs ys ≡ true → map (changed_callback (by_names (swap a))) xs ≡ ys
  lines_right (x ∷ xs) (y ∷ ys) e =
      let parts = and_parts (turned_line a x y) (turned_lines a xs ys) e in
      ap₂ (λ (z : CallbackLine) (zs : List CallbackLine). z ∷ zs) (line_right x y parts.0) (lines_right xs ys parts.1)
  lines_right each e1 e = grind arith

  callbacks_right : (kind : Callback) (x y : Callbacks) → turned_callbacks a x y ≡ true
      → map (changed_callback (by_names (swap a))) (lines_of kind x) ≡ lines_of kind y
  callbacks_right kind x y e = grind (arith, and_parts, map, changed_callback, lines_right)

  -- of each name that is declared
  turned_below : (p : Program) (n : ℕ) → all_turned a p n ≡ true → (v : ℕ) → v < n
      → turned_callbacks a (callbacks_of p (record { 0 = v })) (callbacks_of p (other_name a (record { 0 = v }))) ≡ true
  turned_below p zero e v below = absurd (omega (arith, below))
  turned_below p (suc n) e v below = by (v == n) refl (turned_below p n parts.0 v) where
    parts : (all_turned a p n ≡ true)
        × (turned_callbacks a (callbacks_of p (record { 0 = n })) (callbacks_of p (other_name a (record { 0 = n }))) ≡ true)
    parts = and_parts (all_turned a p n)
        (turned_callbacks a (callbacks_of p (record { 0 = n })) (callbacks_of p (other_name a (record { 0 = n })))) e

    below_other : (v n : ℕ) → v < suc n → (v ≡ n → ⊥) → v < n
    below_other v n l other = grind arith

    Goal : Type 0
    Goal = turned_callbacks a (callbacks_of p (record { 0 = v })) (callbacks_of p (other_name a (record { 0 = v }))) ≡ true

    by : (b : Bool) → (v == n) ≡ b → (v < n → Goal) → Goal
    by true is more = subst (λ m. turned_callbacks a (callbacks_of p (record { 0 = m })) (callbacks_of p (other_name a (record { 0 = m }))) ≡ true)
        (sym (is_equal v n is)) parts.1
    by false is more = more (below_other v n below (differs v n is))

  not_less : (k n : ℕ) → nat_lt k n ≡ false → n ≤ k
  not_less k n large = grind (arith, nat_tests)

  -- and none that isn't has any lines
  none_beyond : (p : Program) (v : Var) → length p.callbacks ≤ v.0 → (kind : Callback) → lines_in p kind v ≡ []
  none_beyond p v past kind = grind (arith, unwrap_or, no_callbacks, slice_get_past)

  pub lines_turned : (p : Program) → a + 1 < length p.callbacks → all_turned a p (length p.callbacks) ≡ true → (kind : Callback) (v : Var)
      → lines_in p kind (moved_var (swap a) v) ≡ map (changed_callback (by_names (swap a))) (lines_in p kind v)
  lines_turned p within all kind v = by (nat_lt v.0 (length p.callbacks)) refl where
    by : (b : Bool) → nat_lt v.0 (length p.callbacks) ≡ b
        → lines_in p kind (moved_var (swap a) v) ≡ map (changed_callback (by_names (swap a))) (lines_in p kind v)
    by true below =
        ap (lines_in p kind) (other_is a v)
        ∙ sym (callbacks_right kind (callbacks_of p v) (callbacks_of p (other_name a v))
        (turned_below p (length p.callbacks) all v.0 (ltb-true v.0 (length p.callbacks) below)))
    by false past = grind (arith, not_less, length, place_of, other_stays, lines_in, none_beyond, map, changed_callback)

-- ---- line by line

pub other_length : (a : ℕ) (xs ys : List CallbackLine) → (length xs ≡ length ys → ⊥) → false ≡ turned_lines a xs ys
other_length a (x ∷ xs) (y ∷ ys) differ =
    by (turned_line a x y) (turned_lines a xs ys) (other_length a xs ys (λ e. differ (ap suc e)))
  where
    by : (b c : Bool) → false ≡ c → false ≡ (b && c)
    by b c e = grind arith
other_length a each e2 differ = grind arith

front_of : (a : ℕ) (xs ys : List CallbackLine) (k : ℕ) (d : CallbackLine) → k < length xs → k < length ys
    → turned_lines a (drop k xs) (drop k ys) ≡ (turned_line a (get_or xs k d) (get_or ys k d) && turned_lines a (drop (k + 1) xs) (drop (k + 1) ys))
front_of a xs ys k d long other =
    let one : suc k ≡ k + 1 = omega arith in
    grind (arith, drop-cons)

pub lines_differ : (a : ℕ) (xs ys : List CallbackLine) (k : ℕ) (d : CallbackLine) → k < length xs → length xs ≡ length ys
    → turned_line a (get_or xs k d) (get_or ys k d) ≡ false → turned_lines a (drop k xs) (drop k ys) ≡ turned_lines a xs ys
    → false ≡ turned_lines a xs ys
lines_differ a xs ys k d below long e so =
    sym (front_of a xs ys k d below (omega (arith, below, long)) ∙ ap (λ b. b && turned_lines a (drop (k + 1) xs) (drop (k + 1) ys)) e) ∙ so

pub lines_go_on : (a : ℕ) (xs ys : List CallbackLine) (k : ℕ) (d : CallbackLine) → k < length xs → length xs ≡ length ys
    → turned_line a (get_or xs k d) (get_or ys k d) ≡ true → turned_lines a (drop k xs) (drop k ys) ≡ turned_lines a xs ys
    → turned_lines a (drop (k + 1) xs) (drop (k + 1) ys) ≡ turned_lines a xs ys
lines_go_on a xs ys k d below long e so =
    sym (front_of a xs ys k d below (omega (arith, below, long)) ∙ ap (λ b. b && turned_lines a (drop (k + 1) xs) (drop (k + 1) ys)) e) ∙ so

pub lines_end : (a : ℕ) (xs ys : List CallbackLine) (k : ℕ) → length xs ≤ k → length xs ≡ length ys
    → turned_lines a (drop k xs) (drop k ys) ≡ turned_lines a xs ys → true ≡ turned_lines a xs ys
lines_end a xs ys k past long so = sym (ap₂ (turned_lines a) (drop_all k xs past) (drop_all k ys (omega (arith, past, long)))) ∙ so

pub ruleset comparing = (other_length, lines_differ, lines_go_on, lines_end)
