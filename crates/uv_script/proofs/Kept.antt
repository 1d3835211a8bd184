-- What the type of scripts keeps.
use Rattle.uv_script.proofs.ProofNames.{◌≡◌, ℕ, ◌+◌, ◌<◌, true, List, length, Option, Some, None, slice_get, option_map, Contains, All, sym, ap, subst, refl, arith, length-append, Contains-get_or, none-some, same_Some, slice_get_within, get_or_from_slice_get, MainOp, Op, CallbackLine, sum_by_push, sum_by-set, unwrap_or-slice_get, Statement, Declares, InMain, InCallback, Sizes, HasWorkers, Orders, HasIo, FromHeap, InThread, HasRoom, with_statement, WasRead, IsReadScript, blank, Program, op_name, named_word, bare_word, IsOp, Says, fields_of, Var, Callback, line_count, makes_io, has_io, main_op, op_at, lines_in, with_workers, IsWorkerCount, IsThreadLine, IsWhole, IsSound, IsSaid}
use Rattle.uv_ids.specs.declared.seen.Site.{Site}
use Rattle.uv_ids.specs.declared.seen.Site.TheVariants as site
use Rattle.uv_script.specs.declared.op.MainOp.TheVariants as main
use Rattle.uv_script.proofs.Exact.{statement_text}
use Rattle.uv_script.proofs.AfterLines.{says_sound, said_sound}
use Rattle.uv_script.proofs.ReadBack.{was_read}
use Rattle.uv_script.proofs.Written.{AreWritten, IsWritten, count_more, script_written, after_said, set_workers, written_none}

found_there : {A : Type 0} (xs : List A) (k : ℕ) (x : A) → slice_get xs k ≡ Some x → Contains xs x
found_there xs k x at = (k, slice_get_within xs k x at, get_or_from_slice_get xs k x x at)

-- the name of an op that says no more is the one that it names
on_named : (o : Op) (word : List ℕ) (v w : Var) → named_word o ≡ Some (word, v) → op_name o ≡ Some w → v ≡ w
on_named e1 word v w said named = grind (arith, none-some, same_Some)

bare_named : (o : Op) (word : List ℕ) (w : Var) → bare_word o ≡ Some word → op_name o ≡ Some w → ⊥
bare_named e1 word w said named = grind (arith, none-some)

-- a name that an op names is declared
op_named : (names fields : List (List ℕ)) (o : Op) (v : Var) → IsOp names fields o → op_name o ≡ Some v → v.0 < length names
op_named names fields o v e1 named = grind (arith, slice_get_within, on_named, bare_named, same_Some)

-- what is known of each op of a script that was written
record IsOpOf (p : Program) (o : Op) : Type 0 where
  pub may : makes_io o ≡ true → has_io p ≡ true
  pub named : (v : Var) → op_name o ≡ Some v → v.0 < length p.names

main_named : (names fields : List (List ℕ)) (o : Op) (v : Var) → Says names fields (InMain (main.Op o)) → op_name o ≡ Some v →
    v.0 < length names
main_named names fields o v e1 named = grind (arith, op_named, none-some)

call_named : (names fields : List (List ℕ)) (kind : Callback) (w : Var) (line : CallbackLine) (v : Var) →
    Says names fields (InCallback kind w line) →
    op_name line.op ≡ Some v →
    v.0 < length names
call_named names fields kind w line v e1 named = grind (arith, op_named)

op_of_main : (p : Program) (o : Op) → IsWritten p.names p.io (InMain (main.Op o)) → IsOpOf p o
op_of_main p o is = record { may = is.may; named = λ v. main_named p.names (fields_of (statement_text p.names (InMain (main.Op o)))) o v is.says }

op_of_call : (p : Program) (kind : Callback) (w : Var) (line : CallbackLine) → IsWritten p.names p.io (InCallback kind w line) → IsOpOf p line.op
op_of_call p kind w line is =
    record { may = is.may; named = λ v. call_named p.names (fields_of (statement_text p.names (InCallback kind w line))) kind w line v is.says }

op_is_of : (p : Program) → AreWritten p → (at : Site) (o : Op) → op_at p at ≡ Some o → IsOpOf p o
op_is_of p is (site.Main line) o at = by (slice_get p.main line) refl at
  where
    by : (m : Option MainOp) → slice_get p.main line ≡ m → main_op m ≡ Some o → IsOpOf p o
    by (Some (main.Op x)) there same =
        subst (IsOpOf p) (same_Some x o same) (op_of_main p x (is.main (main.Op x) (found_there p.main line (main.Op x) there)))
    by (Some (main.Run mode)) there same = absurd (none-some o same)
    by None there same = absurd (none-some o same)
op_is_of p is (site.In kind v line) o at = by (slice_get (lines_in p kind v) line) refl at
  where
    by : (l : Option CallbackLine) → slice_get (lines_in p kind v) line ≡ l → option_map (λ (x : CallbackLine). x.op) l ≡ Some o → IsOpOf p o
    by (Some x) there same =
        subst (IsOpOf p) (same_Some x.op o same) (op_of_call p kind v x (is.callbacks kind v x (found_there (lines_in p kind v) line x there)))
    by None there same = absurd (none-some o same)

-- a script that was read is whole
pub whole : (p : Program) → WasRead p → IsWhole p
whole p read =
    let is = script_written p read.lines read.makes in
    let threads : All (IsThreadLine (length p.names)) p.threads = λ k d within.
    says_sound p _ _ (is.threads _ (Contains-get_or p.threads k d within)).says in
    let io : (at : Site) (o : Op) → op_at p at ≡ Some o → makes_io o ≡ true → has_io p ≡ true = λ at o said. (op_is_of p is at o said).may in
    let named : (at : Site) (o : Op) (v : Var) → op_at p at ≡ Some o → op_name o ≡ Some v → v.0 < length p.names =
    λ at o v said. (op_is_of p is at o said).named v in
    assumption

-- how many lines count more
abbrev pub added : Statement → ℕ
added (Declares name) = 1
added (InMain o) = 1
added (InCallback kind v line) = 1
added (Sizes size) = 0
added (HasWorkers n) = 0
added (Orders o) = 0
added HasIo = 0
added FromHeap = 0
added (InThread line) = 1

count_statement : (p : Program) (s : Statement) → AreWritten p → IsSound p s → line_count (with_statement p s) ≡ line_count p + added s
count_statement p each is sound = grind (arith, length-append, sum_by_push, sum_by-set, unwrap_or-slice_get, count_more)

-- one more line
more : (lines n : ℕ) (p q : Program) (s : Statement) → IsReadScript lines p → IsSaid p s → HasRoom p s → with_statement p s ≡ q →
    n ≡ lines + added s →
    IsReadScript n q
more lines n p q s is said room same count =
    let written = script_written p is.read.lines is.read.makes in
    let read = was_read (with_statement p s) (after_said p said.line s written said.is said.says room said.may) in
    let counted = count_statement p s written (said_sound p s said) in
    subst (IsReadScript n) same (search whole)

pub counted_more : (lines : ℕ) (p q : Program) (s : Statement) → added s ≡ 1 → IsReadScript lines p → IsSaid p s → HasRoom p s →
    with_statement p s ≡ q →
    IsReadScript (lines + 1) q
counted_more lines p q s counts is said room same = more lines (lines + 1) p q s is said room same (ap (λ k. lines + k) (sym counts))

pub uncounted_more : (lines : ℕ) (p q : Program) (s : Statement) → added s ≡ 0 → IsReadScript lines p → IsSaid p s → HasRoom p s →
    with_statement p s ≡ q →
    IsReadScript lines q
uncounted_more lines p q s counts is said room same = more lines lines p q s is said room same (omega (arith, counts))

pub blank_read : IsReadScript 0 blank
blank_read = search (was_read, written_none, whole)

-- another number of workers
pub workers_kept : (lines n : ℕ) (p : Program) → IsWorkerCount n → IsReadScript lines p → IsReadScript lines (with_workers n p)
workers_kept lines n p fits is = search (script_written, was_read, set_workers, whole)
