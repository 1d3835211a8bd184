-- What every script's parts are: each was written in a line of its own.
use Rattle.uv_script.proofs.ProofNames.{◌≡◌, ◌⊎◌, inl, inr, ℕ, zero, suc, ◌+◌, ◌<◌, ◌≤◌, ◌^◌, Bool, true, List, [], ◌∷◌, ◌++◌, length, get_or, slice_get, unwrap_or, Contains, refl, ap, sym, subst, ◌∙◌, arith, length-append, length-set, slice_set, cases_order, get_or-set_same, get_or-set_other, Contains-push_cases, sum_by_push, sum_by-set, unwrap_or-slice_get, Var, Order, Callback, MainOp, CallbackLine, ArenaSize, ThreadLine, Statement, Declares, InMain, InCallback, Sizes, HasWorkers, Orders, HasIo, FromHeap, InThread, Says, HasRoom, asks_io, MayMake, with_statement, Draft, Reads, skips, says, ReadsAll, none, one, blank, unread, Makes, MOST_NAMES, MOST_LINES, fields_of, IsLine, Program, Callbacks, no_callbacks, callbacks_of, with_line, lines_in, callback_count, line_count, IsSlotCount, IsWorkerCount, IsSound, var_line, IsName}
use Rattle.uv_ids.specs.declared.seen.Callback.TheVariants as callback
use Rattle.uv_script.specs.Program.{lines_of}
use Rattle.uv_script.proofs.Agrees.{AreDistinct}
use Rattle.uv_script.proofs.AfterLines.{says_sound, distinct_push}
use Rattle.uv_script.proofs.Exact.{statement_text, IsKept, IsNoName, line_exact, says_more}

-- the text of what a line says is a line that says it; and it makes no handle of I/O, or the line `io` was said
pub record IsWritten (names : List (List ℕ)) (io : Bool) (s : Statement) : Type 0 where
  pub line : IsLine (statement_text names s)
  pub says : Says names (fields_of (statement_text names s)) s
  pub may : asks_io s ≡ true → io ≡ true

pub record IsSize (size : ArenaSize) : Type 0 where
  pub slots : IsSlotCount size.slots
  pub last : size.last_generation < 2 ^ 32

pub record AreWritten (p : Program) : Type 0 where
  pub names : (name : List ℕ) → Contains p.names name → IsName name × IsLine (var_line name)
  pub distinct : AreDistinct p.names
  pub few_names : length p.names ≤ MOST_NAMES
  pub main : (o : MainOp) → Contains p.main o → IsWritten p.names p.io (InMain o)
  pub callbacks : (kind : Callback) (v : Var) (line : CallbackLine) → Contains (lines_in p kind v) line →
      IsWritten p.names p.io (InCallback kind v line)
  pub each : length p.callbacks ≡ length p.names
  pub few : line_count p ≤ MOST_LINES
  pub size : IsSize p.size
  pub workers : IsWorkerCount p.workers
  pub threads : (line : ThreadLine) → Contains p.threads line → IsWritten p.names p.io (InThread line)

written : (names : List (List ℕ)) (io : Bool) (line : List ℕ) (s : Statement) → IsKept s → IsLine line → Says names (fields_of line) s →
    (asks_io s ≡ true → io ≡ true) → IsWritten names io s
written names io line s kept is said may = grind (arith, line_exact)

written_more : (names more : List (List ℕ)) (io : Bool) (s : Statement) → IsKept s → IsNoName s → IsWritten names io s →
    IsWritten (names ++ more) io s
written_more names more io s kept other w = search (written, says_more)

-- one more list, which is empty, changes no list
push_default : {A : Type 0} (xs : List A) (d : A) (k : ℕ) → get_or (xs ++ d ∷ []) k d ≡ get_or xs k d
push_default [] d zero = refl
push_default [] d (suc k) = refl
push_default (x ∷ xs) d zero = refl
push_default (x ∷ xs) d (suc k) = push_default xs d k

unwrapped : {A : Type 0} (xs ys : List A) (d : A) (k : ℕ) → get_or xs k d ≡ get_or ys k d →
    unwrap_or (slice_get xs k) d ≡ unwrap_or (slice_get ys k) d
unwrapped xs ys d k e = unwrap_or-slice_get xs k d ∙ e ∙ sym (unwrap_or-slice_get ys k d)

-- the last generation of what a line says
last_fits : Statement → Type 0
last_fits (Sizes size) = size.last_generation < 2 ^ 32
last_fits _ = Unit {0}

says_last : (names fields : List (List ℕ)) (s : Statement) → Says names fields s → last_fits s
unfolding last_fits
says_last names fields s e3 = grind arith

-- a line of a callback to which one was added is the added one, or was there
line_there : (kind added : Callback) (c : Callbacks) (line more : CallbackLine) → Contains (lines_of kind (with_line added c more)) line →
    Contains (lines_of kind c) line ⊎ ((added ≡ kind) × (more ≡ line))
line_there callback.Handle callback.Handle c line more h = elim (Contains-push_cases c.handle more line h) [
  | inl old ↦ inl old
  | inr new ↦ inr
      (refl, new)
]
line_there callback.After callback.After c line more h = elim (Contains-push_cases c.after more line h) [
  | inl old ↦ inl old
  | inr new ↦ inr
      (refl, new)
]
line_there callback.Close callback.Close c line more h = elim (Contains-push_cases c.close more line h) [
  | inl old ↦ inl old
  | inr new ↦ inr
      (refl, new)
]
line_there each e1 c line more h = grind arith

pub count_more : (kind : Callback) (c : Callbacks) (line : CallbackLine) → callback_count (with_line kind c line) ≡ callback_count c + 1
count_more each c line = grind (arith, length-append)

-- another number of workers, whatever line says it
pub set_workers : (n : ℕ) (p : Program) → IsWorkerCount n → AreWritten p → AreWritten (record p { workers = n })
set_workers n p fits is = assumption

-- another order
set_order : (o : Order) (p : Program) → AreWritten p → AreWritten (record p { order = o })
set_order o p is = assumption

-- handles of I/O may be made
set_io : (p : Program) → AreWritten p → AreWritten (record p { io = true })
set_io p is = grind arith

-- due timers are called from their heap
set_heap : (p : Program) → AreWritten p → AreWritten (record p { heap = true })
set_heap p is = assumption

module _ (p : Program) (is : AreWritten p) where
  after_name : (name : List ℕ) → IsName name → (Contains p.names name → ⊥) → IsLine (var_line name) → HasRoom p (Declares name) →
      AreWritten (with_statement p (Declares name))
  after_name name is_name fresh line room = record {
    names = λ other h. elim (Contains-push_cases p.names name other h) [
      | inl old ↦ is.names other old
      | inr new ↦ subst (λ (n : List ℕ). IsName n × IsLine (var_line n)) new (is_name, line)
    ];
    distinct = distinct_push p (Declares name) is.distinct (is_name, fresh);
    few_names = omega (arith, length-append p.names (name ∷ []), room.1);
    main = λ o h. written_more p.names (name ∷ []) p.io (InMain o) tt tt (is.main o h);
    callbacks = λ kind v line h. written_more p.names (name ∷ []) p.io (InCallback kind v line) tt tt
        (is.callbacks kind v line (subst (λ (c : Callbacks). Contains (lines_of kind c) line)
        (unwrapped (p.callbacks ++ no_callbacks ∷ []) p.callbacks no_callbacks v.0 (push_default p.callbacks no_callbacks v.0)) h));
    each = omega (arith, length-append p.names (name ∷ []), length-append p.callbacks (no_callbacks ∷ []), is.each);
    few = omega (arith, length-append p.names (name ∷ []), sum_by_push callback_count p.callbacks no_callbacks, room.0);
    size = is.size;
    workers = is.workers;
    threads = λ line h. written_more p.names (name ∷ []) p.io (InThread line) tt tt (is.threads line h);
  }

  after_main : (o : MainOp) → IsWritten p.names p.io (InMain o) → HasRoom p (InMain o) → AreWritten (with_statement p (InMain o))
  after_main o line room = record {
    names = is.names;
    distinct = is.distinct;
    few_names = is.few_names;
    main = λ other h. elim (Contains-push_cases p.main o other h) [
      | inl old ↦ is.main other old
      | inr new ↦ subst (λ (x : MainOp). IsWritten p.names p.io (InMain x)) new line
    ];
    callbacks = is.callbacks;
    each = is.each;
    few = omega (arith, length-append p.main (o ∷ []), room);
    size = is.size;
    workers = is.workers;
    threads = is.threads;
  }

  -- the callbacks of a name, where those of this one were changed
  callbacks_after : (v w : Var) (c : Callbacks) → v.0 < length p.callbacks →
      ((v.0 ≡ w.0) × (unwrap_or (slice_get (slice_set p.callbacks v.0 c) w.0) no_callbacks ≡ c))
      ⊎ (unwrap_or (slice_get (slice_set p.callbacks v.0 c) w.0) no_callbacks ≡ callbacks_of p w)
  callbacks_after v w c within =
      elim (cases_order v.0 w.0) [
        | inl same ↦ inl (
          same,
          subst (λ (k : ℕ). unwrap_or (slice_get (slice_set p.callbacks v.0 c) k) no_callbacks ≡ c) same
              (unwrap_or-slice_get (slice_set p.callbacks v.0 c) v.0 no_callbacks ∙ get_or-set_same p.callbacks v.0 c no_callbacks within),
        )
        | inr order ↦ inr (unwrapped (slice_set p.callbacks v.0 c) p.callbacks no_callbacks w.0
            (get_or-set_other p.callbacks v.0 w.0 c no_callbacks (λ e. elim order [ inl less ↦ omega (arith, e) | inr more ↦ omega (arith, e) ])))
      ]

  callback_there : (kind : Callback) (v : Var) (line : CallbackLine) → v.0 < length p.callbacks → IsWritten p.names p.io (InCallback kind v line) →
      (other : Callback) (w : Var) (x : CallbackLine) →
      Contains (lines_in (with_statement p (InCallback kind v line)) other w) x → IsWritten p.names p.io (InCallback other w x)
  callback_there kind v line within new other w x h =
      elim (callbacks_after v w (with_line kind (callbacks_of p v) line) within) [
        | inl same ↦
            let at : Contains (lines_of other (with_line kind (callbacks_of p v) line)) x = subst
            (λ (c : Callbacks). Contains (lines_of other c) x) same.1 h in
            elim (line_there other kind (callbacks_of p v) x line at) [
              | inl old ↦ is.callbacks other w x (subst (λ (k : ℕ). Contains (lines_of other (unwrap_or
                  (slice_get p.callbacks k) no_callbacks)) x) same.0 old)
              | inr added ↦
                  let all : ◌≡◌ {A = Callback × ℕ × CallbackLine} (kind, v.0, line) (other, w.0, x) = λ i. (added.0 i, same.0 i, added.1 i) in
                  subst (λ (q : Callback × ℕ × CallbackLine). IsWritten p.names p.io (InCallback q.0 (record { 0 = q.1 }) q.2)) all new
            ]
        | inr kept ↦ is.callbacks other w x (subst (λ (c : Callbacks). Contains (lines_of other c) x) kept h)
      ]

  after_callback : (kind : Callback) (v : Var) (line : CallbackLine) → v.0 < length p.names → IsWritten p.names p.io (InCallback kind v line) →
      HasRoom p (InCallback kind v line) → AreWritten (with_statement p (InCallback kind v line))
  after_callback kind v line declared new room =
      let c = callbacks_of p v in
      let within : v.0 < length p.callbacks = omega (arith, is.each) in
      let sum = sum_by-set callback_count p.callbacks v.0 (with_line kind c line) no_callbacks within in
      let here = ap callback_count (unwrap_or-slice_get p.callbacks v.0 no_callbacks) in
      record {
        names = is.names;
        distinct = is.distinct;
        few_names = is.few_names;
        main = is.main;
        callbacks = callback_there kind v line within new;
        each = simp length-set is.each;
        few = omega (arith, sum, here, count_more kind c line, room);
        size = is.size;
        workers = is.workers;
        threads = is.threads;
      }

  after_thread : (line : ThreadLine) → IsWritten p.names p.io (InThread line) → HasRoom p (InThread line) →
      AreWritten (with_statement p (InThread line))
  after_thread line new room = record {
    names = is.names;
    distinct = is.distinct;
    few_names = is.few_names;
    main = is.main;
    callbacks = is.callbacks;
    each = is.each;
    few = omega (arith, length-append p.threads (line ∷ []), room);
    size = is.size;
    workers = is.workers;
    threads = λ other h. elim (Contains-push_cases p.threads line other h) [
      | inl old ↦ is.threads other old
      | inr same ↦ subst (λ (x : ThreadLine). IsWritten p.names p.io (InThread x)) same new
    ];
  }

  after_statement : (s : Statement) → IsSound p s → last_fits s → HasRoom p s → (IsKept s → IsWritten p.names p.io s) →
      AreWritten (with_statement p s)
  unfolding last_fits
  after_statement (Declares name) (is_name, fresh) last room new = after_name name is_name fresh (new tt).line room
  after_statement (InMain o) sound last room new = after_main o (new tt) room
  after_statement (InCallback kind v line) sound last room new = after_callback kind v line sound (new tt) room
  after_statement (Sizes size) sound last room new = record {
    names = is.names;
    distinct = is.distinct;
    few_names = is.few_names;
    main = is.main;
    callbacks = is.callbacks;
    each = is.each;
    few = is.few;
    size = record { slots = sound; last = last };
    workers = is.workers;
    threads = is.threads;
  }
  after_statement (HasWorkers n) sound last room new = set_workers n p sound is
  after_statement (Orders o) sound last room new = set_order o p is
  after_statement HasIo sound last room new = set_io p is
  after_statement FromHeap sound last room new = set_heap p is
  after_statement (InThread line) sound last room new = after_thread line (new tt) room

pub after_said : (p : Program) (line : List ℕ) (s : Statement) → AreWritten p → IsLine line → Says p.names (fields_of line) s → HasRoom p s →
    MayMake p s → AreWritten (with_statement p s)
after_said p line s is rule said room may =
    after_statement p is s (says_sound p (fields_of line) s said) (says_last p.names (fields_of line) s said) room
    (λ kept. written p.names p.io line s kept rule said may)

after_one : (d e : Draft) (line : List ℕ) → AreWritten d.program → Reads d line e → AreWritten e.program
after_one d e line is (skips rule skipped) = is
after_one d e line is (says s rule said new room may) = after_said d.program line s is rule said room may

after_all : (d e : Draft) (lines : List (List ℕ)) → AreWritten d.program → ReadsAll d lines e → AreWritten e.program
after_all d e [] is none = is
after_all d e (line ∷ lines) is (one {e = m} first rest) = after_all m e lines (after_one d m line is first) rest

pub written_none : AreWritten blank
written_none = grind arith

-- so it is with every script
pub script_written : (p : Program) (lines : List (List ℕ)) → Makes lines p → AreWritten p
script_written p lines makes = after_all unread (record { program = p; said = makes.said }) lines written_none makes.read
