-- A script's text is read back.
use Rattle.uv_script.proofs.ProofNames.{◌≡◌, ℕ, suc, ◌+◌, ◌<◌, ◌≤◌, ◌^◌, Bool, true, false, ◌&&◌, nat_le, List, [], ◌∷◌, ◌++◌, length, map, Ok, Err, Result, slice_get, unwrap_or, Contains, All, refl, ap, sym, subst, ◌∙◌, arith, length-append, append-nil, append_assoc, codes, decimal, slice_set, sum_by, AllByRecursion, list_all, is_ascii_digit, all_ascii_digits, get_or-append_seam, set-append_seam, ne_eqb, Decides-by_and, digits_decimal, length-decimal-le, get_or_append_left, All-append, sum_by-cons, sum_by-append, unwrap_or-slice_get, numerals_by_value, tells_all_ascii_digits, Fault, Var, Order, Callback, MainOp, CallbackLine, ArenaSize, ThreadLine, Declares, InMain, InCallback, Sizes, HasWorkers, Orders, HasIo, FromHeap, InThread, declares, sizes_to, has_workers, orders, says_io, says_heap, Draft, Reads, says, ReadsAll, none, one, unread, WasRead, IsScript, Parses, IsBack, IsReadBack, Settings, MOST_NAMES, MOST_LINES, lines_of, fields_of, IsLine, Program, Callbacks, no_callbacks, callbacks_of, lines_in_callbacks, with_line, callback_count, line_count, IsWorkerCount, order_line, io_line, heap_line, line_if, setting_lines, workers_line, slots_line, var_line, main_line, callback_line, name_lines, callback_lines, thread_line, script_lines, lines_text, IsName, IsNumber}
use Rattle.uv_ids.specs.declared.fault.Fault.TheVariants as fault
use Rattle.uv_ids.specs.declared.order.Order.TheVariants as order
use Rattle.uv_ids.specs.declared.seen.Callback.TheVariants as callback
use Rattle.uv_script.specs.Text.{script_text}
use Rattle.uv_script.proofs.AfterLines.{with_one}
use Rattle.uv_script.proofs.Agrees.{AreDistinct}
use Rattle.uv_script.proofs.Checks.{within, is_line_decides}
use Rattle.uv_script.proofs.Cuts.{fields-cut, fields-last, lines_append, AreNot}
use Rattle.uv_script.proofs.Exact.{two_parts}
use Rattle.uv_script.proofs.OneReading.{one_script, no_bad_line}
use Rattle.uv_script.proofs.Written.{IsWritten, IsSize, AreWritten, count_more, script_written}

-- of elements
contains_first : {A : Type 0} (x : A) (xs : List A) → Contains (x ∷ xs) x
contains_first x xs = (0, omega arith, refl)

contains_later : {A : Type 0} (x y : A) (xs : List A) → Contains xs y → Contains (x ∷ xs) y
contains_later x y xs h = (suc h.0, omega (arith, h.1), h.2)

-- lines behind others
reads_on : (d e f : Draft) (xs ys : List (List ℕ)) → ReadsAll d xs e → ReadsAll e ys f → ReadsAll d (xs ++ ys) f
reads_on d e f [] ys none second = second
reads_on d e f (x ∷ xs) ys (one {e = m} first rest) second = one first (reads_on m e f xs ys rest second)

-- numbers
digits_within : (text : List ℕ) → all_ascii_digits text ≡ true → All (λ b. (48 ≤ b) × (b ≤ 57)) text
digits_within text e = (Decides-by_and is_ascii_digit (λ b. (48 ≤ b) × (b ≤ 57)) all_ascii_digits (within 48 57) refl (λ _ _. refl) text).0 e

decimal_within : (n : ℕ) → n < 2 ^ 64 → All (λ b. (48 ≤ b) × (b ≤ 57)) (decimal n)
decimal_within n h = digits_within (decimal n) (digits_decimal (numerals_by_value _ tells_all_ascii_digits) n h)

pub decimal_printable : (n : ℕ) → n < 2 ^ 64 → All (λ b. (32 ≤ b) × (b ≤ 126)) (decimal n)
decimal_printable n h = λ k d inside. let at = decimal_within n h k d inside in (omega (arith, at.0), omega (arith, at.1))

pub decimal_unspaced : (n : ℕ) → n < 2 ^ 64 → AreNot 32 (decimal n)
decimal_unspaced n h = λ k d inside. let at = decimal_within n h k d inside in ne_eqb _ 32 (λ e. omega (arith, at.0, e))

decimal_short : (n : ℕ) → n < 2 ^ 32 → length (decimal n) ≤ 10
decimal_short n h = length-decimal-le 10 n (omega arith) (omega (arith, h)) (omega (arith, h))

pub printable_front : (front : List ℕ) → list_all (λ b. nat_le 32 b && nat_le b 126) front ≡ true → All (λ b. (32 ≤ b) × (b ≤ 126)) front
printable_front front e =
    (Decides-by_and (λ b. nat_le 32 b && nat_le b 126) (λ b. (32 ≤ b) × (b ≤ 126)) (list_all (λ b. nat_le 32 b && nat_le b 126)) (within 32 126) refl
    (λ _ _. refl) front).0 e

printable_more : (front text : List ℕ) → list_all (λ b. nat_le 32 b && nat_le b 126) front ≡ true → All (λ b. (32 ≤ b) × (b ≤ 126)) text →
    All (λ b. (32 ≤ b) × (b ≤ 126)) (front ++ text)
printable_more front text e h = All-append (λ b. (32 ≤ b) × (b ≤ 126)) front text (printable_front front e) h

pub is_number : (n : ℕ) → n < 2 ^ 64 → IsNumber (decimal n) n
is_number n h = record { is = refl; fits = h }

-- a line that makes no handle of I/O stands anywhere
makes_none : {b : Bool} → false ≡ true → b ≡ true
makes_none wrong = absurd cc

-- the order of a run's phases, that handles of I/O may be made, how due timers are called, the number of workers, and the size of the arena
order_read : (d : Draft) (o : Order) → d.said.order ≡ false → Reads d (order_line o) (with_one d (Orders o))
order_read d order.V144 unsaid = says (Orders order.V144) ((is_line_decides (order_line order.V144)).0 refl) (orders order.V144 refl) unsaid tt
    makes_none
order_read d order.V145 unsaid = says (Orders order.V145) ((is_line_decides (order_line order.V145)).0 refl) (orders order.V145 refl) unsaid tt
    makes_none

io_read : (p : Program) (said : Settings) (b : Bool) →
    ReadsAll (record { program = record p { io = false }; said = record said { io = false } }) (line_if b io_line)
    (record { program = record p { io = b }; said = record said { io = b } })
io_read p said true = one (says HasIo ((is_line_decides io_line).0 refl) (says_io refl) refl tt makes_none) none
io_read p said false = none

heap_read : (p : Program) (said : Settings) (b : Bool) →
    ReadsAll (record { program = record p { heap = false }; said = record said { timers = false } }) (line_if b heap_line)
    (record { program = record p { heap = b }; said = record said { timers = b } })
heap_read p said true = one (says FromHeap ((is_line_decides heap_line).0 refl) (says_heap refl) refl tt makes_none) none
heap_read p said false = none

workers_read : (d : Draft) (n : ℕ) → IsWorkerCount n → d.said.workers ≡ false → Reads d (workers_line n) (with_one d (HasWorkers n))
workers_read d n fits unsaid =
    let small : n < 2 ^ 64 = omega (arith, fits.1) in
    let line : IsLine (workers_line n) = record {
      short = omega (arith, length-append (codes "workers ") (decimal n), decimal_short n (omega (arith, fits.1)));
      printable = printable_more (codes "workers ") (decimal n) refl (decimal_printable n small);
    } in
    let fields : fields_of (workers_line n) ≡ codes "workers" ∷ decimal n ∷ [] = ap (λ r. codes "workers" ∷ r)
    (fields-last (decimal n) (decimal_unspaced n small)) in
    says (HasWorkers n) line (has_workers (decimal n) n fields (is_number n small) fits) unsaid tt makes_none

slots_read : (d : Draft) (size : ArenaSize) → IsSize size → d.said.slots ≡ false → Reads d (slots_line size) (with_one d (Sizes size))
slots_read d size is unsaid =
    let n = size.slots in
    let g = size.last_generation in
    let small : n < 2 ^ 64 = omega (arith, is.slots.1) in
    let last_small : g < 2 ^ 64 = omega (arith, is.last) in
    let text : slots_line size ≡ codes "slots " ++ (decimal n ++ 32 ∷ decimal g) = ap (λ x. codes "slots " ++ x) (sym (two_parts (decimal n)
    (decimal g))) in
    let spaced : All (λ b. (32 ≤ b) × (b ≤ 126)) (32 ∷ decimal g) = printable_more (32 ∷ []) (decimal g) refl (decimal_printable g last_small) in
    let numbers : All (λ b. (32 ≤ b) × (b ≤ 126)) (decimal n ++ 32 ∷ decimal g) = All-append (λ b. (32 ≤ b) × (b ≤ 126)) (decimal n) (32 ∷ decimal g)
    (decimal_printable n small) spaced in
    let line : IsLine (codes "slots " ++ (decimal n ++ 32 ∷ decimal g)) = record {
      short = grind (arith, length-append, decimal_short);
      printable = printable_more (codes "slots ") (decimal n ++ 32 ∷ decimal g) refl numbers;
    } in
    let parts : fields_of (decimal n ++ 32 ∷ decimal g) ≡ decimal n ∷ decimal g ∷ [] =
    fields-cut (decimal n ++ 32 ∷ decimal g) (decimal n) (decimal g) (record { whole = refl; first = decimal_unspaced n small })
    ∙ ap (λ r. decimal n ∷ r) (fields-last (decimal g) (decimal_unspaced g last_small)) in
    let fields : fields_of (slots_line size) ≡ codes "slots" ∷ decimal n ∷ decimal g ∷ [] = ap fields_of text ∙ ap (λ r. codes "slots" ∷ r) parts in
    says (Sizes size) (subst IsLine (sym text) line)
    (sizes_to (decimal n) (decimal g) n g fields (is_number n small) is.slots (is_number g last_small) is.last) unsaid tt makes_none

-- no callbacks for each of these
blanks : {A : Type 0} → List A → List Callbacks
blanks [] = []
blanks (x ∷ xs) = no_callbacks ∷ blanks xs

blanks_sum : {A : Type 0} (xs : List A) → sum_by callback_count (blanks xs) ≡ 0
unfolding blanks
blanks_sum [] = refl
blanks_sum (x ∷ xs) = omega (arith, sum_by-cons callback_count no_callbacks (blanks xs), blanks_sum xs)

blanks_push : {A : Type 0} (xs : List A) (x : A) → blanks (xs ++ x ∷ []) ≡ blanks xs ++ no_callbacks ∷ []
unfolding blanks
blanks_push [] x = refl
blanks_push (y ∷ xs) x = ap (λ cs. no_callbacks ∷ cs) (blanks_push xs x)

blanks_same : {A B : Type 0} (xs : List A) (ys : List B) → length xs ≡ length ys → blanks xs ≡ blanks ys
unfolding blanks
blanks_same [] [] e = refl
blanks_same [] (y ∷ ys) e = absurd (omega arith)
blanks_same (x ∷ xs) [] e = absurd (omega arith)
blanks_same (x ∷ xs) (y ∷ ys) e = ap (λ cs. no_callbacks ∷ cs) (blanks_same xs ys (omega arith))

-- a script whose settings were said; `io` and `timers heap` only where it has them
abbrev pub settled : Program → Draft
settled p = record { program = p; said = record { slots = true; workers = true; order = true; io = p.io; timers = p.heap } }

-- lines behind them
abbrev ReadsOn : Program → List (List ℕ) → Program → Type 0
ReadsOn p lines q = ReadsAll (settled p) lines (settled q)

lines_on : (p q r : Program) (xs ys : List (List ℕ)) → ReadsOn p xs q → ReadsOn q ys r → ReadsOn p (xs ++ ys) r
lines_on p q r xs ys first second = reads_on (settled p) (settled q) (settled r) xs ys first second

-- the script with these names alone, and these settings
abbrev declared : Program → List (List ℕ) → Program
declared p names = record p { names = names; main = []; callbacks = blanks names; threads = [] }

pub name_unspaced : (name : List ℕ) → IsName name → AreNot 32 name
name_unspaced name is = grind arith

-- a name behind others that differ from it
fresh_name : (before after : List (List ℕ)) (name : List ℕ) → AreDistinct (before ++ name ∷ after) → Contains before name → ⊥
fresh_name before after name distinct (k, inside, is) =
    let longer = length-append before (name ∷ after) in
    distinct k (length before) name inside (omega arith)
    (get_or_append_left before (name ∷ after) name k inside ∙ is ∙ sym (get_or-append_seam before name after name))

names_read : (p : Program) (before names : List (List ℕ)) →
    ((name : List ℕ) → Contains names name → IsName name × IsLine (var_line name)) → AreDistinct (before ++ names) →
    length before + length names ≤ MOST_NAMES → ReadsOn (declared p before) (map var_line names) (declared p (before ++ names))
names_read p before [] each distinct few =
    subst (λ (ns : List (List ℕ)). ReadsOn (declared p before) [] (declared p ns)) (sym (append-nil before)) none
names_read p before (name ∷ names) each distinct few =
    let q = declared p before in
    let here = each name (contains_first name names) in
    let none_counted = blanks_sum before in
    let first : Reads (settled q) (var_line name)
    (settled (record q { names = before ++ name ∷ []; callbacks = blanks before ++ no_callbacks ∷ [] })) =
    says (Declares name) here.1
    (declares name (ap (λ r. codes "var" ∷ r) (fields-last name (name_unspaced name here.0))) here.0 (fresh_name before names name distinct)) tt
    (omega (arith, none_counted, few), omega (arith, few)) makes_none in
    let onto = subst
    (λ (cs : List Callbacks). Reads (settled q) (var_line name) (settled (record q { names = before ++ name ∷ []; callbacks = cs })))
    (sym (blanks_push before name)) first in
    let same = append_assoc before (name ∷ []) names in
    let rest = names_read p (before ++ name ∷ []) names (λ x h. each x (contains_later name x names h))
    (subst AreDistinct (sym same) distinct) (omega (arith, length-append before (name ∷ []), few)) in
    subst (λ (ns : List (List ℕ)). ReadsOn q (map var_line (name ∷ names)) (declared p ns)) same (one onto rest)

-- the main program
main_read : (p : Program) (ops : List MainOp) → ((o : MainOp) → Contains ops o → IsWritten p.names p.io (InMain o)) →
    line_count p + length ops ≤ MOST_LINES → ReadsOn p (map (main_line p.names) ops) (record p { main = p.main ++ ops })
main_read p [] each few = subst (λ (m : List MainOp). ReadsOn p [] (record p { main = m })) (sym (append-nil p.main)) none
main_read p (o ∷ ops) each few =
    let here = each o (contains_first o ops) in
    let first : Reads (settled p) (main_line p.names o) (settled (record p { main = p.main ++ o ∷ [] })) =
    says (InMain o) here.line here.says tt (omega (arith, few)) here.may in
    let rest = main_read (record p { main = p.main ++ o ∷ [] }) ops (λ x h. each x (contains_later o x ops h))
    (omega (arith, length-append p.main (o ∷ []), few)) in
    subst (λ (m : List MainOp). ReadsOn p (map (main_line p.names) (o ∷ ops)) (record p { main = m })) (append_assoc p.main (o ∷ []) ops)
    (one first rest)

-- what threads send
threads_read : (p : Program) (lines : List ThreadLine) → ((line : ThreadLine) → Contains lines line → IsWritten p.names p.io (InThread line)) →
    line_count p + length lines ≤ MOST_LINES → ReadsOn p (map (thread_line p.names) lines) (record p { threads = p.threads ++ lines })
threads_read p [] each few = subst (λ (ls : List ThreadLine). ReadsOn p [] (record p { threads = ls })) (sym (append-nil p.threads)) none
threads_read p (line ∷ lines) each few =
    let here = each line (contains_first line lines) in
    let first : Reads (settled p) (thread_line p.names line) (settled (record p { threads = p.threads ++ line ∷ [] })) =
    says (InThread line) here.line here.says tt (omega (arith, few)) here.may in
    let rest = threads_read (record p { threads = p.threads ++ line ∷ [] }) lines (λ x h. each x (contains_later line x lines h))
    (omega (arith, length-append p.threads (line ∷ []), few)) in
    subst (λ (ls : List ThreadLine). ReadsOn p (map (thread_line p.names) (line ∷ lines)) (record p { threads = ls }))
    (append_assoc p.threads (line ∷ []) lines) (one first rest)

-- the script with these lines of callbacks, before any line of a thread
abbrev with_callbacks : Program → List Callbacks → Program
with_callbacks p cs = record p { callbacks = cs; threads = [] }

with_lines : Callback → Callbacks → List CallbackLine → Callbacks
with_lines callback.Handle c lines = record c { handle = c.handle ++ lines }
with_lines callback.After c lines = record c { after = c.after ++ lines }
with_lines callback.Close c lines = record c { close = c.close ++ lines }

with_lines_none : (kind : Callback) (c : Callbacks) → with_lines kind c [] ≡ c
unfolding with_lines
with_lines_none kind c = grind (arith, append-nil)

with_lines_one : (kind : Callback) (c : Callbacks) (line : CallbackLine) (lines : List CallbackLine) →
    with_lines kind (with_line kind c line) lines ≡ with_lines kind c (line ∷ lines)
unfolding with_lines
with_lines_one callback.Handle c line lines = ap (λ l. record c { handle = l }) (append_assoc c.handle (line ∷ []) lines)
with_lines_one callback.After c line lines = ap (λ l. record c { after = l }) (append_assoc c.after (line ∷ []) lines)
with_lines_one callback.Close c line lines = ap (λ l. record c { close = l }) (append_assoc c.close (line ∷ []) lines)

sum_seam : (done later : List Callbacks) (c : Callbacks) →
    sum_by callback_count (done ++ c ∷ later) ≡ sum_by callback_count done + callback_count c + sum_by callback_count later
sum_seam done later c = omega (arith, sum_by-append callback_count done (c ∷ later), sum_by-cons callback_count c later)

abbrev place : List Callbacks → Var
place done = record { 0 = length done }

callbacks_at : (done later : List Callbacks) (c : Callbacks) → unwrap_or (slice_get (done ++ c ∷ later) (length done)) no_callbacks ≡ c
callbacks_at done later c = simp (unwrap_or-slice_get, get_or-append_seam)

module _ (p : Program) where
  lines_read : (kind : Callback) (done later : List Callbacks) (c : Callbacks) (lines : List CallbackLine) →
      ((line : CallbackLine) → Contains lines line → IsWritten p.names p.io (InCallback kind (place done) line)) →
      line_count (with_callbacks p (done ++ c ∷ later)) + length lines ≤ MOST_LINES →
      ReadsOn (with_callbacks p (done ++ c ∷ later)) (map (callback_line p.names kind (place done)) lines)
      (with_callbacks p (done ++ with_lines kind c lines ∷ later))
  lines_read kind done later c [] each few =
      subst (λ (x : Callbacks). ReadsOn (with_callbacks p (done ++ c ∷ later)) [] (with_callbacks p (done ++ x ∷ later)))
      (sym (with_lines_none kind c)) none
  lines_read kind done later c (line ∷ lines) each few =
      let v = place done in
      let before = with_callbacks p (done ++ c ∷ later) in
      let here = each line (contains_first line lines) in
      let first : Reads (settled before) (callback_line p.names kind v line)
      (settled (with_callbacks p (slice_set (done ++ c ∷ later) (length done) (with_line kind (callbacks_of before v) line)))) =
      says (InCallback kind v line) here.line here.says tt (omega (arith, few)) here.may in
      let put : slice_set (done ++ c ∷ later) (length done) (with_line kind (callbacks_of before v) line) ≡ done ++ with_line kind c line ∷ later =
      ap (λ (x : Callbacks). slice_set (done ++ c ∷ later) (length done) (with_line kind x line)) (callbacks_at done later c)
      ∙ set-append_seam done c later (with_line kind c line) in
      let onto = subst (λ (cs : List Callbacks). Reads (settled before) (callback_line p.names kind v line)
      (settled (with_callbacks p cs))) put first in
      let rest = lines_read kind done later (with_line kind c line) lines (λ x h. each x (contains_later line x lines h))
      (omega (arith, few, sum_seam done later c, sum_seam done later (with_line kind c line), count_more kind c line)) in
      subst (λ (x : Callbacks). ReadsOn before (map (callback_line p.names kind v) (line ∷ lines)) (with_callbacks p (done ++ x ∷ later)))
      (with_lines_one kind c line lines) (one onto rest)

  own_lines : Var → Callbacks → List (List ℕ)
  own_lines v c = map (callback_line p.names callback.Handle v) c.handle
      ++ map (callback_line p.names callback.After v) c.after
      ++ map (callback_line p.names callback.Close v) c.close

  -- all of one name
  name_read : (done later : List Callbacks) (c : Callbacks) →
      ((kind : Callback) (line : CallbackLine) → Contains (lines_in_callbacks kind c) line →
      IsWritten p.names p.io (InCallback kind (place done) line)) →
      line_count (with_callbacks p (done ++ c ∷ later)) ≤ MOST_LINES →
      ReadsOn (with_callbacks p (done ++ no_callbacks ∷ later)) (own_lines (place done) c) (with_callbacks p (done ++ c ∷ later))
  unfolding with_lines own_lines
  name_read done later c each few =
      let v = place done in
      let c₁ : Callbacks = record { handle = c.handle; after = []; close = [] } in
      let c₂ : Callbacks = record { handle = c.handle; after = c.after; close = [] } in
      let none_yet = sum_seam done later no_callbacks in
      let first_yet = sum_seam done later c₁ in
      let second_yet = sum_seam done later c₂ in
      let all = sum_seam done later c in
      let first = lines_read callback.Handle done later no_callbacks c.handle (each callback.Handle) (omega arith) in
      let second = lines_read callback.After done later c₁ c.after (each callback.After) (omega arith) in
      let third = lines_read callback.Close done later c₂ c.close (each callback.Close) (omega arith) in
      lines_on (with_callbacks p (done ++ no_callbacks ∷ later)) (with_callbacks p (done ++ c₂ ∷ later)) (with_callbacks p (done ++ c ∷ later)) _ _
      (lines_on (with_callbacks p (done ++ no_callbacks ∷ later)) (with_callbacks p (done ++ c₁ ∷ later)) (with_callbacks p (done ++ c₂ ∷ later)) _ _
      first second) third

  -- of every name
  callbacks_read : (done cs : List Callbacks) (names : List (List ℕ)) → p.callbacks ≡ done ++ cs → length names ≡ length cs → AreWritten p →
      ReadsOn (with_callbacks p (done ++ blanks cs)) (callback_lines p (length done) names) (with_callbacks p (done ++ cs))
  unfolding blanks own_lines
  callbacks_read done [] [] e same is = none
  callbacks_read done [] (name ∷ names) e same is = absurd (omega arith)
  callbacks_read done (c ∷ cs) [] e same is = absurd (omega arith)
  callbacks_read done (c ∷ cs) (name ∷ names) e same is =
      let v = place done in
      let own : callbacks_of p v ≡ c = ap (λ (l : List Callbacks). unwrap_or (slice_get l (length done)) no_callbacks) e ∙ callbacks_at done cs c in
      let lines : name_lines p v ≡ own_lines v c = ap (own_lines v) own in
      let next : length (done ++ c ∷ []) ≡ length done + 1 = length-append done (c ∷ []) in
      let count = is.few in
      let whole = ap (sum_by callback_count) e in
      let few : line_count (with_callbacks p (done ++ c ∷ blanks cs)) ≤ MOST_LINES =
      omega (arith, sum_seam done cs c, sum_seam done (blanks cs) c, blanks_sum cs) in
      let first = name_read done (blanks cs) c
      (λ kind line h. is.callbacks kind v line (subst (λ (x : Callbacks). Contains (lines_in_callbacks kind x) line) (sym own) h)) few in
      let further = callbacks_read (done ++ c ∷ []) cs names (e ∙ sym (append_assoc done (c ∷ []) cs)) (omega arith) is in
      let rest : ReadsOn (with_callbacks p (done ++ c ∷ blanks cs)) (callback_lines p (length done + 1) names) (with_callbacks p (done ++ c ∷ cs)) =
      subst (λ (l : List Callbacks). ReadsOn (with_callbacks p (done ++ c ∷ blanks cs)) (callback_lines p (length done + 1) names)
      (with_callbacks p l))
      (append_assoc done (c ∷ []) cs)
      (subst (λ (l : List Callbacks). ReadsOn (with_callbacks p l) (callback_lines p (length done + 1) names) (with_callbacks p
      ((done ++ c ∷ []) ++ cs)))
      (append_assoc done (c ∷ []) (blanks cs))
      (subst (λ (n : ℕ). ReadsOn (with_callbacks p ((done ++ c ∷ []) ++ blanks cs)) (callback_lines p n names) (with_callbacks p
      ((done ++ c ∷ []) ++ cs)))
      next further)) in
      lines_on (with_callbacks p (done ++ no_callbacks ∷ blanks cs)) (with_callbacks p (done ++ c ∷ blanks cs)) (with_callbacks p
      (done ++ c ∷ cs)) _ _
      (subst (λ (l : List (List ℕ)). ReadsOn (with_callbacks p (done ++ no_callbacks ∷ blanks cs)) l (with_callbacks p (done ++ c ∷ blanks cs)))
      (sym lines) first) rest

read_line : (d e : Draft) (line : List ℕ) → Reads d line e → IsLine line
read_line d e line e3 = grind arith

pub read_lines : (d e : Draft) (lines : List (List ℕ)) → ReadsAll d lines e → AllByRecursion IsLine lines
read_lines d e [] none = tt
read_lines d e (line ∷ lines) (one {e = m} first rest) = (read_line d m line first, read_lines m e lines rest)

pub lines_back : (lines : List (List ℕ)) → AllByRecursion IsLine lines → lines_of (lines_text lines) ≡ lines
lines_back [] h = refl
lines_back (line ∷ lines) h = lines_append line (lines_text lines) (grind arith) ∙ ap (λ ls. line ∷ ls) (lines_back lines h.1)

settings_read : (p : Program) → AreWritten p → ReadsAll unread (setting_lines p) (settled (declared p []))
unfolding blanks
settings_read p is =
    let ordered = with_one unread (Orders p.order) in
    let io : Draft = record { program = record ordered.program { io = p.io }; said = record ordered.said { io = p.io } } in
    let heap : Draft = record { program = record io.program { heap = p.heap }; said = record io.said { timers = p.heap } } in
    let workers = workers_read heap p.workers is.workers refl in
    let slots = slots_read (with_one heap (HasWorkers p.workers)) p.size is.size refl in
    let first = one (order_read unread p.order refl) (io_read ordered.program ordered.said p.io) in
    reads_on unread heap (settled (declared p [])) _ _
    (reads_on unread io heap (order_line p.order ∷ line_if p.io io_line) (line_if p.heap heap_line) first (heap_read io.program io.said p.heap))
    (one workers (one slots none))

pub lines_read_back : (p : Program) → AreWritten p → ReadsAll unread (script_lines p) (settled p)
unfolding blanks
lines_read_back p is =
    let first = declared p [] in
    let named = declared p p.names in
    let few = is.few in
    let names = names_read p [] p.names is.names is.distinct (omega (arith, is.few_names)) in
    let main = main_read named p.main is.main (omega (arith, blanks_sum p.names)) in
    let all = with_callbacks p p.callbacks in
    let callbacks = subst
    (λ (cs : List Callbacks). ReadsOn (with_callbacks p cs) (callback_lines p 0 p.names) all) (blanks_same p.callbacks p.names is.each)
    (callbacks_read p [] p.callbacks p.names refl (sym is.each) is) in
    let threads = threads_read all p.threads is.threads (omega (arith, few)) in
    reads_on unread (settled all) (settled p) _ _
    (reads_on unread (settled (with_callbacks p (blanks p.names))) (settled all) _ _
    (reads_on unread (settled named) (settled (with_callbacks p (blanks p.names))) _ _
    (reads_on unread (settled first) (settled named) _ _ (settings_read p is) names) main) callbacks) threads

pub text_makes : (p : Program) → AreWritten p → IsScript (script_text p) p
unfolding script_text
text_makes p is = search (lines_read_back, lines_back, read_lines)

-- a script whose parts can be written was read from its own lines
pub was_read : (p : Program) → AreWritten p → WasRead p
was_read p is = record { lines = script_lines p; makes = record { said = (settled p).said; read = lines_read_back p is } }

pub back : (p : Program) → WasRead p → IsReadBack p
back p was =
    let is = text_makes p (script_written p was.lines was.makes) in
    record { script = is; answer = answered is }
  where
    answered : IsScript (script_text p) p → (answer : Result Program Fault) → Parses (script_text p) answer → IsBack p answer
    answered is (Ok q) parses = one_script (script_text p) q p parses is
    answered is (Err (fault.Script line)) parses = no_bad_line (script_text p) p line is parses
    answered is (Err fault.Memory) parses = tt
    answered is (Err _) parses = parses

pub back_of_text : (text : List ℕ) (p : Program) → IsScript text p → IsReadBack p
back_of_text text p is = back p (record { lines = lines_of text; makes = is })
