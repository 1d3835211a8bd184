-- A script whose requests ask for the same work can be written where it could before.
use Rattle.uv_script.proofs.ProofNames.{◌≡◌, ℕ, ◌<◌, ◌≤◌, ◌^◌, Bool, false, ◌==◌, List, [], ◌∷◌, ◌++◌, length, map, Option, Some, None, Contains, All, AllByRecursion, refl, ap, sym, subst, ◌∙◌, arith, length-append, length-map, append-nil, append_assoc, none-some, sum_by, sum_by-cons, All-append, codes, decimal, decimal_nonempty, length-decimal-le, join_with_byte, Var, Callback, MainOp, Op, CallbackLine, Statement, InMain, InCallback, asks_io, IsOp, queue, callback_word, Says, in_main, in_callback, in_call, fields_of, IsLine, IsReadScript, Program, Callbacks, lines_in, callback_count, line_count, name_text, task_text, op_text, callback_line, front_text, text_of, IsDeclared, Task, MOST_LINES, take, take-append_seam, All-nil, All-take, All-map, All-weaker, All-contains, All-contains_itself, slice_get-map, least_task, same_op, same_line, same_main, same_callbacks, same_work}
use Rattle.uv_script.specs.declared.op.Op.TheVariants as op
use Rattle.uv_script.specs.declared.op.MainOp.TheVariants as main
use Rattle.uv_script.proofs.Cuts.{fields-cut, fields-last, AreNot}
use Rattle.uv_script.proofs.Exact.{statement_text, IsKept, says_exact}
use Rattle.uv_script.proofs.Kept.{whole}
use Rattle.uv_script.proofs.ReadBack.{decimal_unspaced, decimal_printable, is_number, was_read}
use Rattle.uv_script.proofs.Written.{IsWritten, AreWritten, script_written}

-- ---- fields

-- there is no space in a field
abbrev AreFields : List (List ℕ) → Type 0
AreFields fields = AllByRecursion (AreNot 32) fields

are_fields : (line : List ℕ) → AreFields (fields_of line)
are_fields [] = (All-nil (λ b. (b == 32) ≡ false), tt)
are_fields (b ∷ bs) = grind (arith, (are_fields bs))

-- so a line of them is cut into these very ones
fields_back : (field : List ℕ) (fields : List (List ℕ)) → AreFields (field ∷ fields) → fields_of (join_with_byte 32 (field ∷ fields)) ≡ field ∷ fields
fields_back field [] is = fields-last field is.0
fields_back field (next ∷ fields) is = grind (arith, fields-cut, (fields_back next fields is.1))

-- fields that say this
record CanSay (names : List (List ℕ)) (s : Statement) : Type 0 where
  pub first : List ℕ
  pub rest : List (List ℕ)
  pub are : AreFields (first ∷ rest)
  pub said : Says names (first ∷ rest) s

-- fields of an op that queues the least task
record CanQueue (names : List (List ℕ)) (v : Var) : Type 0 where
  pub fields : List (List ℕ)
  pub are : AreFields fields
  pub is : IsOp names fields (op.Queue v least_task)

queue_now : (names : List (List ℕ)) (name : List ℕ) (v : Var) → AreNot 32 name → IsDeclared names name v → CanQueue names v
queue_now names name v unspaced is = record {
  fields = codes "queue" ∷ name ∷ decimal 1 ∷ [];
  are = ((are_fields (codes "queue")).0, (unspaced, (decimal_unspaced 1 (omega arith), tt)));
  is = queue name v (decimal 1) least_task refl is (is_number 1 (omega arith)) refl;
}

can_queue : (names fields : List (List ℕ)) (v : Var) (own : Task) → AreFields fields → IsOp names fields (op.Queue v own) → CanQueue names v
can_queue names fields v own are e1 = grind (arith, queue_now, none-some)

main_same : (names fields : List (List ℕ)) (v : Var) (t : Task) → AreFields fields → Says names fields (InMain (main.Op (op.Queue v t))) →
    CanSay names (InMain (main.Op (op.Queue v least_task)))
main_same names fields v t are (in_main rest o e is) =
    let all = subst AreFields e are in
    let now = can_queue names rest v t all.1 is in
    record { first = codes "main"; rest = now.fields; are = (all.0, now.are); said = in_main _ _ refl now.is }

abbrev called : Option ℕ → Op → CallbackLine
called call o = record { call = call; op = o }

call_same : (names fields : List (List ℕ)) (of : Callback) (at : Var) (call : Option ℕ) (v : Var) (t : Task) → AreFields fields →
    Says names fields (InCallback of at (called call (op.Queue v t))) → CanSay names (InCallback of at (called call (op.Queue v least_task)))
call_same names fields of at call v t are (in_callback kind name w rest o e known is) =
    let all = subst AreFields e are in
    let now = can_queue names rest v t all.1.1 is in
    let said = in_callback kind name w _ _ refl known now.is in
    record { first = callback_word kind; rest = name ∷ now.fields; are = (all.0, (all.1.0, now.are)); said = said }
call_same names fields of at call v t are (in_call kind name w number k rest o e known is first last op_is) =
    let all = subst AreFields e are in
    let now = can_queue names rest v t all.1.1.1 op_is in
    let said = in_call kind name w number k _ _ refl known is first last now.is in
    record { first = callback_word kind; rest = name ∷ (64 ∷ number) ∷ now.fields; are = (all.0, (all.1.0, (all.1.1.0, now.are))); said = said }

-- ---- lines

-- a shortest end in place of one that isn't empty
short_end : (front back : List ℕ) → 1 ≤ length back → IsLine (front ++ back) → IsLine (front ++ decimal 1)
short_end front back some is = record {
  short = grind (arith, length-append, length-decimal-le);
  printable = All-append (λ b. (32 ≤ b) × (b ≤ 126)) front (decimal 1)
      (subst (All (λ b. (32 ≤ b) × (b ≤ 126))) (take-append_seam front back) (All-take (λ b. (32 ≤ b) × (b ≤ 126)) (length front) (front ++ back)
      is.printable)) (decimal_printable 1 (omega arith));
}

parts : (front head end rest : List ℕ) → front ++ (head ++ end ++ rest) ≡ (front ++ head) ++ (end ++ rest)
parts front head end rest = simp append_assoc

line_same : (names : List (List ℕ)) (v : Var) (t : Task) (front : List ℕ) → IsLine (front ++ op_text names (op.Queue v t)) →
    IsLine (front ++ op_text names (op.Queue v least_task))
line_same names v t front is =
    let head = codes "queue " ++ name_text names v ++ codes " " in
    let text = task_text (text_of t) in
    let fits : t.rounds < 2 ^ 64 = omega (arith, t.rounds_fit.few) in
    let some : 1 ≤ length (decimal t.rounds ++ text) = omega (arith, length-append (decimal t.rounds) text, decimal_nonempty t.rounds fits) in
    subst IsLine (ap (λ (x : List ℕ). front ++ head ++ x) (sym (append-nil (decimal 1))) ∙ sym (parts front head (decimal 1) []))
    (short_end (front ++ head) (decimal t.rounds ++ text) some (subst IsLine (parts front head (decimal t.rounds) text) is))

call_line : (names : List (List ℕ)) (kind : Callback) (w : Var) (call : Option ℕ) (v : Var) (t : Task) →
    IsLine (callback_line names kind w (called call (op.Queue v t))) → IsLine (callback_line names kind w (called call (op.Queue v least_task)))
call_line names kind w None v t is = line_same names v t (front_text kind ++ name_text names w ++ codes " ") is
call_line names kind w (Some k) v t is =
    let front = front_text kind ++ name_text names w ++ codes " " in
    let mark = codes "@" ++ decimal k ++ codes " " in
    let same = append_assoc front mark in
    subst IsLine (same (op_text names (op.Queue v least_task))) (line_same names v t (front ++ mark) (subst IsLine (sym (same _)) is))

-- where fields say it, and their line is short enough
written_by : (names : List (List ℕ)) (io : Bool) (s : Statement) → IsKept s → asks_io s ≡ false → CanSay names s →
    IsLine (statement_text names s) → IsWritten names io s
written_by names io s kept none can line = grind (arith, says_exact, fields_back)

main_written : (names : List (List ℕ)) (io : Bool) (o : MainOp) → IsWritten names io (InMain o) → IsWritten names io (InMain (same_main o))
main_written names io (main.Op (op.Queue v t)) is = search (written_by, main_same, are_fields, line_same)
main_written names io o is = is

call_written : (names : List (List ℕ)) (io : Bool) (kind : Callback) (w : Var) (call : Option ℕ) (o : Op) →
    IsWritten names io (InCallback kind w (called call o)) → IsWritten names io (InCallback kind w (called call (same_op o)))
call_written names io kind w call (op.Queue v t) is = search (written_by, call_same, are_fields, call_line)
call_written names io kind w call o is = is

-- ---- the script

-- what holds of each element that was changed holds of each of the list's
each_changed : {A : Type 0} (P : A → Type 0) (f : A → A) (xs : List A) → ((x : A) → Contains xs x → P (f x)) → (y : A) → Contains (map f xs) y → P y
each_changed P f xs each y there =
    All-contains P (map f xs) y (All-map P f xs (All-weaker (Contains xs) (λ x. P (f x)) each xs (All-contains_itself xs))) there

sum_same : (cs : List Callbacks) → sum_by callback_count (map same_callbacks cs) ≡ sum_by callback_count cs
sum_same [] = refl
sum_same (c ∷ cs) = simp (sum_by-cons, length-map, (sum_same cs))

count_same : (p : Program) → line_count (same_work p) ≡ line_count p
count_same p = omega (arith, length-map p.main same_main, sum_same p.callbacks)

same_written : (p : Program) → AreWritten p → AreWritten (same_work p)
same_written p is =
    let main : (o : MainOp) → Contains (map same_main p.main) o → IsWritten p.names p.io (InMain o) =
    each_changed _ same_main p.main (λ o there. main_written p.names p.io o (is.main o there)) in
    let callbacks : (kind : Callback) (v : Var) (line : CallbackLine) → Contains (lines_in (same_work p) kind v) line →
    IsWritten p.names p.io (InCallback kind v line) = λ kind v line there.
    each_changed (λ (l : CallbackLine). IsWritten p.names p.io (InCallback kind v l)) same_line (lines_in p kind v)
    (λ l there. call_written p.names p.io kind v l.call l.op (is.callbacks kind v l there)) line
    (subst (λ (ls : List CallbackLine). Contains ls line) (grind (arith, slice_get-map)) there) in
    let each = length-map p.callbacks same_callbacks ∙ is.each in
    let few : line_count (same_work p) ≤ MOST_LINES = omega (arith, count_same p, is.few) in
    assumption

-- where these are its lines
pub parts_read : (lines : ℕ) (p : Program) (ops : List MainOp) (cs : List Callbacks) → IsReadScript lines p → map same_main p.main ≡ ops →
    map same_callbacks p.callbacks ≡ cs → IsReadScript lines (record p { main = ops; callbacks = cs })
parts_read lines p ops cs is main callbacks =
    let both : ◌≡◌ {A = List MainOp × List Callbacks} (map same_main p.main, map same_callbacks p.callbacks) (ops, cs) = λ i. (main i, callbacks i) in
    subst (λ (x : List MainOp × List Callbacks). IsReadScript lines (record p { main = x.0; callbacks = x.1 })) both
    (search (was_read, same_written, script_written, whole, count_same))

-- a list that was written over, where so many of its elements count
pub written_over : {A : Type 0} (f : A → A) (items now new back : List A) (n : ℕ) → now ≡ items → length now ≡ n → new ≡ map f now →
    map f items ≡ take n (new ++ back)
written_over f items now new back n is count all = grind (arith, length-map, take-append_seam)
