-- A line that says something is the text of what it says, byte for byte.
use Rattle.uv_script.proofs.ProofNames.{◌≡◌, ◌≢◌, ℕ, ◌<◌, List, [], ◌∷◌, ◌++◌, length, Some, None, ap, sym, ◌∙◌, arith, length-append, append-nil, append_assoc, codes, decimal, join_with_byte, append_snoc, get_or_append_left, join_with_byte-slice_split, slice_get_within, slice_get-get_or, get_or_from_slice_get, Var, Callback, Op, CallbackLine, Statement, Declares, InMain, InCallback, Sizes, HasWorkers, Orders, HasIo, FromHeap, InThread, named_word, bare_word, IsOp, init, start, repeat, queue, queue_text, on_name, bare, callback_word, Says, declares, in_main, runs, closes_loop, in_callback, in_call, sizes, sizes_to, has_workers, orders, says_io, says_heap, in_thread, fields_of, text_of, text_or_none, name_text, task_text, op_text, call_text, front_text, callback_line, main_line, var_line, order_line, io_line, heap_line, workers_line, slots_line, thread_line, IsDeclared}

abbrev joined : List (List ℕ) → List ℕ
joined fields = join_with_byte 32 fields

joined_onto : (word : List ℕ) (rest : List (List ℕ)) → rest ≢ [] → joined (word ∷ rest) ≡ word ++ 32 ∷ joined rest
joined_onto word rest some = grind arith

-- a declared name is written as it stands
named : (names : List (List ℕ)) (name : List ℕ) (v : Var) → IsDeclared names name v → name ≡ name_text names v
named names name v is = sym (ap text_or_none is)

named_exact : (names : List (List ℕ)) (o : Op) (word name : List ℕ) (v : Var) → IsDeclared names name v → named_word o ≡ Some (word, v) →
    word ++ 32 ∷ name ≡ op_text names o
named_exact names o word name v is e = grind arith

bare_exact : (names : List (List ℕ)) (o : Op) (word : List ℕ) → bare_word o ≡ Some word → word ≡ op_text names o
bare_exact names o word e = grind arith

abbrev queued : List ℕ → List ℕ → List ℕ → List ℕ
queued name rounds text = codes "queue " ++ (name ++ 32 ∷ (rounds ++ text))

queue_exact : (name name' rounds rounds' text text' : List ℕ) → name ≡ name' → rounds ≡ rounds' → text ≡ text' →
    queued name rounds text ≡ queued name' rounds' text'
queue_exact name name' rounds rounds' text text' a b c = λ i. queued (a i) (b i) (c i)

rest_some : (rest : List (List ℕ)) (text : List ℕ) → text ≡ joined rest → text ≢ [] → rest ≢ []
rest_some rest text e some none = some (e ∙ ap joined none)

-- texts behind one another, with a space in front of each but the first
pub two_parts : (a b : List ℕ) → a ++ 32 ∷ b ≡ a ++ codes " " ++ b
two_parts a b = sym (append_snoc a 32 b)

three_parts : (a b c : List ℕ) → a ++ 32 ∷ (b ++ 32 ∷ c) ≡ a ++ codes " " ++ b ++ codes " " ++ c
three_parts a b c = simp (append_snoc, append_assoc)

-- a further one right behind
two_and_more : (a b c : List ℕ) → a ++ 32 ∷ (b ++ c) ≡ a ++ codes " " ++ b ++ c
two_and_more a b c = sym (ap (λ x. x ++ c) (append_snoc a 32 b) ∙ append_assoc a (32 ∷ b) c)

pub op_exact : (names fields : List (List ℕ)) (o : Op) → IsOp names fields o → joined fields ≡ op_text names o
op_exact names fields o (init name v kind e is) = grind (arith, named, two_parts)
op_exact names fields o (start name v timeout period t r e is first second) = grind (arith, named, three_parts)
op_exact names fields o (repeat name v number n e is value) = grind (arith, named, two_parts)
op_exact names fields o (queue name v rounds t e is number text) =
    ap joined e ∙ ap (λ r. codes "queue " ++ (name ++ 32 ∷ r)) (sym (append-nil rounds))
    ∙ queue_exact name (name_text names v) rounds (decimal t.rounds) [] (task_text (text_of t)) (named names name v is) number.is
    (ap task_text (sym text))
    ∙ ap (λ x. codes "queue " ++ x) (two_and_more (name_text names v) (decimal t.rounds) (task_text (text_of t)))
op_exact names fields o (queue_text name v rounds t rest e is number text some) =
    grind (arith, joined_onto, rest_some, queue_exact, named, two_and_more)
op_exact names fields o (on_name x word name v said e is) = ap joined e ∙ named_exact names o word name v is said
op_exact names fields o (bare x word said e) = ap joined e ∙ bare_exact names o word said

op_some : (names fields : List (List ℕ)) (o : Op) → IsOp names fields o → fields ≢ []
op_some names fields o e3 none = grind arith

-- the text of what a line says
abbrev pub statement_text : List (List ℕ) → Statement → List ℕ
statement_text names (Declares name) = var_line name
statement_text names (InMain o) = main_line names o
statement_text names (InCallback kind v line) = callback_line names kind v line
statement_text names (Sizes size) = slots_line size
statement_text names (HasWorkers n) = workers_line n
statement_text names (Orders o) = order_line o
statement_text names HasIo = io_line
statement_text names FromHeap = heap_line
statement_text names (InThread line) = thread_line names line

-- all but the size of the arena, whose last generation may be left out
abbrev pub IsKept : Statement → Type 0
IsKept (Sizes size) = ⊥
IsKept _ = Unit {0}

front : (kind : Callback) (text : List ℕ) → callback_word kind ++ 32 ∷ text ≡ front_text kind ++ text
front kind text = grind arith

callback_exact : (names : List (List ℕ)) (kind : Callback) (name : List ℕ) (v : Var) (rest : List (List ℕ)) (line : CallbackLine) → rest ≢ [] →
    IsDeclared names name v → joined rest ≡ call_text line.call (op_text names line.op) →
    joined (callback_word kind ∷ name ∷ rest) ≡ callback_line names kind v line
callback_exact names kind name v rest line some is text = grind (arith, named, joined_onto, front, append_assoc, two_parts)

pub says_exact : (names fields : List (List ℕ)) (s : Statement) → IsKept s → Says names fields s → joined fields ≡ statement_text names s
says_exact names fields s kept (declares name e is fresh) = ap joined e
says_exact names fields s kept (in_main rest o e is) = grind (arith, joined_onto, op_some, op_exact)
says_exact names fields s kept (runs mode e) = ap joined e
says_exact names fields s kept (closes_loop e) = ap joined e
says_exact names fields s kept (in_callback kind name v rest o e declared is) =
    ap joined e ∙ callback_exact names kind name v rest (record { call = None; op = o }) (op_some names rest o is) declared (op_exact names rest o is)
says_exact names fields s kept (in_call kind name v number k rest o e declared is first last op_is) =
    grind (arith, op_exact, callback_exact, joined_onto, op_some, two_parts)
says_exact names fields s kept (has_workers number n e is fits) = ap joined e ∙ ap (λ digits. codes "workers " ++ digits) is.is
says_exact names fields s kept (orders o e) = ap joined e
says_exact names fields s kept (says_io e) = ap joined e
says_exact names fields s kept (says_heap e) = ap joined e
says_exact names fields s kept (in_thread number k name v e is few declared) = grind (arith, named, append_assoc)
says_exact names fields s kept each = grind arith

pub line_exact : (names : List (List ℕ)) (line : List ℕ) (s : Statement) → IsKept s → Says names (fields_of line) s → line ≡ statement_text names s
line_exact names line s kept said = sym (join_with_byte-slice_split 32 line) ∙ says_exact names (fields_of line) s kept said

-- what a line says stays where further names are declared
declared_more : (names more : List (List ℕ)) (name : List ℕ) (v : Var) → IsDeclared names name v → IsDeclared (names ++ more) name v
declared_more names more name v is =
    let within = slice_get_within names v.0 name is in
    let wider : v.0 < length (names ++ more) = omega (arith, length-append names more) in
    slice_get-get_or (names ++ more) v.0 name wider
    ∙ ap Some (get_or_append_left names more name v.0 within ∙ get_or_from_slice_get names v.0 name name is)

op_more : (names more fields : List (List ℕ)) (o : Op) → IsOp names fields o → IsOp (names ++ more) fields o
op_more names more fields o (init name v kind e is) = init name v kind e (declared_more names more name v is)
op_more names more fields o (start name v timeout period t r e is first second) =
    start name v timeout period t r e (declared_more names more name v is) first second
op_more names more fields o (repeat name v number n e is value) = repeat name v number n e (declared_more names more name v is) value
op_more names more fields o (queue name v rounds t e is number text) = queue name v rounds t e (declared_more names more name v is) number text
op_more names more fields o (queue_text name v rounds t rest e is number text some) =
    queue_text name v rounds t rest e (declared_more names more name v is) number text some
op_more names more fields o (on_name x word name v said e is) = on_name o word name v said e (declared_more names more name v is)
op_more names more fields o (bare x word said e) = bare o word said e

-- what isn't a declaration
abbrev pub IsNoName : Statement → Type 0
IsNoName (Declares name) = ⊥
IsNoName _ = Unit {0}

pub says_more : (names more fields : List (List ℕ)) (s : Statement) → IsNoName s → Says names fields s → Says (names ++ more) fields s
says_more names more fields s other (declares name e is fresh) = absurd other
says_more names more fields s other (in_main rest o e is) = in_main rest o e (op_more names more rest o is)
says_more names more fields s other (runs mode e) = runs mode e
says_more names more fields s other (closes_loop e) = closes_loop e
says_more names more fields s other (in_callback kind name v rest o e declared is) =
    in_callback kind name v rest o e (declared_more names more name v declared) (op_more names more rest o is)
says_more names more fields s other (in_call kind name v number k rest o e declared is first last op_is) =
    in_call kind name v number k rest o e (declared_more names more name v declared) is first last (op_more names more rest o op_is)
says_more names more fields s other (sizes slots n e is fits) = sizes slots n e is fits
says_more names more fields s other (sizes_to slots last n g e is fits last_is small) = sizes_to slots last n g e is fits last_is small
says_more names more fields s other (has_workers number n e is fits) = has_workers number n e is fits
says_more names more fields s other (orders o e) = orders o e
says_more names more fields s other (says_io e) = says_io e
says_more names more fields s other (says_heap e) = says_heap e
says_more names more fields s other (in_thread number k name v e is few declared) =
    in_thread number k name v e is few (declared_more names more name v declared)
