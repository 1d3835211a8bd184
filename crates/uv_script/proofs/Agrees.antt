-- The reader's functions agree with the grammar.
use Rattle.uv_script.proofs.ProofNames.{◌≡◌, ◌≢◌, inl, inr, ℕ, ◌<◌, ◌≤◌, ◌^◌, true, false, ◌&&◌, ◌==◌, cond, nat_le, nat_lt, List, [], ◌∷◌, Option, Some, None, slice_get, option_map, Contains, refl, ap, sym, subst, ◌∙◌, codes, is_none, option_and_then, AllPairs, join_with_byte, bytes_eq, cases_order, and_parts, and_from, eqb-true, ltb-true, lt-ltb, leb-true, le-leb, same_Some, none-some, cond_some, slice_get_within, get_or_from_slice_get, Var, Mode, Callback, Order, kind_word, mode_word, order_word, MOST_SENDERS, Op, Statement, Declares, InMain, InCallback, Sizes, HasWorkers, Orders, InThread, named_word, bare_word, IsOp, init, start, repeat, queue, queue_text, on_name, bare, callback_word, Says, declares, in_main, runs, closes_loop, in_callback, in_call, sizes, sizes_to, has_workers, orders, says_io, says_heap, in_thread, MOST_SLOTS, first_of, none_left, start_by, filled, text_by, marked, Task, rest_of, IsTask, text_of, IsSlotCount, LAST_GENERATION, IsWorkerCount, is_name, IsName, IsNumber, IsDeclared, task_of-complete, task_of-sound}
use Rattle.uv_ids.specs.declared.seen.Callback.TheVariants as callback
use Rattle.uv_script.specs.declared.op.Op.TheVariants as op
use Rattle.uv_script.specs.declared.op.MainOp.TheVariants as main
use Rattle.uv_script.specs.Reading.{place_of, kind_of, mode_of, version_of, init_of, timer_start_of, start_of, repeat_of, queue_of, bare_op, named_op, name_alone, short_op_of, op_of, declaration_of, run_of, close_loop_of, main_by, main_of, call_of, in_calls_of, in_call_of, calls_of, callback_of, last_of, size_of, workers_of, orders_of, io_of, timers_of, sender_of, thread_of, setting_of, statement_of}
use Rattle.uv_work.specs.TaskReading.{task_of}
use Rattle.uv_script.specs.Checks.{number_of}
use Rattle.uv_script.proofs.OpWords.{named_op-sound, bare_op-sound}
use Rattle.uv_script.proofs.KindWords.{kind_of-some, kind_of-sound, mode_of-some, mode_of-sound, version_of-some, version_of-sound, choice_cases}
use Rattle.uv_script.proofs.Places.{place_of-sound, place_of-finds}
use Rattle.uv_script.proofs.Checks.{is_name_decides, number_of-sound, number_of-complete}

-- a step of a reader that went well
pub bound : {A B : Type 0} (f : A → Option B) (o : Option A) (y : B) → option_and_then f o ≡ Some y → (x : A) × (o ≡ Some x) × (f x ≡ Some y)
bound f None y e = cc
bound f (Some x) y e = (x, refl, e)

first_is : (fields : List (List ℕ)) (x : List ℕ × List (List ℕ)) → first_of fields ≡ Some x → fields ≡ x.0 ∷ x.1
first_is [] x e = cc
first_is (field ∷ fields) x e = let p = same_Some _ _ e in ap (λ (q : List ℕ × List (List ℕ)). q.0 ∷ q.1) p

none_is : (fields : List (List ℕ)) (u : Unit {0}) → none_left fields ≡ Some u → fields ≡ []
none_is [] u e = refl
none_is (field ∷ fields) u e = cc

mapped : {A B : Type 0} (f : A → B) (o : Option A) (y : B) → option_map f o ≡ Some y → (x : A) × (o ≡ Some x) × (f x ≡ y)
mapped f None y e = cc
mapped f (Some x) y e = (x, refl, same_Some _ _ e)

init_sound : (names fields : List (List ℕ)) (o : Op) → init_of names fields ≡ Some o → IsOp names (codes "init" ∷ fields) o
unfolding init_of
init_sound names fields o e =
    let name = bound _ (first_of fields) o e in
    let v = bound _ (place_of names name.0.0) o name.2 in
    let word = bound _ (first_of name.0.1) o v.2 in
    let kind = bound _ (kind_of word.0.0) o word.2 in
    let end = bound _ (none_left word.0.1) o kind.2 in
    let a = first_is fields name.0 name.1 in
    let b = first_is name.0.1 word.0 word.1 in
    let k = kind_of-sound word.0.0 kind.0 kind.1 in
    let z = none_is word.0.1 end.0 end.1 in
    subst (IsOp names (codes "init" ∷ fields)) (same_Some _ _ end.2)
    (init name.0.0 v.0 kind.0 (cc)
    (place_of-sound names name.0.0 v.0 v.1))

timer_start_sound : (names : List (List ℕ)) (name : List ℕ) (v : Var) (timeout : List ℕ) (fields : List (List ℕ)) (o : Op) → IsDeclared names name v →
    timer_start_of v timeout fields ≡ Some o → IsOp names (codes "start" ∷ name ∷ timeout ∷ fields) o
unfolding timer_start_of
timer_start_sound names name v timeout fields o is e =
    let t = bound _ (number_of timeout) o e in
    let last = bound _ (first_of fields) o t.2 in
    let r = bound _ (number_of last.0.0) o last.2 in
    let end = bound _ (none_left last.0.1) o r.2 in
    let a = first_is fields last.0 last.1 in
    let z = none_is last.0.1 end.0 end.1 in
    subst (IsOp names (codes "start" ∷ name ∷ timeout ∷ fields)) (same_Some _ _ end.2)
    (start name v timeout last.0.0 t.0 r.0 (ap (λ s. codes "start" ∷ name ∷ timeout ∷ s) (a ∙ ap (λ s. last.0.0 ∷ s) z))
    is (number_of-sound timeout t.0 t.1) (number_of-sound last.0.0 r.0 r.1))

start_by_sound : (names : List (List ℕ)) (name : List ℕ) (v : Var) (fields : List (List ℕ)) (o : Op) → IsDeclared names name v →
    start_by v fields ≡ Some o → IsOp names (codes "start" ∷ name ∷ fields) o
start_by_sound names name v [] o is e =
    subst (IsOp names (codes "start" ∷ name ∷ [])) (same_Some _ _ e) (on_name (op.StartWatcher v) (codes "start") name v refl refl is)
start_by_sound names name v (timeout ∷ fields) o is e = timer_start_sound names name v timeout fields o is e

start_sound : (names fields : List (List ℕ)) (o : Op) → start_of names fields ≡ Some o → IsOp names (codes "start" ∷ fields) o
unfolding start_of
start_sound names fields o e =
    let name = bound _ (first_of fields) o e in
    let v = bound _ (place_of names name.0.0) o name.2 in
    let a = first_is fields name.0 name.1 in
    subst (λ (r : List (List ℕ)). IsOp names (codes "start" ∷ r) o) (sym a)
    (start_by_sound names name.0.0 v.0 name.0.1 o (place_of-sound names name.0.0 v.0 v.1) v.2)

repeat_sound : (names fields : List (List ℕ)) (o : Op) → repeat_of names fields ≡ Some o → IsOp names (codes "repeat" ∷ fields) o
unfolding repeat_of
repeat_sound names fields o e =
    let name = bound _ (first_of fields) o e in
    let v = bound _ (place_of names name.0.0) o name.2 in
    let number = bound _ (first_of name.0.1) o v.2 in
    let n = bound _ (number_of number.0.0) o number.2 in
    let end = bound _ (none_left number.0.1) o n.2 in
    let a = first_is fields name.0 name.1 in
    let b = first_is name.0.1 number.0 number.1 in
    let z = none_is number.0.1 end.0 end.1 in
    subst (IsOp names (codes "repeat" ∷ fields)) (same_Some _ _ end.2)
    (repeat name.0.0 v.0 number.0.0 n.0
    (ap (λ s. codes "repeat" ∷ s) (a ∙ ap (λ s. name.0.0 ∷ s) (b ∙ ap (λ s. number.0.0 ∷ s) z)))
    (place_of-sound names name.0.0 v.0 v.1) (number_of-sound number.0.0 n.0 n.1))

filled_is : (bytes text : List ℕ) → filled bytes ≡ Some text → (bytes ≡ text) × (text ≢ [])
filled_is [] text e = cc
filled_is (b ∷ bs) text e =
    let same = same_Some _ _ e in (
      same,
      λ empty.
          let wrong : b ∷ bs ≡ [] = same ∙ empty in
          cc,
    )

queue_says : (names : List (List ℕ)) (name : List ℕ) (v : Var) (rounds : List ℕ) (r : ℕ) (rest : List (List ℕ)) (text : List ℕ) (t : Task) →
    IsDeclared names name v → IsNumber rounds r → IsTask r text t → text_by (rest_of rest) ≡ Some text →
    IsOp names (codes "queue" ∷ name ∷ rounds ∷ rest) (op.Queue v t)
queue_says names name v rounds r [] text t is number task e =
    queue name v rounds t refl is (subst (IsNumber rounds) (sym task.rounds_are) number) (task.text_is ∙ sym (same_Some _ _ e))
queue_says names name v rounds r (field ∷ fields) text t is number task e =
    let p = filled_is (join_with_byte 32 (field ∷ fields)) text e in
    queue_text name v rounds t (field ∷ fields) refl is (subst (IsNumber rounds) (sym task.rounds_are) number) (task.text_is ∙ sym p.0)
    (λ empty. p.1 (sym task.text_is ∙ empty))

queue_sound : (names fields : List (List ℕ)) (o : Op) → queue_of names fields ≡ Some o → IsOp names (codes "queue" ∷ fields) o
unfolding queue_of
queue_sound names fields o e =
    let name = bound _ (first_of fields) o e in
    let v = bound _ (place_of names name.0.0) o name.2 in
    let rounds = bound _ (first_of name.0.1) o v.2 in
    let r = bound _ (number_of rounds.0.0) o rounds.2 in
    let text = bound _ (text_by (rest_of rounds.0.1)) o r.2 in
    let t = bound _ (task_of r.0 text.0) o text.2 in
    let a = first_is fields name.0 name.1 in
    let b = first_is name.0.1 rounds.0 rounds.1 in
    subst (IsOp names (codes "queue" ∷ fields)) (same_Some _ _ t.2)
    (subst (λ (s : List (List ℕ)). IsOp names (codes "queue" ∷ s) (op.Queue v.0 t.0)) (sym (a ∙ ap (λ s. name.0.0 ∷ s) b))
    (search (queue_says, place_of-sound, number_of-sound, task_of-sound)))

-- the fields are a declared name
record IsNameAlone (names fields : List (List ℕ)) (v : Var) : Type 0 where
  name : List ℕ
  alone : fields ≡ name ∷ []
  declared : IsDeclared names name v

name_alone_sound : (names fields : List (List ℕ)) (v : Var) → name_alone names fields ≡ Some v → IsNameAlone names fields v
unfolding name_alone
name_alone_sound names fields v e =
    let name = bound _ (first_of fields) v e in
    let w = bound _ (place_of names name.0.0) v name.2 in
    let end = bound _ (none_left name.0.1) v w.2 in
    let a = first_is fields name.0 name.1 in
    let z = none_is name.0.1 end.0 end.1 in
    record {
      name = name.0.0;
      alone = a ∙ ap (λ s. name.0.0 ∷ s) z;
      declared = place_of-sound names name.0.0 v (w.1 ∙ end.2);
    }

short_op_sound : (names fields : List (List ℕ)) (word : List ℕ) (this : Option Op) (o : Op) → bare_op word ≡ this →
    short_op_of names fields word this ≡ Some o → IsOp names (word ∷ fields) o
unfolding short_op_of
short_op_sound names fields word (Some x) o is e =
    let end = bound _ (none_left fields) o e in
    bare o word (bare_op-sound word o (is ∙ end.2)) (ap (λ s. word ∷ s) (none_is fields end.0 end.1))
short_op_sound names fields word None o is e =
    let v = bound _ (name_alone names fields) o e in
    let name = name_alone_sound names fields v.0 v.1 in
    on_name o word name.name v.0 (named_op-sound word v.0 o v.2) (ap (λ s. word ∷ s) name.alone) name.declared

-- the fact of an op, by its word
op_word : (names : List (List ℕ)) (this word : List ℕ) (fields : List (List ℕ)) (o : Op) → word ≡ this → IsOp names (this ∷ fields) o →
    IsOp names (word ∷ fields) o
op_word names this word fields o e is = subst (λ (w : List ℕ). IsOp names (w ∷ fields) o) (sym e) is

op_sound : (names : List (List ℕ)) (word : List ℕ) (fields : List (List ℕ)) (o : Op) → op_of names word fields ≡ Some o → IsOp names (word ∷ fields) o
unfolding op_of
op_sound names word fields o e =
    elim (choice_cases word (codes "init") _ _ (Some o) e) [
      | inl a ↦ op_word names (codes "init") word fields o a.0 (init_sound names fields o a.1)
      | inr e' ↦ elim (choice_cases word (codes "start") _ _ (Some o) e') [
        | inl a ↦ op_word names (codes "start") word fields o a.0 (start_sound names fields o a.1)
        | inr e'' ↦ elim (choice_cases word (codes "repeat") _ _ (Some o) e'') [
          | inl a ↦ op_word names (codes "repeat") word fields o a.0 (repeat_sound names fields o a.1)
          | inr e''' ↦ elim (choice_cases word (codes "queue") _ _ (Some o) e''') [
            | inl a ↦ op_word names (codes "queue") word fields o a.0 (queue_sound names fields o a.1)
            | inr short ↦ short_op_sound names fields word (bare_op word) o refl short
          ]
        ]
      ]
    ]

declaration_sound : (names fields : List (List ℕ)) (s : Statement) → declaration_of names fields ≡ Some s → Says names (codes "var" ∷ fields) s
unfolding declaration_of
declaration_sound names fields s e =
    let name = bound _ (first_of fields) s e in
    let end = bound _ (none_left name.0.1) s name.2 in
    let a = first_is fields name.0 name.1 in
    let z = none_is name.0.1 end.0 end.1 in
    let is = cond_some (is_name name.0.0 && is_none (place_of names name.0.0)) (Declares name.0.0) s end.2 in
    let tests = and_parts (is_name name.0.0) (is_none (place_of names name.0.0)) is.0 in
    subst (Says names (codes "var" ∷ fields)) is.1
    (declares name.0.0 (ap (λ r. codes "var" ∷ r) (a ∙ ap (λ r. name.0.0 ∷ r) z))
    ((is_name_decides name.0.0).0 tests.0)
    (place_of-finds names name.0.0 (no_place (place_of names name.0.0) tests.1)))
  where
    no_place : (o : Option Var) → is_none o ≡ true → o ≡ None
    no_place None h = refl
    no_place (Some v) h = cc

run_sound : (names fields : List (List ℕ)) (s : Statement) → run_of fields ≡ Some s → Says names (codes "main" ∷ codes "run" ∷ fields) s
unfolding run_of
run_sound names fields s e =
    let word = bound _ (first_of fields) s e in
    let m = bound _ (mode_of word.0.0) s word.2 in
    let end = bound _ (none_left word.0.1) s m.2 in
    let a = first_is fields word.0 word.1 in
    let z = none_is word.0.1 end.0 end.1 in
    let w = mode_of-sound word.0.0 m.0 m.1 in
    subst (Says names (codes "main" ∷ codes "run" ∷ fields)) (same_Some _ _ end.2)
    (runs m.0 (ap (λ r. codes "main" ∷ codes "run" ∷ r) (a ∙ ap (λ r. word.0.0 ∷ r) z ∙ ap (λ v. v ∷ []) w)))

close_loop_sound : (names fields : List (List ℕ)) (s : Statement) → close_loop_of fields ≡ Some s
    → Says names (codes "main" ∷ codes "closeloop" ∷ fields) s
unfolding close_loop_of
close_loop_sound names fields s e =
    let end = bound _ (none_left fields) s e in
    subst (Says names (codes "main" ∷ codes "closeloop" ∷ fields)) (same_Some _ _ end.2)
    (closes_loop (ap (λ r. codes "main" ∷ codes "closeloop" ∷ r) (none_is fields end.0 end.1)))

main_sound : (names fields : List (List ℕ)) (s : Statement) → main_of names fields ≡ Some s → Says names (codes "main" ∷ fields) s
unfolding main_of main_by
main_sound names fields s e =
    let word = bound _ (first_of fields) s e in
    let a = first_is fields word.0 word.1 in
    subst (λ (r : List (List ℕ)). Says names (codes "main" ∷ r) s) (sym a)
    (elim (choice_cases word.0.0 (codes "run") _ _ (Some s) word.2) [
      | inl is ↦ subst (λ (w : List ℕ). Says names (codes "main" ∷ w ∷ word.0.1) s) (sym is.0) (run_sound names word.0.1 s is.1)
      | inr e' ↦ elim (choice_cases word.0.0 (codes "closeloop") _ _ (Some s) e') [
        | inl is ↦ subst (λ (w : List ℕ). Says names (codes "main" ∷ w ∷ word.0.1) s) (sym is.0) (close_loop_sound names word.0.1 s is.1)
        | inr e'' ↦
            let o = mapped (λ (o : Op). InMain (main.Op o)) (op_of names word.0.0 word.0.1) s e'' in
            subst (Says names (codes "main" ∷ word.0.0 ∷ word.0.1)) o.2
            (in_main (word.0.0 ∷ word.0.1) o.0 refl (op_sound names word.0.0 word.0.1 o.0 o.1))
      ]
    ])

pub record IsCall (digits : List ℕ) (k : ℕ) : Type 0 where
  pub number : IsNumber digits k
  pub first : 1 ≤ k
  pub last : k < 2 ^ 32

call_sound : (digits : List ℕ) (k : ℕ) → call_of digits ≡ Some k → IsCall digits k
unfolding call_of
call_sound digits k e =
    let n = bound _ (number_of digits) k e in
    let is = cond_some (nat_le 1 n.0 && nat_lt n.0 4294967296) n.0 k n.2 in
    let tests = and_parts (nat_le 1 n.0) (nat_lt n.0 4294967296) is.0 in
    subst (IsCall digits) is.1 (search (number_of-sound, leb-true, ltb-true))

marked_is : (field digits : List ℕ) → marked field ≡ Some digits → field ≡ 64 ∷ digits
marked_is [] digits e = cc
marked_is (b ∷ bs) digits e =
    let is = cond_some (b == 64) bs digits e in
    ap (λ c. c ∷ bs) (eqb-true b 64 is.0) ∙ ap (λ r. 64 ∷ r) is.1

in_calls_sound : (names : List (List ℕ)) (kind : Callback) (name : List ℕ) (v : Var) (word : List ℕ) (fields : List (List ℕ)) (s : Statement) →
    IsDeclared names name v → in_calls_of names kind v None word fields ≡ Some s → Says names (callback_word kind ∷ name ∷ word ∷ fields) s
unfolding in_calls_of
in_calls_sound names kind name v word fields s is e =
    let o = mapped (λ (o : Op). InCallback kind v (record { call = None; op = o })) (op_of names word fields) s e in
    subst (Says names (callback_word kind ∷ name ∷ word ∷ fields)) o.2
    (in_callback kind name v (word ∷ fields) o.0 refl is (op_sound names word fields o.0 o.1))

in_call_sound : (names : List (List ℕ)) (kind : Callback) (name : List ℕ) (v : Var) (digits : List ℕ) (fields : List (List ℕ)) (s : Statement) →
    IsDeclared names name v → in_call_of names kind v digits fields ≡ Some s → Says names (callback_word kind ∷ name ∷ (64 ∷ digits) ∷ fields) s
unfolding in_call_of in_calls_of
in_call_sound names kind name v digits fields s is e =
    let k = bound _ (call_of digits) s e in
    let word = bound _ (first_of fields) s k.2 in
    let a = first_is fields word.0 word.1 in
    let o = mapped (λ (o : Op). InCallback kind v (record { call = Some k.0; op = o })) (op_of names word.0.0 word.0.1) s word.2 in
    let call = call_sound digits k.0 k.1 in
    subst (λ (r : List (List ℕ)). Says names (callback_word kind ∷ name ∷ (64 ∷ digits) ∷ r) s) (sym a)
    (subst (Says names (callback_word kind ∷ name ∷ (64 ∷ digits) ∷ word.0.0 ∷ word.0.1)) o.2
    (in_call kind name v digits k.0 (word.0.0 ∷ word.0.1) o.0 refl is call.number call.first call.last
    (op_sound names word.0.0 word.0.1 o.0 o.1)))

calls_sound : (names : List (List ℕ)) (kind : Callback) (name : List ℕ) (v : Var) (word : List ℕ) (fields : List (List ℕ)) (s : Statement)
    (mark : Option (List ℕ)) → IsDeclared names name v → marked word ≡ mark → calls_of names kind v word fields mark ≡ Some s →
    Says names (callback_word kind ∷ name ∷ word ∷ fields) s
unfolding calls_of
calls_sound names kind name v word fields s None is mark e = in_calls_sound names kind name v word fields s is e
calls_sound names kind name v word fields s (Some digits) is mark e =
    subst (λ (w : List ℕ). Says names (callback_word kind ∷ name ∷ w ∷ fields) s) (sym (marked_is word digits mark))
    (in_call_sound names kind name v digits fields s is e)

callback_sound : (names : List (List ℕ)) (kind : Callback) (fields : List (List ℕ)) (s : Statement) → callback_of names kind fields ≡ Some s →
    Says names (callback_word kind ∷ fields) s
unfolding callback_of
callback_sound names kind fields s e =
    let name = bound _ (first_of fields) s e in
    let v = bound _ (place_of names name.0.0) s name.2 in
    let word = bound _ (first_of name.0.1) s v.2 in
    let a = first_is fields name.0 name.1 in
    let b = first_is name.0.1 word.0 word.1 in
    subst (λ (r : List (List ℕ)). Says names (callback_word kind ∷ r) s) (sym (a ∙ ap (λ r. name.0.0 ∷ r) b))
    (calls_sound names kind name.0.0 v.0 word.0.0 word.0.1 s (marked word.0.0) (place_of-sound names name.0.0 v.0 v.1) refl word.2)

-- the fields behind the number of slots: the last generation, or none
data LastField (fields : List (List ℕ)) (g : ℕ) : Type 0 where
  left_out : fields ≡ [] → g ≡ LAST_GENERATION → LastField fields g
  said_last : (last : List ℕ) → fields ≡ last ∷ [] → IsNumber last g → g < 2 ^ 32 → LastField fields g

last_sound : (fields : List (List ℕ)) (g : ℕ) → last_of fields ≡ Some g → LastField fields g
unfolding last_of
last_sound [] g e = left_out refl (sym (same_Some _ _ e))
last_sound (last ∷ fields) g e =
    let number = bound _ (number_of last) g e in
    let end = bound _ (none_left fields) g number.2 in
    let p = cond_some (nat_lt number.0 4294967296) number.0 g end.2 in
    let is = number_of-sound last number.0 number.1 in
    said_last last (ap (λ r. last ∷ r) (none_is fields end.0 end.1)) (subst (IsNumber last) p.1 is)
    (subst (λ (n : ℕ). n < 2 ^ 32) p.1 (ltb-true number.0 4294967296 p.0))

size_says : (names : List (List ℕ)) (slots : List ℕ) (fields : List (List ℕ)) (n g : ℕ) → IsNumber slots n → IsSlotCount n → LastField fields g →
    Says names (codes "slots" ∷ slots ∷ fields) (Sizes (record { slots = n; last_generation = g }))
size_says names slots fields n g is fits (left_out e last) =
    subst (λ (m : ℕ). Says names (codes "slots" ∷ slots ∷ fields) (Sizes (record { slots = n; last_generation = m }))) (sym last)
    (sizes slots n (ap (λ r. codes "slots" ∷ slots ∷ r) e) is fits)
size_says names slots fields n g is fits (said_last last e last_is small) =
    sizes_to slots last n g (ap (λ r. codes "slots" ∷ slots ∷ r) e) is fits last_is small

size_sound : (names fields : List (List ℕ)) (s : Statement) → size_of fields ≡ Some s → Says names (codes "slots" ∷ fields) s
unfolding size_of
size_sound names fields s e =
    let slots = bound _ (first_of fields) s e in
    let n = bound _ (number_of slots.0.0) s slots.2 in
    let g = bound _ (last_of slots.0.1) s n.2 in
    let a = first_is fields slots.0 slots.1 in
    let p = cond_some (nat_le 1 n.0 && nat_le n.0 MOST_SLOTS) (Sizes (record { slots = n.0; last_generation = g.0 })) s g.2 in
    let tests = and_parts (nat_le 1 n.0) (nat_le n.0 MOST_SLOTS) p.0 in
    subst (λ (r : List (List ℕ)). Says names (codes "slots" ∷ r) s) (sym a)
    (subst (Says names (codes "slots" ∷ slots.0.0 ∷ slots.0.1)) p.1
    (search (size_says, number_of-sound, leb-true, last_sound)))

workers_sound : (names fields : List (List ℕ)) (s : Statement) → workers_of fields ≡ Some s → Says names (codes "workers" ∷ fields) s
unfolding workers_of
workers_sound names fields s e =
    let number = bound _ (first_of fields) s e in
    let n = bound _ (number_of number.0.0) s number.2 in
    let end = bound _ (none_left number.0.1) s n.2 in
    let a = first_is fields number.0 number.1 in
    let none = none_is number.0.1 end.0 end.1 in
    let p = cond_some (nat_le 1 n.0 && nat_le n.0 1024) (HasWorkers n.0) s end.2 in
    let tests = and_parts (nat_le 1 n.0) (nat_le n.0 1024) p.0 in
    subst (Says names (codes "workers" ∷ fields)) p.1
    (has_workers number.0.0 n.0 (ap (λ r. codes "workers" ∷ r) (a ∙ ap (λ r. number.0.0 ∷ r) none)) (number_of-sound number.0.0 n.0 n.1)
    (leb-true 1 n.0 tests.0, leb-true n.0 1024 tests.1))

orders_sound : (names fields : List (List ℕ)) (s : Statement) → orders_of fields ≡ Some s → Says names (codes "order" ∷ fields) s
unfolding orders_of
orders_sound names fields s e =
    let version = bound _ (first_of fields) s e in
    let o = bound _ (version_of version.0.0) s version.2 in
    let end = bound _ (none_left version.0.1) s o.2 in
    let a = first_is fields version.0 version.1 in
    let none = none_is version.0.1 end.0 end.1 in
    let word = version_of-sound version.0.0 o.0 o.1 in
    subst (Says names (codes "order" ∷ fields)) (same_Some _ _ end.2)
    (orders o.0 (ap (λ r. codes "order" ∷ r) (a ∙ ap (λ r. version.0.0 ∷ r) none ∙ ap (λ w. w ∷ []) word)))

io_sound : (names fields : List (List ℕ)) (s : Statement) → io_of fields ≡ Some s → Says names (codes "io" ∷ fields) s
unfolding io_of
io_sound names fields s e =
    let end = bound _ (none_left fields) s e in
    let none = none_is fields end.0 end.1 in
    subst (Says names (codes "io" ∷ fields)) (same_Some _ _ end.2) (says_io (ap (λ r. codes "io" ∷ r) none))

timers_sound : (names fields : List (List ℕ)) (s : Statement) → timers_of fields ≡ Some s → Says names (codes "timers" ∷ fields) s
unfolding timers_of
timers_sound names fields s e =
    let word = bound _ (first_of fields) s e in
    let end = bound _ (none_left word.0.1) s word.2 in
    let a = first_is fields word.0 word.1 in
    let none = none_is word.0.1 end.0 end.1 in
    elim (choice_cases word.0.0 (codes "heap") _ _ (Some s) end.2) [
      | inl is ↦ subst (Says names (codes "timers" ∷ fields)) (same_Some _ _ is.1)
          (says_heap (ap (λ r. codes "timers" ∷ r) (a ∙ ap (λ r. word.0.0 ∷ r) none ∙ ap (λ w. w ∷ []) is.0)))
      | inr wrong ↦ cc
    ]

says_word : (names : List (List ℕ)) (this word : List ℕ) (fields : List (List ℕ)) (s : Statement) → word ≡ this → Says names (this ∷ fields) s →
    Says names (word ∷ fields) s
says_word names this word fields s e is = subst (λ (w : List ℕ). Says names (w ∷ fields) s) (sym e) is

-- a thread's line, from the name that it sends on
sender_sound : (names : List (List ℕ)) (number : List ℕ) (k : ℕ) (fields : List (List ℕ)) (s : Statement) → IsNumber number k →
    sender_of names k fields ≡ Some s → Says names (codes "thread" ∷ number ∷ codes "send" ∷ fields) s
unfolding sender_of
sender_sound names number k fields s is e =
    let v = bound _ (name_alone names fields) s e in
    let name = name_alone_sound names fields v.0 v.1 in
    let p = cond_some (nat_lt k MOST_SENDERS) (InThread (record { thread = k; name = v.0 })) s v.2 in
    subst (Says names (codes "thread" ∷ number ∷ codes "send" ∷ fields)) p.1
    (in_thread number k name.name v.0 (ap (λ r. codes "thread" ∷ number ∷ codes "send" ∷ r) name.alone) is
    (ltb-true k MOST_SENDERS p.0) name.declared)

thread_sound : (names fields : List (List ℕ)) (s : Statement) → thread_of names fields ≡ Some s → Says names (codes "thread" ∷ fields) s
unfolding thread_of
thread_sound names fields s e =
    let number = bound _ (first_of fields) s e in
    let k = bound _ (number_of number.0.0) s number.2 in
    let word = bound _ (first_of number.0.1) s k.2 in
    let a = first_is fields number.0 number.1 in
    let b = first_is number.0.1 word.0 word.1 in
    subst (λ (r : List (List ℕ)). Says names (codes "thread" ∷ r) s) (sym (a ∙ ap (λ r. number.0.0 ∷ r) b))
    (elim (choice_cases word.0.0 (codes "send") _ _ (Some s) word.2) [
      | inl is ↦ subst (λ (w : List ℕ). Says names (codes "thread" ∷ number.0.0 ∷ w ∷ word.0.1) s) (sym is.0)
          (sender_sound names number.0.0 k.0 word.0.1 s (number_of-sound number.0.0 k.0 k.1) is.1)
      | inr wrong ↦ cc
    ])

setting_sound : (names : List (List ℕ)) (word : List ℕ) (fields : List (List ℕ)) (s : Statement) → setting_of names word fields ≡ Some s →
    Says names (word ∷ fields) s
unfolding setting_of
setting_sound names word fields s e =
    elim (choice_cases word (codes "slots") _ _ (Some s) e) [
      | inl is ↦ says_word names (codes "slots") word fields s is.0 (size_sound names fields s is.1)
      | inr last ↦ elim (choice_cases word (codes "workers") _ _ (Some s) last) [
        | inl is ↦ says_word names (codes "workers") word fields s is.0 (workers_sound names fields s is.1)
        | inr order ↦ elim (choice_cases word (codes "order") _ _ (Some s) order) [
          | inl is ↦ says_word names (codes "order") word fields s is.0 (orders_sound names fields s is.1)
          | inr io ↦ elim (choice_cases word (codes "io") _ _ (Some s) io) [
            | inl is ↦ says_word names (codes "io") word fields s is.0 (io_sound names fields s is.1)
            | inr timers ↦ elim (choice_cases word (codes "timers") _ _ (Some s) timers) [
              | inl is ↦ says_word names (codes "timers") word fields s is.0 (timers_sound names fields s is.1)
              | inr thread ↦ elim (choice_cases word (codes "thread") _ _ (Some s) thread) [
                | inl is ↦ says_word names (codes "thread") word fields s is.0 (thread_sound names fields s is.1)
                | inr wrong ↦ cc
              ]
            ]
          ]
        ]
      ]
    ]

pub statement_sound : (names fields : List (List ℕ)) (s : Statement) → statement_of names fields ≡ Some s → Says names fields s
unfolding statement_of
statement_sound names fields s e =
    let word = bound _ (first_of fields) s e in
    let a = first_is fields word.0 word.1 in
    subst (λ (r : List (List ℕ)). Says names r s) (sym a)
    (elim (choice_cases word.0.0 (codes "var") _ _ (Some s) word.2) [
      | inl is ↦ says_word names (codes "var") word.0.0 word.0.1 s is.0 (declaration_sound names word.0.1 s is.1)
      | inr e' ↦ elim (choice_cases word.0.0 (codes "main") _ _ (Some s) e') [
        | inl is ↦ says_word names (codes "main") word.0.0 word.0.1 s is.0 (main_sound names word.0.1 s is.1)
        | inr e'' ↦ elim (choice_cases word.0.0 (codes "on") _ _ (Some s) e'') [
          | inl is ↦ says_word names (codes "on") word.0.0 word.0.1 s is.0 (callback_sound names callback.Handle word.0.1 s is.1)
          | inr e''' ↦ elim (choice_cases word.0.0 (codes "after") _ _ (Some s) e''') [
            | inl is ↦ says_word names (codes "after") word.0.0 word.0.1 s is.0 (callback_sound names callback.After word.0.1 s is.1)
            | inr e4 ↦ elim (choice_cases word.0.0 (codes "closed") _ _ (Some s) e4) [
              | inl is ↦ says_word names (codes "closed") word.0.0 word.0.1 s is.0 (callback_sound names callback.Close word.0.1 s is.1)
              | inr last ↦ setting_sound names word.0.0 word.0.1 s last
            ]
          ]
        ]
      ]
    ])

abbrev pub AreDistinct : List (List ℕ) → Type 0
AreDistinct names = AllPairs (λ a b. a ≢ b) names

-- one place has one name, and one name one place
one_place : (names : List (List ℕ)) (name : List ℕ) (i j : ℕ) → AreDistinct names → slice_get names i ≡ Some name → slice_get names j ≡ Some name →
    i ≡ j
one_place names name i j distinct a b =
    elim (cases_order i j) [
      | inl same ↦ same
      | inr other ↦ elim other [
        | inl less ↦ absurd (distinct i j name less (slice_get_within names j name b)
            (get_or_from_slice_get names i name name a ∙ sym (get_or_from_slice_get names j name name b)))
        | inr more ↦ absurd (distinct j i name more (slice_get_within names i name a)
            (get_or_from_slice_get names j name name b ∙ sym (get_or_from_slice_get names i name name a)))
      ]
    ]

pub declared_contains : (names : List (List ℕ)) (name : List ℕ) (v : Var) → IsDeclared names name v → Contains names name
declared_contains names name v is = (v.0, slice_get_within names v.0 name is, get_or_from_slice_get names v.0 name name is)

pub place_complete : (names : List (List ℕ)) (name : List ℕ) (v : Var) → AreDistinct names → IsDeclared names name v → place_of names name ≡ Some v
place_complete names name v distinct is = by (place_of names name) refl
  where
    by : (o : Option Var) → place_of names name ≡ o → o ≡ Some v
    by None e = absurd (place_of-finds names name e (declared_contains names name v is))
    by (Some w) e = ap (λ (i : ℕ). Some (record { 0 = i })) (one_place names name w.0 v.0 distinct (place_of-sound names name w e) is)

place_fresh : (names : List (List ℕ)) (name : List ℕ) → (Contains names name → ⊥) → place_of names name ≡ None
place_fresh names name fresh = by (place_of names name) refl
  where
    by : (o : Option Var) → place_of names name ≡ o → o ≡ None
    by None e = refl
    by (Some v) e = absurd (fresh (declared_contains names name v (place_of-sound names name v e)))

-- an op's word is no other word, and the op is read
record OpParts (names fields : List (List ℕ)) (o : Op) : Type 0 where
  word : List ℕ
  rest : List (List ℕ)
  parts : fields ≡ word ∷ rest
  no_run : bytes_eq word (codes "run") ≡ false
  no_close : bytes_eq word (codes "closeloop") ≡ false
  no_mark : marked word ≡ None
  reads : op_of names word rest ≡ Some o

-- an op of a word and a name
named_parts : (names : List (List ℕ)) (o : Op) (word name : List ℕ) (v : Var) → place_of names name ≡ Some v → named_word o ≡ Some (word, v) →
    OpParts names (word ∷ name ∷ []) o
unfolding op_of start_of short_op_of bare_op named_op name_alone
named_parts names o word name v place e = at o e
  where
    by : (x : Op) (this : List ℕ) (w : Var) → ◌≡◌ {A = Option (List ℕ × Var)} (Some (this, w)) (Some (word, v)) →
        bytes_eq this (codes "run") ≡ false → bytes_eq this (codes "closeloop") ≡ false → marked this ≡ None
        → (place_of names name ≡ Some w → op_of names this (name ∷ []) ≡ Some x) →
        OpParts names (word ∷ name ∷ []) x
    by x this w said no_run no_close no_mark reads =
        let same = same_Some _ _ said in
        subst (λ (p : List ℕ). OpParts names (p ∷ name ∷ []) x) (ap (λ (p : List ℕ × Var). p.0) same)
        (record {
          word = this;
          rest = name ∷ [];
          parts = refl;
          no_run = no_run;
          no_close = no_close;
          no_mark = no_mark;
          reads = reads (place ∙ ap (λ (p : List ℕ × Var). Some p.1) (sym same));
        })

    at : (x : Op) → named_word x ≡ Some (word, v) → OpParts names (word ∷ name ∷ []) x
    at (op.StartWatcher w) is = by (op.StartWatcher w) (codes "start") w is refl refl refl (λ found. rw found refl)
    at (op.Stop w) is = by (op.Stop w) (codes "stop") w is refl refl refl (λ found. rw found refl)
    at (op.Again w) is = by (op.Again w) (codes "again") w is refl refl refl (λ found. rw found refl)
    at (op.DueIn w) is = by (op.DueIn w) (codes "due") w is refl refl refl (λ found. rw found refl)
    at (op.Ref w) is = by (op.Ref w) (codes "ref") w is refl refl refl (λ found. rw found refl)
    at (op.Unref w) is = by (op.Unref w) (codes "unref") w is refl refl refl (λ found. rw found refl)
    at (op.HasRef w) is = by (op.HasRef w) (codes "hasref") w is refl refl refl (λ found. rw found refl)
    at (op.IsActive w) is = by (op.IsActive w) (codes "active") w is refl refl refl (λ found. rw found refl)
    at (op.Close w) is = by (op.Close w) (codes "close") w is refl refl refl (λ found. rw found refl)
    at (op.IsClosing w) is = by (op.IsClosing w) (codes "closing") w is refl refl refl (λ found. rw found refl)
    at (op.Send w) is = by (op.Send w) (codes "send") w is refl refl refl (λ found. rw found refl)
    at (op.Cancel w) is = by (op.Cancel w) (codes "cancel") w is refl refl refl (λ found. rw found refl)
    at _ is = absurd (none-some _ is)

-- an op of one word
bare_parts : (names : List (List ℕ)) (o : Op) (word : List ℕ) → bare_word o ≡ Some word → OpParts names (word ∷ []) o
unfolding op_of short_op_of bare_op
bare_parts names o word e = at o e
  where
    by : (x : Op) (this : List ℕ) → Some this ≡ Some word → bytes_eq this (codes "run") ≡ false → bytes_eq this (codes "closeloop") ≡ false
        → marked this ≡ None → op_of names this [] ≡ Some x →
        OpParts names (word ∷ []) x
    by x this said no_run no_close no_mark reads =
        subst (λ (w : List ℕ). OpParts names (w ∷ []) x) (same_Some _ _ said)
        (record { word = this; rest = []; parts = refl; no_run = no_run; no_close = no_close; no_mark = no_mark; reads = reads })

    at : (x : Op) → bare_word x ≡ Some word → OpParts names (word ∷ []) x
    at op.StopLoop is = by op.StopLoop (codes "stoploop") is refl refl refl refl
    at op.UpdateTime is = by op.UpdateTime (codes "updatetime") is refl refl refl refl
    at op.Now is = by op.Now (codes "now") is refl refl refl refl
    at op.IsAlive is = by op.IsAlive (codes "alive") is refl refl refl refl
    at op.Timeout is = by op.Timeout (codes "timeout") is refl refl refl refl
    at _ is = absurd (none-some _ is)

filled_some : (bytes : List ℕ) → bytes ≢ [] → filled bytes ≡ Some bytes
filled_some [] some = absurd (some refl)
filled_some (b ∷ bs) some = refl

text_complete : (rest : List (List ℕ)) (text : List ℕ) → text ≡ join_with_byte 32 rest → text ≢ [] → text_by (rest_of rest) ≡ Some text
text_complete [] text e some = absurd (some e)
text_complete (field ∷ fields) text e some =
    filled_some (join_with_byte 32 (field ∷ fields)) (λ empty. some (e ∙ empty)) ∙ ap Some (sym e)

op_parts : (names fields : List (List ℕ)) (o : Op) → AreDistinct names → IsOp names fields o → OpParts names fields o
unfolding op_of init_of start_of timer_start_of repeat_of queue_of
op_parts names fields o distinct (init name v kind e is) = record {
  word = codes "init";
  rest = name ∷ kind_word kind ∷ [];
  parts = e;
  no_run = refl;
  no_close = refl;
  no_mark = refl;
  reads = rw (place_complete names name v distinct is, kind_of-some (kind_word kind) kind refl) refl;
}
op_parts names fields o distinct (start name v timeout period t r e is first second) = record {
  word = codes "start";
  rest = name ∷ timeout ∷ period ∷ [];
  parts = e;
  no_run = refl;
  no_close = refl;
  no_mark = refl;
  reads = rw (place_complete names name v distinct is, number_of-complete timeout t first, number_of-complete period r second) refl;
}
op_parts names fields o distinct (repeat name v number n e is value) = record {
  word = codes "repeat";
  rest = name ∷ number ∷ [];
  parts = e;
  no_run = refl;
  no_close = refl;
  no_mark = refl;
  reads = rw (place_complete names name v distinct is, number_of-complete number n value) refl;
}
op_parts names fields o distinct (queue name v rounds t e is number text) = record {
  word = codes "queue";
  rest = name ∷ rounds ∷ [];
  parts = e;
  no_run = refl;
  no_close = refl;
  no_mark = refl;
  reads = rw (
    place_complete names name v distinct is,
    number_of-complete rounds t.rounds number,
    task_of-complete t.rounds [] t (record { rounds_are = refl; text_is = text }),
  ) refl;
}
op_parts names fields o distinct (queue_text name v rounds t rest e is number text some) = record {
  word = codes "queue";
  rest = name ∷ rounds ∷ rest;
  parts = e;
  no_run = refl;
  no_close = refl;
  no_mark = refl;
  reads = rw (
    place_complete names name v distinct is,
    number_of-complete rounds t.rounds number,
    text_complete rest (text_of t) text some,
    task_of-complete t.rounds (text_of t) t (record { rounds_are = refl; text_is = refl }),
  ) refl;
}
op_parts names fields o distinct (on_name x word name v said e is) =
    subst (λ (r : List (List ℕ)). OpParts names r o) (sym e) (named_parts names o word name v (place_complete names name v distinct is) said)
op_parts names fields o distinct (bare x word said e) =
    subst (λ (r : List (List ℕ)). OpParts names r o) (sym e) (bare_parts names o word said)

declaration_complete : (names : List (List ℕ)) (name : List ℕ) → IsName name → (Contains names name → ⊥) →
    declaration_of names (name ∷ []) ≡ Some (Declares name)
unfolding declaration_of
declaration_complete names name is fresh =
    ap (λ b. cond b (Some (Declares name)) None)
    (and_from (is_name name) (is_none (place_of names name)) ((is_name_decides name).1 is) (ap is_none (place_fresh names name fresh)))

main_complete : (names rest : List (List ℕ)) (o : Op) → OpParts names rest o → main_of names rest ≡ Some (InMain (main.Op o))
unfolding main_of main_by
main_complete names rest o p = rw (p.parts, p.no_run, p.no_close, p.reads) refl

run_complete : (m : Mode) → run_of (mode_word m ∷ []) ≡ Some (InMain (main.Run m))
unfolding run_of
run_complete m = rw (mode_of-some (mode_word m) m refl) refl

call_complete : (digits : List ℕ) (k : ℕ) → IsNumber digits k → 1 ≤ k → k < 2 ^ 32 → call_of digits ≡ Some k
unfolding call_of
call_complete digits k is first last =
    rw (number_of-complete digits k is)
    (ap (λ b. cond b (Some k) None) (and_from (nat_le 1 k) (nat_lt k 4294967296) (le-leb 1 k first) (lt-ltb k 4294967296 last)))

callback_complete : (names : List (List ℕ)) (kind : Callback) (name : List ℕ) (v : Var) (rest : List (List ℕ)) (o : Op) → AreDistinct names →
    IsDeclared names name v → OpParts names rest o → callback_of names kind (name ∷ rest) ≡ Some (InCallback kind v (record { call = None; op = o }))
unfolding callback_of calls_of in_calls_of
callback_complete names kind name v rest o distinct is p = rw (place_complete names name v distinct is, p.parts, p.no_mark, p.reads) refl

in_call_complete : (names : List (List ℕ)) (kind : Callback) (name : List ℕ) (v : Var) (digits : List ℕ) (k : ℕ) (rest : List (List ℕ)) (o : Op) →
    AreDistinct names → IsDeclared names name v → call_of digits ≡ Some k → OpParts names rest o →
    callback_of names kind (name ∷ (64 ∷ digits) ∷ rest) ≡ Some (InCallback kind v (record { call = Some k; op = o }))
unfolding callback_of calls_of in_call_of in_calls_of
in_call_complete names kind name v digits k rest o distinct is call p = rw (place_complete names name v distinct is, call, p.parts, p.reads) refl

last_complete : (last : List ℕ) (g : ℕ) → IsNumber last g → g < 2 ^ 32 → last_of (last ∷ []) ≡ Some g
unfolding last_of
last_complete last g is small = rw (number_of-complete last g is) (ap (λ b. cond b (Some g) None) (lt-ltb g 4294967296 small))

size_complete : (slots : List ℕ) (fields : List (List ℕ)) (n g : ℕ) → IsNumber slots n → IsSlotCount n → last_of fields ≡ Some g →
    size_of (slots ∷ fields) ≡ Some (Sizes (record { slots = n; last_generation = g }))
unfolding size_of
size_complete slots fields n g is fits last =
    rw (number_of-complete slots n is, last)
    (search (and_from, le-leb))

workers_complete : (number : List ℕ) (n : ℕ) → IsNumber number n → IsWorkerCount n → workers_of (number ∷ []) ≡ Some (HasWorkers n)
unfolding workers_of
workers_complete number n is fits =
    rw (number_of-complete number n is)
    (ap (λ b. cond b (Some (HasWorkers n)) None) (and_from (nat_le 1 n) (nat_le n 1024) (le-leb 1 n fits.0) (le-leb n 1024 fits.1)))

orders_complete : (o : Order) → orders_of (order_word o ∷ []) ≡ Some (Orders o)
unfolding orders_of
orders_complete o = rw (version_of-some (order_word o) o refl) refl

thread_complete : (names : List (List ℕ)) (number : List ℕ) (k : ℕ) (name : List ℕ) (v : Var) → AreDistinct names → IsNumber number k →
    k < MOST_SENDERS → IsDeclared names name v →
    thread_of names (number ∷ codes "send" ∷ name ∷ []) ≡ Some (InThread (record { thread = k; name = v }))
unfolding thread_of sender_of name_alone
thread_complete names number k name v distinct is few declared =
    rw (number_of-complete number k is, place_complete names name v distinct declared)
    (ap (λ b. cond b (Some (InThread (record { thread = k; name = v }))) None) (lt-ltb k MOST_SENDERS few))

-- a callback's line, by its word
by_word : (names : List (List ℕ)) (kind : Callback) (fields : List (List ℕ))
    → statement_of names (callback_word kind ∷ fields) ≡ callback_of names kind fields
unfolding statement_of
by_word names callback.Handle fields = refl
by_word names callback.After fields = refl
by_word names callback.Close fields = refl

pub statement_complete : (names fields : List (List ℕ)) (s : Statement) → AreDistinct names → Says names fields s → statement_of names fields ≡ Some s
unfolding statement_of setting_of main_of main_by close_loop_of last_of io_of timers_of
statement_complete names fields s distinct (declares name e is fresh) = ap (statement_of names) e ∙ declaration_complete names name is fresh
statement_complete names fields s distinct (in_main rest op e is) =
    ap (statement_of names) e ∙ main_complete names rest op (op_parts names rest op distinct is)
statement_complete names fields s distinct (runs mode e) = ap (statement_of names) e ∙ run_complete mode
statement_complete names fields s distinct (closes_loop e) = ap (statement_of names) e
statement_complete names fields s distinct (in_callback kind name v rest op e declared is) =
    ap (statement_of names) e ∙ by_word names kind (name ∷ rest)
    ∙ callback_complete names kind name v rest op distinct declared (op_parts names rest op distinct is)
statement_complete names fields s distinct (in_call kind name v number k rest op e declared is first last op_is) =
    ap (statement_of names) e ∙ by_word names kind (name ∷ (64 ∷ number) ∷ rest)
    ∙ in_call_complete names kind name v number k rest op distinct declared (call_complete number k is first last)
    (op_parts names rest op distinct op_is)
statement_complete names fields s distinct (sizes slots n e is fits) =
    ap (statement_of names) e ∙ size_complete slots [] n LAST_GENERATION is fits refl
statement_complete names fields s distinct (sizes_to slots last n g e is fits last_is small) =
    ap (statement_of names) e ∙ size_complete slots (last ∷ []) n g is fits (last_complete last g last_is small)
statement_complete names fields s distinct (has_workers number n e is fits) = ap (statement_of names) e ∙ workers_complete number n is fits
statement_complete names fields s distinct (orders o e) = ap (statement_of names) e ∙ orders_complete o
statement_complete names fields s distinct (says_io e) = ap (statement_of names) e
statement_complete names fields s distinct (says_heap e) = ap (statement_of names) e
statement_complete names fields s distinct (in_thread number k name v e is few declared) =
    ap (statement_of names) e ∙ thread_complete names number k name v distinct is few declared
