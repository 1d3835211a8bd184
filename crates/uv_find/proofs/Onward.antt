-- Where places that are alike lead by the same event: to places that are alike, which answer alike.
use Rattle.uv_find.proofs.Names.{◌≡◌, ℕ, ◌+◌, ◌≤◌, ◌==◌, ◌&&◌, not, Option, Some, None, nat_le, refl, ap, ap₂, sym, arith, if◌then◌else◌, same_Some, none-some, Var, Callback, Seen, is_for, State, calls_timer, IsRegular, tale, Which, Question, answers_code, call_end, question_end, caller, is_over, takes_time, time_taken, time_at_end, owed_in, owed_by, owed_after, Rules, begun, is_which, is_call, is_uncalled, answered_name, is_of, is_late, answers_line, line_answers, CanForget, Reads}
use Rattle.uv_ids.specs.declared.seen.Callback.TheVariants as callback
use Rattle.uv_asking.specs.declared.asking.Question.TheVariants as asks
use Rattle.uv_find.proofs.Alike.{DueAlike, both}
use Rattle.uv_find.proofs.Lines.{LinesAlike, plain_line, lines_read, plain_caller, plain_begun, plain_answered, plain_code, plain_section, plain_poll, is_tick, plain_tick}
use Rattle.uv_find.proofs.Readings.{count, reads_count, taken_capped, reads_over}

module _ (r : Rules) (n : ℕ) (forget : r.forget ≡ Some n) (can : CanForget r n) (a b : State) (ra : IsRegular r.program a)
    (rb : IsRegular r.program b) (same : tale n a ≡ tale n b) where
  read : {X : Type 0} (R : State → X) → Reads n R → R a ≡ R b
  read R reads = both r n forget can a b ra rb same R reads

  -- ---- what is kept

  end_alike : (x : Callback × Var) → time_at_end r.takes a x ≡ time_at_end r.takes b x
  end_alike x =
      ap₂ (λ over ms. if takes_time x.0 && over then ms else 0) (read (λ s. is_over s.place) (reads_over n))
      (read (λ s. time_taken r.takes x.1 (count x.0 x.1 s)) (reads_count (time_taken r.takes x.1) n (taken_capped r.takes x.1 n can.takes) x.0 x.1))

  owed_in_alike : (owed other : ℕ) (x : Option (Callback × Var)) → owed ≡ other → owed_in r.takes owed a x ≡ owed_in r.takes other b x
  owed_in_alike owed other x e = grind (arith, end_alike)

  owed_is : (owed : ℕ) (s : State) (l : Seen) → owed_by r.takes owed s l ≡ (if is_tick l then 0 else owed_in r.takes owed s (caller l))
  owed_is owed s l = grind arith

  owed_line : (owed other : ℕ) (l m : Seen) → owed ≡ other → plain_line r.program l ≡ plain_line r.program m →
      owed_by r.takes owed a l ≡ owed_by r.takes other b m
  owed_line owed other l m e lines = grind (arith, lines_read, plain_tick, plain_caller, owed_is, ap₂, owed_in_alike)

  pub owed_alike : (owed other : ℕ) (x y : Option Seen) → owed ≡ other → LinesAlike r.program x y →
      owed_after r.takes owed a x ≡ owed_after r.takes other b y
  owed_alike owed other None None e lines = e
  owed_alike owed other None (Some m) e lines = absurd (none-some (plain_line r.program m) lines)
  owed_alike owed other (Some l) None e lines = absurd (none-some (plain_line r.program l) (sym lines))
  owed_alike owed other (Some l) (Some m) e lines =
      owed_line owed other l m e (same_Some (plain_line r.program l) (plain_line r.program m) lines)

  -- ---- what a line answers

  uncalled_one : (kind : Callback) (v : Var) → (count kind v a == 0) ≡ (count kind v b == 0)
  uncalled_one kind v = read (λ s. count kind v s == 0) (reads_count (λ c. c == 0) n (grind arith) kind v)

  pub uncalled_alike : (v : Var) → is_uncalled a v ≡ is_uncalled b v
  uncalled_alike v =
      λ i. uncalled_one callback.Handle v i && uncalled_one callback.After v i && uncalled_one callback.Close v i

  call_alike : (w : Which) (name : Var) (call : Option ℕ) (x : Option (Callback × Var)) → call_end call ≤ n →
      is_call w name call a x ≡ is_call w name call b x
  call_alike w name call None below = refl
  call_alike w name call (Some x) below =
      ap (λ t. is_which w x.0 && (x.1.0 == name.0) && t)
      (read (λ s. is_for (count x.0 name s) call) (reads_count (λ c. is_for c call) n (grind arith) x.0 name))

  begun_alike : (w : Which) (name : Var) (call : Option ℕ) (l m : Seen) → call_end call ≤ n → plain_line r.program l ≡ plain_line r.program m →
      is_call w name call a (begun l) ≡ is_call w name call b (begun m)
  begun_alike w name call l m below lines = grind (arith, call_alike, lines_read, plain_begun)

  late_alike : (name : Var) (ms due other : ℕ) (l m : Seen) → a.clock + other ≡ b.clock + due → plain_line r.program l ≡ plain_line r.program m →
      is_late name ms due a l ≡ is_late name ms other b m
  late_alike name ms due other l m dues lines = grind (arith, lines_read, plain_begun, nat_le)

  answers_alike : (q : Question) (due other : ℕ) (l m : Seen) → question_end q ≤ n → DueAlike q a.clock due b.clock other →
      plain_line r.program l ≡ plain_line r.program m → calls_timer a (Some l) ≡ calls_timer b (Some m) →
      answers_line r.program q due a l ≡ answers_line r.program q other b m
  answers_alike (asks.Code code name) due other l m below dues lines timers =
      ap₂ (λ x y. x && is_of name y) (lines_read (λ o. answers_code code o) r.program (plain_code r.program code) l m lines)
      (lines_read (answered_name r.program) r.program (plain_answered r.program) l m lines)
  answers_alike each due other l m below dues lines timers =
      grind (arith, begun_alike, ap₂, lines_read, plain_code, plain_answered, plain_section, plain_poll, late_alike, uncalled_alike, not)

  pub line_alike : (due other : ℕ) (x y : Option Seen) → DueAlike r.question a.clock due b.clock other → LinesAlike r.program x y →
      calls_timer a x ≡ calls_timer b y → line_answers r.program r.question due a x ≡ line_answers r.program r.question other b y
  line_alike due other None None dues lines timers = refl
  line_alike due other None (Some m) dues lines timers = absurd (none-some (plain_line r.program m) lines)
  line_alike due other (Some l) None dues lines timers = absurd (none-some (plain_line r.program l) (sym lines))
  line_alike due other (Some l) (Some m) dues lines timers =
      answers_alike r.question due other l m can.question dues (same_Some (plain_line r.program l) (plain_line r.program m) lines) timers
