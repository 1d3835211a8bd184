-- The reader's task is the one of its rounds and text.
use Rattle.std.proofs.Common.{◌≡◌, ◌⊎◌, inl, inr, ℕ, ◌-◌, ◌<◌, Bool, true, false, ◌&&◌, nat_le, List, length, replicate, Some, None, refl, ap, sym, subst, ◌∙◌, arith, length-take}
use Rattle.std.proofs.Math.Seq.{take-append_seam}
use Rattle.std.proofs.Props.{props}
use Rattle.std.proofs.lemmas.Bool.{and_from, both_ways, le-leb}
use Rattle.std.proofs.lemmas.Option.{same_Some}
use Rattle.uv_work.specs.Limits.{LONGEST_TEXT, MOST_ROUNDS}
use Rattle.uv_work.specs.declared.task.Task.{Task}
use Rattle.uv_work.specs.TaskFields.{IsRoundCount, IsPadded, padded}
use Rattle.uv_work.specs.TaskReading.{is_task, rounds_within, text_within, made, task_of}
use Rattle.uv_work.specs.Tasks.{IsTask, text_of}

abbrev Fields : Type 0
Fields = ℕ × ℕ × List ℕ

abbrev Fit : Fields → Type 0
Fit f = IsRoundCount f.0 × IsPadded f.1 f.2

abbrev with_fields : (f : Fields) → Fit f → Task
with_fields f h = record { rounds = f.0; len = f.1; bytes = f.2; rounds_fit = h.0; padded = h.1 }

fit_prop : (f : Fields) → IsProp (Fit f)
fit_prop f = hlevel props

same_fields : (f g : Fields) → f ≡ g → (h : Fit f) (k : Fit g) → with_fields f h ≡ with_fields g k
same_fields f g e = subst (λ (x : Fields). (h : Fit f) (k : Fit x) → with_fields f h ≡ with_fields x k) e (λ h k. ap (with_fields f) (fit_prop f h k))

length-text_of : (t : Task) → length (text_of t) ≡ t.len
length-text_of t = omega (arith, length-take t.len t.bytes, t.padded.fits, t.padded.whole)

-- tasks of the same rounds and text are one
pub same_task : (a b : Task) → a.rounds ≡ b.rounds → text_of a ≡ text_of b → a ≡ b
same_task a b rounds text =
    let len : a.len ≡ b.len = sym (length-text_of a) ∙ ap length text ∙ length-text_of b in
    let bytes : a.bytes ≡ b.bytes = a.padded.text ∙ ap padded text ∙ sym b.padded.text in
    let same : ◌≡◌ {A = Fields} (a.rounds, a.len, a.bytes) (b.rounds, b.len, b.bytes) = λ i. (rounds i, len i, bytes i) in
    same_fields (a.rounds, a.len, a.bytes) (b.rounds, b.len, b.bytes) same (a.rounds_fit, a.padded) (b.rounds_fit, b.padded)

-- a task is within the limits
within : (rounds : ℕ) (text : List ℕ) (t : Task) → IsTask rounds text t → is_task rounds text ≡ true
within rounds text t is =
    let rounds_are = is.rounds_are in
    let length_is = ap length (sym is.text_is) ∙ length-text_of t in
    and_from (nat_le 1 rounds && nat_le rounds MOST_ROUNDS) (nat_le (length text) LONGEST_TEXT)
    (and_from (nat_le 1 rounds) (nat_le rounds MOST_ROUNDS) (le-leb 1 rounds (omega (arith, rounds_are, t.rounds_fit.some)))
    (le-leb rounds MOST_ROUNDS (omega (arith, rounds_are, t.rounds_fit.few))))
    (le-leb (length text) LONGEST_TEXT (omega (arith, length_is, t.padded.fits)))

pub task_of-complete : (rounds : ℕ) (text : List ℕ) (t : Task) → IsTask rounds text t → task_of rounds text ≡ Some t
unfolding task_of
task_of-complete rounds text t is = by (is_task rounds text) refl where
  by : (fits : Bool) (e : is_task rounds text ≡ fits) → made rounds text fits e ≡ Some t
  by true e = ap Some (same_task _ t (sym is.rounds_are) (take-append_seam text (replicate (LONGEST_TEXT - length text) 0) ∙ sym is.text_is))
  by false e = absurd (both_ways (is_task rounds text) e (within rounds text t is))

pub task_of-sound : (rounds : ℕ) (text : List ℕ) (t : Task) → task_of rounds text ≡ Some t → IsTask rounds text t
unfolding task_of
task_of-sound rounds text t = by (is_task rounds text) refl where
  by : (fits : Bool) (e : is_task rounds text ≡ fits) → made rounds text fits e ≡ Some t → IsTask rounds text t
  by true e is = subst (IsTask rounds text) (same_Some _ _ is) (record {
    rounds_are = refl;
    text_is = take-append_seam text (replicate (LONGEST_TEXT - length text) 0);
  })
  by false e is = cc

-- outside the limits there is no task
pub task_of-none : (rounds : ℕ) (text : List ℕ) → (rounds ≡ 0) ⊎ (MOST_ROUNDS < rounds) ⊎ (LONGEST_TEXT < length text) → task_of rounds text ≡ None
unfolding task_of
task_of-none rounds text outside = by (is_task rounds text) refl where
  by : (fits : Bool) (e : is_task rounds text ≡ fits) → made rounds text fits e ≡ None
  by true e =
      let rounds_fit = rounds_within rounds text e in
      let text_fits = text_within rounds text e in
      absurd (elim outside [
        | inl none ↦ omega (arith, none, rounds_fit.some)
        | inr more ↦ elim more [
          | inl many ↦ omega (arith, many, rounds_fit.few)
          | inr long ↦ omega (arith, long, text_fits.fits)
        ]
      ])
  by false e = refl

pub ruleset tasks = (task_of-complete, task_of-none)
