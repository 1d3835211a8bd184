use Rattle.uv_script.proofs.ProofNames.{◌≡◌, ◌++◌, [], ◌∷◌, ◌∙◌, ℕ, List, ap, refl, subst, append_assoc, arith, Program, setting_lines, lines_text, arena_size, worker_count, order_of, has_io, from_heap, order_line, io_line, heap_line, line_if, workers_line, slots_line, err_from_is_err_and}
use Rattle.uv_script.proofs.Texts.{setting_texts}
use Rattle.uv_script.proofs.Writing.{Begins, begins_itself, begins_more, begins_less, cut_at, cut_whole}
use Rattle.uv_script.proofs.script.Script.push_settings.Goals as goal

pub returns : goal.returns
returns c =
    let p = c.args.self.now in
    rw (
      c.in_ok-extend_from_slice-3.ensures.items,
      c.in_ok-push_slots.ensures,
      c.in_ok-extend_from_slice-2.ensures.items,
      c.in_ok-push_workers.ensures,
      c.in_ok-push_line_if-2.ensures,
      c.timers_from_heap.ensures,
      c.in_ok-push_line_if.ensures,
      c.has_io.ensures,
      c.in_ok-extend_from_slice.ensures.items,
      c.in_ok-push_order.ensures,
    ) (setting_texts c.args.text.now.items (order_line (order_of p)) (line_if (has_io p) io_line) (line_if (from_heap p) heap_line)
    (workers_line (worker_count p)) (slots_line (arena_size p)))

four : (o a b c d : List ℕ) → o ++ a ++ b ++ c ++ d ≡ o ++ (a ++ b ++ c ++ d)
four o a b c d = simp append_assoc

five : (o a b c d e : List ℕ) → o ++ a ++ b ++ c ++ d ++ e ≡ o ++ (a ++ b ++ c ++ d ++ e)
five o a b c d e = simp append_assoc

six : (o a b c d e f : List ℕ) → o ++ a ++ b ++ c ++ d ++ e ++ f ≡ o ++ (a ++ b ++ c ++ d ++ e ++ f)
six o a b c d e f = simp append_assoc

seven : (o a b c d e f g : List ℕ) → o ++ a ++ b ++ c ++ d ++ e ++ f ++ g ≡ o ++ (a ++ b ++ c ++ d ++ e ++ f ++ g)
seven o a b c d e f g = simp append_assoc

-- what stands behind each piece
abbrev to_order : Program → List ℕ
to_order p = order_line (order_of p) ++ 10 ∷ []

abbrev to_io : Program → List ℕ
to_io p = to_order p ++ lines_text (line_if (has_io p) io_line)

abbrev to_heap : Program → List ℕ
to_heap p = to_io p ++ lines_text (line_if (from_heap p) heap_line)

abbrev to_workers : Program → List ℕ
to_workers p = to_heap p ++ workers_line (worker_count p)

abbrev to_sizes : Program → List ℕ
to_sizes p = to_workers p ++ 10 ∷ []

abbrev to_slots : Program → List ℕ
to_slots p = to_sizes p ++ slots_line (arena_size p)

module _ (p : Program) where
  all : to_slots p ++ 10 ∷ [] ≡ lines_text (setting_lines p)
  all =
      setting_texts [] (order_line (order_of p)) (line_if (has_io p) io_line) (line_if (from_heap p) heap_line) (workers_line (worker_count p))
      (slots_line (arena_size p))

  begins_slots : Begins (to_slots p) (lines_text (setting_lines p))
  begins_slots = subst (Begins (to_slots p)) all (begins_more (to_slots p) (to_slots p) (10 ∷ []) (begins_itself (to_slots p)))

  begins_sizes : Begins (to_sizes p) (lines_text (setting_lines p))
  begins_sizes = begins_less (to_sizes p) (slots_line (arena_size p)) (lines_text (setting_lines p)) begins_slots

  begins_workers : Begins (to_workers p) (lines_text (setting_lines p))
  begins_workers = begins_less (to_workers p) (10 ∷ []) (lines_text (setting_lines p)) begins_sizes

  begins_heap : Begins (to_heap p) (lines_text (setting_lines p))
  begins_heap = begins_less (to_heap p) (workers_line (worker_count p)) (lines_text (setting_lines p)) begins_workers

  begins_io : Begins (to_io p) (lines_text (setting_lines p))
  begins_io = begins_less (to_io p) (lines_text (line_if (from_heap p) heap_line)) (lines_text (setting_lines p)) begins_heap

pub returns-in_err-push_line_if : goal.returns-in_err-push_line_if
returns-in_err-push_line_if c =
    let s = c.args.self.now in
    let old = c.args.text.now.items in
    let before : c.extend_from_slice.new.self.items ≡ old ++ to_order s = grind (arith, append_assoc) in
    let exit = c.from_residual-in_err-push_line_if in
    let p = err_from_is_err_and exit.result exit.ensures.1 in
    rw (p.1) (cut_at old (to_order s) _ (lines_text (line_if (has_io s) io_line)) _ c.extend_from_slice.new.self.items _
    c.in_err-push_line_if.ensures before (ap (λ b. lines_text (line_if b io_line)) c.has_io.ensures) (begins_io s))

pub returns-in_err-push_line_if-2 : goal.returns-in_err-push_line_if-2
returns-in_err-push_line_if-2 c =
    let s = c.args.self.now in
    let old = c.args.text.now.items in
    let before : c.push_line_if.new.text.items ≡ old ++ to_io s = grind (arith, append_assoc) in
    let exit = c.from_residual-in_err-push_line_if-2 in
    let p = err_from_is_err_and exit.result exit.ensures.1 in
    rw (p.1) (cut_at old (to_io s) _ (lines_text (line_if (from_heap s) heap_line)) _ c.push_line_if.new.text.items _
    c.in_err-push_line_if-2.ensures before (ap (λ b. lines_text (line_if b heap_line)) c.timers_from_heap.ensures) (begins_heap s))

pub returns-in_err-push_workers : goal.returns-in_err-push_workers
returns-in_err-push_workers c =
    let s = c.args.self.now in
    let old = c.args.text.now.items in
    let before : c.push_line_if-2.new.text.items ≡ old ++ to_heap s = rw (
      c.in_ok-push_line_if-2.ensures,
      c.timers_from_heap.ensures,
      c.in_ok-push_line_if.ensures,
      c.has_io.ensures,
      c.in_ok-extend_from_slice.ensures.items,
      c.in_ok-push_order.ensures,
    ) (four old (order_line (order_of s)) (10 ∷ []) (lines_text (line_if (has_io s) io_line)) (lines_text (line_if (from_heap s) heap_line))) in
    let exit = c.from_residual-in_err-push_workers in
    let p = err_from_is_err_and exit.result exit.ensures.1 in
    rw (p.1) (cut_at old (to_heap s) _ (workers_line (worker_count s)) _ c.push_line_if-2.new.text.items _
    c.in_err-push_workers.ensures before refl (begins_workers s))

pub returns-in_err-push_slots : goal.returns-in_err-push_slots
returns-in_err-push_slots c =
    let s = c.args.self.now in
    let old = c.args.text.now.items in
    let before : c.extend_from_slice-2.new.self.items ≡ old ++ to_sizes s = rw (
      c.in_ok-extend_from_slice-2.ensures.items,
      c.in_ok-push_workers.ensures,
      c.in_ok-push_line_if-2.ensures,
      c.timers_from_heap.ensures,
      c.in_ok-push_line_if.ensures,
      c.has_io.ensures,
      c.in_ok-extend_from_slice.ensures.items,
      c.in_ok-push_order.ensures,
    ) (six old (order_line (order_of s)) (10 ∷ []) (lines_text (line_if (has_io s) io_line)) (lines_text (line_if (from_heap s) heap_line))
    (workers_line (worker_count s)) (10 ∷ [])) in
    let exit = c.from_residual-in_err-push_slots in
    let p = err_from_is_err_and exit.result exit.ensures.1 in
    rw (p.1) (cut_at old (to_sizes s) _ (slots_line (arena_size s)) _ c.extend_from_slice-2.new.self.items _
    c.in_err-push_slots.ensures before refl (begins_slots s))

pub returns-in_err-extend_from_slice-2 : goal.returns-in_err-extend_from_slice-2
returns-in_err-extend_from_slice-2 c =
    let s = c.args.self.now in
    let old = c.args.text.now.items in
    let before : c.push_workers.new.text.items ≡ old ++ to_workers s = rw (
      c.in_ok-push_workers.ensures,
      c.in_ok-push_line_if-2.ensures,
      c.timers_from_heap.ensures,
      c.in_ok-push_line_if.ensures,
      c.has_io.ensures,
      c.in_ok-extend_from_slice.ensures.items,
      c.in_ok-push_order.ensures,
    ) (five old (order_line (order_of s)) (10 ∷ []) (lines_text (line_if (has_io s) io_line)) (lines_text (line_if (from_heap s) heap_line))
    (workers_line (worker_count s))) in
    let exit = c.from_residual-in_err-extend_from_slice-2 in
    let p = err_from_is_err_and exit.result exit.ensures.1 in
    rw (p.1) (cut_whole old (to_workers s) _ _ (c.in_err-extend_from_slice-2.ensures.items ∙ before) (begins_workers s))

pub returns-in_err-extend_from_slice-3 : goal.returns-in_err-extend_from_slice-3
returns-in_err-extend_from_slice-3 c =
    let s = c.args.self.now in
    let old = c.args.text.now.items in
    let before : c.push_slots.new.text.items ≡ old ++ to_slots s = rw (
      c.in_ok-push_slots.ensures,
      c.in_ok-extend_from_slice-2.ensures.items,
      c.in_ok-push_workers.ensures,
      c.in_ok-push_line_if-2.ensures,
      c.timers_from_heap.ensures,
      c.in_ok-push_line_if.ensures,
      c.has_io.ensures,
      c.in_ok-extend_from_slice.ensures.items,
      c.in_ok-push_order.ensures,
    ) (seven old (order_line (order_of s)) (10 ∷ []) (lines_text (line_if (has_io s) io_line)) (lines_text (line_if (from_heap s) heap_line))
    (workers_line (worker_count s)) (10 ∷ []) (slots_line (arena_size s))) in
    let exit = c.from_residual-in_err-extend_from_slice-3 in
    let p = err_from_is_err_and exit.result exit.ensures.1 in
    rw (p.1) (cut_whole old (to_slots s) _ _ (c.in_err-extend_from_slice-3.ensures.items ∙ before) (begins_slots s))
