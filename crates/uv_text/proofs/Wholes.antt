-- The parts of a text, one after another, are all of it.
use Rattle.uv_text.proofs.Names.{◌≡◌, ℕ, zero, suc, ◌+◌, ◌-◌, ◌*◌, ◌<◌, ◌==◌, nat_le, nat_lt, List, [], ◌∷◌, ◌++◌, length, map, Option, Some, None, option_to_list, Result, slice_get, refl, ap, sym, subst, ◌∙◌, arith, append_assoc, append-nil, codes, flat_map, cond-true, cond-false, le-leb, lt-leb, lt-ltb, eq-eqb, ne_eqb, Event, Seen, Program, lines_text, LaidSlot, Layout, State, numbers, length-seen_by, Shown, parts_from, names_upto, slots_upto, LAST_PARTS, name_part, slot_part, part_count, text_after, state_text, state_part, state_parts, links_from, named_ends, link_part, LAYOUT_PARTS, layout_parts, step_line, step_part, called_part, callback_lines, recording_parts, Writes, lines, places_line, counts_line, seen_text, appended_part}
use Rattle.uv_model.specs.After.{seen_by}
use Rattle.uv_text.specs.Parts.{in_parts}
use Rattle.uv_text.specs.State.{steps_line, place_line, free_line, unused_line, lists_text, last_part, part_after}
use Rattle.uv_text.specs.Image.{link_line, ends_line, heap_line, rest_part, layout_part, layout_text}
use Rattle.uv_text.specs.Recording.{script_part, recording_part, recording_text}
use Rattle.uv_text.specs.Trace.{trace_part}
use Rattle.uv_text.proofs.Recordings.{called_is, steps_are, whole}

-- ---- parts from one on

zero_more : (n : ℕ) → n ≡ n + 0
zero_more n = omega arith

none_more : (n : ℕ) → zero + n ≡ n
none_more n = omega arith

suc_more : (n i : ℕ) → suc n + i ≡ n + suc i
suc_more n i = omega arith

-- one more behind them
pub parts_snoc : (f : ℕ → List ℕ) (n k : ℕ) → parts_from f n (suc k) ≡ parts_from f n k ++ f (n + k)
parts_snoc f n zero = append-nil (f n) ∙ ap f (zero_more n)
parts_snoc f n (suc k) = simp (suc_more, append_assoc, (parts_snoc f (suc n) k))

-- in a loop: the text with one part more
pub parts_more : (f : ℕ → List ℕ) (k : ℕ) → parts_from f zero (k + 1) ≡ parts_from f zero k ++ f k
parts_more f k = grind (arith, parts_snoc, none_more)

-- these, and those behind them
parts_split : (f : ℕ → List ℕ) (n j k : ℕ) → parts_from f n (j + k) ≡ parts_from f n j ++ parts_from f (n + j) k
parts_split f n zero k = grind arith
parts_split f n (suc j) k =
    let more : suc j + k ≡ suc (j + k) = omega arith in
    grind (arith, suc_more, append_assoc, (parts_split f (suc n) j k))

-- a text that is said from its end
parts_are : (f h : ℕ → List ℕ) (n k : ℕ) → h zero ≡ [] → ((i : ℕ) → i < k → h (suc i) ≡ h i ++ f (n + i)) → parts_from f n k ≡ h k
parts_are f h n zero none more = sym none
parts_are f h n (suc k) none more = grind (arith, parts_snoc, (parts_are f h n k none (λ i l. more i (omega (arith, l)))))

-- a text of the members of a list
listed : {A : Type 0} (f : ℕ → List ℕ) (g : Option A → List ℕ) (xs : List A) (n : ℕ) →
    ((i : ℕ) → i < length xs → f (n + i) ≡ g (slice_get xs i)) → parts_from f n (length xs) ≡ flat_map (λ x. g (Some x)) xs
listed f g [] n each = refl
listed f g (x ∷ xs) n each =
    let first : f n ≡ g (Some x) = ap f (zero_more n) ∙ each zero (omega arith) in
    let rest = listed f g xs (suc n) (λ i l. ap f (suc_more n i) ∙ each (suc i) (omega (arith, l))) in
    ap (λ (t : List ℕ). t ++ parts_from f (suc n) (length xs)) first ∙ ap (λ (t : List ℕ). g (Some x) ++ t) rest

-- the same parts under other numbers
moved : (f g : ℕ → List ℕ) (n j : ℕ) → ((i : ℕ) → f (n + i) ≡ g (j + i)) → (c : ℕ) → parts_from f n c ≡ parts_from g j c
moved f g n j each zero = refl
moved f g n j each (suc c) =
    let first : f n ≡ g j = ap f (zero_more n) ∙ each zero ∙ ap g (sym (zero_more j)) in
    let rest = moved f g (suc n) (suc j) (λ i. ap f (suc_more n i) ∙ each (suc i) ∙ ap g (sym (suc_more j i))) c in
    ap (λ (t : List ℕ). t ++ parts_from f (suc n) c) first ∙ ap (λ (t : List ℕ). g j ++ t) rest

-- in a loop: the next part of those that are left, and the end
pub next_part : (f : ℕ → List ℕ) (i k : ℕ) → i < k → parts_from f i (k - i) ≡ f i ++ parts_from f (i + 1) (k - (i + 1))
next_part f i k l = grind arith

-- what was put behind a text
pub put_whole : {A E : Type 0} (r : Result A E) (old new : List ℕ) {parts all : List ℕ} → parts ≡ all → Writes r old parts new
    → Writes r old all new
put_whole r old new {parts} {all} e h = subst (λ (t : List ℕ). Writes r old t new) e h

-- ---- a state

module _ (p : Program) (k : ℕ) (s : State) where
  head_there : part_after p k s zero ≡ steps_line k (numbers s) ++ place_line p s.place
  unfolding part_after
  head_there = refl

  name_there : (i : ℕ) → i < length p.names → part_after p k s (1 + i) ≡ name_part p s i
  unfolding part_after
  name_there i l =
      let is : 1 + i - 1 ≡ i = omega arith in
      cond-false ((1 + i) == 0) _ _ (ne_eqb (1 + i) 0 (omega arith))
      ∙ cond-true (nat_le (1 + i) (length p.names)) _ _ (le-leb (1 + i) (length p.names) (omega (arith, l)))
      ∙ ap (name_part p s) is

  slot_there : (i : ℕ) → i < length s.arena.slots → part_after p k s ((1 + length p.names) + i) ≡ slot_part p s i
  unfolding part_after
  slot_there i l =
      let n = (1 + length p.names) + i in
      let is : n - 1 - length p.names ≡ i = omega arith in
      cond-false (n == 0) _ _ (ne_eqb n 0 (omega arith))
      ∙ cond-false (nat_le n (length p.names)) _ _ (lt-leb n (length p.names) (omega arith))
      ∙ cond-true (nat_le n (length p.names + length s.arena.slots)) _ _ (le-leb n (length p.names + length s.arena.slots) (omega (arith, l)))
      ∙ ap (slot_part p s) is

  last_there : (i : ℕ) → part_after p k s (((1 + length p.names) + length s.arena.slots) + i) ≡ last_part p s i
  unfolding part_after
  last_there i =
      let n = ((1 + length p.names) + length s.arena.slots) + i in
      let is : n - 1 - length p.names - length s.arena.slots ≡ i = omega arith in
      cond-false (n == 0) _ _ (ne_eqb n 0 (omega arith))
      ∙ cond-false (nat_le n (length p.names)) _ _ (lt-leb n (length p.names) (omega arith))
      ∙ cond-false (nat_le n (length p.names + length s.arena.slots)) _ _ (lt-leb n (length p.names + length s.arena.slots) (omega arith))
      ∙ ap (last_part p s) is

  names_are : parts_from (part_after p k s) 1 (length p.names) ≡ names_upto p s (length p.names)
  names_are = parts_are (part_after p k s) (names_upto p s) 1 (length p.names) refl
      (λ i l. ap (λ (t : List ℕ). names_upto p s i ++ t) (sym (name_there i l)))

  slots_are : parts_from (part_after p k s) (1 + length p.names) (length s.arena.slots) ≡ slots_upto p s (length s.arena.slots)
  slots_are = parts_are (part_after p k s) (slots_upto p s) (1 + length p.names) (length s.arena.slots) refl
      (λ i l. ap (λ (t : List ℕ). slots_upto p s i ++ t) (sym (slot_there i l)))

  last_text : parts_from (last_part p s) zero LAST_PARTS ≡ (free_line s.arena.free ++ unused_line s.arena.unused) ++ lists_text p s
  unfolding last_part lists_text
  last_text = simp (append_assoc, append-nil) refl

  all_parts : in_parts (part_after p k s) (part_count p s) ≡ text_after p k s
  unfolding in_parts
  all_parts =
      let f = part_after p k s in
      let count : part_count p s ≡ suc (length p.names + (length s.arena.slots + LAST_PARTS)) = omega arith in
      let from_last = moved f (last_part p s) ((1 + length p.names) + length s.arena.slots) zero
      (λ i. last_there i ∙ ap (last_part p s) (sym (none_more i))) LAST_PARTS ∙ last_text in
      let from_slots = parts_split f (1 + length p.names) (length s.arena.slots) LAST_PARTS
      ∙ ap (λ (t : List ℕ). t ++ parts_from f ((1 + length p.names) + length s.arena.slots) LAST_PARTS) slots_are
      ∙ ap (λ (t : List ℕ). slots_upto p s (length s.arena.slots) ++ t) from_last in
      let from_names = parts_split f 1 (length p.names) (length s.arena.slots + LAST_PARTS)
      ∙ ap (λ (t : List ℕ). t ++ parts_from f (1 + length p.names) (length s.arena.slots + LAST_PARTS)) names_are
      ∙ ap (λ (t : List ℕ). names_upto p s (length p.names) ++ t) from_slots in
      ap (parts_from f zero) count
      ∙ ap (λ (t : List ℕ). t ++ parts_from f 1 (length p.names + (length s.arena.slots + LAST_PARTS))) head_there
      ∙ ap (λ (t : List ℕ). (steps_line k (numbers s) ++ place_line p s.place) ++ t) from_names
      ∙ simp append_assoc refl

pub state_whole : (s : Shown) → in_parts (state_part s) (state_parts s) ≡ state_text s
state_whole s = all_parts s.program (length s.standing) _

-- ---- how a memory lies

links_are : (f : ℕ → List ℕ) (slots : List LaidSlot) (x : ℕ) → ((i : ℕ) → i < length slots → f (x + i) ≡ link_part (x + i) (slice_get slots i))
    → parts_from f x (length slots) ≡ links_from x slots
links_are f [] x each = refl
links_are f (c ∷ slots) x each =
    let first : f x ≡ link_line x c =
    ap f (zero_more x) ∙ each zero (omega arith) ∙ ap (λ (n : ℕ). link_line n c) (sym (zero_more x)) in
    let next : suc x ≡ x + 1 = omega arith in
    let rest = links_are f slots (suc x)
    (λ i l. ap f (suc_more x i) ∙ each (suc i) (omega (arith, l)) ∙ ap (λ (n : ℕ). link_part n (slice_get slots i)) (sym (suc_more x i))) in
    cc

link_there : (l : Layout) (i : ℕ) → i < length l.slots.items → layout_part l i ≡ link_part i (slice_get l.slots.items i)
unfolding layout_part
link_there l i within = cond-true (nat_lt i (length l.slots.items)) _ _ (lt-ltb i (length l.slots.items) within)

rest_there : (l : Layout) (i : ℕ) → layout_part l (length l.slots.items + i) ≡ rest_part l i
unfolding layout_part
rest_there l i = grind arith

rest_text : (l : Layout) → parts_from (rest_part l) zero LAYOUT_PARTS
    ≡ ends_line (codes "free") l.free ++ flat_map named_ends l.lists.items ++ heap_line l.heap.items ++ places_line l.slots.items
    ++ counts_line l.active l.opened
unfolding rest_part
rest_text l = simp (append_assoc, append-nil) refl

pub layout_whole : (l : Layout) → in_parts (layout_part l) (layout_parts l) ≡ layout_text l
unfolding in_parts layout_text
layout_whole l =
    let f = layout_part l in
    let n = length l.slots.items in
    let links = links_are f l.slots.items zero
    (λ i within. search (none_more, link_there)) in
    let rest = moved f (rest_part l) (zero + n) zero
    (λ i. ap (λ (x : ℕ). f (x + i)) (none_more n) ∙ rest_there l i ∙ ap (rest_part l) (sym (none_more i))) LAYOUT_PARTS ∙ rest_text l in
    grind (arith, parts_split, append_assoc)

-- ---- a trace

lines_said : (p : Program) (xs : List (Option Seen)) →
    flat_map (λ (x : Option Seen). appended_part p (Some x)) xs ≡ flat_map (seen_text p) (flat_map option_to_list xs)
lines_said p [] = refl
lines_said p (None ∷ xs) = lines_said p xs
lines_said p (Some l ∷ xs) = ap (λ (t : List ℕ). seen_text p l ++ t) (lines_said p xs)

-- the parts of a trace are the lines of the standing steps
pub trace_whole : (p : Program) (es : List Event) → in_parts (trace_part p es) (length es) ≡ flat_map (seen_text p) (lines p es)
unfolding in_parts trace_part
trace_whole p es =
    ap (parts_from (trace_part p es) zero) (sym (length-seen_by p es))
    ∙ listed (trace_part p es) (appended_part p) (seen_by p es) zero
    (λ i l. ap (λ (n : ℕ). appended_part p (slice_get (seen_by p es) n)) (none_more i))
    ∙ lines_said p (seen_by p es)

-- ---- a recording

module _ (p : Program) (es : List Event) where
  step_there : (i : ℕ) → i < length es → recording_part p es (1 + i) ≡ step_part p.names (slice_get es i)
  unfolding recording_part
  step_there i l =
      let is : 1 + i - 1 ≡ i = omega arith in
      cond-false ((1 + i) == 0) _ _ (ne_eqb (1 + i) 0 (omega arith))
      ∙ cond-true (nat_le (1 + i) (length es)) _ _ (le-leb (1 + i) (length es) (omega (arith, l)))
      ∙ ap (λ (n : ℕ). step_part p.names (slice_get es n)) is

  calls_there : recording_part p es (1 + length es) ≡ codes "calls\n"
  unfolding recording_part
  calls_there =
      cond-false ((1 + length es) == 0) _ _ (ne_eqb (1 + length es) 0 (omega arith))
      ∙ cond-false (nat_le (1 + length es) (length es)) _ _ (lt-leb (1 + length es) (length es) (omega arith))
      ∙ cond-true ((1 + length es) == (length es + 1)) _ _ (eq-eqb (1 + length es) (length es + 1) (omega arith))

  called_there : (i : ℕ) → i < length es → recording_part p es (suc (1 + length es) + i) ≡ called_part p (slice_get (seen_by p es) i)
  unfolding recording_part
  called_there i l =
      let n = suc (1 + length es) + i in
      let is : n - 2 - length es ≡ i = omega arith in
      cond-false (n == 0) _ _ (ne_eqb n 0 (omega arith))
      ∙ cond-false (nat_le n (length es)) _ _ (lt-leb n (length es) (omega arith))
      ∙ cond-false (n == (length es + 1)) _ _ (ne_eqb n (length es + 1) (omega arith))
      ∙ cond-true (nat_le n (2 * length es + 1)) _ _ (le-leb n (2 * length es + 1) (omega (arith, l)))
      ∙ ap (λ (x : ℕ). called_part p (slice_get (seen_by p es) x)) is

  end_there : recording_part p es (suc (1 + length es) + length es) ≡ codes "end\n"
  unfolding recording_part
  end_there =
      let n = suc (1 + length es) + length es in
      cond-false (n == 0) _ _ (ne_eqb n 0 (omega arith))
      ∙ cond-false (nat_le n (length es)) _ _ (lt-leb n (length es) (omega arith))
      ∙ cond-false (n == (length es + 1)) _ _ (ne_eqb n (length es + 1) (omega arith))
      ∙ cond-false (nat_le n (2 * length es + 1)) _ _ (lt-leb n (2 * length es + 1) (omega arith))

  step_lines : parts_from (recording_part p es) 1 (length es) ≡ lines_text (map (step_line p.names) es)
  step_lines = listed (recording_part p es) (step_part p.names) es 1 step_there ∙ steps_are p.names es

  called_lines : parts_from (recording_part p es) (suc (1 + length es)) (length es) ≡ lines_text (callback_lines p es)
  called_lines =
      let long = length-seen_by p es in
      ap (parts_from (recording_part p es) (suc (1 + length es))) (sym long)
      ∙ listed (recording_part p es) (called_part p) (seen_by p es) (suc (1 + length es))
      (λ i l. let within : i < length es = omega (arith, l, long) in called_there i within)
      ∙ called_is p (seen_by p es)

  pub recording_whole : in_parts (recording_part p es) (recording_parts es) ≡ recording_text p es
  unfolding in_parts recording_part
  recording_whole =
      let f = recording_part p es in
      let k = length es in
      let count : recording_parts es ≡ suc (k + suc (k + 1)) = omega arith in
      let ending : parts_from f (suc (1 + k) + k) 1 ≡ codes "end\n" = append-nil (f (suc (1 + k) + k)) ∙ end_there in
      let calls = parts_split f (suc (1 + k)) k 1
      ∙ ap (λ (t : List ℕ). t ++ parts_from f (suc (1 + k) + k) 1) called_lines
      ∙ ap (λ (t : List ℕ). lines_text (callback_lines p es) ++ t) ending in
      let steps = parts_split f 1 k (suc (k + 1))
      ∙ ap (λ (t : List ℕ). t ++ parts_from f (1 + k) (suc (k + 1))) step_lines
      ∙ ap (λ (t : List ℕ). lines_text (map (step_line p.names) es) ++ (t ++ parts_from f (suc (1 + k)) (k + 1))) calls_there
      ∙ ap (λ (t : List ℕ). lines_text (map (step_line p.names) es) ++ (codes "calls\n" ++ t)) calls in
      ap (parts_from f zero) count ∙ ap (λ (t : List ℕ). script_part p ++ t) steps ∙ whole p es
