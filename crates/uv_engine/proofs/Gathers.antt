-- Text that is gathered and written, a piece at a time.
use Rattle.uv_engine.proofs.Names.{◌≡◌, ℕ, List, [], ◌++◌, Result, Ok, Err, OnOk, refl, ap, sym, subst, ◌∙◌, append_assoc, append-nil, zero, ◌+◌, ◌-◌, ◌<◌, length, arith, append_cancel_left, Fault, parts_from, next_part, CutShort, Grown, CutOff, Gathered, Gathers, GathersOne}
use Rattle.uv_text.specs.Parts.{in_parts}

pub grown_none : (w : List ℕ) → Grown w w
grown_none w = record { part = []; is = sym (append-nil w) }

pub grown_more : (old mid new : List ℕ) → Grown old mid → Grown mid new → Grown old new
grown_more old mid new h k = record { part = h.part ++ k.part; is = k.is ∙ ap (λ (xs : List ℕ). xs ++ k.part) h.is ∙ append_assoc old h.part k.part }

-- nothing was done yet
pub gathered_none : (w t text : List ℕ) → Gathered w ((w ++ t) ++ text) w t text
gathered_none w t text = record { grown = grown_none w; whole = refl }

-- a piece was gathered
pub gathered_more : {old all w t : List ℕ} (x : List ℕ) {rest u : List ℕ} → Gathered old all w t (x ++ rest) → u ≡ t ++ x → Gathered old all w u rest
gathered_more {old} {all} {w} {t} x {rest} {u} h e = record {
  grown = h.grown;
  whole = grind (arith, append_assoc);
}

-- another call gathered a text
pub gathered_by : {old all w t : List ℕ} (x : List ℕ) {rest v u : List ℕ} → Gathered old all w t (x ++ rest) → Gathers (Ok tt) w t x v u
    → Gathered old all v u rest
gathered_by {old} {all} {w} {t} x {rest} {v} {u} h k = record {
  grown = grown_more old w v h.grown k.0;
  whole = ap (λ (xs : List ℕ). xs ++ rest) k.1 ∙ append_assoc (w ++ t) x rest ∙ h.whole;
}

-- and was cut off
pub cut_by : {old all w t : List ℕ} (x rest : List ℕ) {v : List ℕ} → Gathered old all w t (x ++ rest) → CutOff w ((w ++ t) ++ x) v → CutOff old all v
cut_by {old} {all} {w} {t} x rest {v} h k = record {
  grown = grown_more old w v h.grown k.grown;
  rest = k.rest ++ rest;
  whole = sym (append_assoc v k.rest rest) ∙ ap (λ (xs : List ℕ). xs ++ rest) k.whole ∙ append_assoc (w ++ t) x rest ∙ h.whole;
}

-- it ends before all is gathered
pub cut_here : {old all w t rest : List ℕ} → Gathered old all w t rest → CutOff old all w
cut_here {old} {all} {w} {t} {rest} h = record { grown = h.grown; rest = t ++ rest; whole = sym (append_assoc w t rest) ∙ h.whole }

-- all is gathered
pub gathered_all : {w : List ℕ} (t text : List ℕ) {v u : List ℕ} → Gathered w ((w ++ t) ++ text) v u [] → Gathers (Ok tt) w t text v u
gathered_all {w} t text {v} {u} h = (h.grown, sym (append-nil (v ++ u)) ∙ h.whole)

-- what was gathered without a write
pub gathers_text : (w t text u : List ℕ) → u ≡ t ++ text → Gathers (Ok tt) w t text w u
gathers_text w t text u e = (grown_none w, ap (λ (xs : List ℕ). w ++ xs) e ∙ sym (append_assoc w t text))

-- a text of a kind was gathered without a write
pub one_text : {Is : List ℕ → Type 0} {w t : List ℕ} (text : List ℕ) {u : List ℕ} → Is text → u ≡ t ++ text → GathersOne Is (Ok tt) w t w u
one_text {Is} {w} {t} text {u} h e = record { text = text; is = h; gathers = gathers_text w t text u e }

-- there was no memory to gather it
pub one_fault : {Is : List ℕ → Type 0} {f : Fault} {w t : List ℕ} (text : List ℕ) {u : List ℕ} → Is text → GathersOne Is (Err f) w t w u
one_fault {Is} {f} {w} {t} text {u} h = record {
  text = text;
  is = h;
  gathers = record { grown = grown_none w; rest = t ++ text; whole = sym (append_assoc w t text) };
}

-- a text under another name
pub gathers_same : (r : Result (Unit {0}) Fault) (w t v u : List ℕ) {x y : List ℕ} → x ≡ y → Gathers r w t x v u → Gathers r w t y v u
gathers_same r w t v u {x} {y} e h = subst (λ (z : List ℕ). Gathers r w t z v u) e h

-- a text, and behind it another one
pub gathers_then : (r : Result (Unit {0}) Fault) (w t x mid between y v u : List ℕ) → Gathers (Ok tt) w t x mid between → Gathers r mid between y v u
    → Gathers r w t (x ++ y) v u
gathers_then r w t x mid between y v u h k = grind (arith, grown_more, append_assoc)

-- in a loop over the parts of a text: nothing was gathered yet, and a part of those that are left is the next
pub first_part : (f : ℕ → List ℕ) (k : ℕ) (w t : List ℕ) → Gathered w ((w ++ t) ++ in_parts f k) w t (parts_from f zero (k - zero))
unfolding in_parts
first_part f k w t =
    let all : k ≡ k - zero = omega arith in
    subst (λ (n : ℕ). Gathered w ((w ++ t) ++ parts_from f zero k) w t (parts_from f zero n)) all (gathered_none w t (parts_from f zero k))

pub part_next : (f : ℕ → List ℕ) (k i : ℕ) {old all w t : List ℕ} → i < k → Gathered old all w t (parts_from f i (k - i))
    → Gathered old all w t (f i ++ parts_from f (i + 1) (k - (i + 1)))
part_next f k i {old} {all} {w} {t} l h = subst (λ (x : List ℕ). Gathered old all w t x) (next_part f i k l) h

-- what was cut off with nothing to come is cut short
pub short_of_cut : {w t v : List ℕ} → CutOff w ((w ++ t) ++ []) v → CutShort w t v
short_of_cut {w} {t} {v} h = record {
  part = h.grown.part;
  rest = h.rest;
  whole = grind (arith, append_cancel_left, append_assoc, append-nil);
  written = h.grown.is;
}

-- what was cut short is cut off with nothing to come
pub cut_of_short : (w t v : List ℕ) → CutShort w t v → CutOff w ((w ++ t) ++ []) v
cut_of_short w t v h = grind (arith, append_assoc, append-nil)

-- all was written, and nothing is passed on
pub cut_behind : (w t v : List ℕ) → v ≡ w ++ t → CutOff w ((w ++ t) ++ []) v
cut_behind w t v e = record { grown = record { part = t; is = e }; rest = []; whole = ap (λ (xs : List ℕ). xs ++ []) e }

-- all is written, and nothing is kept
pub all_written : (w t v u : List ℕ) → v ≡ w ++ t → u ≡ [] → Gathers (Ok tt) w t [] v u
all_written w t v u e none = (record { part = t; is = e }, ap (λ (xs : List ℕ). v ++ xs) none ∙ ap (λ (xs : List ℕ). xs ++ []) e)

-- what was gathered is written
pub few_left : {A : Type 0} (r : Result A Fault) (gathered : List ℕ) → OnOk r (gathered ≡ []) → OnOk r (length gathered < 8192)
few_left r gathered e = grind arith
