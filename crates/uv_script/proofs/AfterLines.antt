-- One more line, and all lines.
use Rattle.uv_script.proofs.ProofNames.{◌≡◌, ◌≢◌, ◌⊎◌, inl, inr, ℕ, ◌+◌, ◌<◌, ◌≤◌, Bool, true, false, not, ◌&&◌, ◌==◌, cond, List, [], ◌∷◌, ◌++◌, length, map, Option, Some, None, Err, Contains, refl, ap, sym, subst, arith, append_assoc, append-nil, length-append, cond_both, and_parts, map-append, length-map, all_pairs_push, Contains-get_or, same_Some, cond_some, none-some, slice_get_within, Fault, Statement, Declares, Says, HasRoom, MayMake, with_statement, with_said, Draft, Reads, skips, says, ReadsAll, none, one, ParsesFrom, lines_of, fields_of, Program, has_room, is_new, may_make, may_come, IsSound, IsSaid, ReadsLine, is_line, is_skipped}
use Rattle.uv_script.specs.Reading.{statement_of, after_line}
use Rattle.uv_script.proofs.Agrees.{AreDistinct, bound, statement_sound, statement_complete}
use Rattle.uv_script.proofs.Checks.{is_line_decides, is_skipped_decides}

unsaid : (b : Bool) → not b ≡ true → b ≡ false
unsaid b h = grind arith

room_complete : (p : Program) (s : Statement) → HasRoom p s → has_room p s ≡ true
room_complete p each h = grind arith

pub may_sound : (p : Program) (s : Statement) → may_make p s ≡ true → MayMake p s
may_sound p s e asked = grind arith

-- what a line says can be added
pub says_sound : (p : Program) (fields : List (List ℕ)) (s : Statement) → Says p.names fields s → IsSound p s
says_sound p fields s e3 = grind (arith, slice_get_within)

pub line_begins : (line : List ℕ) (b : ℕ) (word : List ℕ) (rest : List (List ℕ)) → fields_of line ≡ (b ∷ word) ∷ rest → is_skipped line ≡ (b == 35)
line_begins line b word rest e = grind arith

-- a line that says something isn't skipped
says_no_skip : (names : List (List ℕ)) (line : List ℕ) (s : Statement) → Says names (fields_of line) s → is_skipped line ≡ false
says_no_skip names line s e3 = grind arith

-- a choice that gave something
chosen : {A : Type 0} (b : Bool) (x : Option A) (y : A) → cond b x None ≡ Some y → (b ≡ true) × (x ≡ Some y)
chosen b x y e = grind arith

or_else : {A : Type 0} (b : Bool) (x z : Option A) (y : A) → cond b x z ≡ Some y → ((b ≡ true) × (x ≡ Some y)) ⊎ ((b ≡ false) × (z ≡ Some y))
or_else b x z y e = grind arith

-- the script with one more statement
abbrev pub with_one : Draft → Statement → Draft
with_one d s = record { program = with_statement d.program s; said = with_said d.said s }

pub after_sound : (d e : Draft) (line : List ℕ) → after_line d line ≡ Some e → Reads d line e
unfolding after_line
after_sound d e line same =
    let names = d.program.names in
    let is = chosen (is_line line) _ e same in
    let rule = (is_line_decides line).0 is.0 in
    elim (or_else (is_skipped line) (Some d) _ e is.1) [
      | inl skip ↦ subst (Reads d line) (same_Some _ _ skip.1) (skips rule ((is_skipped_decides line).0 skip.0))
      | inr said ↦
          let s = bound _ (statement_of names (fields_of line)) e said.1 in
          let fits = cond_some (may_come d s.0) (with_one d s.0) e s.2 in
          let tests = and_parts (is_new d.said s.0) (has_room d.program s.0 && may_make d.program s.0) fits.0 in
          let room = and_parts (has_room d.program s.0) (may_make d.program s.0) tests.1 in
          subst (Reads d line) fits.1
          (says s.0 rule (statement_sound names (fields_of line) s.0 s.1) (grind arith) (grind arith)
          (may_sound d.program s.0 room.1))
    ]

pub after_complete : (d e : Draft) (line : List ℕ) → AreDistinct d.program.names → Reads d line e → after_line d line ≡ Some e
unfolding after_line
after_complete d e line distinct (skips is skipped) = rw ((is_line_decides line).1 is, (is_skipped_decides line).1 skipped) refl
after_complete d e line distinct (says s is said new room may) =
    grind (arith, is_line_decides, says_no_skip, statement_complete, room_complete)

-- the names of a script are distinct
pub distinct_push : (p : Program) (s : Statement) → AreDistinct p.names → IsSound p s → AreDistinct (with_statement p s).names
distinct_push p (Declares name) distinct (is, fresh) =
    all_pairs_push (λ a b. a ≢ b) p.names name distinct (λ k d h e. fresh (subst (Contains p.names) e (Contains-get_or p.names k d h)))
distinct_push p each distinct e3 = assumption

pub distinct_reads : (d e : Draft) (line : List ℕ) → AreDistinct d.program.names → Reads d line e → AreDistinct e.program.names
distinct_reads d e line distinct e4 = grind (arith, distinct_push, says_sound)

pub distinct_all : (d e : Draft) (lines : List (List ℕ)) → AreDistinct d.program.names → ReadsAll d lines e → AreDistinct e.program.names
distinct_all d e [] distinct none = distinct
distinct_all d e (line ∷ lines) distinct (one {e = f} first rest) = distinct_all f e lines (distinct_reads d f line distinct first) rest

pub distinct_none : AreDistinct []
distinct_none i j d a b = absurd (omega arith)

-- one more line behind the others
pub ReadsAll-push : (d e f : Draft) (lines : List (List ℕ)) (line : List ℕ) → ReadsAll d lines e → Reads e line f →
    ReadsAll d (lines ++ line ∷ []) f
ReadsAll-push d e f [] line none last = one last none
ReadsAll-push d e f (a ∷ lines) line (one {e = m} first rest) last = one first (ReadsAll-push m e f lines line rest last)

-- what some line says can be added
pub said_sound : (p : Program) (s : Statement) → IsSaid p s → IsSound p s
said_sound p s said = says_sound p (fields_of said.line) s said.says

-- a line that the reader refuses is outside the grammar
pub refused_line : (s d : Draft) (before : List (List ℕ)) (line : List ℕ) → AreDistinct s.program.names → ReadsAll s before d →
    after_line d line ≡ None → (e : Draft) → Reads d line e → ⊥
refused_line s d before line distinct read refused e is = grind (arith, after_complete, distinct_all, none-some)

pub lines_few : (text : List ℕ) → length (lines_of text) ≤ length text
lines_few [] = omega arith
lines_few (b ∷ bs) = grind (arith, cond_both, (lines_few bs))

-- in a loop over lines, what a line and the lines behind it say of their number
pub line_number : {A : Type 0} (f : A → List ℕ) (text : List ℕ) (before : List A) (line : List ℕ) (left after : List (List ℕ)) →
    map f before ++ left ≡ lines_of text → left ≡ line ∷ after → length before < length text
line_number f text before line left after rest step =
    let few = lines_few text in
    let whole = ap length rest in
    let next = ap length step in
    let parts = length-append (map f before) left in
    let same = length-map before f in
    omega arith

-- and of the text
pub lines_step : {A : Type 0} (f : A → List ℕ) (lines : List (List ℕ)) (before : List A) (x : A) (left after : List (List ℕ)) →
    map f before ++ left ≡ lines → left ≡ f x ∷ after → map f (before ++ x ∷ []) ++ after ≡ lines
lines_step f lines before x left after rest step = grind (arith, map-append, append_assoc)

pub reads_step : {A : Type 0} (f : A → List ℕ) (s d e : Draft) (before : List A) (x : A) → ReadsAll s (map f before) d →
    after_line d (f x) ≡ Some e → ReadsAll s (map f (before ++ x ∷ [])) e
reads_step f s d e before x read is =
    subst (λ (l : List (List ℕ)). ReadsAll s l e) (sym (map-append f before (x ∷ [])))
    (ReadsAll-push s d e (map f before) (f x) read (after_sound d e (f x) is))

-- no line is left
pub all_read : {A : Type 0} (f : A → List ℕ) (text : List ℕ) (s d : Draft) (before : List A) (left : List (List ℕ)) →
    ReadsAll s (map f before) d → map f before ++ left ≡ lines_of text → left ≡ [] → ReadsAll s (lines_of text) d
all_read f text s d before left read rest e = grind (arith, append-nil)

-- the fault of a line is the text's
pub line_fault : {A : Type 0} (f : A → List ℕ) (text : List ℕ) (number : ℕ) (s d e : Draft) (before : List A) (x : A) (left after : List (List ℕ))
    (fault : Fault) → AreDistinct s.program.names → ReadsAll s (map f before) d → map f before ++ left ≡ lines_of text → left ≡ f x ∷ after →
    number ≡ length before + 1 → ReadsLine d (f x) number (Err fault) e → ParsesFrom s text (Err fault)
line_fault f text number s d e before x left after fault distinct read rest step count h = grind (arith, length-map, refused_line)
