-- What the documented order refuses.
use Rattle.uv_order.proofs.Names.{arith, ◌≡◌, ℕ, List, [], ◌∷◌, ◌++◌, Bool, true, false, Option, Some, refl, ap, sym, subst, ◌∙◌, if◌then◌else◌, not, both_ways, same_Some, Id, Var, Answer, Mode, Phase, Callback, Seen, Site, Op, Program, from_heap, op_at, State, Line, has_id, closes_some, Names, names_by, taken_off, Told, nothing_told, told_by, Lasting, lasting, Section, word_of, is_called, Standing, IsCallLine, CallsNext, Within, Position, Between, Running, Goes, GoesOn, line, at_first, past_after, is_within, AllWithin, is_send, AllSilent, RefusedOrder, holds_io}
use Rattle.uv_order.specs.Documented as doc
use Rattle.uv_order.specs.Documented.{Walk}
use Rattle.uv_order.proofs.Lemmas.{has_both, without_itself, still_absent}

-- ---- where the lines stand

-- what these lines have told
abbrev told_after : Program → Told → List Seen → List Line → Told
told_after p told past [] = told
told_after p told past (l ∷ ls) = told_after p (told_by p told (names_by p past) l.seen) (l.seen ∷ past) ls

record Behind (p : Program) (told : Told) (past : List Seen) (ls : List Line) : Type 0 where
  at : Position
  was : Lasting
  goes : GoesOn p at told past was ls

behind : (p : Program) (before ls : List Line) (at : Position) (told : Told) (past : List Seen) (was : Lasting) →
    GoesOn p at told past was (before ++ ls) → Behind p (told_after p told past before) (past_after past before) ls
behind p [] ls at told past was h = record { at = at; was = was; goes = h }
behind p (x ∷ before) ls at told past was (line {to = to} e g h) =
    behind p before ls to (told_by p told (names_by p past) x.seen) (x.seen ∷ past) (lasting x.after) h

-- the lines before, and one more with those behind it
past_both : (past : List Seen) (before front : List Line) (s : Line) →
    past_after past (before ++ s ∷ front) ≡ past_after (s.seen ∷ past_after past before) front
past_both past [] front s = refl
past_both past (x ∷ before) front s = past_both (x.seen ∷ past) before front s

moved : {p : Program} {a b : Position} {told : Told} {past : List Seen} {was : Lasting} {ls : List Line} → a ≡ b →
    GoesOn p a told past was ls → GoesOn p b told past was ls
moved {p = p} {told = told} {past = past} {was = was} {ls = ls} e h = subst (λ (at : Position). GoesOn p at told past was ls) e h

-- ---- a section begins

record Begins (word : Phase) (to : Position) : Type 0 where
  mode : Mode
  number : ℕ
  part : Section
  walk : Walk
  is : to ≡ Running mode number (Within part walk)
  its : word_of part ≡ word

begins : (p : Program) (told : Told) (names : Names) (l : Line) (at to : Position) (word : Phase) → l.seen ≡ Seen.Section word →
    Goes p told names at l to → Begins word to
begins p told names l at to word e g = grind arith

record SectionOn (p : Program) (told : Told) (past : List Seen) (word : Phase) (ls : List Line) : Type 0 where
  mode : Mode
  number : ℕ
  part : Section
  walk : Walk
  was : Lasting
  its : word_of part ≡ word
  rest : GoesOn p (Running mode number (Within part walk)) told past was ls

section_on : (p : Program) (at : Position) (told : Told) (past : List Seen) (was : Lasting) (l : Line) (word : Phase) (ls : List Line) →
    l.seen ≡ Seen.Section word → GoesOn p at told past was (l ∷ ls) → SectionOn p (told_by p told (names_by p past) l.seen) (l.seen ∷ past) word ls
section_on p at told past was l word ls e (line {to = to} f g h) =
    let b = begins p told (names_by p past) l at to word e g in
    record { mode = b.mode; number = b.number; part = b.part; walk = b.walk; was = lasting l.after; its = b.its; rest = moved b.is h }

-- ---- the lines of a section

-- what the line of a call, of an op or of a callback of I/O says where the walk then is this
abbrev Tells : Program → Told → Names → Section → Walk → Walk → Seen → Type 0
Tells p told names part w walk (Seen.Call v id) = (from_heap p ≡ false → has_id w.off id ≡ false) × (is_called (word_of part) told id ≡ true)
Tells p told names part w walk (Seen.Op place a) =
    (o : Op) → op_at p place ≡ Some o → (id : Id) → has_id (taken_off (word_of part) names o a) id ≡ true → has_id walk.off id ≡ true
Tells p told names part w walk (Seen.Io v id) = holds_io (word_of part) ≡ true
Tells p told names part w walk each = Unit {0}

-- a walk goes on, and who was taken off stays so
record Stays (p : Program) (told : Told) (names : Names) (m : Mode) (i : ℕ) (part : Section) (w : Walk) (to : Position) (what : Seen) : Type 0 where
  walk : Walk
  is : to ≡ Running m i (Within part walk)
  grown : (id : Id) → has_id w.off id ≡ true → has_id walk.off id ≡ true
  tells : Tells p told names part w walk what

-- a callback of I/O begins in it, and nobody is taken off
record Answered (part : Section) (w : Walk) (to : Standing) : Type 0 where
  walk : Walk
  is : to ≡ Within part walk
  off : walk.off ≡ w.off

answered : (s : State) (told : Told) (body : List Site) (part : Section) (w : Walk) → Answered part w (doc.answering s told body (Within part w))
answered s told body part w = grind arith

-- who is called in a section wasn't taken off
call_tells : (p : Program) (told : Told) (names : Names) (part : Section) (w walk : Walk) (s : State) (kind : Callback) (v : Var) (id : Id)
    (behind : List Id) (what : Seen) → CallsNext (word_of part) told w id behind → IsCallLine s kind v id what → Tells p told names part w walk what
call_tells p told names part w walk s kind v id behind what next is = grind arith

stays : (p : Program) (told : Told) (names : Names) (m : Mode) (i : ℕ) (part : Section) (w : Walk) (l : Line) (to : Position) →
    is_within l.seen ≡ true → Goes p told names (Running m i (Within part w)) l to → Stays p told names m i part w to l.seen
stays p told names m i part w l to e g = at to e g where
  body : Callback → Var → List Site
  body kind v = doc.body_of p kind v (doc.next_call told kind v)

  so : (walk : Walk) → ((id : Id) → has_id w.off id ≡ true → has_id walk.off id ≡ true) → (what : Seen) → l.seen ≡ what →
      Tells p told names part w walk what → Stays p told names m i part w (Running m i (Within part walk)) l.seen
  so walk grown what is t = record { walk = walk; is = refl; grown = grown; tells = subst (Tells p told names part w walk) (sym is) t }

  at : (to : Position) → is_within l.seen ≡ true → Goes p told names (Running m i (Within part w)) l to → Stays p told names m i part w to l.seen
  at to e (doc.section next a b c d f) = cc (ap is_within c, e)
  at to e (doc.poll timeout a b c d f) = cc (ap is_within d, e)
  at to e (doc.ends a b c d) = cc (ap is_within c, e)
  at to e (doc.call kind v id behind a b c d f) = grind arith
  at to e (doc.fires v id due others a b c d f g h i) = grind arith
  at to e (doc.answers v id a b c d f g) = grind arith
  at to e (doc.body_op place rest o a b c d f) = grind (arith, has_both, same_Some)
  at to e (doc.sent v code a b) = so w (λ x on. on) _ a tt
  at to e (doc.taken n v id a b c) = so w (λ x on. on) _ a tt
  at to e (doc.finished n v id a b c) = so w (λ x on. on) _ a tt
  at to e (doc.cancelled v a b c) = so w (λ x on. on) _ b tt
  at to e (doc.outside ms a b) = so w (λ x on. on) _ a tt

-- a run stands in this section, and whom this says was taken off
record WalkOn (p : Program) (m : Mode) (i : ℕ) (part : Section) (off : Id → Type 0) (told : Told) (past : List Seen) (ls : List Line) : Type 0 where
  walk : Walk
  was : Lasting
  grown : (id : Id) → off id → has_id walk.off id ≡ true
  rest : GoesOn p (Running m i (Within part walk)) told past was ls

within_on : (p : Program) (m : Mode) (i : ℕ) (part : Section) (xs ls : List Line) (w : Walk) (told : Told) (past : List Seen) (was : Lasting) →
    AllWithin xs → GoesOn p (Running m i (Within part w)) told past was (xs ++ ls) →
    WalkOn p m i part (λ id. has_id w.off id ≡ true) (told_after p told past xs) (past_after past xs) ls
within_on p m i part [] ls w told past was a h = record { walk = w; was = was; grown = λ id on. on; rest = h }
within_on p m i part (x ∷ xs) ls w told past was a (line {to = to} e g h) =
    let s = stays p told (names_by p past) m i part w x to a.0 g in
    let k = within_on p m i part xs ls s.walk (told_by p told (names_by p past) x.seen) (x.seen ∷ past) (lasting x.after) a.1 (moved s.is h) in
    record { walk = k.walk; was = k.was; grown = λ id on. k.grown id (s.grown id on); rest = k.rest }

op_on : (p : Program) (m : Mode) (i : ℕ) (part : Section) (w : Walk) (told : Told) (past : List Seen) (was : Lasting) (l : Line) (place : Site)
    (o : Op) (a : Answer) (ls : List Line) → l.seen ≡ Seen.Op place a → op_at p place ≡ Some o →
    GoesOn p (Running m i (Within part w)) told past was (l ∷ ls) → WalkOn p m i part
    (λ id. has_id (taken_off (word_of part) (names_by p past) o a) id ≡ true) (told_by p told (names_by p past) l.seen) (l.seen ∷ past) ls
op_on p m i part w told past was l place o a ls e is (line {to = to} f g h) =
    let s = stays p told (names_by p past) m i part w l to (ap is_within e) g in
    let t : Tells p told (names_by p past) part w s.walk (Seen.Op place a) = subst (Tells p told (names_by p past) part w s.walk) e s.tells in
    record { walk = s.walk; was = lasting l.after; grown = λ id on. t o is id on; rest = moved s.is h }

-- who is called wasn't taken off, where due timers are collected first, and in async was sent to
call_on : (p : Program) (m : Mode) (i : ℕ) (part : Section) (w : Walk) (told : Told) (past : List Seen) (was : Lasting) (l : Line) (v : Var)
    (id : Id) (ls : List Line) → l.seen ≡ Seen.Call v id → GoesOn p (Running m i (Within part w)) told past was (l ∷ ls) →
    (from_heap p ≡ false → has_id w.off id ≡ false) × (is_called (word_of part) told id ≡ true)
call_on p m i part w told past was l v id ls e (line {to = to} f g h) =
    let s = stays p told (names_by p past) m i part w l to (ap is_within e) g in
    subst (Tells p told (names_by p past) part w s.walk) e s.tells

-- behind lines of a section of async
sent_on : (p : Program) (m : Mode) (i : ℕ) (part : Section) (w : Walk) (told : Told) (past : List Seen) (was : Lasting) (xs : List Line)
    (l : Line) (v : Var) (id : Id) (ls : List Line) → word_of part ≡ Phase.Async → AllWithin xs → l.seen ≡ Seen.Call v id →
    GoesOn p (Running m i (Within part w)) told past was (xs ++ l ∷ ls) → has_id (told_after p told past xs).sent id ≡ true
sent_on p m i part w told past was xs l v id ls is a e h =
    let k = within_on p m i part xs (l ∷ ls) w told past was a h in
    subst (λ (word : Phase). is_called word (told_after p told past xs) id ≡ true) is
    (call_on p m i part k.walk (told_after p told past xs) (past_after past xs) k.was l v id ls e k.rest).1

-- ---- lines that aren't sends

absent_on : (p : Program) (xs : List Line) (told : Told) (past : List Seen) (id : Id) → AllSilent p xs → has_id told.sent id ≡ false →
    has_id (told_after p told past xs).sent id ≡ false
absent_on p [] told past id a h = h
absent_on p (x ∷ xs) told past id a h = absent_on p xs _ _ id a.1 (grind (arith, still_absent))

-- ---- the laws

no_wait : (a b c d : Bool) (n : Option ℕ) → d ≡ true →
    (if a then Some 0 else (if not b then Some 0 else (if c then Some 0 else (if d then Some 0 else n)))) ≡ Some 0
no_wait a b c d n e = grind arith

-- behind which a poll waits for nothing
zero_waits : (p : Program) (told : Told) (names : Names) (l : Line) (at to : Position) (timeout : Option ℕ) → closes_some l.before ≡ true →
    l.seen ≡ Seen.Poll timeout → Goes p told names at l to → timeout ≡ Some 0
zero_waits p told names l at to timeout shut e g = grind (arith, no_wait)

-- a callback of I/O stands in such a section
io_on : (p : Program) (m : Mode) (i : ℕ) (part : Section) (w : Walk) (told : Told) (past : List Seen) (was : Lasting) (l : Line) (v : Var)
    (id : Id) (ls : List Line) → l.seen ≡ Seen.Io v id → GoesOn p (Running m i (Within part w)) told past was (l ∷ ls) →
    holds_io (word_of part) ≡ true
io_on p m i part w told past was l v id ls e (line {to = to} f g h) =
    let s = stays p told (names_by p past) m i part w l to (ap is_within e) g in
    subst (Tells p told (names_by p past) part w s.walk) e s.tells

pub refused : (p : Program) (before more : List Line) → RefusedOrder p before more
refused p before more = record {
  closing_waits = λ l timeout shut d e h.
      let k = behind p before (l ∷ more) (Between 0) nothing_told [] at_first h in
      d (grind (arith, zero_waits));
  early_timer = λ s l y front mid v x id place timeout repeat heap es fs el o names ms ek h.
      let k = behind p before (s ∷ (front ++ l ∷ (mid ++ y ∷ more))) (Between 0) nothing_told [] at_first h in
      let b = section_on p k.at _ _ k.was s Phase.Timers (front ++ l ∷ (mid ++ y ∷ more)) es k.goes in
      let one = within_on p b.mode b.number b.part front (l ∷ (mid ++ y ∷ more)) b.walk _ _ b.was fs b.rest in
      let two = op_on p b.mode b.number b.part one.walk _ _ one.was l place (Op.Start v timeout repeat) _ (mid ++ y ∷ more) el o one.rest in
      let three = within_on p b.mode b.number b.part mid (y ∷ more) two.walk _ _ two.was ms two.rest in
      both_ways (has_id three.walk.off id) ((call_on p b.mode b.number b.part three.walk _ _ three.was y x id more ek three.rest).0 heap)
      (grind (arith, past_both));
  second_call = λ a s b mid front v x id ea ms es fs fq eb h.
      let now : Told = told_after p nothing_told [] before in
      let past : List Seen = past_after [] before in
      let k = behind p before (a ∷ (mid ++ s ∷ (front ++ b ∷ more))) (Between 0) nothing_told [] at_first h in
      let one = behind p (a ∷ mid) (s ∷ (front ++ b ∷ more)) k.at now past k.was k.goes in
      let told : Told = told_after p now past (a ∷ mid) in
      let two = section_on p one.at told (past_after past (a ∷ mid)) one.was s Phase.Async (front ++ b ∷ more) es one.goes in
      let off : has_id told.sent id ≡ false =
      absent_on p mid _ (a.seen ∷ past) id ms (grind (arith, without_itself)) in
      both_ways (has_id (told_after p told (past_after past (a ∷ mid)) (s ∷ front)).sent id)
      (absent_on p (s ∷ front) told (past_after past (a ∷ mid)) id (ap (is_send p) es, fq) off)
      (sent_on p two.mode two.number two.part two.walk _ _ two.was front b x id more two.its fs eb two.rest);
  called_again = λ s a b front mid v x id es fs ea ms mq eb h.
      let now : Told = told_after p nothing_told [] before in
      let past : List Seen = past_after [] before in
      let k = behind p before (s ∷ (front ++ a ∷ (mid ++ b ∷ more))) (Between 0) nothing_told [] at_first h in
      let one = section_on p k.at now past k.was s Phase.Async (front ++ a ∷ (mid ++ b ∷ more)) es k.goes in
      let two = within_on p one.mode one.number one.part front (a ∷ (mid ++ b ∷ more)) one.walk _ _ one.was fs one.rest in
      let told : Told = told_after p now past (s ∷ front) in
      let gone : List Seen = past_after past (s ∷ front) in
      both_ways (has_id (told_after p told gone (a ∷ mid)).sent id)
      (absent_on p mid _ (a.seen ∷ gone) id mq (grind (arith, without_itself)))
      (sent_on p one.mode one.number one.part two.walk told gone two.was (a ∷ mid) b x id more one.its (ap is_within ea, ms) eb two.rest);
  io_elsewhere = λ s l front word v id apart es fs el h.
      let k = behind p before (s ∷ (front ++ l ∷ more)) (Between 0) nothing_told [] at_first h in
      let b = section_on p k.at _ _ k.was s word (front ++ l ∷ more) es k.goes in
      let one = within_on p b.mode b.number b.part front (l ∷ more) b.walk _ _ b.was fs b.rest in
      both_ways (holds_io word) apart (ap holds_io (sym b.its) ∙ io_on p b.mode b.number b.part one.walk _ _ one.was l v id more el one.rest);
}
