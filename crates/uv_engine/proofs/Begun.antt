-- The line `begin` cuts an input in one way at the most.
use Rattle.uv_engine.proofs.Names.{◌≡◌, ℕ, ◌==◌, false, List, [], ◌∷◌, ◌++◌, refl, ap, sym, subst, ◌∙◌, codes, All-head, All-tail, All-from_recursion, NoFeed, Begins, NeverBegins, here, here_at_end, later, nothing, last_line, one_line}

feed_free : (line rest : List ℕ) (other : List ℕ) → NoFeed other → other ≡ line ++ 10 ∷ rest → ⊥
feed_free [] rest other h e = let free = All-head (λ b. (b == 10) ≡ false) 10 rest (subst NoFeed e h) in cc free
feed_free (b ∷ line) rest [] h e = cc e
feed_free (b ∷ line) rest (c ∷ other) h e = let same : other ≡ line ++ 10 ∷ rest = cc e in feed_free line rest other
    (All-tail (λ b. (b == 10) ≡ false) c other h) same

-- a text is cut in one way at its first line feed
record OneCut (a b x y : List ℕ) : Type 0 where
  line : a ≡ b
  rest : x ≡ y

cut_one : (a b x y : List ℕ) → NoFeed a → NoFeed b → a ++ 10 ∷ x ≡ b ++ 10 ∷ y → OneCut a b x y
cut_one [] [] x y h k e = let same : x ≡ y = cc e in record { line = refl; rest = same }
cut_one [] (c ∷ b) x y h k e = let head : 10 ≡ c = cc e in absurd (fed c (All-head (λ z. (z == 10) ≡ false) c b k) head) where
  fed : (c : ℕ) → (c == 10) ≡ false → 10 ≡ c → ⊥
  fed c f g = let free : (10 == 10) ≡ false = subst (λ (z : ℕ). (z == 10) ≡ false) (sym g) f in cc free
cut_one (c ∷ a) [] x y h k e = let head : c ≡ 10 = cc e in absurd (fed c (All-head (λ z. (z == 10) ≡ false) c a h) head) where
  fed : (c : ℕ) → (c == 10) ≡ false → c ≡ 10 → ⊥
  fed c f g = let free : (10 == 10) ≡ false = subst (λ (z : ℕ). (z == 10) ≡ false) g f in cc free
cut_one (c ∷ a) (d ∷ b) x y h k e =
    let head : c ≡ d = cc e in
    let tail : a ++ 10 ∷ x ≡ b ++ 10 ∷ y = cc e in
    let more = cut_one a b x y (All-tail (λ z. (z == 10) ≡ false) c a h) (All-tail (λ z. (z == 10) ≡ false) d b k) tail in
    record { line = ap (λ (z : ℕ). z ∷ a) head ∙ ap (λ (z : List ℕ). d ∷ z) more.line; rest = more.rest }

-- the script and the commands of a text are settled by it
pub record OneBegin (a b x y : List ℕ) : Type 0 where
  pub script : a ≡ b
  pub commands : x ≡ y

begin_free : NoFeed (codes "begin")
begin_free = All-from_recursion (λ b. (b == 10) ≡ false) (codes "begin") (refl, (refl, (refl, (refl, (refl, tt)))))

pub begins_one : (i j a b x y : List ℕ) → i ≡ j → Begins i a x → Begins j b y → OneBegin a b x y
begins_one i j a b x y e (here {commands = c}) (here {commands = d}) = let same : c ≡ d = cc e in record { script = refl; commands = same }
begins_one i j a b x y e (here {commands = c}) here_at_end = cc
begins_one i j a b x y e here_at_end (here {commands = d}) = cc
begins_one i j a b x y e here_at_end here_at_end = record { script = refl; commands = refl }
begins_one i j a b x y e (here {commands = c}) (later {line = l} {rest = r} free other more) = let cut = cut_one
    (codes "begin") l c r begin_free free e in absurd (other (sym cut.line))
begins_one i j a b x y e (later {line = l} {rest = r} free other more) (here {commands = d}) = let cut = cut_one l
    (codes "begin") r d free begin_free e in absurd (other cut.line)
begins_one i j a b x y e here_at_end (later {line = l} {rest = r} free other more) = absurd (feed_free l r (codes "begin") begin_free e)
begins_one i j a b x y e (later {line = l} {rest = r} free other more) here_at_end = absurd (feed_free l r (codes "begin") begin_free (sym e))
begins_one i j a b x y e (later {line = l} {rest = r} {script = s} free other more) (later {line = m} {rest = t} {script = u} free' other' more') =
    let cut = cut_one l m r t free free' e in
    let one = begins_one r t s u x y cut.rest more more' in
    record { script = ap (λ (z : List ℕ). z ++ 10 ∷ s) cut.line ∙ ap (λ (z : List ℕ). m ++ 10 ∷ z) one.script; commands = one.commands }

pub never_begins : (i j a x : List ℕ) → i ≡ j → Begins i a x → NeverBegins j → ⊥
never_begins i j a x e (here {commands = c}) nothing = cc e
never_begins i j a x e (here {commands = c}) (last_line free other) = feed_free (codes "begin") c j free (sym e)
never_begins i j a x e (here {commands = c}) (one_line {line = l} {rest = r} free other more) = let cut = cut_one
    (codes "begin") l c r begin_free free e in other (sym cut.line)
never_begins i j a x e here_at_end nothing = cc e
never_begins i j a x e here_at_end (last_line free other) = other (sym e)
never_begins i j a x e here_at_end (one_line {line = l} {rest = r} free other more) = feed_free l r (codes "begin") begin_free e
never_begins i j a x e (later {line = l} {rest = r} free other more) nothing = empty l r e where
  empty : (l r : List ℕ) → l ++ 10 ∷ r ≡ [] → ⊥
  empty [] r f = cc f
  empty (c ∷ l) r f = cc f
never_begins i j a x e (later {line = l} {rest = r} free other more) (last_line free' other') = feed_free l r j free' (sym e)
never_begins i j a x e (later {line = l} {rest = r} {script = s} free other more)
    (one_line {line = m} {rest = t} free' other' more') = let cut = cut_one l m r t free free' e in never_begins r t s x cut.rest more more'
