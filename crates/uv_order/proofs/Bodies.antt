-- The ops of a callback that are still to be done.
use Rattle.uv_order.proofs.Names.{◌≡◌, ℕ, suc, ◌+◌, List, ◌∷◌, Bool, Option, Some, None, slice_get, drop, refl, ap, ◌∙◌, arith, if◌then◌else◌, Var, Callback, Site, CallbackLine, Program, lines_in, is_for, Body, next_line, body_from, body_at, sites_from, body_of, []}

-- the line of the next op, and the ops from it on
pub record IsAt (lines : List CallbackLine) (kind : Callback) (v : Var) (call next : ℕ) (sites : List Site) : Type 0 where
  pub line : CallbackLine
  pub there : slice_get lines next ≡ Some line
  pub are : sites ≡ Site.In kind v next ∷ sites_from kind v call (next + 1) (drop (next + 1) lines)

abbrev pub IsBody : Program → Option Body → List Site → Type 0
IsBody p None sites = sites ≡ []
IsBody p (Some b) sites = IsAt (lines_in p b.callback b.name) b.callback b.name b.call b.next sites

abbrev Found : List CallbackLine → Callback → Var → ℕ → Option ℕ → List Site → Type 0
Found lines kind v call None sites = sites ≡ []
Found lines kind v call (Some next) sites = IsAt lines kind v call next sites

-- the first line of what is left, and what is left behind it
first_left : (n : ℕ) (lines : List CallbackLine) (x : CallbackLine) (xs : List CallbackLine) → drop n lines ≡ x ∷ xs →
    (slice_get lines n ≡ Some x) × (drop (suc n) lines ≡ xs)
first_left (suc n) (y ∷ ys) x xs e = first_left n ys x xs e
first_left each ls x xs e = grind arith

found : (kind : Callback) (v : Var) (call n : ℕ) (lines left : List CallbackLine) → drop n lines ≡ left →
    Found lines kind v call (next_line call n left) (sites_from kind v call n left)
found kind v call n lines [] e = refl
found kind v call n lines (x ∷ xs) e = let f = first_left n lines x xs e in let same : n + 1 ≡ suc n = omega arith in let behind : drop
    (n + 1) lines ≡ xs = ap (λ (k : ℕ). drop k lines) same ∙ f.1 in at (is_for call x.call) f.0 behind (found kind v call (n + 1) lines xs behind)
  where
    at : (b : Bool) → slice_get lines n ≡ Some x → drop (n + 1) lines ≡ xs →
        Found lines kind v call (next_line call (n + 1) xs) (sites_from kind v call (n + 1) xs) →
        Found lines kind v call (if b then Some n else next_line call (n + 1) xs)
        (if b then Site.In kind v n ∷ sites_from kind v call (n + 1) xs else sites_from kind v call (n + 1) xs)
    at b a b' rest = grind arith

as_body : (p : Program) (kind : Callback) (v : Var) (call : ℕ) (o : Option ℕ) (sites : List Site) → Found (lines_in p kind v) kind v call o sites →
    IsBody p (body_at kind v call o) sites
as_body p kind v call o sites f = grind arith

-- the body from a line on has the ops from there on
pub is_body : (p : Program) (kind : Callback) (v : Var) (call n : ℕ) → IsBody p (body_from p kind v call n) (sites_from kind v call n (drop n
    (lines_in p kind v)))
is_body p kind v call n = as_body p kind v call _ _ (found kind v call n (lines_in p kind v) (drop n (lines_in p kind v)) refl)

pub whole_body : (p : Program) (kind : Callback) (v : Var) (call : ℕ) → IsBody p (body_from p kind v call 0) (body_of p kind v call)
whole_body p kind v call = is_body p kind v call 0
