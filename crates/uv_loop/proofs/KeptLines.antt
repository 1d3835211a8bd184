-- The row of lines: one more, and one less.
use Rattle.uv_loop.proofs.Names.{◌≡◌, ℕ, zero, suc, ◌+◌, ◌<◌, ◌≤◌, List, [], ◌∷◌, ◌++◌, length, true, false, Option, Some, slice_get, take, pred, refl, sym, ap, ◌∙◌, subst, arith, map-append, Seen, all_said, wide_count, InARow, AreKept}
use Rattle.std.proofs.lemmas.List.{length-append}
use Rattle.uv_stands.specs.declared.packed_line.Line.{Line}
use Rattle.uv_stands.specs.declared.packed_line.Line.TheVariants as line
use Rattle.uv_stands.specs.PackedLines.{said, is_wide, Says}

-- one line more, in two words
in_a_row_narrow : (n : ℕ) (ls : List Line) (l : Line) → is_wide l ≡ false → InARow n ls → InARow n (ls ++ l ∷ [])
in_a_row_narrow n [] (line.Wide at) narrow k = cc
in_a_row_narrow n [] l narrow k = tt
in_a_row_narrow n (line.Wide at ∷ ls) l narrow k = (k.0, in_a_row_narrow (suc n) ls l narrow k.1)
in_a_row_narrow n (other ∷ ls) l narrow k = in_a_row_narrow n ls l narrow k

count_narrow : (ls : List Line) (l : Line) → is_wide l ≡ false → wide_count (ls ++ l ∷ []) ≡ wide_count ls
count_narrow [] (line.Wide at) narrow = cc
count_narrow [] l narrow = refl
count_narrow (line.Wide at ∷ ls) l narrow = ap suc (count_narrow ls l narrow)
count_narrow (other ∷ ls) l narrow = count_narrow ls l narrow

kept_narrow : (ls : List Line) (ws : List Seen) (l : Line) → is_wide l ≡ false → AreKept ls ws → AreKept (ls ++ l ∷ []) ws
kept_narrow ls ws l narrow k = record { in_a_row = in_a_row_narrow 0 ls l narrow k.in_a_row; all = count_narrow ls l narrow ∙ k.all }

-- a wide one more
in_a_row_wide : (n at : ℕ) (ls : List Line) → at ≡ n + wide_count ls → InARow n ls → InARow n (ls ++ line.Wide at ∷ [])
in_a_row_wide n at [] is k = (omega (arith, is), tt)
in_a_row_wide n at (line.Wide i ∷ ls) is k = (k.0, in_a_row_wide (suc n) at ls (omega (arith, is)) k.1)
in_a_row_wide n at (other ∷ ls) is k = in_a_row_wide n at ls is k

count_wide : (at : ℕ) (ls : List Line) → wide_count (ls ++ line.Wide at ∷ []) ≡ suc (wide_count ls)
count_wide at [] = refl
count_wide at (line.Wide i ∷ ls) = ap suc (count_wide at ls)
count_wide at (other ∷ ls) = count_wide at ls

kept_wide : (ls : List Line) (ws : List Seen) (w : Seen) → AreKept ls ws → AreKept (ls ++ line.Wide (length ws) ∷ []) (ws ++ w ∷ [])
kept_wide ls ws w k = record {
  in_a_row = in_a_row_wide 0 (length ws) ls (omega (arith, k.all)) k.in_a_row;
  all = count_wide (length ws) ls ∙ omega (arith, k.all, length-append ws (w ∷ []));
}

-- wide ones that come behind change no line
get_before : {X : Type 0} (xs ys : List X) (i : ℕ) → i < length xs → slice_get (xs ++ ys) i ≡ slice_get xs i
get_before [] ys i few = absurd (omega (arith, few))
get_before (x ∷ xs) ys zero few = refl
get_before (x ∷ xs) ys (suc i) few = get_before xs ys i (omega (arith, few))

pub said_before : (n : ℕ) (ls : List Line) (ws more : List Seen) → InARow n ls → n + wide_count ls ≤ length ws
    → all_said (ws ++ more) ls ≡ all_said ws ls
said_before n [] ws more k few = refl
said_before n (line.Wide at ∷ ls) ws more k few =
    let here = get_before ws more at (omega (arith, few, k.0)) in
    ap (λ s. s ∷ all_said (ws ++ more) ls) here ∙ ap (λ ss. slice_get ws at ∷ ss) (said_before (suc n) ls ws more k.1 (omega (arith, few)))
said_before n (other ∷ ls) ws more k few = ap (λ ss. said ws other ∷ ss) (said_before n ls ws more k few)

pub get_last : {X : Type 0} (xs : List X) (x : X) → slice_get (xs ++ x ∷ []) (length xs) ≡ Some x
get_last [] x = refl
get_last (y ∷ xs) x = get_last xs x

said_wide : (ls : List Line) (ws : List Seen) (w : Seen) → AreKept ls ws
    → all_said (ws ++ w ∷ []) (ls ++ line.Wide (length ws) ∷ []) ≡ all_said ws ls ++ Some w ∷ []
said_wide ls ws w k = map-append (said (ws ++ w ∷ [])) ls (line.Wide (length ws) ∷ [])
    ∙ ap (λ ss. ss ++ slice_get (ws ++ w ∷ []) (length ws) ∷ []) (said_before 0 ls ws (w ∷ []) k.in_a_row (omega (arith, k.all)))
    ∙ ap (λ s. all_said ws ls ++ s ∷ []) (get_last ws w)

pub pushed_narrow : (ls now : List Line) (ws : List Seen) (l : Line) → now ≡ ls ++ l ∷ [] → is_wide l ≡ false → AreKept ls ws → AreKept now ws
pushed_narrow ls now ws l is narrow k = subst (λ xs. AreKept xs ws) (sym is) (kept_narrow ls ws l narrow k)

pub pushed_wide : (ls now : List Line) (ws are : List Seen) (at : ℕ) (w : Seen) → at ≡ length ws → now ≡ ls ++ line.Wide at ∷ []
    → are ≡ ws ++ w ∷ [] → AreKept ls ws → AreKept now are
pushed_wide ls now ws are at w last is more k =
    subst (λ xs. AreKept now xs) (sym more) (subst (λ xs. AreKept xs (ws ++ w ∷ [])) (sym (is ∙ ap (λ i. ls ++ line.Wide i ∷ []) last))
    (kept_wide ls ws w k))

pub said_wide_pushed : (ls now : List Line) (ws are : List Seen) (at : ℕ) (w : Seen) → at ≡ length ws → now ≡ ls ++ line.Wide at ∷ []
    → are ≡ ws ++ w ∷ [] → AreKept ls ws → all_said are now ≡ all_said ws ls ++ Some w ∷ []
said_wide_pushed ls now ws are at w last is more k =
    ap (λ xs. all_said xs now) more ∙ ap (λ xs. all_said (ws ++ w ∷ []) xs) (is ∙ ap (λ i. ls ++ line.Wide i ∷ []) last) ∙ said_wide ls ws w k

-- the last line goes
in_a_row_before : (n : ℕ) (ls : List Line) (l : Line) → InARow n (ls ++ l ∷ []) → InARow n ls
in_a_row_before n [] l k = tt
in_a_row_before n (line.Wide at ∷ ls) l k = (k.0, in_a_row_before (suc n) ls l k.1)
in_a_row_before n (other ∷ ls) l k = in_a_row_before n ls l k

pub popped_narrow : (ls was : List Line) (ws : List Seen) (l : Line) → was ≡ ls ++ l ∷ [] → is_wide l ≡ false → AreKept was ws → AreKept ls ws
popped_narrow ls was ws l is narrow kept = let k = subst (λ xs. AreKept xs ws) is kept in
    record { in_a_row = in_a_row_before 0 ls l k.in_a_row; all = sym (count_narrow ls l narrow) ∙ k.all }

pub count_popped : (ls was : List Line) (l : Line) → was ≡ ls ++ l ∷ [] → is_wide l ≡ true → wide_count was ≡ suc (wide_count ls)
count_popped ls was (line.Wide at) is wide = ap (λ xs. wide_count xs) is ∙ count_wide at ls
count_popped ls was other is wide = cc

pub popped_wide : (ls was : List Line) (ws were : List Seen) (l : Line) (w : Seen) → was ≡ ls ++ l ∷ [] → were ≡ ws ++ w ∷ [] → is_wide l ≡ true
    → AreKept was were → AreKept ls ws
popped_wide ls was ws were l w is are wide kept = record {
  in_a_row = in_a_row_before 0 ls l (subst (λ xs. InARow 0 xs) is kept.in_a_row);
  all =
      omega (arith, kept.all, count_popped ls was l is wide, ap (λ xs. length xs) are, length-append ws (w ∷ []));
}

take_front : {X : Type 0} (xs : List X) (x : X) → take (pred (length (xs ++ x ∷ []))) (xs ++ x ∷ []) ≡ xs
take_front [] x = refl
take_front (y ∷ []) x = refl
take_front (y ∷ z ∷ xs) x = ap (λ ys. y ∷ ys) (take_front (z ∷ xs) x)

pub popped_said : (ls was : List Line) (ws were more : List Seen) (l : Line) → was ≡ ls ++ l ∷ [] → were ≡ ws ++ more → AreKept ls ws
    → all_said ws ls ≡ take (pred (length (all_said were was))) (all_said were was)
popped_said ls was ws were more l is are k =
    let whole : all_said were was ≡ all_said ws ls ++ said (ws ++ more) l ∷ [] =
    ap (λ xs. all_said were xs) is ∙ ap (λ xs. all_said xs (ls ++ l ∷ [])) are ∙ map-append (said (ws ++ more)) ls (l ∷ [])
    ∙ ap (λ ss. ss ++ said (ws ++ more) l ∷ []) (said_before 0 ls ws more k.in_a_row (omega (arith, k.all))) in
    sym (ap (λ ss. take (pred (length ss)) ss) whole ∙ take_front (all_said ws ls) (said (ws ++ more) l))
