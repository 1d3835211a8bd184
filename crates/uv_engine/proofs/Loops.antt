-- The steps of a loop command, one after another.
use Rattle.uv_engine.proofs.Names.{◌≡◌, ℕ, suc, ◌+◌, ◌-◌, ◌<◌, ◌≤◌, [], ◌++◌, Bool, true, false, if◌then◌else◌, refl, ap, sym, ◌∙◌, arith, Shown, Reply, reply, reply_text, reply_after, may_follow}
use Rattle.uv_ids.specs.declared.event.Event.TheVariants as event
use Rattle.uv_engine.specs.Reply.{loop_text, loop_after}

-- what a step of the loop is answered
abbrev one : Shown → Reply
one s = reply s event.Loop

one_less : (n i : ℕ) → i < n → n - i ≡ suc (n - (i + 1))
one_less n i l = omega arith

turn_from : (m k : ℕ) (s : Shown) → m ≡ suc k →
    loop_text m s ≡ reply_text s.program (one s) ++ (if may_follow (one s) then loop_text k (reply_after s (one s)) else [])
unfolding loop_text
turn_from m k s e = rw e refl

after_from : (m k : ℕ) (s : Shown) → m ≡ suc k →
    loop_after m s ≡ (if may_follow (one s) then loop_after k (reply_after s (one s)) else reply_after s (one s))
unfolding loop_after
after_from m k s e = rw e refl

-- one more step may follow
pub turn_on : (n i : ℕ) (s t : Shown) → i < n → true ≡ may_follow (one s) → t ≡ reply_after s (one s) →
    loop_text (n - i) s ≡ reply_text s.program (one s) ++ loop_text (n - (i + 1)) t
turn_on n i s t l g e =
    let k = n - (i + 1) in
    turn_from (n - i) k s (one_less n i l)
    ∙ ap (λ (b : Bool). reply_text s.program (one s) ++ (if b then loop_text k (reply_after s (one s)) else [])) (sym g)
    ∙ ap (λ (u : Shown). reply_text s.program (one s) ++ loop_text k u) (sym e)

pub turn_after : (n i : ℕ) (s t : Shown) → i < n → true ≡ may_follow (one s) → t ≡ reply_after s (one s) →
    loop_after (n - i) s ≡ loop_after (n - (i + 1)) t
turn_after n i s t l g e =
    let k = n - (i + 1) in
    after_from (n - i) k s (one_less n i l)
    ∙ ap (λ (b : Bool). if b then loop_after k (reply_after s (one s)) else reply_after s (one s)) (sym g)
    ∙ ap (λ (u : Shown). loop_after k u) (sym e)

-- none may follow
pub turn_off : (n i : ℕ) (s : Shown) → i < n → false ≡ may_follow (one s) → loop_text (n - i) s ≡ reply_text s.program (one s) ++ []
turn_off n i s l g =
    let k = n - (i + 1) in
    turn_from (n - i) k s (one_less n i l)
    ∙ ap (λ (b : Bool). reply_text s.program (one s) ++ (if b then loop_text k (reply_after s (one s)) else [])) (sym g)

pub off_after : (n i : ℕ) (s t : Shown) → i < n → false ≡ may_follow (one s) → t ≡ reply_after s (one s) → loop_after (n - i) s ≡ t
off_after n i s t l g e =
    let k = n - (i + 1) in
    after_from (n - i) k s (one_less n i l)
    ∙ ap (λ (b : Bool). if b then loop_after k (reply_after s (one s)) else reply_after s (one s)) (sym g)
    ∙ sym e

-- no step is left
pub no_turn : (n i : ℕ) (s : Shown) → n ≤ i → loop_text (n - i) s ≡ []
unfolding loop_text
no_turn n i s l = let e : n - i ≡ 0 = omega arith in rw e refl

pub no_turn_after : (n i : ℕ) (s : Shown) → n ≤ i → loop_after (n - i) s ≡ s
unfolding loop_after
no_turn_after n i s l = let e : n - i ≡ 0 = omega arith in rw e refl
