-- A step of a state whose counts go no further than to a number, and whose names forget earlier generations.
use Rattle.uv_tale.proofs.Names.{◌≡◌, ℕ, refl, ap, sym, ◌∙◌, Event, Program, State, Next, Moves, Refuses, next, capped, AreBefore, staled, counts_capped, names_staled, reduced, state_map}
use Rattle.std.proofs.lemmas.Simd.{map-map}

apart : (n : ℕ) (s : State) → reduced n s ≡ staled (capped n s)
apart n s = simp map-map

capped_behind : (n : ℕ) (x : Next) → state_map (reduced n) x ≡ state_map (capped n) (state_map staled x)
capped_behind n (Moves s line) = refl
capped_behind n (Refuses why) = refl

staled_behind : (n : ℕ) (x : Next) → state_map (reduced n) x ≡ state_map staled (state_map (capped n) x)
staled_behind n (Moves s line) = ap (λ (u : State). Moves u line) (apart n s)
staled_behind n (Refuses why) = refl

-- a step is the step itself, reduced
pub next_reduced : (n : ℕ) (p : Program) (s : State) (e : Event) → AreBefore n p →
    state_map (reduced n) (next p (reduced n s) e) ≡ state_map (reduced n) (next p s e)
next_reduced n p s e before =
    staled_behind n (next p (reduced n s) e)
    ∙ ap (state_map staled) (counts_capped n p (staled s) e before)
    ∙ sym (staled_behind n (next p (staled s) e))
    ∙ capped_behind n (next p (staled s) e)
    ∙ ap (state_map (capped n)) (names_staled p s e)
    ∙ sym (capped_behind n (next p s e))
