-- Two steps that the rule forbids, whatever proof is tried: an absorb that stores 0, and a send by a look and a store.
-- Each is shown at a board of one name, on which one sender sent once.
use Rattle.uv_wake.proofs.ProofNames.{◌≡◌, ℕ, zero, suc, ◌+◌, ◌*◌, ◌<◌, ◌≤◌, List, [], ◌∷◌, get_or, sym, refl, ap, ◌∙◌, subst, inl, inr, ⊎_elim, arith, lit<, true, Option, Some, None, Contains, none, some, some-injective, some-ne-none, get_elem?, State, Me, step, Allows, Var, Ticket, LoopView, SenderView, View, Loop, Sender, ticket, list_of, Has, NameKept, Kept, after_absorb, loop_of, sender_of, sent, absorbed}
use Rattle.uv_wake.proofs.Lists.{var_ext, none_in}

abbrev name : Var
name = record { 0 = 0 }

abbrev loop_at : ℕ → Option Var → LoopView
loop_at count seen = record { counts = count ∷ []; seen = seen; splits = 1; joins = 0; tickets = [] }

abbrev sender : SenderView
sender = record { since = 0 ∷ []; tickets = ticket name 0 ∷ [] }

abbrev views_at : ℕ → Option Var → List View
views_at count seen = Loop (loop_at count seen) ∷ Sender sender ∷ []

abbrev state_at : ℕ → ℕ → Option Var → State ℕ View
state_at count word seen = record { words = 0 ∷ word ∷ []; homes = []; views = views_at count seen }

one_loop : (count : ℕ) (seen : Option Var) (seat : ℕ) (l : LoopView) → get_elem? (views_at count seen) seat ≡ some (Loop l) → seat ≡ 0
one_loop count seen each l e = grind arith

since_0 : (count : ℕ) (seen : Option Var) (seat : ℕ) (s : SenderView) → get_elem? (views_at count seen) seat ≡ some (Sender s)
    → get_or s.since 0 0 ≤ count
since_0 count seen each s e = grind arith

has_first : (count : ℕ) (seen : Option Var) → Has (views_at count seen) (ticket name 0)
has_first count seen = (1, Sender sender, refl, (0, lit< tt, refl))

kept_at : (count word : ℕ) (seen : Option Var) → NameKept (views_at count seen) seen name count word → Kept 1 (state_at count word seen)
kept_at count word seen ok = record {
  loop = loop_at count seen;
  first = refl;
  alone = one_loop count seen;
  wide = refl;
  further = refl;
  counted = refl;
  each = grind arith;
  senders = refl;
}

-- the send stands in the word, and the loop has seen it
asked : Kept 1 (state_at 0 1 (Some name))
asked = grind (arith, kept_at, has_first, since_0)
