-- A move that is made, and taken back.
use Rattle.uv_find.proofs.Names.{◌≡◌, ℕ, suc, ◌+◌, ◌-◌, ◌<◌, List, [], ◌∷◌, ◌++◌, length, take, reverse, Option, Some, Ok, arith, length-append, length-take, common_steps, reverse-append, Event, Seen, Outcome, STEPS, Made, Kept, Left, kept_after, Rules, Choice, taken, AreBrief, IsSearched, searched, left_before, rules_by, place_by, Stands, Makes, state_in, Shown}
use Rattle.uv_find.specs.declared.terms.Terms.{Terms}
use Rattle.uv_find.proofs.Led.{brief_more, choice_brief}
use Rattle.uv_find.specs.Steps.{Takes}

pub takes_one : (E : Type 0) (s t : Shown) (terms : Terms) (left : List Left) (kept : Kept) (made : List Made) (number : ℕ) (c : Choice)
    (outcome : Outcome) (m : Made) → left_before m.was c.left ≡ left → m.kept ≡ kept → Makes terms s left kept number c outcome.seen t
    → Takes {E = E} (searched s terms left kept made) number (Ok (Some outcome))
    (searched t terms c.left
    (kept_after terms.recorded.items terms.takes.items terms.question c.kept c.event (state_in t) outcome.seen)
    (made ++ m ∷ []))
takes_one E s t terms left kept made number c outcome m was held (k, chosen, goes) =
    let r : Rules = rules_by s.program terms in
    let turned : reverse (made ++ m ∷ []) ≡ m ∷ reverse made = reverse-append made (m ∷ []) in (
      record { event = c.event; place = taken r c (state_in t) outcome.seen; line = outcome.seen },
      (grind (arith, common_steps)),
    )

-- ---- what always holds

pub taken_searched : (B : Type 0) (s t : Shown) (terms : Terms) (left : List Left) (kept : Kept) (made : List Made) (number : ℕ)
    (c : Choice) (line : Option Seen) (m : Made) → IsSearched B s terms made → length s.standing < STEPS → Makes terms s left kept number c line t
    → IsSearched B t terms (made ++ m ∷ [])
taken_searched B s t terms left kept made number c line m i few (k, chosen, goes) =
    let r : Rules = rules_by s.program terms in
    let long : length t.standing ≡ length s.standing + 1 = rw k.standing (omega (arith, length-append {A = Event})) in
    let brief = brief_more terms.forget s.standing c.event i.brief (choice_brief r (place_by s left kept) number c i.forgets chosen) in
    grind (arith, length-append)

brief_front : (forget : Option ℕ) (n : ℕ) (es : List Event) → AreBrief forget es → AreBrief forget (take n es)
brief_front forget (suc n) (e ∷ es) h = (h.0, brief_front forget n es h.1)
brief_front forget each e2 h = assumption

pub back_searched : (B : Type 0) (s t : Shown) (terms : Terms) (made rest : List Made) (m : Made)
    → IsSearched B s terms made → made ≡ rest ++ m ∷ [] → Stands s (take (length s.standing - 1) s.standing) t
    → IsSearched B t terms rest
back_searched B s t terms made rest m i split k = grind (arith, length, length-take, length-append, brief_front)
