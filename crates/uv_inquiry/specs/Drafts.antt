-- What the lines behind `begin` have said so far.
use Rattle.std.specs.Prelude.{◌≡◌, ◌≢◌, ℕ, ◌<◌, Bool, true, false, List, [], ◌∷◌, ◌++◌, length, Option, Some, None, option_map, unwrap_or, ◌⊎◌}
use Rattle.std.specs.List.{AllByRecursion}
use Rattle.uv_asking.specs.declared.asking.Offered.{Offered}
use Rattle.uv_asking.specs.declared.asking.Offer.TheVariants.{Wait}
use Rattle.uv_asking.specs.declared.asking.Recorded as came
use Rattle.uv_asking.specs.declared.asking.Takes as asking
use Rattle.uv_asking.specs.declared.asking.Most.{Most}
use Rattle.uv_asking.specs.declared.asking.Question.{Question}
use Rattle.uv_asking.specs.declared.asking.Question.TheVariants.{Late}
use Rattle.uv_asking.specs.declared.part.Part.{Part}
use Rattle.uv_asking.specs.declared.part.Part.TheVariants.{Offers, Differ, Recorded, Takes, Clock, Calls, States, Full, Finds, Latest}
use Rattle.uv_asking.specs.Asked.{Asked}
use Rattle.uv_asking.specs.Limits.{MOST_OFFERS, DEFAULT_STATES}

pub record Draft : Type 0 where
  pub offers : List Offered
  pub differ : Option ℕ
  pub recorded : List came.Recorded
  pub takes : List asking.Takes
  pub clock : Option ℕ
  pub most : List Most
  pub states : Option ℕ
  pub full : Bool
  pub question : Option Question
  pub greatest : Bool

-- before the first line
abbrev pub unsaid : Draft
unsaid = record {
  offers = [];
  differ = None;
  recorded = [];
  takes = [];
  clock = None;
  most = [];
  states = None;
  full = false;
  question = None;
  greatest = false;
}

-- nothing is said twice: no offer, no time of a callback, no bound, and no second question. And there is room for one more offer. What came in a
-- recording is said behind `may differ`, and beside that nothing else may come, but that the clock goes on where the loop waits
abbrev pub IsNew : Draft → Part → Type 0
IsNew d (Offers o) = (length d.offers < MOST_OFFERS) × AllByRecursion (λ (p : Offered). p.offer ≢ o.offer) d.offers
    × ((d.differ ≡ None) ⊎ (o.offer ≡ Wait))
IsNew d (Differ k) = (d.differ ≡ None) × AllByRecursion (λ (p : Offered). p.offer ≡ Wait) d.offers
IsNew d (Recorded e) = (k : ℕ) × (d.differ ≡ Some k)
IsNew d (Takes t) = AllByRecursion (λ (u : asking.Takes). (u.name ≡ t.name) × (u.call ≡ t.call) → ⊥) d.takes
IsNew d (Clock ms) = d.clock ≡ None
IsNew d (Calls m) = AllByRecursion (λ (n : Most). n.name ≢ m.name) d.most
IsNew d (States n) = d.states ≡ None
IsNew d Full = d.full ≡ false
IsNew d (Finds q) = d.question ≡ None
IsNew d (Latest v) = d.question ≡ None

-- with what one more line says
abbrev pub with_part : Draft → Part → Draft
with_part d (Offers o) = record d { offers = d.offers ++ o ∷ [] }
with_part d (Differ k) = record d { differ = Some k }
with_part d (Recorded e) = record d { recorded = d.recorded ++ e ∷ [] }
with_part d (Takes t) = record d { takes = d.takes ++ t ∷ [] }
with_part d (Clock ms) = record d { clock = Some ms }
with_part d (Calls m) = record d { most = d.most ++ m ∷ [] }
with_part d (States n) = record d { states = Some n }
with_part d Full = record d { full = true }
with_part d (Finds q) = record d { question = Some q }
-- how late at all, and the greatest number of ms is looked for
with_part d (Latest v) = record d { question = Some (Late v 0); greatest = true }

-- what is asked by that, with its question
abbrev pub asked_by : Draft → Question → Asked
asked_by d q = record {
  offers = d.offers;
  differ = d.differ;
  recorded = d.recorded;
  takes = d.takes;
  clock = d.clock;
  most = d.most;
  states = unwrap_or d.states DEFAULT_STATES;
  full = d.full;
  question = q;
  greatest = d.greatest;
}

-- and whether it has one
abbrev pub finished : Draft → Option Asked
finished d = option_map (asked_by d) d.question
