-- What holds of one name, through each kind of step.
use Rattle.uv_wake.proofs.ProofNames.{◌≡◌, ◌≢◌, ◌⊎◌, ℕ, ◌+◌, ◌*◌, ◌/◌, ◌%◌, ◌^◌, ◌≤◌, List, sym, refl, ap, ◌∙◌, subst, inl, inr, ⊎_elim, arith, Option, Some, None, dite, ℕ_discrete, bit_and, bit_or, Var, Ticket, View, ticket, State, count_of, Has, IsWord, NameKept, NoneIsAhead, Kept, EachStands}
use Rattle.std.proofs.lemmas.Nat.{or_shifted, or_block, or_disjoint, and_le_r}

or_even : (e : ℕ) → bit_or (2 * e) 1 ≡ 2 * e + 1
or_even e = let h : bit_or (e * 2 ^ 1) 1 ≡ e * 2 ^ 1 + 1 = or_shifted e 1 1 (omega arith) in let swap : 2 * e ≡ e * 2 ^ 1 = omega arith in rw swap h

or_odd : (e : ℕ) → bit_or (2 * e + 1) 1 ≡ 2 * e + 1
or_odd e = let h : bit_or (e * 2 ^ 1 + 1) (0 * 2 ^ 1 + 1) ≡ bit_or e 0 * 2 ^ 1 + bit_or 1 1 = or_block 1 e 0 1 1 (omega arith) (omega arith) in
    let z : bit_and e 0 ≤ 0 = and_le_r e 0 in let same : bit_or e 0 ≡ e + 0 = or_disjoint e 0 (omega arith) in
    let swap : 2 * e ≡ e * 2 ^ 1 = omega arith in rw swap (h ∙ (λ i. same i * 2 ^ 1 + bit_or 1 1) ∙ omega arith)

-- the word after a send is odd, whatever it was, and the ticket's epoch is the count
pub or_one : (count word : ℕ) → IsWord count word → (bit_or word 1 ≡ 2 * count + 1) × (word / 2 ≡ count)
or_one count word h = ⊎_elim (λ (e : word ≡ 2 * count). (ap (λ (n : ℕ). bit_or n 1) e ∙ or_even count, omega arith))
    (λ (e : word ≡ 2 * count + 1). (ap (λ (n : ℕ). bit_or n 1) e ∙ or_odd count, omega arith)) h

pub odd_word : (count word : ℕ) → IsWord count word → word % 2 ≢ 0 → word ≡ 2 * count + 1
odd_word count word h odd = ⊎_elim (λ (e : word ≡ 2 * count). absurd (odd (omega arith))) (λ (e : word ≡ 2 * count + 1). e) h

-- a ticket was carried, or it stands in the word
pub each_stands : (names : ℕ) (s : State ℕ View) (kept : Kept names s) → EachStands names s kept
each_stands names s kept t small h =
    let p = (kept.each t.var small).is_past t refl h in
    let early = p.0 in
    dite (ℕ_discrete t.epoch (count_of kept.loop t.var)) (λ e. let odd = p.1 e in inr (omega arith)) (λ n. inl (omega arith))

-- a name whose word the step does not touch
pub stays : (views views' : List View) (seen seen' : Option Var) (name : Var) (count word : ℕ)
    → ((t : Ticket) → t.var ≡ name → Has views t → Has views' t) → ((t : Ticket) → t.var ≡ name → Has views' t → Has views t)
    → (seen' ≡ Some name → word ≡ 2 * count + 1) → NoneIsAhead views' name count → NameKept views seen name count word
    → NameKept views' seen' name count word
stays views views' seen seen' name count word more less mark ahead ok = record {
  is_word = ok.is_word;
  is_past = λ t is h. ok.is_past t is (less t is h);
  is_asked = λ odd. more (ticket name count) refl (ok.is_asked odd);
  was_asked = λ e lt. more (ticket name e) refl (ok.was_asked e lt);
  is_seen = mark;
  is_ahead = ahead;
}

-- the name that is sent
pub sent_name : (views views' : List View) (seen : Option Var) (name : Var) (count word : ℕ)
    → ((t : Ticket) → Has views t → Has views' t) → Has views' (ticket name count)
    → ((t : Ticket) → Has views' t → (t ≡ ticket name count) ⊎ Has views t)
    → NoneIsAhead views' name count → NameKept views seen name count word → NameKept views' seen name count (bit_or word 1)
sent_name views views' seen name count word more new less ahead ok = let odd = (or_one count word ok.is_word).0 in record {
  is_word = inr odd;
  is_past = λ t is h. ⊎_elim
      (λ (e : t ≡ ticket name count). let same : t.epoch ≡ count = ap (λ x. x.epoch) e in (omega arith, λ _. odd))
      (λ (old : Has views t). let p = ok.is_past t is old in (p.0, λ _. odd)) (less t h);
  is_asked = λ _. new;
  was_asked = λ e lt. more (ticket name e) (ok.was_asked e lt);
  is_seen = λ _. odd;
  is_ahead = ahead;
}

-- the name that is absorbed
pub absorbed_name : (views views' : List View) (seen : Option Var) (name : Var) (count word : ℕ)
    → ((t : Ticket) → Has views t → Has views' t) → ((t : Ticket) → Has views' t → Has views t)
    → word ≡ 2 * count + 1 → NoneIsAhead views' name (count + 1) → NameKept views seen name count word
    → NameKept views' None name (count + 1) (word + 1)
absorbed_name views views' seen name count word more less odd ahead ok = record {
  is_word = inl (omega arith);
  is_past = λ t is h. let p = (ok.is_past t is (less t h)).0 in (omega arith, λ e. absurd (omega arith));
  is_asked = λ e. absurd (omega arith);
  was_asked = λ e lt. dite (ℕ_discrete e count)
      (λ same. more (ticket name e) (subst (λ (n : ℕ). Has views (ticket name n)) (sym same) (ok.is_asked odd)))
      (λ other. more (ticket name e) (ok.was_asked e (omega arith)));
  is_seen = λ e. absurd (cc);
  is_ahead = ahead;
}
