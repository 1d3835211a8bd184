-- What a field is.
use Rattle.uv_asking.proofs.Names.{if◌then◌else◌, ◌≡◌, ◌≢◌, ℕ, Bool, true, false, ◌==◌, ◌||◌, ◌&&◌, List, [], ◌∷◌, nat_le, Option, Some, None, option_map, codes, refl, ap, sym, ◌∙◌, option_and_then, IfSome, bytes_eq, same_Some, none-some, and_parts, cond_both, both_ways, eqb-true, eq-eqb, leb-true, le-leb, bytes_eq-Decides, Var, Event, same, code_right, code_found, phase_right, phase_found, number_of, none_left, place_of, number_of-sound, number_of-complete, Offer, Step, SendDuring, Take, Wait, WaitFor, Which, IsWithin, IsNth, IsVar, which_word, IsOffer, send, cancel, io, tick, wait, IsCame, take, finish, outside, waited, is_word, name_but_of, other_of, if_within, number_in, call_in, which_named, offer_of, came_by, came_of}
use Rattle.uv_ids.specs.declared.event.Event.TheVariants as event
use Rattle.uv_ids.specs.Words.{code_word, code_named, phase_word, phase_named}
use Rattle.uv_asking.specs.declared.asking.Which.TheVariants as which
use Rattle.uv_asking.specs.Limits.{MOST_COUNT, MOST_MS, MOST_WORKER}
use Rattle.uv_asking.proofs.Found.{Agrees}

pub ends : {A : Type 0} (x : A) (fields : List (List ℕ)) →
    Agrees (option_map (λ (end : Unit {0}). x) (none_left fields)) (λ said. (fields ≡ []) × (x ≡ said))
ends x [] = record { right = (refl, refl); found = λ said h. ap Some h.1 }
ends x (field ∷ rest) = record { right = tt; found = λ said h. cc h.0 }

pub this_word : (text field : List ℕ) → Agrees (is_word text field) (λ (is : Unit {0}). field ≡ text)
this_word text field = record {
  right = cond_both (bytes_eq field text) _ _ (λ o. IfSome o (λ (is : Unit {0}). field ≡ text)) (λ a. same _ _ a) (λ _. tt);
  found = λ is e. rw ((bytes_eq-Decides field text).1 e) refl;
}

differs : (a b : List ℕ) → bytes_eq a b ≡ false → a ≢ b
differs a b e h = both_ways _ e ((bytes_eq-Decides a b).1 h)

pub name_but_found : (names : List (List ℕ)) (this that field : List ℕ) →
    Agrees (name_but_of names this that field) (λ v. (field ≢ this) × (field ≢ that) × IsVar names field v)
name_but_found names this that field = by (bytes_eq field this) refl (bytes_eq field that) refl (place_of names field) refl where
  by : (a : Bool) → bytes_eq field this ≡ a → (b : Bool) → bytes_eq field that ≡ b → (o : Option Var) → place_of names field ≡ o →
      Agrees (if a || b then None else o) (λ v. (field ≢ this) × (field ≢ that) × IsVar names field v)
  by true e b f o g = record { right = tt; found = λ v h. absurd (h.0 (same _ _ e)) }
  by false e true f o g = record { right = tt; found = λ v h. absurd (h.1 (same _ _ f)) }
  by false e false f None g = record { right = tt; found = λ v h. sym g ∙ h.2 }
  by false e false f (Some v) g = record { right = (differs _ _ e, differs _ _ f, g); found = λ v h. sym g ∙ h.2 }

pub other_found : (names : List (List ℕ)) (v : Var) (field : List ℕ) →
    Agrees (other_of names v field) (λ w. (v.0 ≢ w.0) × IsVar names field w)
other_found names v field = by (place_of names field) refl where
  by : (o : Option Var) → place_of names field ≡ o →
      Agrees (option_and_then (λ (w : Var). if v.0 == w.0 then None else Some w) o) (λ w. (v.0 ≢ w.0) × IsVar names field w)
  by None e = record { right = tt; found = λ w h. absurd (none-some _ (sym e ∙ h.1)) }
  by (Some u) e = at (v.0 == u.0) refl where
    at : (b : Bool) → (v.0 == u.0) ≡ b → Agrees (if b then None else Some u) (λ w. (v.0 ≢ w.0) × IsVar names field w)
    at true f = record { right = tt; found = λ w h. absurd (h.0 (eqb-true _ _ f ∙ ap (λ (x : Var). x.0) (same_Some _ _ (sym e ∙ h.1)))) }
    at false f = record { right = (λ g. both_ways _ f (eq-eqb _ _ g), e); found = λ w h. sym e ∙ h.1 }

pub number_found : (low high : ℕ) (field : List ℕ) → Agrees (number_in low high field) (λ n. IsWithin low high field n)
number_found low high field = record {
  right = by (number_of field) refl;
  found =
      λ n h. ap (option_and_then (if_within low high)) (number_of-complete field n h.number)
      ∙ rw (le-leb low n h.first, le-leb n high h.last) refl;
} where
  by : (o : Option ℕ) → number_of field ≡ o → IfSome (option_and_then (if_within low high) o) (IsWithin low high field)
  by None e = tt
  by (Some n) e = cond_both (nat_le low n && nat_le n high) (Some n) None (λ o. IfSome o (IsWithin low high field))
      (λ u. let parts = and_parts _ _ u in
      record { number = number_of-sound field n e; first = leb-true low n parts.0; last = leb-true n high parts.1 }) (λ _. tt)

pub nth_found : (field : List ℕ) → Agrees (call_in field) (λ k. IsNth field k)
nth_found field = record {
  right = right field;
  found = λ k h. ap call_in h.marked ∙ (number_found 1 MOST_COUNT h.digits).found k h.within;
} where
  right : (text : List ℕ) → IfSome (call_in text) (IsNth text)
  right [] = tt
  right (b ∷ bs) = cond_both (b == 64) _ _ (λ o. IfSome o (IsNth (b ∷ bs)))
      (λ e. within b bs (eqb-true b 64 e) (number_in 1 MOST_COUNT bs) (number_found 1 MOST_COUNT bs).right) (λ _. tt)
    where
      within : (b : ℕ) (bs : List ℕ) → b ≡ 64 → (o : Option ℕ) → IfSome o (IsWithin 1 MOST_COUNT bs) → IfSome o (IsNth (b ∷ bs))
      within b bs e None h = tt
      within b bs e (Some k) h = record { digits = bs; marked = ap (λ (c : ℕ). c ∷ bs) e; within = h }

pub which_found : (field : List ℕ) → Agrees (which_named field) (λ w. field ≡ which_word w)
which_found field = record { right = right; found = λ w e. ap which_named e ∙ named w } where
  named : (w : Which) → which_named (which_word w) ≡ Some w
  named which.Any = refl
  named each = refl

  right : IfSome (which_named field) (λ w. field ≡ which_word w)
  right =
      let P : Option Which → Type 0 = λ o. IfSome o (λ w. field ≡ which_word w) in
      cond_both (bytes_eq field (codes "call")) _ _ P (λ a. same _ _ a)
      (λ _. cond_both (bytes_eq field (codes "on")) _ _ P (λ a. same _ _ a)
      (λ _. cond_both (bytes_eq field (codes "after")) _ _ P (λ a. same _ _ a)
      (λ _. cond_both (bytes_eq field (codes "closed")) _ _ P (λ a. same _ _ a) (λ _. tt))))

pub code_agrees : (field : List ℕ) → Agrees (code_named field) (λ c. field ≡ code_word c)
code_agrees field = record { right = code_right field; found = λ c e. ap code_named e ∙ code_found c }

pub section_agrees : (field : List ℕ) → Agrees (phase_named field) (λ x. field ≡ phase_word x)
section_agrees field = record { right = phase_right field; found = λ x e. ap phase_named e ∙ phase_found x }

-- what is made of what is read
mapped : {A B : Type 0} (P : A → Type 0) (Q : B → Type 0) (f : A → B) (o : Option A) → IfSome o P → ((x : A) → P x → Q (f x)) →
    IfSome (option_map f o) Q
mapped P Q f None h on = tt
mapped P Q f (Some x) h on = on x h

module _ (names : List (List ℕ)) (what argument : List ℕ) where
  named : (step : Var → Event) (word : List ℕ) → ((v : Var) → what ≡ word → IsVar names argument v → IsOffer names what argument (Step (step v))) →
      bytes_eq what word ≡ true → IfSome (option_map (λ (v : Var). Step (step v)) (place_of names argument)) (IsOffer names what argument)
  named step word is e = by (place_of names argument) refl where
    by : (o : Option Var) → place_of names argument ≡ o → IfSome (option_map (λ (v : Var). Step (step v)) o) (IsOffer names what argument)
    by None f = tt
    by (Some v) f = is v (same _ _ e) f

  lasting : {B : Type 0} (low high : ℕ) (Q : B → Type 0) (f : ℕ → B) (word : List ℕ) →
      ((n : ℕ) → what ≡ word → IsWithin low high argument n → Q (f n)) → bytes_eq what word ≡ true →
      IfSome (option_map f (number_in low high argument)) Q
  lasting low high Q f word is e =
      mapped (IsWithin low high argument) Q f (number_in low high argument) (number_found low high argument).right (λ n h. is n (same _ _ e) h)

  offer_right : IfSome (offer_of names what argument) (IsOffer names what argument)
  offer_right =
      let P : Option Offer → Type 0 = λ o. IfSome o (IsOffer names what argument) in
      cond_both (bytes_eq what (codes "send")) _ _ P (named event.Send _ send)
      (λ _. cond_both (bytes_eq what (codes "cancel")) _ _ P (named event.Cancel _ cancel)
      (λ _. cond_both (bytes_eq what (codes "io")) _ _ P (named event.Io _ io)
      (λ _. cond_both (bytes_eq what (codes "tick")) _ _ P (lasting 1 MOST_MS _ (λ ms. Step (event.Tick ms)) _ tick)
      (λ _. cond_both (bytes_eq what (codes "wait")) _ _ P (lasting 1 MOST_MS _ WaitFor _ wait) (λ _. tt)))))

  came_right : IfSome (came_of names what argument) (IsCame names what argument)
  came_right =
      let P : Option (Event × Bool) → Type 0 = λ o. IfSome o (IsCame names what argument) in
      cond_both (bytes_eq what (codes "take")) _ _ P (lasting 0 MOST_WORKER _ (λ n. (event.Take n, false)) _ take)
      (λ _. cond_both (bytes_eq what (codes "finish")) _ _ P (lasting 0 MOST_WORKER _ (λ n. (event.Finish n, false)) _ finish)
      (λ _. by (offer_of names what argument) offer_right))
    where
      by : (o : Option Offer) → IfSome o (IsOffer names what argument) → IfSome (came_by o) (IsCame names what argument)
      by None h = tt
      by (Some (Step e)) h = outside e h
      by (Some (SendDuring v w)) h = tt
      by (Some Take) h = tt
      by (Some Wait) h = tt
      by (Some (WaitFor ms)) h = waited ms h

  number_is : (low high n : ℕ) → IsWithin low high argument n → number_in low high argument ≡ Some n
  number_is low high n h = (number_found low high argument).found n h

  offer_is : (o : Offer) → IsOffer names what argument o → offer_of names what argument ≡ Some o
  offer_is o (send v w h) = ap (λ x. offer_of names x argument) w ∙ ap (option_map (λ v. Step (event.Send v))) h
  offer_is o (cancel v w h) = ap (λ x. offer_of names x argument) w ∙ ap (option_map (λ v. Step (event.Cancel v))) h
  offer_is o (io v w h) = ap (λ x. offer_of names x argument) w ∙ ap (option_map (λ v. Step (event.Io v))) h
  offer_is o (tick ms w h) = ap (λ x. offer_of names x argument) w ∙ ap (option_map (λ n. Step (event.Tick n))) (number_is 1 MOST_MS ms h)
  offer_is o (wait ms w h) = ap (λ x. offer_of names x argument) w ∙ ap (option_map (λ n. WaitFor n)) (number_is 1 MOST_MS ms h)

  -- what is offered is no word for a worker
  no_worker : (o : Offer) → IsOffer names what argument o → came_of names what argument ≡ came_by (offer_of names what argument)
  no_worker o (send v w h) = ap (λ x. came_of names x argument) w ∙ sym (ap (λ x. came_by (offer_of names x argument)) w)
  no_worker o (cancel v w h) = ap (λ x. came_of names x argument) w ∙ sym (ap (λ x. came_by (offer_of names x argument)) w)
  no_worker o (io v w h) = ap (λ x. came_of names x argument) w ∙ sym (ap (λ x. came_by (offer_of names x argument)) w)
  no_worker o (tick ms w h) = ap (λ x. came_of names x argument) w ∙ sym (ap (λ x. came_by (offer_of names x argument)) w)
  no_worker o (wait ms w h) = ap (λ x. came_of names x argument) w ∙ sym (ap (λ x. came_by (offer_of names x argument)) w)

  came_is : (e : Event × Bool) → IsCame names what argument e → came_of names what argument ≡ Some e
  came_is e (take n w h) = ap (λ x. came_of names x argument) w ∙ ap (option_map (λ n. (event.Take n, false))) (number_is 0 MOST_WORKER n h)
  came_is e (finish n w h) = ap (λ x. came_of names x argument) w ∙ ap (option_map (λ n. (event.Finish n, false))) (number_is 0 MOST_WORKER n h)
  came_is e (outside step h) = no_worker _ h ∙ ap came_by (offer_is _ h)
  came_is e (waited ms h) = no_worker _ h ∙ ap came_by (offer_is _ h)

  pub offer_found : Agrees (offer_of names what argument) (λ o. IsOffer names what argument o)
  offer_found = record { right = offer_right; found = offer_is }

  pub came_found : Agrees (came_of names what argument) (λ e. IsCame names what argument e)
  came_found = record { right = came_right; found = came_is }
