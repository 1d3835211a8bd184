-- A list is walked from its front.
use Rattle.uv_stands.proofs.ProofNames.{◌≡◌, ℕ, List, [], ◌∷◌, ◌++◌, map, Option, Some, None, IfSome, sym, ap, ◌∙◌, map-append, append_assoc, Id, ListName, first, slot_of, IsListed, id_in, listed_id, Content}
use Rattle.uv_arena.specs.Image.{Image, members}

-- these were walked, and this one is next
pub record IsWalked (i : Image Content) (list : ListName) (ids : List Id) (next : Option Id) : Type 0 where
  pub walked : List ℕ
  pub rest : List ℕ
  pub is : members i list ≡ walked ++ rest
  pub ids_are : ids ≡ map (id_in i) walked
  pub next_is : slot_of next ≡ first rest None
  pub listed : IfSome next (λ d. IsListed i d)

pub begins_with : (rest : List ℕ) (x : ℕ) → Some x ≡ first rest None → (rs : List ℕ) × (rest ≡ x ∷ rs)
begins_with [] x e = cc
begins_with (y ∷ ys) x e = let same : y ≡ x = cc e in (ys, λ l. same l ∷ ys)

module _ (i : Image Content) (list : ListName) where
  pub walk_goes : (ids more : List Id) (d : Id) (next : Option Id) → more ≡ ids ++ d ∷ [] → IsWalked i list ids (Some d)
      → ((l : ListName) (us vs : List ℕ) → members i l ≡ us ++ d.slot ∷ vs → slot_of next ≡ first vs None) → IfSome next (λ e. IsListed i e)
      → IsWalked i list more next
  walk_goes ids more d next longer w after listed =
      let at = begins_with w.rest d.slot w.next_is in
      let apart : members i list ≡ w.walked ++ d.slot ∷ at.0 = w.is ∙ ap (λ r. w.walked ++ r) at.1 in
      record {
        walked = w.walked ++ d.slot ∷ [];
        rest = at.0;
        is = apart ∙ sym (append_assoc w.walked (d.slot ∷ []) at.0);
        ids_are = longer ∙ ap (λ xs. xs ++ d ∷ []) w.ids_are
            ∙ ap (λ e. map (id_in i) w.walked ++ e ∷ []) (sym (listed_id i d w.listed.held))
            ∙ sym (map-append (id_in i) w.walked (d.slot ∷ []));
        next_is = after list w.walked at.0 apart;
        listed = listed;
      }
