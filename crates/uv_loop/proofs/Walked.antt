-- The free list is walked from its front.
use Rattle.uv_loop.proofs.Names.{◌≡◌, ℕ, zero, suc, ◌<◌, List, [], ◌∷◌, ◌++◌, map, length, slice_get, Option, Some, None, sym, ap, ◌∙◌, subst, arith, slice_get_within, length-map, append_assoc, Cell, Links, link, IsSegment, FREE, IsSound, chain, chains, links_in, links_at, segment_right, Content, begins_with}
use Rattle.uv_arena.specs.Chains.{first, last}
use Rattle.uv_arena.specs.Image.{Image}

pub by_links : (cs : List (Cell Content)) (y : ℕ) (l : Links) → slice_get (map (λ (c : Cell Content). c.links) cs) y ≡ Some l
    → links_in (slice_get cs y) ≡ l
by_links [] y l e = cc
by_links (c ∷ cs) zero l e = let same : c.links ≡ l = cc e in same
by_links (c ∷ cs) (suc y) l e = by_links cs y l e

-- these were walked, and this one is next
pub record IsFreeWalked (i : Image Content) (free : List ℕ) (next : Option ℕ) : Type 0 where
  pub rest : List ℕ
  pub is : chain i.memory FREE ≡ free ++ rest
  pub next_is : next ≡ first rest None

module _ (i : Image Content) (sound : IsSound i) (free : List ℕ) (x : ℕ) (w : IsFreeWalked i free (Some x)) where
  abbrev at : (rs : List ℕ) × (w.rest ≡ x ∷ rs)
  at = begins_with w.rest x w.next_is

  apart : chain i.memory FREE ≡ free ++ x ∷ at.0
  apart = w.is ∙ ap (λ r. free ++ r) at.1

  linked : slice_get (chains i.memory).links x ≡ Some (link FREE (last None free) (first at.0 None))
  linked =
      (segment_right (chains i.memory).links FREE None free (x ∷ at.0) None
      (subst (λ q. IsSegment (chains i.memory).links FREE None q None) apart (sound.linked.stands.lists FREE (omega arith)).segment)).0

  pub free_within : x < length i.memory.row.items
  free_within =
      let l = slice_get_within (chains i.memory).links x (link FREE (last None free) (first at.0 None)) linked in
      let same = length-map i.memory.row.items (λ (c : Cell Content). c.links) in
      omega (arith, l, same)

  pub free_goes : (more : List ℕ) (links : Links) → more ≡ free ++ x ∷ [] → links ≡ links_at i.memory x → IsFreeWalked i more links.next
  free_goes more links longer is = record {
    rest = at.0;
    is = apart ∙ sym (append_assoc free (x ∷ []) at.0) ∙ ap (λ f. f ++ at.0) (sym longer);
    next_is = ap (λ (l : Links). l.next) (is ∙ by_links i.memory.row.items x (link FREE (last None free) (first at.0 None)) linked);
  }
