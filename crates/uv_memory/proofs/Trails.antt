-- One step more, and one step less.
use Rattle.uv_memory.proofs.Names.{◌≡◌, ℕ, suc, List, [], ◌∷◌, ◌++◌, length, refl, sym, ap, ◌∙◌, subst, append_assoc, Record, Image, unwind, CanUnwind, Walk, unwound, CanGoBack, AreSteps, AddEach, AddsAll}
use Rattle.std.proofs.Common.{append-nil}

module _ {P : Type 0} where
  pub unwound-push : (rs : List (Record P)) (r : Record P) (i : Image P) → unwound (rs ++ r ∷ []) i ≡ unwound rs (unwind r i)
  unwound-push [] r i = refl
  unwound-push (x ∷ rs) r i = ap (unwind x) (unwound-push rs r i)

  -- the memory before all steps stays the same
  pub begins_same : (rs : List (Record P)) (r : Record P) (i j : Image P) → unwind r j ≡ i → unwound (rs ++ r ∷ []) j ≡ unwound rs i
  begins_same rs r i j back = unwound-push rs r j ∙ ap (unwound rs) back

  pub steps_back : (room : ℕ) (i k : Image P) (rs : List (Record P)) → AreSteps room i rs k → (unwound rs k ≡ i) × CanGoBack room rs k
  steps_back room i k [] s = (s, tt)
  steps_back room i k (r ∷ rs) s =
      let rest = steps_back room s.0 k rs s.3 in
      (ap (unwind r) rest.0 ∙ s.1, (subst (CanUnwind room r) (sym rest.0) s.2, rest.1))

  -- steps one after another, from any length on
  pub adds_all : (old new : Walk P) (ws : List (Walk P)) → AddEach old ws new → AddsAll old new (length ws)
  adds_all old new [] same = record {
    added = [];
    count = refl;
    records = ap (λ (w : Walk P). w.records) same ∙ sym (append-nil old.records);
    back = ap (λ (w : Walk P). w.image) same;
  }
  adds_all old new (w ∷ ws) a =
      let rest = adds_all w new ws a.1 in
      record {
        added = a.0.added ∷ rest.added;
        count = ap suc rest.count;
        records = rest.records ∙ ap (λ (rs : List (Record P)). rs ++ rest.added) a.0.records
            ∙ append_assoc old.records (a.0.added ∷ []) rest.added;
        back = ap (unwind a.0.added) rest.back ∙ a.0.back;
      }
