-- Two lists change places.
use Rattle.uv_arena.proofs.ProofNames.{◌≡◌, ◌<◌, [], length, refl, sym, ap, ◌∙◌, subst, ListName, number, Image, chain, members, IsSound, spliced, splice_undone, IsSpliced}
use Rattle.uv_arena.specs.declared.undo.SpliceUndo.{SpliceUndo}
use Rattle.uv_arena.proofs.Names.{number_apart, number_below, swapped_names, swap_twice, names_swapped}

module _ {X : Type 0} where
  pub spliced_sound : (v : Image X) → IsSound v → (a b : ListName) → IsSound (spliced a b v)
  spliced_sound v s a b = record {
    linked = s.linked;
    fit = s.fit;
    names =
        names_swapped v.names s.names (number a) (number b) (number_below a) (number_below b);
    last = s.last;
  }

  pub splices : (v : Image X) → IsSound v → (a b : ListName) → members v b ≡ [] → IsSpliced v (spliced a b v) a b (record { from = a; to = b })
  splices v s a b empty =
      let la : number a < length v.names = subst (λ n. number a < n) (sym s.names.all) (number_below a) in
      let lb : number b < length v.names = subst (λ n. number b < n) (sym s.names.all) (number_below b) in
      let all = swapped_names v.names (number a) (number b) la lb in
      let u : SpliceUndo = record { from = a; to = b } in
      let back : splice_undone u (spliced a b v) ≡ v = ap (λ ns. record {
        memory = v.memory;
        names = ns;
        last =
            v.last;
      }) (swap_twice v.names (number a) (number b) la lb) in
      record {
        moved = ap (chain v.memory) all.1;
        rest = λ n. ap (chain v.memory) all.0 ∙ empty;
        others = λ l na nb. ap (chain v.memory) (all.2 (number l) (λ e. na (number_apart l a e)) (λ e. nb (number_apart l b e)));
        slots = record { plain = refl; contents = λ e. refl };
        kept = λ e. refl;
        undone = back;
        can_undo = subst IsSound (sym back) s;
      }
