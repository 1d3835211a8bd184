-- The piece of an index, as the code finds it.
use Rattle.uv_raw.proofs.Names.{◌≡◌, ℕ, ◌+◌, ◌*◌, ◌/◌, ◌%◌, ◌-◌, ◌<◌, ◌≤◌, List, [], ◌∷◌, ◌++◌, length, set, get_or, slice_get, Some, sym, ap, ◌∙◌, subst, arith, length-append, length-set, slice_get-get_or, slice_get_within, Row, flat, IsLaid, pieced_of, IsPieced}
use Rattle.uv_raw.specs.Row.{row}
use Rattle.uv_raw.specs.Pieced.{Pieced}
use Rattle.uv_raw.specs.declared.pieces.Pieces.TheInside.{Inside}
use Rattle.uv_raw.proofs.Laying.{piece_of, in_piece, set_laid, some_at, flat_laid, next_piece, next_place, push_laid, grown_laid, all_laid, last_split, last_place, pop_laid}

parts : (i : ℕ) → i ≡ (i / 1024) * 1024 + i % 1024
parts i = omega arith

rest : (i : ℕ) → i % 1024 < 1024
rest i = omega arith

module _ {X : Type 0} (p : Inside X) (v : Pieced X) (is : pieced_of p ≡ v) (h : IsPieced p) where
  abbrev items : List X
  items = flat p.pieces.items

  -- ---- the piece of an item that is there

  module _ (i : ℕ) (below : i < length v.row.items) where
    lt : i < length items
    lt = subst (λ (z : Pieced X). i < length z.row.items) (sym is) below

    within : i / 1024 < length p.pieces.items
    within = piece_of 1024 p.pieces.items items h.laid (i / 1024) (i % 1024) i (parts i) (rest i) lt

    pub within_table : i / 1024 < p.pieces.len
    within_table = subst (λ n. i / 1024 < n) (sym p.pieces.ok.0) within

    module _ (r : Row X) (e : r ≡ get_or p.pieces.items (i / 1024) r) where
      found : slice_get p.pieces.items (i / 1024) ≡ Some r
      found = slice_get-get_or p.pieces.items (i / 1024) r within ∙ ap Some (sym e)

      in_row : slice_get r.items (i % 1024) ≡ slice_get items i
      in_row = in_piece 1024 p.pieces.items items h.laid (i / 1024) (i % 1024) i r (parts i) (rest i) found

      pub within_piece : i % 1024 < length r.items
      within_piece = let x = some_at items i lt in slice_get_within r.items (i % 1024) x.0 (in_row ∙ x.1)

      pub there : slice_get v.row.items i ≡ slice_get r.items (i % 1024)
      there = ap (λ (z : Pieced X). slice_get z.row.items i) (sym is) ∙ sym in_row

      module _ (x : X) (s : Row X) (set_to : s ≡ row (set r.items (i % 1024) x) r.capacity) where
        laid_set : IsLaid 1024 (set p.pieces.items (i / 1024) s) (set items i x)
        laid_set = subst (λ z. IsLaid 1024 (set p.pieces.items (i / 1024) z) (set items i x)) (sym set_to)
            (set_laid 1024 p.pieces.items items h.laid (i / 1024) (i % 1024) i r x (parts i) (rest i) found)

        flat_set : flat (set p.pieces.items (i / 1024) s) ≡ set items i x
        flat_set = flat_laid 1024 (set p.pieces.items (i / 1024) s) (set items i x) laid_set

        pub after_set : IsLaid 1024 (set p.pieces.items (i / 1024) s) (flat (set p.pieces.items (i / 1024) s))
        after_set = subst (IsLaid 1024 (set p.pieces.items (i / 1024) s)) (sym flat_set) laid_set

        pub size_set : p.len ≡ length (flat (set p.pieces.items (i / 1024) s))
        size_set = h.size ∙ sym (ap length flat_set ∙ length-set items i x)

        pub row_set : row (flat (set p.pieces.items (i / 1024) s)) p.capacity ≡ row (set v.row.items i x) v.row.capacity
        row_set = ap (λ l. row l p.capacity) flat_set ∙ ap (λ (z : Pieced X). row (set z.row.items i x) z.row.capacity) is

  -- ---- the piece of the next item, which is there

  module _ (more : length v.row.items < v.room) where
    room : length items < 1024 * length p.pieces.items
    room = subst (λ (z : Pieced X). length z.row.items < z.room) (sym is) more

    len_parts : length items ≡ (p.len / 1024) * 1024 + p.len % 1024
    len_parts = sym h.size ∙ parts p.len

    next_within : p.len / 1024 < length p.pieces.items
    next_within = next_piece 1024 p.pieces.items items h.laid (p.len / 1024) (p.len % 1024) len_parts (rest p.len) (omega (arith, room))

    pub next_within_table : p.len / 1024 < p.pieces.len
    next_within_table = subst (λ k. p.len / 1024 < k) (sym p.pieces.ok.0) next_within

    module _ (r : Row X) (e : r ≡ get_or p.pieces.items (p.len / 1024) r) where
      at_next : slice_get p.pieces.items (p.len / 1024) ≡ Some r
      at_next = slice_get-get_or p.pieces.items (p.len / 1024) r next_within ∙ ap Some (sym e)

      pub has_place : length r.items < r.capacity
      has_place = let on = next_place 1024 p.pieces.items items h.laid (p.len / 1024) (p.len % 1024) r len_parts (rest p.len) at_next in
          let short = rest p.len in omega (arith, on.0, on.1, short)

      module _ (x : X) (s : Row X) (pushed : s ≡ row (r.items ++ x ∷ []) r.capacity) where
        laid_pushed : IsLaid 1024 (set p.pieces.items (p.len / 1024) s) (items ++ x ∷ [])
        laid_pushed = subst (λ z. IsLaid 1024 (set p.pieces.items (p.len / 1024) z) (items ++ x ∷ [])) (sym pushed)
            (push_laid 1024 p.pieces.items items h.laid (p.len / 1024) (p.len % 1024) r x len_parts (rest p.len) at_next)

        flat_pushed : flat (set p.pieces.items (p.len / 1024) s) ≡ items ++ x ∷ []
        flat_pushed = flat_laid 1024 (set p.pieces.items (p.len / 1024) s) (items ++ x ∷ []) laid_pushed

        pub after_push : IsLaid 1024 (set p.pieces.items (p.len / 1024) s) (flat (set p.pieces.items (p.len / 1024) s))
        after_push = subst (IsLaid 1024 (set p.pieces.items (p.len / 1024) s)) (sym flat_pushed) laid_pushed

        pub size_pushed : p.len + 1 ≡ length (flat (set p.pieces.items (p.len / 1024) s))
        size_pushed = let size = h.size in let long = ap length flat_pushed in
            let app = length-append items (x ∷ []) in omega (arith, size, long, app)

        pub row_pushed : row (flat (set p.pieces.items (p.len / 1024) s)) p.capacity ≡ row (v.row.items ++ x ∷ []) v.row.capacity
        row_pushed = ap (λ l. row l p.capacity) flat_pushed ∙ ap (λ (z : Pieced X). row (z.row.items ++ x ∷ []) z.row.capacity) is

  pub fits_more : length v.row.items < v.row.capacity → p.len + 1 ≤ p.capacity
  fits_more lt =
      let within : length items < p.capacity = subst (λ (z : Pieced X). length z.row.items < z.row.capacity) (sym is) lt in
      let size = h.size in omega (arith, within, size)

  -- ---- the piece of the last item

  module _ (any : 0 < length v.row.items) where
    some : 0 < length items
    some = subst (λ (z : Pieced X). 0 < length z.row.items) (sym is) any

    abbrev at : ℕ
    at = p.len - 1

    split : (ys : List X) × (y : X) × (items ≡ ys ++ y ∷ [])
    split = last_split items some

    laid_split : IsLaid 1024 p.pieces.items (split.0 ++ split.1 ∷ [])
    laid_split = subst (IsLaid 1024 p.pieces.items) split.2 h.laid

    front_long : length split.0 ≡ at
    front_long = let long = ap length split.2 in let app = length-append split.0 (split.1 ∷ []) in let size = h.size in omega (arith, long, app, size)

    at_below : at < length v.row.items
    at_below = let size = h.size in let same = ap (λ (z : Pieced X). length z.row.items) is in omega (arith, size, some, same)

    pub last_within_table : at / 1024 < p.pieces.len
    last_within_table = within_table at at_below

    module _ (r : Row X) (e : r ≡ get_or p.pieces.items (at / 1024) r) where
      at_last : slice_get p.pieces.items (at / 1024) ≡ Some r
      at_last = slice_get-get_or p.pieces.items (at / 1024) r (within at at_below) ∙ ap Some (sym e)

      pub some_there : 0 < length r.items
      some_there = last_place 1024 p.pieces.items split.0 split.1 laid_split (at / 1024) (at % 1024) r (front_long ∙ parts at) (rest at) at_last

      module _ (x : X) (s : Row X) (took : r.items ≡ s.items ++ x ∷ []) (same : s.capacity ≡ r.capacity) where
        popped : IsLaid 1024 (set p.pieces.items (at / 1024) s) split.0 × (split.1 ≡ x)
        popped = pop_laid 1024 p.pieces.items split.0 split.1 x laid_split (at / 1024) (at % 1024) r s
            (front_long ∙ parts at) (rest at) at_last took same

        flat_front : flat (set p.pieces.items (at / 1024) s) ≡ split.0
        flat_front = flat_laid 1024 (set p.pieces.items (at / 1024) s) split.0 popped.0

        pub after_pop : IsLaid 1024 (set p.pieces.items (at / 1024) s) (flat (set p.pieces.items (at / 1024) s))
        after_pop = subst (IsLaid 1024 (set p.pieces.items (at / 1024) s)) (sym flat_front) popped.0

        pub size_popped : at ≡ length (flat (set p.pieces.items (at / 1024) s))
        size_popped = sym front_long ∙ ap length (sym flat_front)

        pub items_popped : v.row.items ≡ flat (set p.pieces.items (at / 1024) s) ++ x ∷ []
        items_popped = ap (λ (z : Pieced X). z.row.items) (sym is) ∙ split.2 ∙ (λ l. sym flat_front l ++ popped.1 l ∷ [])

  -- ---- a piece more

  module _ (rs : List (Row X)) (added : rs ≡ p.pieces.items ++ row [] 1024 ∷ []) where
    laid_added : IsLaid 1024 rs items
    laid_added = subst (λ z. IsLaid 1024 z items) (sym added) (grown_laid 1024 p.pieces.items items h.laid)

    flat_added : flat rs ≡ items
    flat_added = flat_laid 1024 rs items laid_added

    pub after_add : IsLaid 1024 rs (flat rs)
    after_add = subst (IsLaid 1024 rs) (sym flat_added) laid_added

    pub size_added : p.len ≡ length (flat rs)
    size_added = h.size ∙ ap length (sym flat_added)

    pub row_added : row (flat rs) p.capacity ≡ v.row
    row_added = ap (λ l. row l p.capacity) flat_added ∙ ap (λ (z : Pieced X). z.row) is

    -- the next item has a place now
    pub there_added : length (flat rs) < 1024 * length rs
    there_added =
        let fit = all_laid 1024 p.pieces.items items h.laid in let long = ap length flat_added in
        let more = ap length added ∙ length-append p.pieces.items (row [] 1024 ∷ []) in omega (arith, fit, long, more)
