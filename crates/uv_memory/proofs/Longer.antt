-- Records over rows that get longer.
use Rattle.uv_memory.proofs.Names.{◌≡◌, suc, List, [], ◌∷◌, ◌++◌, ◌+◌, length, refl, sym, ap, ◌∙◌, arith, length-append, append-nil, Record, at_place, Fits, smalls_of, mediums_of, larges_of, of_small, of_medium, of_large, records_of, Entry, Small, Medium, Large, smaller, change_of, larger, Naming, Row}
use Rattle.uv_memory.specs.declared.row.Row.TheVariants as row

pub smalls_more : (xs ys : List Row) → smalls_of (xs ++ ys) ≡ smalls_of xs + smalls_of ys
smalls_more [] ys = omega arith
smalls_more (row.Smalls ∷ xs) ys = let more = smalls_more xs ys in omega arith
smalls_more (row.Mediums ∷ xs) ys = smalls_more xs ys
smalls_more (row.Larges ∷ xs) ys = smalls_more xs ys

pub mediums_more : (xs ys : List Row) → mediums_of (xs ++ ys) ≡ mediums_of xs + mediums_of ys
mediums_more [] ys = omega arith
mediums_more (row.Smalls ∷ xs) ys = mediums_more xs ys
mediums_more (row.Mediums ∷ xs) ys = let more = mediums_more xs ys in omega arith
mediums_more (row.Larges ∷ xs) ys = mediums_more xs ys

pub larges_more : (xs ys : List Row) → larges_of (xs ++ ys) ≡ larges_of xs + larges_of ys
larges_more [] ys = omega arith
larges_more (row.Smalls ∷ xs) ys = larges_more xs ys
larges_more (row.Mediums ∷ xs) ys = larges_more xs ys
larges_more (row.Larges ∷ xs) ys = let more = larges_more xs ys in omega arith

module _ {P : Type 0} where
  -- steps more behind, with their entries behind those that are there
  pub records_more : (xs ys : List Row) (ss ts : List (Entry P Small)) (ms ns : List (Entry P Medium)) (ks ls : List (Entry P Large))
      → smalls_of xs ≡ length ss → mediums_of xs ≡ length ms → larges_of xs ≡ length ks
      → records_of (xs ++ ys) (ss ++ ts) (ms ++ ns) (ks ++ ls) ≡ records_of xs ss ms ks ++ records_of ys ts ns ls
  records_more [] ys [] ts [] ns [] ls d e f = refl
  records_more [] ys (s ∷ ss) ts ms ns ks ls d e f = cc
  records_more [] ys [] ts (m ∷ ms) ns ks ls d e f = cc
  records_more [] ys [] ts [] ns (k ∷ ks) ls d e f = cc
  records_more (row.Smalls ∷ xs) ys [] ts ms ns ks ls d e f = cc
  records_more (row.Smalls ∷ xs) ys (s ∷ ss) ts ms ns ks ls d e f =
      ap (λ rs. of_small s ∷ rs) (records_more xs ys ss ts ms ns ks ls (omega arith) e f)
  records_more (row.Mediums ∷ xs) ys ss ts [] ns ks ls d e f = cc
  records_more (row.Mediums ∷ xs) ys ss ts (m ∷ ms) ns ks ls d e f =
      ap (λ rs. of_medium m ∷ rs) (records_more xs ys ss ts ms ns ks ls d (omega arith) f)
  records_more (row.Larges ∷ xs) ys ss ts ms ns [] ls d e f = cc
  records_more (row.Larges ∷ xs) ys ss ts ms ns (k ∷ ks) ls d e f =
      ap (λ rs. of_large k ∷ rs) (records_more xs ys ss ts ms ns ks ls d e (omega arith))

  -- there are as many as there are steps
  pub as_many : (xs : List Row) (ss : List (Entry P Small)) (ms : List (Entry P Medium)) (ks : List (Entry P Large))
      → smalls_of xs ≡ length ss → mediums_of xs ≡ length ms → larges_of xs ≡ length ks → length (records_of xs ss ms ks) ≡ length xs
  as_many [] ss ms ks d e f = refl
  as_many (row.Smalls ∷ xs) [] ms ks d e f = cc
  as_many (row.Smalls ∷ xs) (s ∷ ss) ms ks d e f = ap suc (as_many xs ss ms ks (omega arith) e f)
  as_many (row.Mediums ∷ xs) ss [] ks d e f = cc
  as_many (row.Mediums ∷ xs) ss (m ∷ ms) ks d e f = ap suc (as_many xs ss ms ks d (omega arith) f)
  as_many (row.Larges ∷ xs) ss ms [] d e f = cc
  as_many (row.Larges ∷ xs) ss ms (k ∷ ks) d e f = ap suc (as_many xs ss ms ks d e (omega arith))

  module _ (xs : List Row) (ss : List (Entry P Small)) (ms : List (Entry P Medium)) (ks : List (Entry P Large)) where
    -- ---- one more in each row

    pub small_more : (x : Entry P Small)
        → Fits xs ss ms ks → records_of (xs ++ row.Smalls ∷ []) (ss ++ x ∷ []) ms ks ≡ records_of xs ss ms ks ++ of_small x ∷ []
    small_more x f =
        ap (λ n. records_of (xs ++ row.Smalls ∷ []) (ss ++ x ∷ []) n ks) (sym (append-nil ms))
        ∙ ap (λ n. records_of (xs ++ row.Smalls ∷ []) (ss ++ x ∷ []) (ms ++ []) n) (sym (append-nil ks))
        ∙ records_more xs (row.Smalls ∷ []) ss (x ∷ []) ms [] ks [] f.small f.medium f.large

    pub medium_more : (x : Entry P Medium)
        → Fits xs ss ms ks → records_of (xs ++ row.Mediums ∷ []) ss (ms ++ x ∷ []) ks ≡ records_of xs ss ms ks ++ of_medium x ∷ []
    medium_more x f =
        ap (λ n. records_of (xs ++ row.Mediums ∷ []) n (ms ++ x ∷ []) ks) (sym (append-nil ss))
        ∙ ap (λ n. records_of (xs ++ row.Mediums ∷ []) (ss ++ []) (ms ++ x ∷ []) n) (sym (append-nil ks))
        ∙ records_more xs (row.Mediums ∷ []) ss [] ms (x ∷ []) ks [] f.small f.medium f.large

    pub large_more : (x : Entry P Large)
        → Fits xs ss ms ks → records_of (xs ++ row.Larges ∷ []) ss ms (ks ++ x ∷ []) ≡ records_of xs ss ms ks ++ of_large x ∷ []
    large_more x f =
        ap (λ n. records_of (xs ++ row.Larges ∷ []) n ms (ks ++ x ∷ [])) (sym (append-nil ss))
        ∙ ap (λ n. records_of (xs ++ row.Larges ∷ []) (ss ++ []) n (ks ++ x ∷ [])) (sym (append-nil ms))
        ∙ records_more xs (row.Larges ∷ []) ss [] ms [] ks (x ∷ []) f.small f.medium f.large

    -- the rows fit with one more in each, and without it
    pub small_fits : (x : Entry P Small) → Fits xs ss ms ks → Fits (xs ++ row.Smalls ∷ []) (ss ++ x ∷ []) ms ks
    small_fits x f = grind (arith, smalls_more, mediums_more, larges_more, length-append)

    pub medium_fits : (x : Entry P Medium) → Fits xs ss ms ks → Fits (xs ++ row.Mediums ∷ []) ss (ms ++ x ∷ []) ks
    medium_fits x f = grind (arith, smalls_more, mediums_more, larges_more, length-append)

    pub large_fits : (x : Entry P Large) → Fits xs ss ms ks → Fits (xs ++ row.Larges ∷ []) ss ms (ks ++ x ∷ [])
    large_fits x f = grind (arith, smalls_more, mediums_more, larges_more, length-append)

    pub small_left : (x : Entry P Small) → Fits (xs ++ row.Smalls ∷ []) (ss ++ x ∷ []) ms ks → Fits xs ss ms ks
    small_left x f = grind (arith, smalls_more, mediums_more, larges_more, length-append)

    pub medium_left : (x : Entry P Medium) → Fits (xs ++ row.Mediums ∷ []) ss (ms ++ x ∷ []) ks → Fits xs ss ms ks
    medium_left x f = grind (arith, smalls_more, mediums_more, larges_more, length-append)

    pub large_left : (x : Entry P Large) → Fits (xs ++ row.Larges ∷ []) ss ms (ks ++ x ∷ []) → Fits xs ss ms ks
    large_left x f = grind (arith, smalls_more, mediums_more, larges_more, length-append)

  -- ---- the row of smalls

  module _ (xs zs : List Row) (ss : List (Entry P Small)) (ms : List (Entry P Medium)) (ks : List (Entry P Large)) where
    pub small_pushed : (ts : List (Entry P Small)) (x : Entry P Small) → zs ≡ xs ++ row.Smalls ∷ [] → ts ≡ ss ++ x ∷ [] → Fits xs ss ms ks
        → Fits zs ts ms ks
    small_pushed ts x e f k = rw e (rw f (small_fits xs ss ms ks x k))

    pub small_popped : (ts : List (Entry P Small)) (x : Entry P Small) (y : Row) → zs ≡ xs ++ y ∷ [] → y ≡ row.Smalls → ts ≡ ss ++ x ∷ []
        → Fits zs ts ms ks → Fits xs ss ms ks
    small_popped ts x y e is f k = small_left xs ss ms ks x (rw is at (rw e at (rw f at k)))

    pub small_there : (y : Row) → zs ≡ xs ++ y ∷ [] → y ≡ row.Smalls → length ss ≡ 0 → Fits zs ss ms ks → ⊥
    small_there y e is none k =
        let n = smalls_more xs (row.Smalls ∷ []) in
        let all : smalls_of zs ≡ smalls_of (xs ++ row.Smalls ∷ []) = ap smalls_of (e ∙ ap (λ z. xs ++ z ∷ []) is) in
        omega (arith, n, all, none, k.small)

    pub small_records : (ts : List (Entry P Small)) (x : Entry P Small) (y : Row) (r : Record P) → zs ≡ xs ++ y ∷ [] → y ≡ row.Smalls
        → ts ≡ ss ++ x ∷ [] → of_small x ≡ r → Fits xs ss ms ks → records_of zs ts ms ks ≡ records_of xs ss ms ks ++ r ∷ []
    small_records ts x y r e is f same k =
        ap (λ z. records_of z ts ms ks) (e ∙ ap (λ z. xs ++ z ∷ []) is) ∙ ap
        (λ (t : List (Entry P Small)). records_of (xs ++ row.Smalls ∷ []) t ms ks) f
        ∙ small_more xs ss ms ks x k ∙ ap (λ q. records_of xs ss ms ks ++ q ∷ []) same

  -- a record and its entry, where the place is kept as this
  pub small_kept : {Q : Type 0} (q : P) (n : Naming) (c : Small) (e : Entry P Small) (r : Record Q)
      → e ≡ record { place = q; naming = n; change = c } → n ≡ r.naming → r.change ≡ smaller c → of_small e ≡ at_place q r
  small_kept q n c e r is named made = ap of_small is ∙ (λ l. record { place = q; naming = named l; change = sym made l })

  pub small_taken : {Q : Type 0} (e : Entry P Small) (r s t : Record Q) → s ≡ record r { naming = e.naming }
      → t ≡ record s { change = smaller e.change } → of_small e ≡ at_place e.place t
  small_taken {Q = Q} e r s t named made = ap (at_place e.place) (sym (made ∙ ap (λ (z : Record Q). record z { change = smaller e.change }) named))

  -- ---- the row of mediums

  module _ (xs zs : List Row) (ss : List (Entry P Small)) (ms : List (Entry P Medium)) (ks : List (Entry P Large)) where
    pub medium_pushed : (ts : List (Entry P Medium)) (x : Entry P Medium) → zs ≡ xs ++ row.Mediums ∷ [] → ts ≡ ms ++ x ∷ [] → Fits xs ss ms ks
        → Fits zs ss ts ks
    medium_pushed ts x e f k = rw e (rw f (medium_fits xs ss ms ks x k))

    pub medium_popped : (ts : List (Entry P Medium)) (x : Entry P Medium) (y : Row) → zs ≡ xs ++ y ∷ [] → y ≡ row.Mediums → ts ≡ ms ++ x ∷ []
        → Fits zs ss ts ks → Fits xs ss ms ks
    medium_popped ts x y e is f k = medium_left xs ss ms ks x (rw is at (rw e at (rw f at k)))

    pub medium_there : (y : Row) → zs ≡ xs ++ y ∷ [] → y ≡ row.Mediums → length ms ≡ 0 → Fits zs ss ms ks → ⊥
    medium_there y e is none k =
        let n = mediums_more xs (row.Mediums ∷ []) in
        let all : mediums_of zs ≡ mediums_of (xs ++ row.Mediums ∷ []) = ap mediums_of (e ∙ ap (λ z. xs ++ z ∷ []) is) in
        omega (arith, n, all, none, k.medium)

    pub medium_records : (ts : List (Entry P Medium)) (x : Entry P Medium) (y : Row) (r : Record P) → zs ≡ xs ++ y ∷ [] → y ≡ row.Mediums
        → ts ≡ ms ++ x ∷ [] → of_medium x ≡ r → Fits xs ss ms ks → records_of zs ss ts ks ≡ records_of xs ss ms ks ++ r ∷ []
    medium_records ts x y r e is f same k =
        ap (λ z. records_of z ss ts ks) (e ∙ ap (λ z. xs ++ z ∷ []) is) ∙ ap
        (λ (t : List (Entry P Medium)). records_of (xs ++ row.Mediums ∷ []) ss t ks) f
        ∙ medium_more xs ss ms ks x k ∙ ap (λ q. records_of xs ss ms ks ++ q ∷ []) same

  -- a record and its entry, where the place is kept as this
  pub medium_kept : {Q : Type 0} (q : P) (n : Naming) (c : Medium) (e : Entry P Medium) (r : Record Q)
      → e ≡ record { place = q; naming = n; change = c } → n ≡ r.naming → r.change ≡ change_of c → of_medium e ≡ at_place q r
  medium_kept q n c e r is named made = ap of_medium is ∙ (λ l. record { place = q; naming = named l; change = sym made l })

  pub medium_taken : {Q : Type 0} (e : Entry P Medium) (r s t : Record Q) → s ≡ record r { naming = e.naming }
      → t ≡ record s { change = change_of e.change } → of_medium e ≡ at_place e.place t
  medium_taken {Q = Q} e r s t named made = ap (at_place e.place) (sym (made ∙ ap (λ (z : Record Q). record z { change = change_of e.change }) named))

  -- ---- the row of larges

  module _ (xs zs : List Row) (ss : List (Entry P Small)) (ms : List (Entry P Medium)) (ks : List (Entry P Large)) where
    pub large_pushed : (ts : List (Entry P Large)) (x : Entry P Large) → zs ≡ xs ++ row.Larges ∷ [] → ts ≡ ks ++ x ∷ [] → Fits xs ss ms ks
        → Fits zs ss ms ts
    large_pushed ts x e f k = rw e (rw f (large_fits xs ss ms ks x k))

    pub large_popped : (ts : List (Entry P Large)) (x : Entry P Large) (y : Row) → zs ≡ xs ++ y ∷ [] → y ≡ row.Larges → ts ≡ ks ++ x ∷ []
        → Fits zs ss ms ts → Fits xs ss ms ks
    large_popped ts x y e is f k = large_left xs ss ms ks x (rw is at (rw e at (rw f at k)))

    pub large_there : (y : Row) → zs ≡ xs ++ y ∷ [] → y ≡ row.Larges → length ks ≡ 0 → Fits zs ss ms ks → ⊥
    large_there y e is none k =
        let n = larges_more xs (row.Larges ∷ []) in
        let all : larges_of zs ≡ larges_of (xs ++ row.Larges ∷ []) = ap larges_of (e ∙ ap (λ z. xs ++ z ∷ []) is) in
        omega (arith, n, all, none, k.large)

    pub large_records : (ts : List (Entry P Large)) (x : Entry P Large) (y : Row) (r : Record P) → zs ≡ xs ++ y ∷ [] → y ≡ row.Larges
        → ts ≡ ks ++ x ∷ [] → of_large x ≡ r → Fits xs ss ms ks → records_of zs ss ms ts ≡ records_of xs ss ms ks ++ r ∷ []
    large_records ts x y r e is f same k =
        ap (λ z. records_of z ss ms ts) (e ∙ ap (λ z. xs ++ z ∷ []) is) ∙ ap
        (λ (t : List (Entry P Large)). records_of (xs ++ row.Larges ∷ []) ss ms t) f
        ∙ large_more xs ss ms ks x k ∙ ap (λ q. records_of xs ss ms ks ++ q ∷ []) same

  -- a record and its entry, where the place is kept as this
  pub large_kept : {Q : Type 0} (q : P) (n : Naming) (c : Large) (e : Entry P Large) (r : Record Q)
      → e ≡ record { place = q; naming = n; change = c } → n ≡ r.naming → r.change ≡ larger c → of_large e ≡ at_place q r
  large_kept q n c e r is named made = ap of_large is ∙ (λ l. record { place = q; naming = named l; change = sym made l })

  pub large_taken : {Q : Type 0} (e : Entry P Large) (r s t : Record Q) → s ≡ record r { naming = e.naming }
      → t ≡ record s { change = larger e.change } → of_large e ≡ at_place e.place t
  large_taken {Q = Q} e r s t named made = ap (at_place e.place) (sym (made ∙ ap (λ (z : Record Q). record z { change = larger e.change }) named))
