-- What one write does, index by index.
use Rattle.uv_arena.proofs.ProofNames.{◌≡◌, ℕ, ◌<◌, Bool, true, false, cond, eqb, eq-eqb, List, length, set, slice_get, slice_index_or, Option, Some, None, refl, sym, ap, ◌∙◌, slice_get-get_or, Links, Ends, ChainPlace, Cell, each, is_at, none_or, new_ends, row, Memory, no_ends, with_links, with_cells, with_ends, relinked_cells}
use Rattle.uv_arena.proofs.Each.{set-as, each-each, each-same, each-agree}
use Rattle.uv_arena.proofs.Relinking.{eqb_no}

-- a write at one place, where f may depend on whether the place is meant
pub put_at : {A : Type 0} (xs : List A) (i : ℕ) (x : A) → slice_get xs i ≡ Some x → (f : Bool → A → A) → ((y : A) → f false y ≡ y)
    → set xs i (f true x) ≡ each (λ j y. f (eqb i j) y) xs
put_at xs i x at f other =
    set-as xs i x (f true x) (λ j y. f (eqb i j) y) at (ap (λ u. f u x) (eq-eqb i i refl)) (λ j y n. ap (λ u. f u y) (eqb_no i j n) ∙ other y)

pub put_ends : (es : List Ends) (i : ℕ) (f : Bool → Ends → Ends) → i < length es → ((y : Ends) → f false y ≡ y)
    → set es i (f true (slice_index_or es i no_ends)) ≡ each (λ j y. f (eqb i j) y) es
put_ends es i f lt other = put_at es i (slice_index_or es i no_ends) (slice_get-get_or es i no_ends lt) f other

no_ends_set : (es : List Ends) (f : Bool → Ends → Ends) (k : ℕ) → ((u : Bool) (y : Ends) → f u y ≡ y) → es ≡ each (λ j y. f (eqb k j) y) es
no_ends_set es f k same = sym (each-same (λ j y. f (eqb k j) y) es (λ j y e. same (eqb k j) y))

both_ends : (t : ChainPlace) (a b : Option ℕ) (u : Bool) (e : Ends)
    → let r : Ends = cond u (record { head = none_or t.before a e.head; tail = e.tail }) e in
    cond u (record { head = r.head; tail = none_or t.after b r.tail }) r
    ≡ cond u (record { head = none_or t.before a e.head; tail = none_or t.after b e.tail }) e
both_ends t a b true e = refl
both_ends t a b false e = refl

pub ends_joined : (t : ChainPlace) (a b : Option ℕ) (es : List Ends)
    → each (λ j e. cond (eqb t.list j) (record {
      head = e.head;
      tail =
          none_or t.after b e.tail;
    }) e) (each (λ j e. cond (eqb t.list j) (record { head = none_or t.before a e.head; tail = e.tail }) e) es)
    ≡ each (new_ends t a b) es
ends_joined t a b es =
    let f : ℕ → Ends → Ends = λ j e. cond (eqb t.list j) (record { head = none_or t.before a e.head; tail = e.tail }) e in
    let g : ℕ → Ends → Ends = λ j e. cond (eqb t.list j) (record { head = e.head; tail = none_or t.after b e.tail }) e in
    each-each f g es ∙ each-agree (λ j e. g j (f j e)) (new_ends t a b) es (λ j e h. both_ends t a b (eqb t.list j) e)

same_head : (o a : Option ℕ) (i : ℕ) → o ≡ Some i → (u : Bool) (e : Ends) → cond u (record { head = none_or o a e.head; tail = e.tail }) e ≡ e
same_head o a i is true e = λ k. record { head = none_or (is k) a e.head; tail = e.tail }
same_head o a i is false e = refl

same_tail : (o b : Option ℕ) (i : ℕ) → o ≡ Some i → (u : Bool) (e : Ends) → cond u (record { head = e.head; tail = none_or o b e.tail }) e ≡ e
same_tail o b i is true e = λ k. record { head = e.head; tail = none_or (is k) b e.tail }
same_tail o b i is false e = refl

head_kept : (n : ℕ) (o a : Option ℕ) (i : ℕ) (es : List Ends) → o ≡ Some i
    → es ≡ each (λ j e. cond (eqb n j) (record { head = none_or o a e.head; tail = e.tail }) e) es
head_kept n o a i es is = no_ends_set es (λ (u : Bool) (e : Ends). cond u (record {
  head = none_or o a e.head;
  tail =
      e.tail;
}) e) n (same_head o a i is)

tail_kept : (n : ℕ) (o b : Option ℕ) (i : ℕ) (es : List Ends) → o ≡ Some i
    → es ≡ each (λ j e. cond (eqb n j) (record { head = e.head; tail = none_or o b e.tail }) e) es
tail_kept n o b i es is = no_ends_set es (λ (u : Bool) (e : Ends). cond u (record {
  head = e.head;
  tail =
      none_or o b e.tail;
}) e) n (same_tail o b i is)

module _ {X : Type 0} where
  abbrev pub next_is : Option ℕ → Option ℕ → ℕ → Cell X → Cell X
  next_is o v j c = with_links (record { list = c.links.list; prev = c.links.prev; next = cond (is_at o j) v c.links.next }) c

  abbrev pub prev_is : Option ℕ → Option ℕ → ℕ → Cell X → Cell X
  prev_is o v j c = with_links (record { list = c.links.list; prev = cond (is_at o j) v c.links.prev; next = c.links.next }) c

  pub cells_joined : (t : ChainPlace) (a b : Option ℕ) (l : Links) (cs : List (Cell X))
      → each (λ j c. with_links (cond (eqb t.slot j) l c.links) c) (each (prev_is t.after b) (each (next_is t.before a) cs))
      ≡ relinked_cells t a b l cs
  cells_joined t a b l cs =
      let h : ℕ → Cell X → Cell X = λ j c. with_links (cond (eqb t.slot j) l c.links) c in
      ap (each h) (each-each (next_is t.before a) (prev_is t.after b) cs) ∙ each-each (λ j c. prev_is t.after b j (next_is t.before a j c)) h cs

  next_kept : (cs : List (Cell X)) (o v : Option ℕ) → o ≡ None → cs ≡ each (next_is o v) cs
  next_kept cs o v is = sym (each-same (next_is o v) cs (λ j c e. ap (λ z. next_is z v j c) is))

  prev_kept : (cs : List (Cell X)) (o v : Option ℕ) → o ≡ None → cs ≡ each (prev_is o v) cs
  prev_kept cs o v is = sym (each-same (prev_is o v) cs (λ j c e. ap (λ z. prev_is z v j c) is))

  -- a slot before or after a place is written, or the end of the chain where there is none
  pub before_written : (k : ℕ) (o v : Option ℕ) (m : Memory X) (at : ℕ) → o ≡ Some at
      → with_cells (next_is (Some at) v) m ≡ with_ends (λ j e. cond (eqb k j) (record {
        head = none_or o v e.head;
        tail =
            e.tail;
      }) e) (with_cells (next_is o v) m)
  before_written k o v m at is = λ i. record {
    row = row (each (next_is (sym is i) v) m.row.items) m.row.capacity;
    ends =
        head_kept k o v at m.ends is i;
  }

  pub head_written : (k : ℕ) (o v : Option ℕ) (m : Memory X) → o ≡ None
      → with_ends (λ j e. cond (eqb k j) (record { head = v; tail = e.tail }) e) m
      ≡ with_ends (λ j e. cond (eqb k j) (record { head = none_or o v e.head; tail = e.tail }) e) (with_cells (next_is o v) m)
  head_written k o v m is = λ i. record {
    row = row (next_kept m.row.items o v is i) m.row.capacity;
    ends = each (λ j e. cond (eqb k j) (record { head = none_or (sym is i) v e.head; tail = e.tail }) e) m.ends;
  }

  pub after_written : (k : ℕ) (o v : Option ℕ) (m : Memory X) (at : ℕ) → o ≡ Some at
      → with_cells (prev_is (Some at) v) m ≡ with_ends (λ j e. cond (eqb k j) (record {
        head = e.head;
        tail =
            none_or o v e.tail;
      }) e) (with_cells (prev_is o v) m)
  after_written k o v m at is = λ i. record {
    row = row (each (prev_is (sym is i) v) m.row.items) m.row.capacity;
    ends =
        tail_kept k o v at m.ends is i;
  }

  pub tail_written : (k : ℕ) (o v : Option ℕ) (m : Memory X) → o ≡ None
      → with_ends (λ j e. cond (eqb k j) (record { head = e.head; tail = v }) e) m
      ≡ with_ends (λ j e. cond (eqb k j) (record { head = e.head; tail = none_or o v e.tail }) e) (with_cells (prev_is o v) m)
  tail_written k o v m is = λ i. record {
    row = row (prev_kept m.row.items o v is i) m.row.capacity;
    ends = each (λ j e. cond (eqb k j) (record { head = e.head; tail = none_or (sym is i) v e.tail }) e) m.ends;
  }
