-- Doubly linked lists through the slots.
use Rattle.std.specs.Prelude.{◌≡◌, ℕ, zero, suc, ◌<◌, Bool, false, cond, eqb, List, [], ◌∷◌, length, Option, Some, None, slice_get}
use Rattle.uv_records.specs.declared.lists.Ends.{Ends}
pub use Rattle.uv_records.specs.Linked.{first, last, ends_of, IsIn}
use Rattle.uv_arena.specs.declared.links.TheConstants.{CHAIN_COUNT}
use Rattle.uv_arena.specs.declared.links.Links.{Links}
use Rattle.uv_arena.specs.declared.links.ChainPlace.{ChainPlace}

-- the slots' links, and the ends of each list
pub record Chains : Type 0 where
  pub links : List Links
  pub ends : List Ends

abbrev pub link : ℕ → Option ℕ → Option ℕ → Links
link k p n = record { list = Some k; prev = p; next = n }

-- the links of a slot on no list
abbrev pub loose : Links
loose = record { list = None; prev = None; next = None }

-- f at each index and what is there
abbrev pub each : {X : Type 0} → (ℕ → X → X) → List X → List X
each f [] = []
each f (x ∷ xs) = f 0 x ∷ each (λ j. f (suc j)) xs

abbrev pub is_at : Option ℕ → ℕ → Bool
is_at None j = false
is_at (Some i) j = eqb i j

abbrev pub IsApart : List ℕ → Type 0
IsApart [] = Unit {0}
IsApart (x ∷ xs) = (IsIn x xs → ⊥) × IsApart xs

-- the slots xs of list k follow one another, between p and n
abbrev pub IsSegment : List Links → ℕ → Option ℕ → List ℕ → Option ℕ → Type 0
IsSegment ls k p [] n = Unit {0}
IsSegment ls k p (x ∷ xs) n = (slice_get ls x ≡ Some (link k p (first xs n))) × IsSegment ls k (Some x) xs n

-- list k is xs, and its links agree both ways
pub record IsList (c : Chains) (k : ℕ) (xs : List ℕ) : Type 0 where
  pub segment : IsSegment c.links k None xs None
  pub apart : IsApart xs
  pub ends : slice_get c.ends k ≡ Some (ends_of xs)

-- the chains are xs, and no other slot is linked
pub record Stands (c : Chains) (xs : ℕ → List ℕ) : Type 0 where
  pub lists : (k : ℕ) → k < CHAIN_COUNT → IsList c k (xs k)
  pub listed : (y : ℕ) (m : Links) (k : ℕ) → slice_get c.links y ≡ Some m → m.list ≡ Some k → (k < CHAIN_COUNT) × IsIn y (xs k)
  pub rest : (y : ℕ) (m : Links) → slice_get c.links y ≡ Some m → m.list ≡ None → m ≡ loose

abbrev pub next_of : Option Links → Option ℕ
next_of None = None
next_of (Some m) = m.next

abbrev pub head_of : Option Ends → Option ℕ
head_of None = None
head_of (Some e) = e.head

abbrev pub tail_of : Option Ends → Option ℕ
tail_of None = None
tail_of (Some e) = e.tail

-- at most so many slots, each the next of the one before
unfoldable pub walk : List Links → ℕ → Option ℕ → List ℕ
walk ls zero o = []
walk ls (suc f) None = []
walk ls (suc f) (Some x) = x ∷ walk ls f (next_of (slice_get ls x))

-- list k, walked from its head
unfoldable pub list_of : Chains → ℕ → List ℕ
list_of c k = walk c.links (length c.links) (head_of (slice_get c.ends k))

-- what a relinking puts in: the next of the slot before, the previous of the slot after, and the slot's own links
abbrev pub new_links : ChainPlace → Option ℕ → Option ℕ → Links → ℕ → Links → Links
new_links t a b l j m = cond (eqb t.slot j) l (record {
  list = m.list;
  prev = cond (is_at t.after j) b m.prev;
  next =
      cond (is_at t.before j) a m.next;
})

-- where there is no slot before, a is the list's head; where there is none after, b is its tail
abbrev pub none_or : Option ℕ → Option ℕ → Option ℕ → Option ℕ
none_or None a old = a
none_or (Some i) a old = old

abbrev pub new_ends : ChainPlace → Option ℕ → Option ℕ → ℕ → Ends → Ends
new_ends t a b j e = cond (eqb t.list j) (record { head = none_or t.before a e.head; tail = none_or t.after b e.tail }) e

abbrev pub relinked : ChainPlace → Option ℕ → Option ℕ → Links → Chains → Chains
relinked t a b l c = record { links = each (new_links t a b l) c.links; ends = each (new_ends t a b) c.ends }

-- the slot is put in the place
abbrev pub linked : ChainPlace → Chains → Chains
linked t c = relinked t (Some t.slot) (Some t.slot) (link t.list t.before t.after) c

-- the slot is taken out of the place
abbrev pub unlinked : ChainPlace → Chains → Chains
unlinked t c = relinked t t.after t.before loose c
