-- The order of the timers that are set (uv_timer_t): the heap is one representation of it.
use Rattle.std.specs.Prelude.{◌≡◌, Bool, true, false, ◌==◌, ◌&&◌, if◌then◌else◌, List, [], ◌∷◌, count_by}
use Rattle.std.specs.Ordering.{is_lt}
use Rattle.uv_ids.specs.Due.{due_cmp}
use Rattle.uv_heap.specs.declared.entry.Entry.{Entry}

-- whether the first entry's timer comes before the second's: it is due earlier, or was started earlier
abbrev pub is_before : Entry → Entry → Bool
is_before a b = is_lt (due_cmp a.due b.due)

-- none of the entries comes before this one
abbrev pub NoneBefore : Entry → List Entry → Type 0
NoneBefore e [] = Unit {0}
NoneBefore e (x ∷ xs) = (is_before x e ≡ false) × NoneBefore e xs

-- this one comes before each of the entries
abbrev pub IsBeforeAll : Entry → List Entry → Type 0
IsBeforeAll e [] = Unit {0}
IsBeforeAll e (x ∷ xs) = (is_before e x ≡ true) × IsBeforeAll e xs

-- no entry comes before one that stands in front of it
abbrev pub IsOrdered : List Entry → Type 0
IsOrdered [] = Unit {0}
IsOrdered (x ∷ xs) = NoneBefore x xs × IsOrdered xs

-- whether two entries are the same
abbrev pub is_same : Entry → Entry → Bool
is_same a b = a.slot == b.slot && (a.due.at == b.due.at && a.due.start == b.due.start)

-- the list has just the array's entries, each as often, and has them in order. Where no two are due alike, only one list does
pub record IsInOrder (array timers : List Entry) : Type 0 where
  pub ordered : IsOrdered timers
  pub same : (e : Entry) → count_by (is_same e) timers ≡ count_by (is_same e) array

-- an entry put into a list in order, behind those that come before it
abbrev pub inserted : Entry → List Entry → List Entry
inserted e [] = e ∷ []
inserted e (x ∷ xs) = if is_before x e then x ∷ inserted e xs else e ∷ x ∷ xs

-- an entry taken out of a list
abbrev pub without : Entry → List Entry → List Entry
without e [] = []
without e (x ∷ xs) = if is_same e x then xs else x ∷ without e xs
