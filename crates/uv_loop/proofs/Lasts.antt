-- No step and no undo changes how many slots the arena may have, and at which generation it retires one.
use Rattle.uv_loop.proofs.Names.{◌≡◌, ℕ, List, [], ◌∷◌, Option, Some, None, refl, ◌∙◌, cond_both, InsertUndo, RemoveUndo, insert_undone, remove_undone, Request, reopened_by, Place, Content, Asked, Record, request_of, Image, Part, undo, unwind_parts, parts, unwound}
use Rattle.uv_arena.specs.Image as arena
use Rattle.uv_requests.specs.Working as work
use Rattle.uv_memory.specs.Parts as part

-- the last generation, and how many slots there may be
abbrev pub limits : arena.Image Content → ℕ × ℕ
limits i = (i.last, i.memory.row.capacity)

inserted_limits : (u : InsertUndo) (i : arena.Image Content) → limits (insert_undone u i) ≡ limits i
inserted_limits u i = cond_both u.fresh _ _ (λ (z : arena.Image Content). limits z ≡ limits i) (λ e. refl) (λ e. refl)

removed_limits : (u : RemoveUndo) (v : Content) (i : arena.Image Content) → limits (remove_undone u v i) ≡ limits i
removed_limits u v i = cond_both u.retired _ _ (λ (z : arena.Image Content). limits z ≡ limits i) (λ e. refl) (λ e. refl)

reopened_limits : (o : Option Request) (x : ℕ) (i : arena.Image Content) → limits (reopened_by Asked o x i) ≡ limits i
reopened_limits None x i = refl
reopened_limits (Some r) x i = refl

undo_limits : (x : Part Place) (i : Image Place) → limits (undo x i).arena ≡ limits i.arena
undo_limits (part.Stood place) i = refl
undo_limits (part.Bound v id) i = refl
undo_limits (part.Called v which n) i = refl
undo_limits (part.Time n) i = refl
undo_limits (part.Clock n) i = refl
undo_limits (part.Start n) i = refl
undo_limits (part.Stop b) i = refl
undo_limits (part.Idled b) i = refl
undo_limits (part.Active n) i = refl
undo_limits (part.Open n) i = refl
undo_limits (part.Ran k id) i = refl
undo_limits (part.Held x v) i = refl
undo_limits (part.WasOpen d) i = reopened_limits (work.request_in request_of i.arena d) d.slot i.arena
undo_limits (part.Taken u) i = inserted_limits u i.arena
undo_limits (part.Freed u v) i = removed_limits u v i.arena
undo_limits (part.PutOn x) i = refl
undo_limits (part.TakenOff t) i = refl
undo_limits (part.Moved u) i = refl
undo_limits (part.Passed kind) i = refl
undo_limits (part.Pushed n) i = refl
undo_limits (part.Removed u) i = refl

parts_limits : (ps : List (Part Place)) (i : Image Place) → limits (unwind_parts ps i).arena ≡ limits i.arena
parts_limits [] i = refl
parts_limits (p ∷ ps) i = undo_limits p (unwind_parts ps i) ∙ parts_limits ps i

-- unwinding records keeps it
pub unwound_limits : (rs : List (Record Place)) (i : Image Place) → limits (unwound rs i).arena ≡ limits i.arena
unwound_limits [] i = refl
unwound_limits (r ∷ rs) i = parts_limits (parts r) (unwound rs i) ∙ unwound_limits rs i
