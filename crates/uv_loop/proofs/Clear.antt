-- Where a section may begin, none of its list is yet to run: so the state says, and so it is in the memory.
use Rattle.uv_loop.proofs.Names.{◌≡◌, List, [], ◌∷◌, map, Option, Some, None, refl, sym, ◌∙◌, subst, ListName, id_in, Body, Place, Main, Running, Stage, State, members, IsReached, BeginsBehind, BeginsIn, BeginsAt, Image, StandsFor, IsClear, IsClearAt, IsClearIn, IsClearBehind, place_is}
use Rattle.uv_records.specs.declared.lists.ListName.TheVariants as name
use Rattle.uv_records.specs.declared.lists.WatcherKind.TheVariants as watcher
use Rattle.uv_arena.specs.Image as arena
use Rattle.uv_model.specs.declared.place.Stage.TheVariants as stage

none_mapped : {A B : Type 0} (f : A → B) (xs : List A) → [] ≡ map f xs → xs ≡ []
none_mapped f [] e = refl
none_mapped f (x ∷ xs) e = cc

module _ (i : Image Place) (s : State) (h : StandsFor i s) where
  empty : (l : ListName) → members s l ≡ [] → arena.members i.arena l ≡ []
  empty l none = none_mapped (id_in i.arena) (arena.members i.arena l) (sym none ∙ h.lists l)

  behind : (x : Stage) → BeginsBehind x s → IsClearBehind x i.arena
  behind stage.Entry e = tt
  behind stage.Pending e = empty name.IdleYet e
  behind (stage.Walking watcher.Idle) e = empty name.PrepareYet e
  behind (stage.Walking watcher.Prepare) e = tt
  behind (stage.Poll deadline) e = empty name.DoneYet e
  behind (stage.Polled woken) e = empty name.DoneYet e
  behind stage.Done e = empty name.AsyncYet e
  behind stage.DoneUnwoken e = tt
  behind (stage.Walking watcher.Async) e = empty name.CheckYet e
  behind (stage.Walking watcher.Check) e = empty name.ClosingYet e
  behind stage.Closing e = tt
  behind (stage.Timers part timing) e = tt

  inside : (b : Option Body) (x : Stage) → BeginsIn b x s → IsClearIn b x i.arena
  inside None x e = behind x e
  inside (Some b) x e = tt

  at : (p : Place) → BeginsAt p s → IsClearAt p i.arena
  at (Main line) e = tt
  at (Running run) e = inside run.body run.stage e

  pub is_clear : IsReached s → IsClear i
  is_clear r = subst (λ p. IsClearAt p i.arena) (sym (place_is h)) (at s.place r.begins)
