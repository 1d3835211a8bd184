-- A worker takes the request that waits longest.
use Rattle.uv_loop.proofs.Names.{◌≡◌, ℕ, List, [], ◌∷◌, map, slice_get, slice_set, drop, Some, None, Ok, Err, sym, ap, ◌∙◌, subst, Id, Take, Why, Program, IsFirst, Request, TakeWorkUndo, id_in, IsTaken, RefusesTake, Place, found_or, State, with_id, front_request, Moves, Refuses, next_work, request_of, Image, Held, working_of, OnlyWork, StandsFor, Leads, MayTake, map_same, asked_there, front_there, first_one, run_there, list_same, ids_moved, pool_stands, running_is}
use Rattle.uv_ids.specs.declared.seen.Seen.TheVariants as seen
use Rattle.uv_ids.specs.declared.fault.Why.TheVariants as why
use Rattle.uv_records.specs.declared.lists.ListName.TheVariants as name
use Rattle.uv_requests.specs.Working as work
use Rattle.uv_model.specs.Content as model
use Rattle.uv_model.specs.Next.{next, take}

-- ---- what the event does

module _ (i : Image Place) (s : State) (k : ℕ) (d : Id) (r : Request) (h : StandsFor i s) (idle : slice_get i.running.workers k ≡ Some None)
    (first : IsFirst i.arena name.Waiting d) (there : work.request_in request_of i.arena d ≡ Some r) where
  abbrev left : List Id
  left = map (id_in i.arena) first.rest

  abbrev pub taken : State
  taken = record s { waiting = left; running = slice_set s.running k (Some d) }

  pub take_moves : (p : Program) → next p s (Take k) ≡ Moves taken (Some (seen.Take k r.name d))
  unfolding next
  take_moves p =
      let run : slice_get s.running k ≡ Some None = run_there i s k (Some None) h idle in
      let front : s.waiting ≡ d ∷ left = front_there i s name.Waiting d h first in
      ap (λ o. take s k (next_work s o)) run
      ∙ ap (λ ids. take s k (found_or (front_request s ids) Ok (Err why.NoWork))) front
      ∙ ap (λ o. take s k (found_or (with_id d (model.request_in o)) Ok (Err why.NoWork))) (asked_there i s d r h there)
      ∙ (λ l. Moves (record s { waiting = drop 1 (front l); running = slice_set s.running k (Some d) })
      (Some (seen.Take k r.name d)))

pub take_refused : (p : Program) (i : Image Place) (s : State) (k : ℕ) (w : Why) → StandsFor i s
    → RefusesTake request_of (working_of i) k w → next p s (Take k) ≡ Refuses w
unfolding next
take_refused p i s k why.NoWorker h e = ap (λ o. take s k (next_work s o)) (run_there i s k None h e)
take_refused p i s k why.BusyWorker h e = ap (λ o. take s k (next_work s o)) (run_there i s k (Some (Some e.0)) h e.1)
take_refused p i s k why.NoWork h e =
    let none : s.waiting ≡ [] = h.lists name.Waiting ∙ ap (map (id_in i.arena)) e.1 in
    ap (λ o. take s k (next_work s o)) (run_there i s k (Some None) h e.0)
    ∙ ap (λ ids. take s k (found_or (front_request s ids) Ok (Err why.NoWork))) none
take_refused p i s k why.Blocked h e = absurd e
take_refused p i s k why.Ended h e = absurd e
take_refused p i s k why.IdleWorker h e = absurd e
take_refused p i s k why.Range h e = absurd e

-- ---- what the memory stands for then

module _ (i j : Image Place) (k : ℕ) (d e : Id) (r : Request) (u : TakeWorkUndo) (may : MayTake i k d r)
    (c : IsTaken request_of (working_of i) (working_of j) k e u) where
  there : work.request_in request_of i.arena e ≡ Some r
  there = subst (λ z. work.request_in request_of i.arena z ≡ Some r) (sym (first_one i.arena name.Waiting d e may.first c.first)) may.request

  ids : (x : ℕ) → id_in j.arena x ≡ id_in i.arena x
  ids = ids_moved i.arena j.arena c.slots.plain

  taken_stands : (s : State) → (h : StandsFor i s)
      → StandsFor (record i { arena = j.arena; running = j.running }) (taken i s k e r h c.idle c.first there)
  taken_stands s h = pool_stands i s h j.arena j.running s.arena (map (id_in i.arena) c.first.rest) (slice_set s.running k (Some e)) s.done ids
      (λ l a b x. c.others l a)
      (sym (map_same (id_in j.arena) (id_in i.arena) ids c.first.rest) ∙ ap (map (id_in j.arena)) (sym c.waiting))
      (list_same i j.arena ids name.Done s.done.list (h.lists name.Done) (c.others name.Done (λ z. cc)))
      (list_same i j.arena ids name.DoneYet s.done.yet (h.lists name.DoneYet) (c.others name.DoneYet (λ z. cc)))
      (c.slots.plain ∙ h.slots)
      (ap (λ (z : work.Running). z.workers) c.running ∙ ap (λ rs. slice_set rs k (Some e)) (running_is h))

pub take_leads : (h w : Held Place) (k : ℕ) (d e : Id) (r : Request) (u : TakeWorkUndo) → MayTake h.image k d r
    → IsTaken request_of (working_of h.image) (working_of w.image) k e u → OnlyWork h.image w.image
    → (p : Program) → Leads p h.image w.image (Take k) (Some (seen.Take k r.name d))
take_leads h w k d e r u may c frame p s stands reached =
    let i = h.image in
    let j = w.image in
    let at = there i j k d e r u may c in (
      taken i s k e r stands c.idle c.first at,
      take_moves i s k e r stands c.idle c.first at p
          ∙ ap (λ (z : Id). Moves (taken i s k e r stands c.idle c.first at) (Some (seen.Take k r.name z)))
          (first_one i.arena name.Waiting d e may.first c.first),
      subst (λ q. StandsFor q (taken i s k e r stands c.idle c.first at)) (sym frame)
          (taken_stands i j k d e r u may c s stands),
    )
