-- A request is queued, and a name bound to it.
use Rattle.uv_ops.proofs.Names.{◌≡◌, ◌∷◌, [], ◌++◌, false, Some, is_some, sym, ap, ◌∙◌, subst, Id, Var, Task, taken, plain_slots, Request, QueueUndo, Working, id_in, IsQueued, id_is, content_of, Place, queued, State, live, with_queued, Content, Asked, Record, request_of, By, Image, Held, working_of, OnlyWork, binding, Performs, StandsFor, list_same, pool_stands, bound_stands, running_is}
use Rattle.uv_ids.specs.declared.code.Answer.TheVariants as answer
use Rattle.uv_script.specs.declared.op.Op.TheVariants as op
use Rattle.uv_records.specs.declared.lists.ListName.TheVariants as name
use Rattle.uv_memory.specs.Change as change
use Rattle.uv_ops.proofs.Made.{make_done, taken_ids, taken_slots, at_end}

module _ (r : Record Place) (h w : Held Place) (frame : OnlyWork h.image w.image) (v : Var) (task : Task) (d : Id)
    (q : Request) (is : q ≡ queued v task) where
  abbrev new : Content
  new = Asked (queued v task)

  module _ (u : QueueUndo) (c : IsQueued request_of Asked (working_of h.image) (working_of w.image) q d u) where
    slots : plain_slots w.image.arena ≡ taken d new (plain_slots h.image.arena)
    slots = c.plain ∙ ap (λ (z : Request). taken d (Asked z) (plain_slots h.image.arena)) is

    one : id_in w.image.arena d.slot ≡ d
    one = let x = content_of request_of w.image.arena d q c.request in id_is w.image.arena d x.0 x.1

    workers : w.image.running.workers ≡ h.image.running.workers
    workers = ap (λ (z : Working Content). z.running.workers) c.undone

    queued_stands : (s : State) → StandsFor h.image s
        → StandsFor (record w.image { names = binding v.0 (Some d) w.image.names }) (with_queued s v task d)
    queued_stands s stands =
        let i = h.image in
        let k = w.image.arena in
        let ids = taken_ids i s stands k d new c.next slots in
        let t : State = record s { arena = taken d new s.arena; waiting = s.waiting ++ d ∷ [] } in
        let mid : StandsFor (record i { arena = k; running = w.image.running }) t =
        pool_stands i s stands k w.image.running (taken d new s.arena) (s.waiting ++ d ∷ []) s.running s.done ids
        (λ l a b x. c.others l a)
        (at_end i s stands k d new c.next slots name.Waiting one c.waiting)
        (list_same i k ids name.Done s.done.list (stands.lists name.Done) (c.others name.Done (λ e. cc)))
        (list_same i k ids name.DoneYet s.done.yet (stands.lists name.DoneYet) (c.others name.DoneYet (λ e. cc)))
        (taken_slots i s stands k d new c.next slots)
        (workers ∙ (running_is stands)) in
        bound_stands w.image t v d (subst (λ z. StandsFor z t) (sym frame) mid)

    queues_with : ((s : State) → StandsFor h.image s → is_some (live s v) ≡ false) → (j : Image Place)
        → j ≡ record w.image { names = binding v.0 (Some d) w.image.names } → Performs (op.Queue v task) h.image j (answer.Id d)
    queues_with free j same = make_done h.image v (λ s. with_queued s v task) free j d c.next
        (λ s stands. subst (λ z. StandsFor z (with_queued s v task d)) (sym same) (queued_stands s stands))

  pub queues : By change.Queued (λ u. IsQueued request_of Asked (working_of h.image) (working_of w.image) q d u) r.change
      → ((s : State) → StandsFor h.image s → is_some (live s v) ≡ false) → (j : Image Place)
      → j ≡ record w.image { names = binding v.0 (Some d) w.image.names } → Performs (op.Queue v task) h.image j (answer.Id d)
  queues by = queues_with by.undo by.does
