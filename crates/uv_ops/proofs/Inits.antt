-- A handle is made, and a name bound to it.
use Rattle.uv_ops.proofs.Names.{◌≡◌, ◌≢◌, ◌∷◌, [], ◌++◌, Bool, true, false, if◌then◌else◌, Some, is_some, refl, sym, ap, ◌∙◌, subst, Id, Var, Kind, ListName, inited, taken, with_last, plain_slots, id_is, Place, State, live, listed_last, with_new, with_watched, Content, Handle, Added, Record, By, IsMade, JoinsIf, is_async, Image, Held, counted_of, OnlyHandles, binding, Performs, StandsFor, list_stays, bound_stands}
use Rattle.uv_ids.specs.declared.phase.Kind.TheVariants as kind
use Rattle.uv_ids.specs.declared.code.Answer.TheVariants as answer
use Rattle.uv_script.specs.declared.op.Op.TheVariants as op
use Rattle.uv_records.specs.declared.lists.ListName.TheVariants as name
use Rattle.uv_records.specs.declared.lists.WatcherKind.TheVariants as watcher
use Rattle.uv_records.specs.Handles as records
use Rattle.uv_arena.specs.Image as arena
use Rattle.uv_memory.specs.Change as change
use Rattle.uv_ops.proofs.Made.{make_done, taken_ids, at_end, with_asyncs, handle_stands}

-- which kinds are listed as they are made, in the memory and in the state
async_as : (k : Kind) → records.is_async k ≡ is_async k
async_as kind.Timer = refl
async_as each = refl

module _ (h w : Held Place) (frame : OnlyHandles h.image w.image) (v : Var) (k : Kind) (d : Id)
    (u : Added) (c : IsMade (counted_of h.image) (counted_of w.image) v k d u) where
  abbrev new : Content
  new = Handle (inited v k)

  abbrev a : arena.Image Content
  a = w.image.arena

  abbrev mid : Image Place
  mid = record h.image { arena = a; active = w.image.active }

  slots : (b : Bool) → JoinsIf b c.mid a d → plain_slots a ≡ taken d new (plain_slots h.image.arena)
  slots false e = ap plain_slots e ∙ c.added.inserted.plain
  slots true e = e.slots.plain ∙ c.added.inserted.plain

  others : (b : Bool) → JoinsIf b c.mid a d → (l : ListName) → l ≢ name.Async → arena.members a l ≡ arena.members h.image.arena l
  others false e l ne = ap (λ q. arena.members q l) e ∙ c.added.inserted.lists l
  others true e l ne = e.others l ne ∙ c.added.inserted.lists l

  module _ (s : State) (stands : StandsFor h.image s) where
    listed_stands : (b : Bool) → records.is_async k ≡ b → JoinsIf b c.mid a d
        → StandsFor mid (listed_last (record s { arena = taken d new s.arena }) k d)
    listed_stands false apart e =
        let plain = slots false e in
        let ids = taken_ids h.image s stands a d new c.added.inserted.next plain in
        let t = with_asyncs h.image s stands a d new c.added.inserted.next plain s.watchers.async.list in
        subst (λ (b : Bool). StandsFor mid (if b then with_watched t watcher.Async (with_last t.watchers.async d) else t))
        (sym apart)
        (handle_stands h.image s stands a d new c.added.inserted.next plain s.watchers.async.list w.image.active (others false e)
        (list_stays h.image s stands a s name.Async ids (ap (λ q. arena.members q name.Async) e ∙ c.added.inserted.lists name.Async) refl))
    listed_stands true joins e =
        let plain = slots true e in
        let t = with_asyncs h.image s stands a d new c.added.inserted.next plain s.watchers.async.list in
        let one = id_is a d new (e.slots.contents d ∙ c.added.inserted.now) in
        subst (λ (b : Bool). StandsFor mid (if b then with_watched t watcher.Async (with_last t.watchers.async d) else t))
        (sym joins)
        (handle_stands h.image s stands a d new c.added.inserted.next plain (s.watchers.async.list ++ d ∷ []) w.image.active (others true e)
        (at_end h.image s stands a d new c.added.inserted.next plain name.Async one
        (e.lists ∙ ap (λ xs. xs ++ d.slot ∷ []) (c.added.inserted.lists name.Async))))

    new_stands : StandsFor (record w.image { names = binding v.0 (Some d) w.image.names }) (with_new s v k d)
    new_stands =
        let t = listed_last (record s { arena = taken d new s.arena }) k d in
        bound_stands w.image t v d
        (subst (λ q. StandsFor q t) (sym frame) (listed_stands u.listed (async_as k ∙ sym c.listed) c.joins))

  pub inits : ((s : State) → StandsFor h.image s → is_some (live s v) ≡ false)
      → (j : Image Place) → j ≡ record w.image { names = binding v.0 (Some d) w.image.names } → Performs (op.Init v k) h.image j (answer.Id d)
  inits free j same = make_done h.image v (λ s. with_new s v k) free j d c.added.inserted.next
      (λ s stands. subst (λ q. StandsFor q (with_new s v k d)) (sym same) (new_stands s stands))

pub inits_by : (r : Record Place) (h w : Held Place) → OnlyHandles h.image w.image → (v : Var) (k : Kind) (d : Id)
    → By change.Added (λ u. IsMade (counted_of h.image) (counted_of w.image) v k d u) r.change
    → ((s : State) → StandsFor h.image s → is_some (live s v) ≡ false)
    → (j : Image Place) → j ≡ record w.image { names = binding v.0 (Some d) w.image.names } → Performs (op.Init v k) h.image j (answer.Id d)
inits_by r h w frame v k d by = inits h w frame v k d by.undo by.does
