-- A body's next line, and the place behind it.
use Rattle.uv_loop.proofs.Names.{◌≡◌, ◌+◌, Some, None, slice_get, sym, ap, subst, Answer, CallbackLine, Program, lines_in, Body, Place, Running, Run, Moves, body_step, body_from, Done, Record, Held, Returns, Turns, PerformsAt}
use Rattle.uv_ids.specs.declared.seen.Site.TheVariants as site
use Rattle.uv_ids.specs.declared.seen.Seen.TheVariants as seen

module _ (p : Program) (run : Run) (body : Body) (h k : Held Place) where
  pub left : (r : Record Place) → slice_get (lines_in p body.callback body.name) body.next ≡ None
      → Turns (λ s. body_step p s run body None) r h k None
      → Turns (λ s. body_step p s run body (slice_get (lines_in p body.callback body.name) body.next)) r h k None
  left r none turns = subst (λ o. Turns (λ s. body_step p s run body o) r h k None) (sym none) turns

  pub goes_on : (line : CallbackLine) (a : Answer) (r : Record Place) → slice_get (lines_in p body.callback body.name) body.next ≡ Some line
      → Returns r h k
      → PerformsAt line.op (Running (record run { body = body_from p body.callback body.name body.call (body.next + 1) })) h.image k.image a
      → Turns (λ s. body_step p s run body (slice_get (lines_in p body.callback body.name) body.next)) r h k
      (Some (seen.Op (site.In body.callback body.name body.next) a))
  goes_on line a r some returns performs =
      let place = Running (record run { body = body_from p body.callback body.name body.call (body.next + 1) }) in
      subst (λ o. Turns (λ s. body_step p s run body o) r h k (Some (seen.Op (site.In body.callback body.name body.next) a))) (sym some) (
        returns,
        λ s stands reached.
            let t = performs s stands reached in (
              record t.0 { place = place },
              ap (λ (d : Done). Moves (record d.state { place = place }) (Some (seen.Op (site.In body.callback body.name body.next) d.answer))) t.1,
              t.2,
            ),
      )
