use Rattle.uv_pool.proofs.Names.{◌≡◌, None, arith, refl, replicate, rules}
use Rattle.uv_pool.proofs.Standing.{nothing_stands}
use Rattle.uv_pool.proofs.held.Held.new.Goals as goal

pub returns : goal.returns
returns c =
    let running : c.resize.new.self.items ≡ replicate c.args.workers None = search rules in (
      rw (c.new.ensures.items, c.new-2.ensures.places, c.new-3.ensures.items, running) refl,
      record {
        indexed = nothing_stands c.args.workers _ _ c.new-2.ensures.first c.new-2.ensures.places running refl c.new-3.ensures.items;
        queued = rw (c.new-2.ensures.first, c.new-2.ensures.places) (omega arith);
        done = rw c.new-3.ensures.items (omega arith);
      },
    )
