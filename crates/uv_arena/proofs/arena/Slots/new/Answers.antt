use Rattle.uv_arena.proofs.ProofNames.{sym, subst, arith, ◌∙◌, Cell, fresh_image, IsSound}
use Rattle.uv_raw.specs.Pieced.{Pieced}
use Rattle.uv_arena.proofs.Fresh.{fresh_sound}
use Rattle.uv_arena.proofs.arena.Slots.new.Goals as goal

pub invariant_of-result : goal.invariant_of-result
invariant_of-result g c =
    let start = fresh_image g.row.T.Denot c.args.capacity c.args.last_generation in
    subst (λ (p : Pieced (Cell g.row.T.Denot)). IsSound (record {
      memory = record { row = p.row; ends = start.memory.ends };
      names = start.names;
      last =
          start.last;
    }))
    (sym (c.new-2.ensures ∙ c.in_ok-row.ensures)) (fresh_sound c.args.capacity c.args.last_generation (omega arith) (omega arith))
