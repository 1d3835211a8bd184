use Rattle.uv_arena.proofs.ProofNames.{Bool, cond, length, ◌<◌, refl, arith, Ends}
use Rattle.uv_arena.proofs.Puts.{put_ends}
use Rattle.uv_arena.proofs.memory.Memory.set_tail.Goals as goal

pub returns-clause-memory : goal.returns-clause-memory
returns-clause-memory g c =
    let within : c.args.list < length c.args.self.now.ends = omega (arith, c.requires.list, c.requires.all) in
    let written = put_ends c.args.self.now.ends c.args.list (λ (u : Bool) (e : Ends). cond u (record {
      head = e.head;
      tail =
          c.args.tail;
    }) e) within (λ y. refl) in
    λ i. record { row = c.args.self.now.row.row; ends = written i }
