use Rattle.uv_arena.proofs.ProofNames.{sym, ◌∙◌}
use Rattle.uv_arena.proofs.Readings.{apart_from}
use Rattle.uv_arena.proofs.arena.Slots.on_list.Goals as goal

pub returns-clause-apart : goal.returns-clause-apart
returns-clause-apart g c = λ h bare l. apart_from c.args.self.now.image c.is_sound.ensures c.args.id h (sym c.is_linked.ensures ∙ bare) l
