use Rattle.uv_live.proofs.running.live.Given as goal

abbrev pub ghosts-live_over : goal.ghosts-live_over
ghosts-live_over g a = record { name = a.blank.name; parts = a.blank.parts }
