use Rattle.live_tests.proofs.pool_threads.is_looked_at.Given as goal

abbrev pub ghosts-looked_at : goal.ghosts-looked_at
ghosts-looked_at g a = record { name = a.blank.name; parts = a.blank.parts }
