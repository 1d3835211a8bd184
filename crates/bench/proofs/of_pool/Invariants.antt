use Rattle.bench.proofs.of_pool.Given as goal

abbrev pub ghosts-pooled : goal.ghosts-pooled
ghosts-pooled g a = record { name = a.blank.name; parts = a.blank.parts }
