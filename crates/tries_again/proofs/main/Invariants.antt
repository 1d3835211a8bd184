use Rattle.tries_again.proofs.main.Given as goal

abbrev pub ghosts-tried : goal.ghosts-tried
ghosts-tried a = record { name = a.blank.name; parts = a.blank.parts }
