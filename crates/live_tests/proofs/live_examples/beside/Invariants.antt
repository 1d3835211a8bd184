use Rattle.live_tests.proofs.live_examples.beside.Given as goal

abbrev pub ghosts-is_followed : goal.ghosts-is_followed
ghosts-is_followed g a = record { name = a.blank.name; parts = a.blank.parts }
