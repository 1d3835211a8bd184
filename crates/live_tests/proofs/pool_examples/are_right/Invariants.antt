use Rattle.live_tests.proofs.pool_examples.are_right.Given as goal

abbrev pub ghosts-answers_in_turn : goal.ghosts-answers_in_turn
ghosts-answers_in_turn g a = record { name = a.blank.name; parts = a.blank.parts }
