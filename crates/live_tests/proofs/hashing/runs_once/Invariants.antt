use Rattle.live_tests.proofs.hashing.runs_once.Given as goal

abbrev pub ghosts-over_ledger : goal.ghosts-over_ledger
ghosts-over_ledger g a = record { name = a.blank.name; parts = a.blank.parts }
