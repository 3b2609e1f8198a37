use Rattle.firing_bench.proofs.main.Given as goal

abbrev pub ghosts-asked_again : goal.ghosts-asked_again
ghosts-asked_again a = record { name = a.blank.name; parts = a.blank.parts }
