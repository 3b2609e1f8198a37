use Rattle.net_tests.proofs.turns.settles_in_turns.Given as goal

abbrev pub ghosts-turned : goal.ghosts-turned
ghosts-turned g a = record { name = a.blank.name; parts = a.blank.parts }
