use Rattle.net_tests.proofs.retraction.an_empty_box_comes_back.Given as goal

abbrev pub ghosts-emptied : goal.ghosts-emptied
ghosts-emptied g a = record { name = a.blank.name; parts = a.blank.parts }
