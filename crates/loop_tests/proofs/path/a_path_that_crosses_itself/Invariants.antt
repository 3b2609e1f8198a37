use Rattle.loop_tests.proofs.path.a_path_that_crosses_itself.Given as goal

abbrev pub ghosts-cells_of : goal.ghosts-cells_of
ghosts-cells_of g a = record { name = a.blank.name; parts = a.blank.parts }
