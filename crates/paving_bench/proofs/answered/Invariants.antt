use Rattle.paving_bench.proofs.answered.Given as goal

abbrev pub ghosts-pave_path : goal.ghosts-pave_path
ghosts-pave_path a = record { name = a.blank.name; parts = a.blank.parts }
