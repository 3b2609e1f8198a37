use Rattle.net_tests.proofs.orders.in_a_chain.Given as goal

abbrev pub ghosts-fired : goal.ghosts-fired
ghosts-fired g a = record { name = a.blank.name; parts = a.blank.parts }
