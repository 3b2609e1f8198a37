use Rattle.net_tests.proofs.orders.nobody_for_what_he_does_not_read.Given as goal

abbrev pub ghosts-most_fired : goal.ghosts-most_fired
ghosts-most_fired g a = record { name = a.blank.name; parts = a.blank.parts }
