use Rattle.net_tests.proofs.retraction.what_is_linked_is_settled_again.Given as goal

abbrev pub ghosts-linked : goal.ghosts-linked
ghosts-linked g a = record { name = a.blank.name; parts = a.blank.parts }
