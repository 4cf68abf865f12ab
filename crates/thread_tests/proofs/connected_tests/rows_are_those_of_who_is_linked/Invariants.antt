use Rattle.thread_tests.proofs.connected_tests.rows_are_those_of_who_is_linked.Given as goal

-- the books have the names of those that were opened
abbrev pub ghosts-connected : goal.ghosts-connected
ghosts-connected g a = record { names = a.opened }
