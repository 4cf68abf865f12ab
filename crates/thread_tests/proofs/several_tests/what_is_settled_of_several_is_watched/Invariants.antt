use Rattle.thread_tests.proofs.several_tests.what_is_settled_of_several_is_watched.Given as goal

-- the books have the names of those that were opened
abbrev pub ghosts-all_told : goal.ghosts-all_told
ghosts-all_told g a = record { names = a.opened }
