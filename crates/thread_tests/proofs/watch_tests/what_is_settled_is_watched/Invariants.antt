use Rattle.thread_tests.proofs.watch_tests.what_is_settled_is_watched.Given as goal

-- the books have the names of those that were opened
abbrev pub ghosts-all_watched : goal.ghosts-all_watched
ghosts-all_watched g a = record { names = a.opened }
