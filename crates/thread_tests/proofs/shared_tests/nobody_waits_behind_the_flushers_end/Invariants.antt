use Rattle.thread_tests.proofs.shared_tests.nobody_waits_behind_the_flushers_end.Given as goal

-- the books have the names of those that were opened
abbrev pub ghosts-edit_behind_the_end : goal.ghosts-edit_behind_the_end
ghosts-edit_behind_the_end g a = record { names = a.opened }
