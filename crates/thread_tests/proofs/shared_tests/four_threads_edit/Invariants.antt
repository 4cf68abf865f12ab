use Rattle.thread_tests.proofs.shared_tests.four_threads_edit.Given as goal

-- the books have the names of those that were opened
abbrev pub ghosts-four_edit : goal.ghosts-four_edit
ghosts-four_edit g a = record { names = a.opened }
