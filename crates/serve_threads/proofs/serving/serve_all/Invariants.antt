use Rattle.serve_threads.proofs.serving.serve_all.Given as goal

-- the books have the names of those that were opened
abbrev pub ghosts-serve_named : goal.ghosts-serve_named
ghosts-serve_named g a = record { names = a.opened }
