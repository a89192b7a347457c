use Rattle.test_sampling.proofs.runs.run.Given as goal

abbrev pub ghosts-run_pool : goal.ghosts-run_pool
ghosts-run_pool a = record { name = a.blank.name; parts = a.blank.parts }
