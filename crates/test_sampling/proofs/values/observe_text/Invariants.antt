use Rattle.test_sampling.proofs.values.observe_text.Given as goal

abbrev pub ghosts-observe : goal.ghosts-observe
ghosts-observe a = record { name = a.blank.name; parts = a.blank.parts }
