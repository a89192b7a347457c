use Rattle.test_sampling.proofs.values.entry_of_atom.Given as goal

abbrev pub ghosts-first_entry : goal.ghosts-first_entry
ghosts-first_entry a = record { name = a.blank.name; parts = a.blank.parts }
