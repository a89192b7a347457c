use Rattle.labelling.proofs.tree.+fill.Given as goal

abbrev pub decreases-fill : goal.decreases-fill
decreases-fill l = l.height
