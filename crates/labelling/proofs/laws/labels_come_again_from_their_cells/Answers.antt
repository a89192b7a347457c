use Rattle.labelling.proofs.DrawnAgain.{labels_are_drawn_again}
use Rattle.labelling.proofs.laws.labels_come_again_from_their_cells.Goals as goal

pub returns : goal.returns
returns c = labels_are_drawn_again
