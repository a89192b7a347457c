-- Lists of cells that grow.
use Rattle.std.proofs.Common.{List, [], ◌∷◌, ◌++◌}
use Rattle.bz_model.specs.declared.cell.Cell.{Cell}
use Rattle.bz_model.specs.Cell.{IsCell, AreCells}

-- one cell more
pub cells_more : (cells : List Cell) (c : Cell) → AreCells cells → IsCell c.k c.b → AreCells (cells ++ c ∷ [])
cells_more [] c all here = (here, tt)
cells_more (d ∷ cells) c all here = (all.0, cells_more cells c all.1 here)

-- one list after another
pub cells_append : (cells more : List Cell) → AreCells cells → AreCells more → AreCells (cells ++ more)
cells_append [] more all these = these
cells_append (d ∷ cells) more all these = (all.0, cells_append cells more all.1 these)
