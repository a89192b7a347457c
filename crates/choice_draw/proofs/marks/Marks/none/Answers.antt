-- No place of the list has a mark.
use Rattle.std.proofs.Common.{◌≡◌, true, false, sym, ◌∙◌}
use Rattle.choice_draw.proofs.KeptBounds.{nothing_at}
use Rattle.choice_draw.proofs.marks.Marks.none.Goals as goal

pub returns : goal.returns
returns c = λ node marked. let both : false ≡ true = sym (nothing_at false 64 node) ∙ marked in cc
