use Rattle.rounded_map.proofs.EachNode.{bodies_inside}
use Rattle.rounded_map.proofs.laws.bodies_are_nodes.Goals as goal

pub returns : goal.returns
returns c = λ s sound bodies n are same. bodies_inside s sound bodies n are same
