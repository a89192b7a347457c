use Rattle.std.proofs.Common.{arith}
use Rattle.labelling.proofs.Trees.{nodes-leaves}
use Rattle.labelling.proofs.tree.nodes_in.Goals as goal

pub returns : goal.returns
returns c = omega (arith, nodes-leaves c.args.height)
