use Rattle.std.proofs.Common.{arith}
use Rattle.std.proofs.lemmas.Option.{slice_get_within}
use Rattle.well_founded.proofs.examination.first_repeat.Goals as goal

pub returns-clause-none : goal.returns-clause-none
returns-clause-none c = λ e k. c.loop-e.invariant e (omega (arith, slice_get_within c.args.system.now.nodes e k.counts.node k.counts.is_node, c.node_count-e-end.ensures.count)) k
