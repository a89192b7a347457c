use Rattle.std.proofs.Common.{arith}
use Rattle.std.proofs.lemmas.List.{length-take}
use Rattle.rounded_map.specs.RoundedMap.{setting, node_value_down}
use Rattle.rounded_map.proofs.Bounding.{values-below-at}
use Rattle.rounded_map.proofs.EachNode.{listed, written-more, written-all}
use Rattle.rounded_map.proofs.lower.eval_lo.Goals as goal

pub node_lo-value-requires : goal.node_lo-value-requires
node_lo-value-requires g c =
    let here = listed c.args.system.now c.known.ensures.sound c.nodes-expressions.result.now c.ranges-ranges.result.now c.loop-e.e c.index-expressions-e.result _ c.nodes-expressions.ensures.nodes c.ranges-ranges.ensures.ranges c.index-expressions-e.is (omega arith) in
    (omega arith, (c.requires.fraction_bits, (here.parts _ (simp length-take (omega arith)), (here.class _ c.requires.one_per_class, here.range))))

pub loop-e-preserved : goal.loop-e-preserved
loop-e-preserved g c =
    let s = c.args.system.now in
    let here = listed s c.known.ensures.sound c.nodes-expressions.result.now c.ranges-ranges.result.now c.loop-e.e c.index-expressions-e.result (record { low = 0; high = _ }) c.nodes-expressions.ensures.nodes c.ranges-ranges.ensures.ranges c.index-expressions-e.is (omega arith) in
    written-more (node_value_down (setting s c.args.x.num c.args.x.den g.row.F) c.args.classes.now) s c.loop-e.e _ _ c.loop-e.nodes _ here.at here.ranged (omega arith) c.loop-e.invariant (c.node_lo-value.ensures.value s c.args.x.num c.args.x.den c.atom-atom.ensures.exact)

pub returns-clause-values : goal.returns-clause-values
returns-clause-values g c =
    let s = c.args.system.now in
    written-all (node_value_down (setting s c.args.x.num c.args.x.den g.row.F) c.args.classes.now) s c.loop-e.e c.loop-e.nodes c.loop-e.invariant (omega arith) (omega arith)

pub returns-clause-reached : goal.returns-clause-reached
returns-clause-reached g c = λ entries. values-below-at c.args.system.now c.args.x.num c.args.x.den g.row.F c.args.classes.now c.loop-e.nodes c.known.ensures.sound c.args.x.den_in_limits.0 (returns-clause-values g c) entries
