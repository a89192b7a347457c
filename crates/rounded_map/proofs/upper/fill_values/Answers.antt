use Rattle.std.proofs.Common.{arith}
use Rattle.std.proofs.lemmas.List.{length-take}
use Rattle.rounded_map.specs.RoundedMap.{setting, node_value_up}
use Rattle.rounded_map.proofs.EachNode.{listed, written-more, written-all}
use Rattle.rounded_map.proofs.upper.fill_values.Goals as goal

pub node_hi-requires : goal.node_hi-requires
node_hi-requires g c =
    let here = listed c.args.system.now c.known.ensures.sound c.nodes-expressions.result.now c.ranges-ranges.result.now c.loop-e.e c.index-expressions-e.result _ c.nodes-expressions.ensures.nodes c.ranges-ranges.ensures.ranges c.index-expressions-e.is (omega arith) in
    record {
      fraction_bits = c.requires.fraction_bits;
      parts = here.parts _ (simp length-take (omega arith));
      class = here.class _ c.requires.one_per_class;
      range = here.range;
    }

pub loop-e-preserved : goal.loop-e-preserved
loop-e-preserved g c =
    let s = c.args.system.now in
    let here = listed s c.known.ensures.sound c.nodes-expressions.result.now c.ranges-ranges.result.now c.loop-e.e c.index-expressions-e.result (record { low = 0; high = _ }) c.nodes-expressions.ensures.nodes c.ranges-ranges.ensures.ranges c.index-expressions-e.is (omega arith) in
    written-more (node_value_up (setting s c.args.x.num c.args.x.den g.row.F) c.args.classes.now) s c.loop-e.e _ _ c.loop-e.values _ here.at here.ranged (omega arith) c.loop-e.invariant (c.node_hi.ensures.value s c.args.x.num c.args.x.den c.atom_hi-atom.ensures)

pub returns : goal.returns
returns g c =
    let s = c.args.system.now in
    record { values = written-all (node_value_up (setting s c.args.x.num c.args.x.den g.row.F) c.args.classes.now) s c.loop-e.e c.loop-e.values c.loop-e.invariant (omega arith) (omega arith) }
