use Rattle.std.proofs.Common.{map, Some, arith}
use Rattle.std.proofs.lemmas.List.{length-take}
use Rattle.rounded_map.specs.RoundedMap.{setting}
use Rattle.rounded_map.specs.Derivative.{derivative_up}
use Rattle.rounded_map.proofs.EachNode.{listed, written-more, written-all}
use Rattle.rounded_map.proofs.derivative.fill_derivatives.Goals as goal

pub derivative_of-requires : goal.derivative_of-requires
derivative_of-requires g c =
    let here = listed c.args.system.now c.known.ensures.sound c.nodes-expressions.result.now c.ranges-ranges.result.now c.loop-e.e c.index-expressions-e.result _ c.nodes-expressions.ensures.nodes c.ranges-ranges.ensures.ranges c.index-expressions-e.is (omega arith) in
    record {
      fraction_bits = c.requires.fraction_bits;
      parts = here.parts _ (simp length-take (omega arith));
      values = simp length-take (omega arith);
      class = here.class _ c.requires.one_per_class;
      range = here.range;
    }

pub loop-e-preserved : goal.loop-e-preserved
loop-e-preserved g c = λ num den.
    let s = c.args.system.now in
    let here = listed s c.known.ensures.sound c.nodes-expressions.result.now c.ranges-ranges.result.now c.loop-e.e c.index-expressions-e.result (record { low = 0; high = _ }) c.nodes-expressions.ensures.nodes c.ranges-ranges.ensures.ranges c.index-expressions-e.is (omega arith) in
    written-more (derivative_up (setting s num den g.row.F) (map Some c.args.values.now) c.args.dual.now) s c.loop-e.e _ _ c.loop-e.derivatives _ here.at here.ranged (omega arith) (c.loop-e.invariant num den) (c.derivative_of.ensures.derivative s num den)

pub returns : goal.returns
returns g c = record {
  derivatives = λ num den.
      let s = c.args.system.now in
      written-all (derivative_up (setting s num den g.row.F) (map Some c.args.values.now) c.args.dual.now) s c.loop-e.e c.loop-e.derivatives (c.loop-e.invariant num den) (omega arith) (omega arith);
}
