use Rattle.std.proofs.Common.{◌<◌, length, refl, arith}
use Rattle.series_bounds.specs.Series.{Kind}
use Rattle.class_system.specs.Views.{spec_range}
use Rattle.rounded_map.proofs.Replaced.{counted-slope}
use Rattle.rounded_map.proofs.derivative.derivative_of.Goals as goal

pub bounds-values-part : goal.bounds-values-part
bounds-values-part g c = omega (arith, (rw c.in-Seq.is at c.requires.parts).at 0 _ refl)

pub sequence_slope-slope-requires-clause-range : goal.sequence_slope-slope-requires-clause-range
sequence_slope-slope-requires-clause-range g c = rw c.in-Seq.is at c.requires.range

pub bounds-before-part : goal.bounds-before-part
bounds-before-part g c = (rw c.in-Seq.is at c.requires.parts).at 0 _ refl

pub bounds-values-part-in-Set : goal.bounds-values-part-in-Set
bounds-values-part-in-Set g c = omega (arith, (rw c.in-Set.is at c.requires.parts).at 0 _ refl)

pub set_slope-slope-requires-clause-range : goal.set_slope-slope-requires-clause-range
set_slope-slope-requires-clause-range g c = rw c.in-Set.is at c.requires.range

pub bounds-before-part-in-Set : goal.bounds-before-part-in-Set
bounds-before-part-in-Set g c = (rw c.in-Set.is at c.requires.parts).at 0 _ refl

pub bounds-values-part-in-Cyc : goal.bounds-values-part-in-Cyc
bounds-values-part-in-Cyc g c = omega (arith, (rw c.in-Cyc.is at c.requires.parts).at 0 _ refl)

pub cycle_slope-slope-requires-clause-range : goal.cycle_slope-slope-requires-clause-range
cycle_slope-slope-requires-clause-range g c = rw c.in-Cyc.is at c.requires.range

pub bounds-before-part-in-Cyc : goal.bounds-before-part-in-Cyc
bounds-before-part-in-Cyc g c = (rw c.in-Cyc.is at c.requires.parts).at 0 _ refl

pub returns-in-Set : goal.returns-in-Set
returns-in-Set g c = record {
  derivative = λ s num den.
      let inside : c.in-Set.part.0 < length c.args.values.now = omega (arith, (rw c.in-Set.is at c.requires.parts).at 0 _ refl) in
      rw c.in-Set.is (counted-slope Kind.Set g.row.F (spec_range c.args.range) c.args.values.now c.args.before.now c.in-Set.part.0 _ _ inside c.set_slope-slope.ensures c.mul_hi-in-Set.ensures);
}
