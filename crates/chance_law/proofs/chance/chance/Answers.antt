-- The bounds are those of the rounded weights, and enclose the chance.
use Rattle.std.proofs.Common.{subst}
use Rattle.bz_model.specs.Fraction.{ratio}
use Rattle.object_store.specs.Tokens.{IsOf}
use Rattle.chance_law.specs.Weights.{AreWeightsOf}
use Rattle.chance_law.proofs.Enclosed.{enclosed, upper-of}
use Rattle.chance_law.proofs.chance.chance.Goals as goal

pub returns-clause-bounds : goal.returns-clause-bounds
returns-clause-bounds g c = λ of.
    let x = ratio c.args.x.num c.args.x.den in
    let weights = c.in_ok-weights.weights in
    let rounded = c.of_x-rounded_x in
    let are = subst (λ s. (it : IsOf s 0 c.args.shape.now.items) → AreWeightsOf rounded.result it.object weights) c.system.ensures.system c.in_ok-weights.ensures.weights of in
    record {
      lower = record {
        weight = weights.lo;
        is_weight = record { rounded_x = rounded.result.lo; is_rounded = rounded.ensures.lo; leads = are.down };
        is_rounded = c.over_root.ensures.lo;
      };
      upper = upper-of g.row.F x c.args.root.lo of.object weights.hi c.over_root.result.hi (record { rounded_x = rounded.result.hi; is_rounded = rounded.ensures.hi; leads = are.up }) c.over_root.ensures.certain c.over_root.ensures.hi;
    }

pub returns-clause-enclosed : goal.returns-clause-enclosed
returns-clause-enclosed g c = λ of h. enclosed c.args.founded.now g.row.F (ratio c.args.x.num c.args.x.den) c.args.root of.body of.object c.over_root.result c.requires.some h.reached h.above (returns-clause-bounds g c of)
