use Rattle.std.proofs.Common.{◌+◌, ◌∙◌, refl, sym, arith}
use Rattle.rounded_map.specs.RoundedMap.{setting}
use Rattle.fast_lower.proofs.Candidates.{first-is, first-on, none-is}
use Rattle.fast_lower.proofs.proposal.first_passing.Goals as goal

pub returns-in-Some-clause-exact : goal.returns-in-Some-clause-exact
returns-in-Some-clause-exact g c =
    first-is (setting c.args.founded.now c.args.x.num c.args.x.den g.row.F) c.args.upper.now c.args.weights.now c.loop-k.k c.in-Some.found c.loop-k.invariant.none (sym c.in-Some.is ∙ c.in_ok-found.ensures.exact) c.loop-k-test.true

pub loop-k-preserved : goal.loop-k-preserved
loop-k-preserved g c = record {
  none = first-on (setting c.args.founded.now c.args.x.num c.args.x.den g.row.F) c.args.upper.now c.args.weights.now c.loop-k.k (c.loop-k.k + 1) refl c.loop-k.invariant.none (sym c.in_default.is ∙ c.in_ok-found.ensures.exact);
  ticks = omega arith;
}

pub returns-clause-exact : goal.returns-clause-exact
returns-clause-exact g c =
    none-is (setting c.args.founded.now c.args.x.num c.args.x.den g.row.F) c.args.upper.now c.args.weights.now c.loop-k.k (omega arith) c.loop-k.invariant.none
