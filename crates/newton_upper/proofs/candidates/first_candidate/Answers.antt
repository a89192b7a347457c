use Rattle.std.proofs.Common.{◌≡◌, ◌∙◌, ◌+◌, refl, sym, ap, arith}
use Rattle.newton_upper.proofs.Chains.{candidate-is}
use Rattle.rounded_map.specs.RoundedMap.{setting}
use Rattle.newton_upper.specs.Below.{first_below}
use Rattle.newton_upper.specs.Candidates.{candidate, candidate_count, first_candidate}
use Rattle.newton_upper.proofs.Costs.{factor-within, factor-more}
use Rattle.newton_upper.proofs.ResultsBelow.{first-found, first-more}
use Rattle.newton_upper.proofs.candidates.first_candidate.Goals as goal

pub try_candidate-requires-clause-few : goal.try_candidate-requires-clause-few
try_candidate-requires-clause-few g c =
    omega (arith, factor-within g.row.F c.loop-j._j c.requires.fraction_bits.1 c.loop-j-test.true, c.loop-j.invariant.factor)

pub returns-in-Some-clause-exact : goal.returns-in-Some-clause-exact
unfolding first_candidate
returns-in-Some-clause-exact g c =
    let t = setting c.args.system.now c.args.x.num c.args.x.den g.row.F in
    sym (first-found (candidate t c.args.y.now c.args.dual.now) c.loop-j._j (candidate_count g.row.F) c.in-Some.found c.loop-j.invariant.none
    (candidate-is t c.args.y.now c.args.dual.now c.loop-j._j c.loop-j.factor c.in_ok-found.field-0 c.loop-j.invariant.factor c.in_ok-found.ensures.exact ∙ c.in-Some.is) c.loop-j-test.true)

pub overflow_mul-factor : goal.overflow_mul-factor
overflow_mul-factor g c =
    omega (arith, factor-within g.row.F c.loop-j._j c.requires.fraction_bits.1 c.loop-j-test.true, c.loop-j.invariant.factor)

pub loop-j-preserved : goal.loop-j-preserved
loop-j-preserved g c =
    let t = setting c.args.system.now c.args.x.num c.args.x.den g.row.F in
    record {
      none = first-more (candidate t c.args.y.now c.args.dual.now) c.loop-j._j (c.loop-j._j + 1) refl c.loop-j.invariant.none (candidate-is t c.args.y.now c.args.dual.now c.loop-j._j c.loop-j.factor c.in_ok-found.field-0 c.loop-j.invariant.factor c.in_ok-found.ensures.exact ∙ c.in_default.is);
      factor = factor-more c.loop-j._j c.loop-j.factor c.loop-j.invariant.factor;
      ticks = omega arith;
    }

pub returns-clause-exact : goal.returns-clause-exact
unfolding first_candidate
returns-clause-exact g c =
    let t = setting c.args.system.now c.args.x.num c.args.x.den g.row.F in
    let all : c.loop-j._j ≡ candidate_count g.row.F = omega arith in
    sym c.loop-j.invariant.none ∙ ap (first_below (candidate t c.args.y.now c.args.dual.now)) all
