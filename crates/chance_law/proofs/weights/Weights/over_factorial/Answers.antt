-- One division more.
use Rattle.std.proofs.Common.{◌≡◌, ◌+◌, ◌-◌, ◌*◌, ◌^◌, length, arith, subst}
use Rattle.chance_law.specs.Factors.{over_two_to}
use Rattle.chance_law.specs.Weights.{AreWithin}
use Rattle.chance_law.proofs.Come.{wider}
use Rattle.chance_law.proofs.FewFactors.{length-over}
use Rattle.chance_law.proofs.Shares.{one-more-down, one-more-up, one-longer}
use Rattle.chance_law.proofs.weights.Weights.over_factorial.Goals as goal

pub over-weights-requires : goal.over-weights-requires
over-weights-requires c =
    let d = c.loop-divisor.divisor in
    let long = length-over (d - 1) in
    let upto = c.loop-divisor.invariant.upto in
    let few = c.ranges.parts.fits in
    record { within = wider (2 ^ 50 + 512 * length (over_two_to (d - 1))) (2 ^ 60) c.loop-divisor.weights (omega arith) (c.loop-divisor.invariant.within (2 ^ 50) c.requires.within) }

pub loop-divisor-preserved : goal.loop-divisor-preserved
loop-divisor-preserved c =
    let d = c.loop-divisor.divisor in
    let longer = one-longer d c.loop-divisor.auto.divisor in
    let below = c.loop-divisor-test.true in
    let end = c.from-divisor-end.ensures in
    record {
      upto = omega arith;
      down = λ x. one-more-down x c.args.self.lo c.loop-divisor.weights.lo c.over-weights.result.lo d c.loop-divisor.auto.divisor (c.loop-divisor.invariant.down x) c.over-weights.ensures.lo;
      up = λ x. one-more-up x c.args.self.hi c.loop-divisor.weights.hi c.over-weights.result.hi d c.loop-divisor.auto.divisor (c.loop-divisor.invariant.up x) c.over-weights.ensures.hi;
      within = λ bound h.
          let more : bound + 512 * length (over_two_to (d - 1)) + 512 ≡ bound + 512 * length (over_two_to (d + 1 - 1)) = omega arith in
          subst (λ n. AreWithin n c.over-weights.result) more (c.over-weights.ensures.within (bound + 512 * length (over_two_to (d - 1))) (c.loop-divisor.invariant.within bound h));
    }
