use Rattle.std.proofs.Common.{◌≡◌, ◌∙◌, ap, length, arith}
use Rattle.labelling.proofs.Numbers.{length-numbers}
use Rattle.labelling.proofs.progress.Progress.begin.Goals as goal

pub invariant_of-result : goal.invariant_of-result
invariant_of-result c =
    let all : length c.in_ok-remaining.remaining ≡ c.args.n = ap length c.in_ok-remaining.ensures.all ∙ length-numbers 1 c.args.n in
    (omega (arith, c.in_ok-given.ensures.len, c.in_ok-given.ensures.exact), omega (arith, c.in_ok-reserve.ensures.spare))
