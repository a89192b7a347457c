use Rattle.std.proofs.Common.{rules, arith, ◌<◌, ◌≤◌}
use Rattle.test_sampling.proofs.observed.four_sweeps.Goals as goal

-- 48 is within the limits, and no sweep is done
pub advance_to-requires : goal.advance_to-requires
advance_to-requires g c =
    let small : 56 < 9223372036854775808 = search rules in
    let most : 24 ≤ 48 = search rules in
    let least : 48 ≤ 56 = search rules in
    let none = c.in_ok-lower.ensures.none_done in
    let few : c.in_ok-lower.lower.done ≤ 4 = omega arith in
    (small, ((most, least), (c.in_ok-lower.ensures.one_per_class, (c.in_ok-lower.ensures.one_per_node, few))))
