use Rattle.std.proofs.Common.{◌≡◌, ◌≤◌, ◌^◌, ◌∙◌, length, ap, arith}
use Rattle.std.proofs.Math.Pow.{pow_mono}
use Rattle.rounded_map.specs.RoundedMap.{setting}
use Rattle.fast_lower.specs.Contraction.{one_unit_off}
use Rattle.fast_lower.specs.FastVector.{passing_candidate}
use Rattle.fast_lower.proofs.Lowered.{length-lowered}
use Rattle.fast_lower.proofs.Candidates.{candidate-passes, candidate-fails, without-exact}
use Rattle.fast_lower.proofs.proposal.try_candidate.Goals as goal

pub lowered-requires-clause-few : goal.lowered-requires-clause-few
lowered-requires-clause-few g c = let most : 2 ^ c.args.k ≤ 2 ^ 56 = pow_mono {i = c.args.k} {j = 56} (omega arith) in omega (arith, c.power_of_two.ensures.exact)

pub check-requires : goal.check-requires
check-requires g c =
    let us : c.values.result.now ≡ c.args.upper.now = c.values.ensures.entries in
    let same : length c.args.weights.now ≡ length c.values.result.now = omega (arith, ap length us, c.requires.one_per_class, c.requires.one_weight_per_class) in
    let low : length c.in_ok-low.low.items ≡ length c.values.result.now = ap length c.in_ok-low.ensures.exact ∙ length-lowered c.values.result.now c.args.weights.now c.power_of_two.result same in
    (omega arith, (omega arith, (c.requires.fraction_bits, (c.requires.belongs, (low ∙ ap length us ∙ c.requires.one_per_class, ap length (c.in_ok-weights.ensures.items_if_clones_equal (λ x y h. h)) ∙ c.requires.one_weight_per_class)))))

pub returns-in-Ok-clause-exact : goal.returns-in-Ok-clause-exact
returns-in-Ok-clause-exact g c =
    candidate-passes (setting c.args.founded.now c.args.x.num c.args.x.den g.row.F) c.args.upper.now c.args.weights.now c.args.k c.in_ok-low.low.items c.in_ok-weights.weights.items c.values.result.now c.power_of_two.result
    c.in_ok-low.ensures.exact c.values.ensures.entries c.power_of_two.ensures.exact (c.in_ok-weights.ensures.items_if_clones_equal (λ x y h. h)) c.in-Ok.fast c.in-Ok.ensures.same c.in-Ok.ensures.passes

pub returns-in-Err-clause-exact : goal.returns-in-Err-clause-exact
returns-in-Err-clause-exact g c =
    let t = setting c.args.founded.now c.args.x.num c.args.x.den g.row.F in
    let us : c.values.result.now ≡ c.args.upper.now = c.values.ensures.entries in
    let same : length c.args.weights.now ≡ length c.values.result.now = omega (arith, ap length us, c.requires.one_per_class, c.requires.one_weight_per_class) in
    let low : length c.in_ok-low.low.items ≡ length c.values.result.now = ap length c.in_ok-low.ensures.exact ∙ length-lowered c.values.result.now c.args.weights.now c.power_of_two.result same in
    without-exact one_unit_off c.without.result (passing_candidate t c.args.upper.now c.args.weights.now c.args.k) c.without.ensures.none
    (candidate-fails t c.args.upper.now c.args.weights.now c.args.k c.in_ok-low.low.items c.in_ok-weights.weights.items c.values.result.now c.power_of_two.result
    c.in_ok-low.ensures.exact c.values.ensures.entries c.power_of_two.ensures.exact (c.in_ok-weights.ensures.items_if_clones_equal (λ x y h. h)) c.in-Err.fault (low ∙ ap length us ∙ c.requires.one_per_class) c.requires.one_weight_per_class c.in-Err.ensures.fault)
