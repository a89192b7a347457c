use Rattle.std.proofs.Common.{◌∙◌, ap, map}
use Rattle.class_system.specs.Views.{number}
use Rattle.spec_reader.specs.Building.{kept_in_sums, outer_kept}
use Rattle.spec_reader.proofs.Standing.{line_more, none_around}
use Rattle.spec_reader.proofs.sums.Sums.end_line.Goals as goal

pub returns-clause-read : goal.returns-clause-read
returns-clause-read c names p s =
    let before = c.args.self.now in
    let none = none_around c.as_slice.result.now before.outers.items c.if-not-is_empty.ensures c.as_slice.ensures.value in
    line_more names p (kept_in_sums before) _ c.end_sum.new.self.draft c.in_ok-sum.sum.0 s
    (ap (λ os. map outer_kept os) none)
    c.in_ok-sum.ensures.sum
    c.in_ok-set_body.ensures.ok
    (ap (λ ps. map number ps) c.in_ok-sum.ensures.products)
    (ap (λ ps. map number ps) c.in_ok-sum.ensures.factors)
    (ap (λ os. map outer_kept os) (c.in_ok-sum.ensures.outers ∙ none))
