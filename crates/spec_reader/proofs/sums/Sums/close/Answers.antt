use Rattle.std.proofs.Common.{refl, ◌∙◌, ap, map}
use Rattle.spec_reader.specs.Building.{kept_in_sums, outer_kept}
use Rattle.spec_reader.proofs.Numbering.{map-snoc}
use Rattle.spec_reader.proofs.Standing.{close_more, pushed}
use Rattle.spec_reader.proofs.sums.Sums.close.Goals as goal

pub returns-clause-read : goal.returns-clause-read
returns-clause-read c names p s =
    let before = c.args.self.now in
    let items = c.in-Some.ensures.items in
    close_more names p (kept_in_sums before) _ (outer_kept c.in-Some.outer) (map outer_kept c.pop.new.self.items) c.end_sum.new.self.draft c.in_ok-sum.sum.0 c.in_ok-e.e.0 s
    (ap (λ os. map outer_kept os) items ∙ map-snoc outer_kept c.pop.new.self.items c.in-Some.outer)
    c.in_ok-sum.ensures.sum
    c.in_ok-e.ensures.wrapped
    c.in_ok-e.ensures.number
    refl
    (pushed c.in-Some.outer.frame.factors _ c.in_ok-e.e _ c.in_ok-push.ensures.ok refl)
    (ap (λ os. map outer_kept os) c.in_ok-sum.ensures.outers)
