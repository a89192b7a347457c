use Rattle.std.proofs.Common.{refl, ◌∙◌, ap, map}
use Rattle.bz_model.specs.Spec.{Node}
use Rattle.class_system.specs.Views.{number}
use Rattle.spec_reader.specs.Building.{kept_in_sums, joined_in_node, joined_number}
use Rattle.spec_reader.proofs.Standing.{product_more, pushed}
use Rattle.spec_reader.proofs.sums.Sums.next_product.Goals as goal

pub returns-clause-read : goal.returns-clause-read
returns-clause-read c names p s =
    let before = c.args.self.now in
    product_more names p (kept_in_sums before) _ c.in_ok-e.e.0 s
    (c.in_ok-e.ensures.joined ∙ ap (λ fs. joined_in_node Node.Product before.draft (map number fs)) c.replace-factors.ensures.value)
    (c.in_ok-e.ensures.number ∙ ap (λ fs. joined_number before.draft (map number fs)) c.replace-factors.ensures.value)
    (pushed before.frame.products _ c.in_ok-e.e _ c.in_ok-push.ensures.ok refl)
    (ap (λ fs. map number fs) (c.replace-factors.ensures.after ∙ c.new.ensures.empty))
    refl
