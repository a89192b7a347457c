use Rattle.std.proofs.Common.{refl, ◌∙◌, ap}
use Rattle.class_system.specs.Views.{spec_node}
use Rattle.class_system.specs.Drafting.{with_node}
use Rattle.spec_reader.specs.Building.{kept_in_sums}
use Rattle.spec_reader.proofs.Standing.{leaf_more, pushed}
use Rattle.spec_reader.proofs.sums.Sums.leaf.Goals as goal

pub returns-clause-read : goal.returns-clause-read
returns-clause-read c names p t leaf s =
    leaf_more names p t (spec_node c.args.node) (kept_in_sums c.args.self.now) _ leaf s
    (c.in_ok-e.ensures.ok ∙ ap (λ r. with_node c.args.self.now.draft (spec_node c.args.node) r) c.requires.plain)
    refl
    (pushed c.args.self.now.frame.factors _ c.in_ok-e.e _ c.in_ok-push.ensures.ok c.in_ok-e.ensures.number)
    refl
