use Rattle.std.proofs.Common.{◌∙◌, ◌-◌, ap, refl, length, take}
use Rattle.std.specs.Prelude.{◌++◌, ◌∷◌, []}
use Rattle.bz_model.specs.Spec.{Node, plain_range}
use Rattle.class_system.specs.Drafting.{with_node}
use Rattle.class_system.specs.Views.{number}
use Rattle.std.proofs.Common.{map}
use Rattle.pointing.specs.Forms.{Form}
use Rattle.pointing.proofs.Layouts.{on-both, layout-joined}
use Rattle.pointing.proofs.layout.Layout.union.Goals as goal

pub returns : goal.returns
returns c = record {
  laid = on-both c.add.result c.add.ensures.draft c.add.ensures.numbers (λ added numbered names fs is.
      layout-joined (λ ps. Node.Union ps) (λ gs. Form.Union gs) (λ first gs. refl) (λ ps. refl) names fs c.args.n c.args.self.now c.add.new.self (map number c.in_ok-parts.parts) is c.in_ok-parts.ensures.parts
      (added ∙ ap (λ d. with_node d (Node.Union (map number c.in_ok-parts.parts)) (plain_range (Node.Union (map number c.in_ok-parts.parts)))) c.in_ok-parts.ensures.draft)
      (numbered ∙ ap (λ z. z ++ length c.take_last.new.self.draft.nodes ∷ []) c.in_ok-parts.ensures.numbers ∙ ap (λ d. take (length c.args.self.now.numbers - c.args.n) c.args.self.now.numbers ++ length d.nodes ∷ []) c.in_ok-parts.ensures.draft));
}
