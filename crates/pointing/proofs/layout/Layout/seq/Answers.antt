use Rattle.std.proofs.Common.{◌∙◌, ap, length, ◌++◌, ◌∷◌, [], append-nil}
use Rattle.std.specs.Prelude.{option_to_list, option_map}
use Rattle.bz_model.specs.Spec.{Node, plain_range}
use Rattle.class_system.specs.Drafting.{with_node}
use Rattle.class_system.specs.Views.{number}
use Rattle.pointing.proofs.Layouts.{on-both, layout-seq, layout-none}
use Rattle.pointing.proofs.layout.Layout.seq.Goals as goal

pub returns-in-Some : goal.returns-in-Some
returns-in-Some c = record {
  laid = on-both c.add.result c.add.ensures.draft c.add.ensures.numbers (λ added numbered names fs is.
      layout-seq names fs c.args.self.now c.add.new.self c.in-Some.part.0 c.pop.new.self.numbers is
      (c.pop.ensures.numbers ∙ ap (λ r. c.pop.new.self.numbers ++ option_to_list (option_map number r)) c.in-Some.is)
      (added ∙ ap (λ d. with_node d (Node.Seq c.in-Some.part.0) (plain_range (Node.Seq c.in-Some.part.0))) c.pop.ensures.draft)
      (numbered ∙ ap (λ d. c.pop.new.self.numbers ++ length d.nodes ∷ []) c.pop.ensures.draft));
}

pub returns-in-None : goal.returns-in-None
returns-in-None c = record {
  laid = λ names fs is. layout-none names fs c.args.self.now c.pop.new.self is
      c.pop.ensures.draft
      (c.pop.ensures.numbers ∙ ap (λ r. c.pop.new.self.numbers ++ option_to_list (option_map number r)) c.in-None.is ∙ append-nil c.pop.new.self.numbers) c.in-None.ensures.none;
}
