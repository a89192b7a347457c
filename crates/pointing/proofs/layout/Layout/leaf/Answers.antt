use Rattle.class_system.specs.Views.{spec_node}
use Rattle.pointing.proofs.Layouts.{on-both, layout-leaf}
use Rattle.pointing.proofs.layout.Layout.leaf.Goals as goal

pub returns : goal.returns
returns c = record {
  laid = on-both c.add.result c.add.ensures.draft c.add.ensures.numbers (λ added numbered names fs f is shape ranged. layout-leaf names fs f (spec_node c.args.leaf) c.args.self.now c.add.new.self is shape ranged added numbered);
}
