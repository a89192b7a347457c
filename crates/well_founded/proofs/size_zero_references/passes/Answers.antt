use Rattle.std.proofs.Common.{◌↔◌, ◌<◌, length, arith, ◌∙◌, ap, map, subst, Some}
use Rattle.bz_model.specs.Spec.{Node}
use Rattle.class_system.specs.Views.{spec_node, number}
use Rattle.well_founded.specs.Ways.{IsIn, OnePoints}
use Rattle.well_founded.proofs.Passed.{passes-product}
use Rattle.well_founded.proofs.size_zero_references.passes.Goals as goal

pub only-requires : goal.only-requires
only-requires c =
    let below : c.in-Class.class.0 < length c.args.system.now.names = c.requires.sound.references.at c.args.e.0 (Node.Class c.in-Class.class.0) (c.node.ensures.node ∙ ap (λ x. Some (spec_node x)) c.in-Class.is) in
    omega arith

pub returns-in-Product : goal.returns-in-Product
returns-in-Product c = λ d.
    let same = passes-product c.args.system.now c.args.zero.now c.args.sets.now c.args.e.0 c.in-Product.parts c.requires.zero (c.node.ensures.node ∙ ap (λ x. Some (spec_node x)) c.in-Product.is) d in
    let joined = subst (λ xs. IsIn c.of_one.result d ↔ OnePoints c.args.zero.now c.args.sets.now (map number xs) d) c.items-in-Product.ensures.items (c.of_one.ensures d) in
    (λ k. same.0 (joined.0 k), λ k. joined.1 (same.1 k))
