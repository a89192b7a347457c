use Rattle.std.proofs.Common.{◌∙◌, ap, Some}
use Rattle.bz_model.specs.Spec.{Node}
use Rattle.std.specs.List.{list_any, list_all}
use Rattle.class_system.specs.Views.{spec_node}
use Rattle.well_founded.specs.EmptyObjects.{answer_at}
use Rattle.well_founded.proofs.Marked.{gets-union, gets-product}
use Rattle.well_founded.proofs.inhabited.gets.Goals as goal

pub body-requires : goal.body-requires
body-requires c = record { in_range = c.requires.sound.references.at c.args.e.0 (Node.Class c.in-Class.class.0) (c.node.ensures.node ∙ ap (λ x. Some (spec_node x)) c.in-Class.is) }

pub returns-in-Union : goal.returns-in-Union
returns-in-Union c =
    gets-union _ _ _ _ c.in-Union.parts _ (c.node.ensures.node ∙ ap (λ x. Some (spec_node x)) c.in-Union.is) (c.some_marked.ensures ∙ ap (λ xs. list_any (λ p. answer_at c.args.marks.now p.0) xs) c.items.ensures.items)

pub returns-in-Product : goal.returns-in-Product
returns-in-Product c =
    gets-product _ _ _ _ c.in-Product.parts _ (c.node.ensures.node ∙ ap (λ x. Some (spec_node x)) c.in-Product.is) (c.all_marked.ensures ∙ ap (λ xs. list_all (λ p. answer_at c.args.marks.now p.0) xs) c.items-in-Product.ensures.items)
