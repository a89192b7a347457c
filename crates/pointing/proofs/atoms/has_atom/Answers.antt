use Rattle.std.proofs.Common.{◌∙◌, ap, sym, Some, map}
use Rattle.std.proofs.lemmas.Option.{same_Some}
use Rattle.std.specs.List.{list_any}
use Rattle.bz_model.specs.Spec.{Node}
use Rattle.class_system.specs.Views.{spec_node, number}
use Rattle.well_founded.specs.EmptyObjects.{answer_at}
use Rattle.pointing.specs.Forms.{node_form}
use Rattle.pointing.specs.Atoms.{is_atomic}
use Rattle.pointing.proofs.AtomMarks.{some-marked}
use Rattle.pointing.proofs.atoms.has_atom.Goals as goal

pub returns-in-Union : goal.returns-in-Union
returns-in-Union c = λ before n r e at.
    c.some_marked.ensures ∙ ap (list_any (λ p. answer_at c.args.marks.now p.0)) c.items.ensures.items ∙ some-marked c.args.classes.now c.args.marks.now before e c.in-Union.parts
    ∙ ap (λ m. is_atomic c.args.classes.now (node_form before m r)) (same_Some (Node.Union (map number c.in-Union.parts)) n (sym (c.node.ensures.node ∙ ap (λ x. Some (spec_node x)) c.in-Union.is) ∙ at))

pub returns-in-Product : goal.returns-in-Product
returns-in-Product c = λ before n r e at.
    c.some_marked-in-Product.ensures ∙ ap (list_any (λ p. answer_at c.args.marks.now p.0)) c.items-in-Product.ensures.items ∙ some-marked c.args.classes.now c.args.marks.now before e c.in-Product.parts
    ∙ ap (λ m. is_atomic c.args.classes.now (node_form before m r)) (same_Some (Node.Product (map number c.in-Product.parts)) n (sym (c.node.ensures.node ∙ ap (λ x. Some (spec_node x)) c.in-Product.is) ∙ at))
