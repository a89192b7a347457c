use Rattle.std.proofs.Common.{length, sym, ap, ◌∙◌}
use Rattle.std.proofs.lemmas.List.{length-map}
use Rattle.class_system.specs.Views.{number}
use Rattle.kleene_lower.proofs.Advance.{zero-clause}
use Rattle.kleene_lower.proofs.lower.Lower.new.Goals as goal

pub returns-clause-zero : goal.returns-clause-zero
returns-clause-zero g c =
    zero-clause c.from_start.result c.args.system.now g.row.F c.in_ok-classes.classes.items (length c.bodies.result.now) (c.in_ok-classes.ensures.items_if_clones_equal (λ y h. h))
    (sym (length-map c.bodies.result.now number) ∙ ap length c.bodies.ensures.bodies) c.from_start.ensures.from
