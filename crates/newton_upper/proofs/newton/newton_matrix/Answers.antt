use Rattle.std.proofs.Common.{◌≡◌, ◌∙◌, length, sym, ap, arith}
use Rattle.std.proofs.lemmas.List.{length-map}
use Rattle.class_system.specs.Views.{number}
use Rattle.rounded_map.specs.RoundedMap.{setting}
use Rattle.newton_upper.specs.Below.{all_below}
use Rattle.newton_upper.specs.Newton.{newton_column, newton_matrix}
use Rattle.newton_upper.proofs.ResultsBelow.{all-missing}
use Rattle.newton_upper.proofs.newton.newton_matrix.Goals as goal

pub returns-in_default-clause-exact : goal.returns-in_default-clause-exact
unfolding newton_matrix
returns-in_default-clause-exact g c =
    let classes : length c.bodies-c-end.result.now ≡ length c.args.system.now.bodies = sym (length-map c.bodies-c-end.result.now number) ∙ ap length c.bodies-c-end.ensures.bodies in
    sym (all-missing (newton_column (setting c.args.system.now c.args.x.num c.args.x.den g.row.F) c.args.values.now) c.loop-c.c (length c.args.system.now.bodies) (sym c.in_ok-column.ensures.exact ∙ c.in_default.is) (omega arith))

pub returns-clause-exact : goal.returns-clause-exact
unfolding newton_matrix
returns-clause-exact g c =
    let classes : length c.bodies-c-end.result.now ≡ length c.args.system.now.bodies = sym (length-map c.bodies-c-end.result.now number) ∙ ap length c.bodies-c-end.ensures.bodies in
    let all : c.loop-c.c ≡ length c.args.system.now.bodies = omega arith in
    sym c.loop-c.invariant.columns ∙ ap (all_below (newton_column (setting c.args.system.now c.args.x.num c.args.x.den g.row.F) c.args.values.now)) all
