use Rattle.std.proofs.Common.{ap, ◌∙◌}
use Rattle.point_command.specs.PointCommand.{form_text}
use Rattle.point_command.proofs.Printing.{can_be, pointable, point_refused}
use Rattle.point_command.proofs.point.pointed_lines.Goals as goal

-- the text is that of the pointed specification
pub returns-in_ok-form_lines-in-Ok-clause-text : goal.returns-in_ok-form_lines-in-Ok-clause-text
returns-in_ok-form_lines-in-Ok-clause-text c = c.in_ok-form_lines-in-Ok.ensures ∙ ap form_text (c.system-in-Ok.ensures.system ∙ c.in-Ok.ensures.system)

-- the specification can be pointed
pub returns-in_ok-form_lines-in-Ok-clause-can : goal.returns-in_ok-form_lines-in-Ok-clause-can
returns-in_ok-form_lines-in-Ok-clause-can c =
    let s = c.args.founded.now in
    let able = pointable s c.system.result.now c.system.ensures.system c.known-in-Ok.ensures.sound c.known-in-Ok.ensures.limits c.in-Ok.ensures.plain c.known.ensures.inhabited in
    can_be s able c.in-Ok.ensures.pointing.an_atom (c.the_classes_with_an_atom_are_found.ensures.right s able) c.in-Ok.ensures.limits

-- it can't
pub returns-in_ok-point_refusal-in-Err-clause-err :
    goal.returns-in_ok-point_refusal-in-Err-clause-err
returns-in_ok-point_refusal-in-Err-clause-err c = point_refused c.args.founded.now c.in-Err.fault _ _ c.in_ok-point_refusal-in-Err.ensures.memory c.in-Err.ensures.fault c.in_ok-point_refusal-in-Err.ensures.says
