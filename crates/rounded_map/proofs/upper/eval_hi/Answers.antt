use Rattle.std.proofs.Common.{◌∙◌}
use Rattle.rounded_map.proofs.Bounding.{on_ok, values-above-at}
use Rattle.rounded_map.proofs.upper.eval_hi.Goals as goal

pub returns-clause-bounds : goal.returns-clause-bounds
returns-clause-bounds g c =
    on_ok c.copy_values.result c.copy_values.ensures.values
    (λ same entries. values-above-at c.args.system.now c.args.x.num c.args.x.den g.row.F c.args.classes.now _ c.known.ensures.sound c.args.x.den_in_limits.0 (same ∙ c.fill_values.ensures.values) entries)
