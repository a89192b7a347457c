use Rattle.oracle_memo.proofs.Enclosing.{none_missing}
use Rattle.oracle_memo.proofs.memo.eval_there.Goals as goal

pub unreachable-requires : goal.unreachable-requires
unreachable-requires g c = none_missing c.args.system.now c.args.x.num c.args.x.den g.row.F c.known.ensures.sound c.args.x.den_in_limits.0 c.args.classes.now c.requires.post_fixed c.in-Err.field-0.node.0 c.in-Err.ensures.fault
