use Rattle.entry_replay.proofs.Fronts.{not-behind}
use Rattle.entry_replay.proofs.replay.are_joined.Goals as goal

pub returns-in_default-behind-clause-other : goal.returns-in_default-behind-clause-other
returns-in_default-behind-clause-other c = λ told. not-behind c.args.own.now c.args.more.now c.args.cells.now c.in-Some.rest.now c.in-Some.ensures.found c.in_default-behind.ensures.none
