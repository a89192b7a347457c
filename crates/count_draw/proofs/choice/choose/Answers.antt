-- The choice by the least option, and by whether it is reached.
use Rattle.std.proofs.Common.{ap, ◌∙◌}
use Rattle.count_draw.specs.Decision.{chosen_if}
use Rattle.count_draw.proofs.LeastOptions.{choice-by_reach}
use Rattle.count_draw.proofs.choice.choose.Goals as goal

pub returns-in-Some-clause-exact : goal.returns-in-Some-clause-exact
returns-in-Some-clause-exact g c = ap chosen_if c.then_some.ensures ∙ choice-by_reach g.row.F c.args.sums.now c.args.high c.args.room c.args.cell c.in-Some.option c.reaches.result c.requires.top c.in-Some.ensures.in_range.1 c.in-Some.ensures.exact (c.reaches.ensures.exact c.args.high c.args.room)
