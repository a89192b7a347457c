-- The first term is one, or nothing for a cycle.
use Rattle.std.proofs.Common.{arith, subst}
use Rattle.fixed_enclosure.specs.Rounded.{Side}
use Rattle.count_draw.specs.Kinds.{series_of_kind}
use Rattle.count_draw.specs.Table.{Filling, IsRun}
use Rattle.count_draw.proofs.Runs.{down-starts}
use Rattle.count_draw.proofs.partial_sums.CountSums.start_down.Goals as goal

pub returns-clause-run : goal.returns-clause-run
returns-clause-run g c =
    let inside : Filling = record { kind = series_of_kind c.self.inside.kind; low = c.self.inside.low; part = c.self.inside.part; whole = c.self.inside.whole; room = c.self.inside.room } in
    subst (λ (t : Filling). IsRun Side.Down g.row.F t 0 c.power_of_two-power.result c.kept_of.result) c.self.view_is
    (down-starts g.row.F inside (omega arith) c.power_of_two-power.result c.term_down.result c.kept_of.result c.power_of_two-power.ensures.exact c.term_down.ensures.exact (omega (arith, c.kept_of.ensures.exact)))
