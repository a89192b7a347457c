-- The first term is one, or nothing for a cycle.
use Rattle.std.proofs.Common.{◌≤◌, arith, subst}
use Rattle.fixed_enclosure.specs.Rounded.{Side}
use Rattle.count_draw.specs.Kinds.{series_of_kind}
use Rattle.count_draw.specs.Table.{Filling, IsRun}
use Rattle.count_draw.proofs.SmallTerms.{one-small}
use Rattle.count_draw.proofs.Runs.{up-starts}
use Rattle.count_draw.proofs.partial_sums.CountSums.start_up.Goals as goal

pub returns-clause-run : goal.returns-clause-run
returns-clause-run g c =
    let inside : Filling = record { kind = series_of_kind c.self.inside.kind; low = c.self.inside.low; part = c.self.inside.part; whole = c.self.inside.whole; room = c.self.inside.room } in
    subst (λ (t : Filling). IsRun Side.Up g.row.F t 0 c.power_of_two-power.result c.min.result) c.self.view_is
    (up-starts g.row.F inside (omega arith) c.power_of_two-power.result c.term_up.result c.min.result c.power_of_two-power.ensures.exact c.term_up.ensures.exact (omega (arith, c.kept_of-first.ensures.exact, c.min.ensures)))

pub term_up-requires-clause-small : goal.term_up-requires-clause-small
term_up-requires-clause-small g c = let few : g.row.F ≤ 56 = omega arith in omega (arith, one-small g.row.F few, c.power_of_two-power.ensures.exact)
