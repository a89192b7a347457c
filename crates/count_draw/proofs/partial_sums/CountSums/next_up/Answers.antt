-- The next number is carried from this one, and its term is added.
use Rattle.std.proofs.Common.{◌+◌, ◌-◌, ◌^◌, ◌≤◌, arith, refl, sym, subst}
use Rattle.fixed_enclosure.specs.Rounded.{Side}
use Rattle.count_draw.specs.Kinds.{series_of_kind}
use Rattle.count_draw.specs.Table.{Filling, IsRun}
use Rattle.count_draw.proofs.Runs.{up-next}
use Rattle.count_draw.proofs.partial_sums.CountSums.next_up.Goals as goal

pub returns-clause-run : goal.returns-clause-run
returns-clause-run g c =
    let inside : Filling = record { kind = series_of_kind c.self.inside.kind; low = c.self.inside.low; part = c.self.inside.part; whole = c.self.inside.whole; room = c.self.inside.room } in
    let hi : c.self.inside.whole.hi ≤ 2 ^ 64 - 1 = omega arith in
    subst (λ (t : Filling). IsRun Side.Up g.row.F t (c.args.run.place + 1) c.in_ok-power.power c.min-sum.result) c.self.view_is
    (up-next g.row.F inside (omega arith) c.args.run.place (c.args.run.place + 1) c.args.run.power c.args.run.sum c.in_ok-power.power c.term_up-term.result c.min-sum.result
    (subst (λ (t : Filling). IsRun Side.Up g.row.F t c.args.run.place c.args.run.power c.args.run.sum) (sym c.self.view_is) c.requires.run) refl c.in_ok-power.ensures.exact c.in_ok-power.ensures.small c.term_up-term.ensures.exact (omega (arith, c.min-sum.ensures, c.saturating_add-sum.ensures, c.kept_of.ensures.exact, hi)))
