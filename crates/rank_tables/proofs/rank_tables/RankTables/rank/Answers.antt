use Rattle.std.proofs.Common.{map, sym, subst}
use Rattle.bz_model.specs.WellFounded.{IsWellFounded}
use Rattle.object_store.specs.Tokens.{IsOf}
use Rattle.rank_tables.specs.Grids.{number_at}
use Rattle.rank_tables.specs.RankSteps.{IsFirstTold, visit_of}
use Rattle.rank_tables.specs.Shapes.{IsRankOf}
use Rattle.rank_tables.specs.Tables.{AreCounts}
use Rattle.rank_tables.specs.Visits.{all_visited}
use Rattle.rank_tables.proofs.Ranked.{counted-table, placed-ranked}
use Rattle.rank_tables.proofs.rank_tables.RankTables.rank.Goals as goal

pub steps_of-requires-clause-unlabelled : goal.steps_of-requires-clause-unlabelled
steps_of-requires-clause-unlabelled c =
    let sound = c.known-2.ensures.sound in
    let founded : IsWellFounded c.system-system.result.now = subst IsWellFounded (sym c.system-system.ensures.system) c.known.ensures.well_founded in
    let table : AreCounts c.system-system.result.now c.requires.tables.0 (record { counts = c.self.inside.counts; tails = c.self.inside.tails }) = subst (λ s. AreCounts s c.requires.tables.0 (record { counts = c.self.inside.counts; tails = c.self.inside.tails })) (sym c.system-system.ensures.system) (subst (AreCounts c.args.founded.now c.requires.tables.0) (sym c.self.view_is) c.requires.tables.1) in
    table.unlabelled

pub steps_of-requires-clause-object : goal.steps_of-requires-clause-object
steps_of-requires-clause-object c = subst (λ s. IsOf s 0 c.args.shape.now.items) (sym c.system-system.ensures.system) c.requires.object

pub first_placed-requires : goal.first_placed-requires
first_placed-requires c =
    let sound = c.known-2.ensures.sound in
    let founded : IsWellFounded c.system-system.result.now = subst IsWellFounded (sym c.system-system.ensures.system) c.known.ensures.well_founded in
    let table : AreCounts c.system-system.result.now c.requires.tables.0 (record { counts = c.self.inside.counts; tails = c.self.inside.tails }) = subst (λ s. AreCounts s c.requires.tables.0 (record { counts = c.self.inside.counts; tails = c.self.inside.tails })) (sym c.system-system.ensures.system) (subst (AreCounts c.args.founded.now c.requires.tables.0) (sym c.self.view_is) c.requires.tables.1) in
    record { counted = counted-table c.system-system.result.now sound founded c.requires.tables.0 c.self.inside.counts c.self.inside.tails table c.self.invariant.0 c.self.invariant.1 c.self.invariant.2 }

pub returns-in-Some : goal.returns-in-Some
returns-in-Some c =
    let sound = c.known-2.ensures.sound in
    let founded : IsWellFounded c.system-system.result.now = subst IsWellFounded (sym c.system-system.ensures.system) c.known.ensures.well_founded in
    let table : AreCounts c.system-system.result.now c.requires.tables.0 (record { counts = c.self.inside.counts; tails = c.self.inside.tails }) = subst (λ s. AreCounts s c.requires.tables.0 (record { counts = c.self.inside.counts; tails = c.self.inside.tails })) (sym c.system-system.ensures.system) (subst (AreCounts c.args.founded.now c.requires.tables.0) (sym c.self.view_is) c.requires.tables.1) in
    record {
      rank = subst (λ s. IsRankOf s 0 c.args.shape.now.items c.in-Some.rank) c.system-system.ensures.system
          (placed-ranked c.system-system.result.now sound founded c.requires.tables.0 c.self.inside.counts c.self.inside.tails table c.args.shape.now.items c.in_ok-steps.steps.items c.in_ok-first.first c.in-Some.rank c.in_ok-steps.ensures.steps
          (subst (λ z. IsFirstTold c.in_ok-first.first (all_visited c.system-system.result.now (number_at c.self.inside.counts) (map visit_of z))) c.deref.ensures.value c.in_ok-first.ensures.first)
          c.in-Some.is c.requires.tables.2);
    }
