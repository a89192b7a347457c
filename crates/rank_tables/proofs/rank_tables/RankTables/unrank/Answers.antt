use Rattle.std.proofs.Common.{◌≡◌, sym, subst}
use Rattle.std.proofs.lemmas.Result.{IfOk-weaker}
use Rattle.bz_model.specs.WellFounded.{IsWellFounded}
use Rattle.object_store.specs.Tokens.{size_of}
use Rattle.rank_tables.specs.Grids.{number_at}
use Rattle.rank_tables.specs.Shapes.{IsRankOf}
use Rattle.rank_tables.specs.Tables.{AreCounts, IsNumberOf}
use Rattle.rank_tables.specs.Unranking.{Fulfils}
use Rattle.rank_tables.proofs.Ranked.{counted-table, numbered-task, fulfils-ranked}
use Rattle.rank_tables.proofs.rank_tables.RankTables.unrank.Goals as goal

pub made-requires-clause-counted : goal.made-requires-clause-counted
made-requires-clause-counted c =
    let sound = c.known-2.ensures.sound in
    let founded : IsWellFounded c.system-system.result.now = subst IsWellFounded (sym c.system-system.ensures.system) c.known.ensures.well_founded in
    let table : AreCounts c.system-system.result.now c.requires.tables.0 (record { counts = c.self.inside.counts; tails = c.self.inside.tails }) = subst (λ s. AreCounts s c.requires.tables.0 (record { counts = c.self.inside.counts; tails = c.self.inside.tails })) (sym c.system-system.ensures.system) (subst (AreCounts c.args.founded.now c.requires.tables.0) (sym c.self.view_is) c.requires.tables.1) in
    counted-table c.system-system.result.now sound founded c.requires.tables.0 c.self.inside.counts c.self.inside.tails table c.self.invariant.0 c.self.invariant.1 c.self.invariant.2

pub made-requires-clause-task : goal.made-requires-clause-task
made-requires-clause-task c =
    let sound = c.known-2.ensures.sound in
    let founded : IsWellFounded c.system-system.result.now = subst IsWellFounded (sym c.system-system.ensures.system) c.known.ensures.well_founded in
    let table : AreCounts c.system-system.result.now c.requires.tables.0 (record { counts = c.self.inside.counts; tails = c.self.inside.tails }) = subst (λ s. AreCounts s c.requires.tables.0 (record { counts = c.self.inside.counts; tails = c.self.inside.tails })) (sym c.system-system.ensures.system) (subst (AreCounts c.args.founded.now c.requires.tables.0) (sym c.self.view_is) c.requires.tables.1) in
    numbered-task c.system-system.result.now sound founded c.requires.tables.0 c.self.inside.counts c.self.inside.tails table (record { node = c.body.result; size = c.args.size; number = c.args.number }) c.body.ensures.body c.requires.tables.2 (subst (λ s. IsNumberOf s 0 c.args.size c.args.number) (sym c.system-system.ensures.system) c.requires.below)

pub returns-clause-size : goal.returns-clause-size
returns-clause-size c =
    let sound = c.known-2.ensures.sound in
    let founded : IsWellFounded c.system-system.result.now = subst IsWellFounded (sym c.system-system.ensures.system) c.known.ensures.well_founded in
    let table : AreCounts c.system-system.result.now c.requires.tables.0 (record { counts = c.self.inside.counts; tails = c.self.inside.tails }) = subst (λ s. AreCounts s c.requires.tables.0 (record { counts = c.self.inside.counts; tails = c.self.inside.tails })) (sym c.system-system.ensures.system) (subst (AreCounts c.args.founded.now c.requires.tables.0) (sym c.self.view_is) c.requires.tables.1) in
    IfOk-weaker c.made.result (λ shape. Fulfils c.system-system.result.now (number_at c.self.inside.counts) (record { node = c.body.result; size = c.args.size; number = c.args.number }) shape.items) (λ shape. size_of shape.items ≡ c.args.size) (λ shape f. (fulfils-ranked c.system-system.result.now sound founded c.requires.tables.0 c.self.inside.counts c.self.inside.tails table (record { node = c.body.result; size = c.args.size; number = c.args.number }) shape.items c.body.ensures.body c.requires.tables.2 f).0) c.made.ensures.fulfils

pub returns-clause-rank : goal.returns-clause-rank
returns-clause-rank c =
    let sound = c.known-2.ensures.sound in
    let founded : IsWellFounded c.system-system.result.now = subst IsWellFounded (sym c.system-system.ensures.system) c.known.ensures.well_founded in
    let table : AreCounts c.system-system.result.now c.requires.tables.0 (record { counts = c.self.inside.counts; tails = c.self.inside.tails }) = subst (λ s. AreCounts s c.requires.tables.0 (record { counts = c.self.inside.counts; tails = c.self.inside.tails })) (sym c.system-system.ensures.system) (subst (AreCounts c.args.founded.now c.requires.tables.0) (sym c.self.view_is) c.requires.tables.1) in
    IfOk-weaker c.made.result (λ shape. Fulfils c.system-system.result.now (number_at c.self.inside.counts) (record { node = c.body.result; size = c.args.size; number = c.args.number }) shape.items) (λ shape. IsRankOf c.args.founded.now 0 shape.items c.args.number) (λ shape f. subst (λ s. IsRankOf s 0 shape.items c.args.number) c.system-system.ensures.system (fulfils-ranked c.system-system.result.now sound founded c.requires.tables.0 c.self.inside.counts c.self.inside.tails table (record { node = c.body.result; size = c.args.size; number = c.args.number }) shape.items c.body.ensures.body c.requires.tables.2 f).1) c.made.ensures.fulfils
