-- What was compared now is marked beside what was compared before.
use Rattle.std.proofs.Common.{◌≡◌, arith, refl, sym, subst}
use Rattle.class_system.specs.Views.{spec_range}
use Rattle.count_draw.specs.Kinds.{series_of_kind}
use Rattle.count_draw.specs.ComparedCounts.{IsKeptCount, kept_for}
use Rattle.count_draw.proofs.ComparingCounts.{kept-there, for-few, more-compared}
use Rattle.count_draw.proofs.cache.KeptTables.is_for.Goals as goal

pub returns-clause-compared : goal.returns-clause-compared
returns-clause-compared g c =
    let s = c.args.system.now in
    let table = g.O.Oracle.table c.args.oracle.now in
    let node = c.args.node.0 in
    let counted = c.counted_at-counted.result in
    let at = c.counted_at-counted.ensures in
    let by = c.index.result.now.firsts in
    let same : by ≡ kept_for c.args.self.now node = kept-there c.args.self.now node c.args.place c.index.result.now c.requires.place c.requires.inside c.index.ensures in
    let here : IsKeptCount s g.row.F table node c.args.bits by = record { kind = series_of_kind counted.kind; part = counted.part.0; range = spec_range counted.range; node = at.node; has_range = at.range; bounds = c.if-not-is_for.ensures.bounds refl } in
    more-compared s g.row.F table (g.O.Oracle.raised c.args.oracle.now) c.args.self.now c.args.marks.now c.put.new.self node c.requires.compared c.put.ensures (c.if-not-is_for.ensures.from_one refl)
    (subst (IsKeptCount s g.row.F table node 10) same (for-few s g.row.F table node c.args.bits 10 by (omega arith) here))
