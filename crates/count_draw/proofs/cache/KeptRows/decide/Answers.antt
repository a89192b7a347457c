-- The rows stay those of what they are kept for.
use Rattle.std.proofs.Common.{◌≡◌, ap, ◌∙◌}
use Rattle.count_draw.specs.Kinds.{series_of_kind}
use Rattle.count_draw.specs.Table.{Filling}
use Rattle.count_draw.specs.Row.{RowsKey, roomless}
use Rattle.count_draw.proofs.KeptRows.{lower-kept, upper-kept}
use Rattle.count_draw.proofs.cache.KeptRows.decide.Goals as goal

pub invariant_of-self : goal.invariant_of-self
invariant_of-self g c = λ some.
    let filling : Filling = record { kind = series_of_kind c.self.inside.kind; low = c.self.inside.low; part = c.self.inside.part; whole = c.self.inside.whole; room = 0 } in
    let bits : c.self.inside.bits ≡ g.row.F = ap (λ (k : RowsKey). k.bits) c.self.view_is ∙ c.keep_for.ensures.bits in
    let same : filling ≡ roomless c.args.sums.now = ap (λ (k : RowsKey). k.filling) c.self.view_is ∙ c.keep_for.ensures.filling in
    (lower-kept g.row.F c.self.inside.bits c.args.sums.now filling c.choose.new.lower bits same c.choose.ensures.lower, upper-kept g.row.F c.self.inside.bits c.args.sums.now filling c.choose.new.upper bits same c.choose.ensures.upper)
