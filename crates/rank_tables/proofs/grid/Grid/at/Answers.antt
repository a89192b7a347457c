use Rattle.std.proofs.Common.{◌≡◌, ◌+◌, ◌*◌, ◌<◌, arith, ap, ◌∙◌}
use Rattle.rank_tables.specs.Grids.{Cells, cell}
use Rattle.rank_tables.proofs.Cells.{place-inside}
use Rattle.rank_tables.proofs.Known.{known-read}
use Rattle.rank_tables.proofs.grid.Grid.at.Goals as goal

pub returns-clause-exact : goal.returns-clause-exact
returns-clause-exact c =
    let nodes : c.self.inside.nodes ≡ c.args.self.now.nodes = ap (λ (g : Cells). g.nodes) c.self.view_is in
    let sizes : c.self.inside.sizes ≡ c.args.self.now.sizes = ap (λ (g : Cells). g.sizes) c.self.view_is in
    let node : c.args.e.0 < c.self.inside.nodes = (let k = c.requires.node in omega arith) in
    let size : c.args.n < c.self.inside.sizes = (let k = c.requires.size in omega arith) in
    let inside = place-inside c.self.inside.nodes c.self.inside.sizes c.args.e.0 c.args.n node size in
    let known = c.self.invariant.0 in
    let plain = c.self.invariant.1 in
    c.number_of_parts.ensures.exact
    ∙ known-read c.self.inside.known.items c.self.inside.numbers.items (c.args.e.0 * c.self.inside.sizes + c.args.n) c.index.result.now c.index-2.result.now (omega arith) (omega arith) c.index.ensures c.index-2.ensures
    ∙ ap (λ (g : Cells). cell g c.args.e.0 c.args.n) c.self.view_is
