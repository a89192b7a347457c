use Rattle.std.proofs.Common.{◌≡◌, ◌∙◌, ◌-◌, ◌+◌, ◌*◌, ◌<◌, length, subst, ap, arith, ℕ}
use Rattle.std.proofs.lemmas.List.{get_or_read}
use Rattle.std.proofs.lemmas.Nat.{mul-add-lt}
use Rattle.rounded_map.specs.RoundedMap.{setting}
use Rattle.oracle_memo.specs.Levels.{level_bounds_from}
use Rattle.oracle_memo.specs.Memos.{Memory, widest_bounds, bounds_at}
use Rattle.oracle_memo.proofs.memo.MemoOracle.bounds.Goals as goal

pub returns-clause-table : goal.returns-clause-table
returns-clause-table g c =
    let m = c.self.inside in
    let t = setting m.founded.now m.x.num m.x.den g.row.F in
    let n = length m.founded.now.nodes in
    let row = c.args.level - 1 in
    let nodes : length m.founded.now.nodes ≡ length c.args.self.now.spec.nodes = ap (λ (v : Memory). length v.spec.nodes) c.self.view_is in
    let within : c.args.node < n = omega (arith, c.requires.in_range) in
    let level : row + 1 ≡ c.args.level = omega arith in
    let inside : row * n + c.args.node < n * 6 = mul-add-lt row n c.args.node 6 (omega (arith, c.self.invariant.few_levels)) within in
    let width : c.len-nodes.result ≡ n = c.len-nodes.ensures ∙ c.self.invariant.low_values in
    let place : (c.from-row.result - 1) * c.len-nodes.result + c.args.node ≡ row * n + c.args.node = ap (λ (l : ℕ). (l - 1) * c.len-nodes.result + c.args.node) c.from-row.ensures ∙ ap (λ (w : ℕ). row * w + c.args.node) width in
    subst (λ (v : Memory). c.index.result.now ≡ level_bounds_from (setting v.spec v.num v.den g.row.F) v.start v.base c.args.level c.args.node) c.self.view_is
    (get_or_read m.table.items ((c.from-row.result - 1) * c.len-nodes.result + c.args.node) c.index.result.now (omega (arith, c.self.invariant.room)) c.index.ensures widest_bounds
    ∙ ap (bounds_at m.table.items) place
    ∙ c.self.invariant.rows.at row c.args.node (omega arith) within
    ∙ ap (λ (l : ℕ). level_bounds_from t m.start.items m.base l c.args.node) level)
