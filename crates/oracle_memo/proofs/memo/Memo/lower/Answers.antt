use Rattle.std.proofs.Common.{◌≡◌, ◌∙◌, ap, length, subst}
use Rattle.rounded_map.specs.RoundedMap.{setting}
use Rattle.oracle_memo.specs.Levels.{level_down_from}
use Rattle.oracle_memo.specs.Memos.{Memory}
use Rattle.oracle_memo.proofs.Raising.{level_down-is, length-level_down}
use Rattle.oracle_memo.proofs.memo.Memo.lower.Goals as goal

pub returns : goal.returns
returns g c =
    let m = c.self.inside in
    let vector = subst (λ (v : Memory). c.values.result.now ≡ level_down_from (setting v.spec v.num v.den g.row.F) v.start v.raised) c.self.view_is
    (c.values.ensures.entries ∙ level_down-is (setting m.founded.now m.x.num m.x.den g.row.F) m.start.items m.lower m.raised c.self.invariant.lower_is c.self.invariant.lower_done) in
    let v = c.args.self.now in
    let lengths = subst (λ (k : Memory). length k.start ≡ length k.spec.bodies) c.self.view_is c.self.invariant.lower_is.one_per_class in
    record {
      vector = vector;
      one_per_class = ap length vector ∙ length-level_down (setting v.spec v.num v.den g.row.F) v.start v.raised lengths;
    }
