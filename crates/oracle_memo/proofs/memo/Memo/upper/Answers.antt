use Rattle.std.proofs.Common.{◌≡◌, ◌∙◌, ap, length, subst}
use Rattle.rounded_map.specs.RoundedMap.{setting}
use Rattle.oracle_memo.specs.Memos.{Memory}
use Rattle.oracle_memo.proofs.Raising.{length-level_up}
use Rattle.oracle_memo.proofs.memo.Memo.upper.Goals as goal

pub returns-clause-one_per_class : goal.returns-clause-one_per_class
returns-clause-one_per_class g c =
    let m = c.self.inside in
    subst (λ (v : Memory). length c.as_slice.result.now ≡ length v.spec.bodies) c.self.view_is
    (ap length c.as_slice.ensures.value ∙ ap length c.self.invariant.upper_is ∙ length-level_up (setting m.founded.now m.x.num m.x.den g.row.F) m.base m.raised c.self.invariant.post_fixed)
