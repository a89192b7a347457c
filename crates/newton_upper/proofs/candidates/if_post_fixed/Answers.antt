use Rattle.std.proofs.Common.{List, ℕ, sym, subst}
use Rattle.rounded_map.specs.RoundedMap.{setting, values_up, bodies_up, IsPostFixed, IsFirstAbove}
use Rattle.newton_upper.proofs.FixedTest.{passes, fails}
use Rattle.newton_upper.proofs.candidates.if_post_fixed.Goals as goal

pub returns-in-Ok-clause-exact : goal.returns-in-Ok-clause-exact
returns-in-Ok-clause-exact g c =
    let t = setting c.args.system.now c.args.x.num c.args.x.den g.row.F in
    sym (passes t c.args.vector (subst (λ (v : List ℕ). IsPostFixed t v) c.items.ensures.items c.in-Ok.ensures.post_fixed))

pub returns-in-Err-clause-exact : goal.returns-in-Err-clause-exact
returns-in-Err-clause-exact g c =
    let t = setting c.args.system.now c.args.x.num c.args.x.den g.row.F in
    sym (fails t c.args.vector c.in-Err.field-0.class_id.0 c.in-Err.field-0.got c.requires.one_per_class
    (subst (λ (v : List ℕ). IsFirstAbove (bodies_up t (values_up t v)) v c.in-Err.field-0.class_id.0 c.in-Err.field-0.got) c.items.ensures.items c.in-Err.ensures.fault))
