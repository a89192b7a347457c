use Rattle.std.proofs.Common.{◌∙◌, refl, arith}
use Rattle.oracle_memo.proofs.Raising.{written-whole}
use Rattle.fast_lower.proofs.SweptUp.{upper-is, whole-fixed, whole-length, no-fault}
use Rattle.fast_lower.proofs.proposal.upper_vector.Goals as goal

pub check-requires : goal.check-requires
check-requires g c =
    let f = g.row.F in
    let is = upper-is c.system-system.result.now c.args.founded.now c.args.x.num c.args.x.den f c.system-system.ensures.system c.args.base.now _ c.sweep_up_on.new.classes c.deref_mut.result.now c.in_ok-classes.classes.items 4096 4096 (written-whole _ _ _ (omega arith)) c.sweep_up_on.ensures.swept c.deref_mut.ensures.value (c.in_ok-classes.ensures.items_if_clones_equal (λ x y h. h) ∙ c.values.ensures.entries) refl in
    (omega arith, (c.requires.fraction_bits, whole-length c.system-system.result.now c.args.founded.now c.args.x.num c.args.x.den f c.system-system.ensures.system c.args.base.now _ 4096 (omega (arith, c.requires.fraction_bits)) c.requires.belongs is))

pub returns-in-Ok-clause-exact : goal.returns-in-Ok-clause-exact
returns-in-Ok-clause-exact g c =
    c.in-Ok.ensures.same
    ∙ upper-is c.system-system.result.now c.args.founded.now c.args.x.num c.args.x.den g.row.F c.system-system.ensures.system c.args.base.now _ c.sweep_up_on.new.classes c.deref_mut.result.now c.in_ok-classes.classes.items 4096 4096 (written-whole _ _ _ (omega arith)) c.sweep_up_on.ensures.swept c.deref_mut.ensures.value (c.in_ok-classes.ensures.items_if_clones_equal (λ x y h. h) ∙ c.values.ensures.entries) refl

pub returns-in-Ok-clause-post_fixed : goal.returns-in-Ok-clause-post_fixed
returns-in-Ok-clause-post_fixed g c = whole-fixed c.system-system.result.now c.args.founded.now c.args.x.num c.args.x.den g.row.F c.system-system.ensures.system c.args.base.now _ 4096 (omega (arith, c.requires.fraction_bits)) c.requires.belongs (returns-in-Ok-clause-exact g c)

pub returns-in-Ok-clause-length : goal.returns-in-Ok-clause-length
returns-in-Ok-clause-length g c = whole-length c.system-system.result.now c.args.founded.now c.args.x.num c.args.x.den g.row.F c.system-system.ensures.system c.args.base.now _ 4096 (omega (arith, c.requires.fraction_bits)) c.requires.belongs (returns-in-Ok-clause-exact g c)

pub unreachable-requires : goal.unreachable-requires
unreachable-requires g c =
    let h = rw c.in-Err-NotPostFixed.field-0-is at c.in-Err-NotPostFixed.ensures in
    no-fault c.system-system.result.now c.args.founded.now c.args.x.num c.args.x.den g.row.F c.system-system.ensures.system c.args.base.now _ 4096 _ _ (omega (arith, c.requires.fraction_bits)) c.requires.belongs
    (upper-is c.system-system.result.now c.args.founded.now c.args.x.num c.args.x.den g.row.F c.system-system.ensures.system c.args.base.now _ c.sweep_up_on.new.classes c.deref_mut.result.now c.in_ok-classes.classes.items 4096 4096 (written-whole _ _ _ (omega arith)) c.sweep_up_on.ensures.swept c.deref_mut.ensures.value (c.in_ok-classes.ensures.items_if_clones_equal (λ x y h. h) ∙ c.values.ensures.entries) refl)
    h.fault
