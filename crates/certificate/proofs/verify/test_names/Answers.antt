use Rattle.std.proofs.Common.{◌≡◌, ◌≢◌, ◌+◌, ◌<◌, ◌≤◌, arith, length, min, refl, sym, ◌∙◌, ap, subst, below_more}
use Rattle.certificate.proofs.BaseTests.{Agree, names-differ, names-unequal, names-pass}
use Rattle.certificate.proofs.verify.test_names.Goals as goal

pub returns-then-not-is_name_of : goal.returns-then-not-is_name_of
returns-then-not-is_name_of c =
    names-differ c.args.line c.loop-class.class c.args.names.now c.args.system.now.names
    (omega (arith, c.loop-class-test.true, c.min-count.ensures, c.len.ensures.len, c.class_count.ensures.count))
    (omega (arith, c.loop-class-test.true, c.min-count.ensures, c.len.ensures.len, c.class_count.ensures.count))
    c.loop-class.invariant (c.is_name_of.ensures.other c.if-not-is_name_of.true)

pub loop-class-preserved : goal.loop-class-preserved
loop-class-preserved c = below_more _ _ c.loop-class.invariant (c.is_name_of.ensures.same c.if-not-is_name_of.false)

pub returns-then-len-class_count : goal.returns-then-len-class_count
returns-then-len-class_count c =
    let at : c.loop-class.class ≡ c.min-count.result = omega (arith, c.loop-class-test.false, c.loop-class.auto.class-end) in
    let least : c.min-count.result ≡ min (length c.args.system.now.names) (length c.args.names.now) = omega (arith, c.min-count.ensures, c.len.ensures.len, c.class_count.ensures.count) in
    names-unequal c.args.line c.min-count.result c.args.names.now c.args.system.now.names least (subst (Agree c.args.names.now c.args.system.now.names) at c.loop-class.invariant)
    (λ e. c.if-len-class_count.true (c.len-2.ensures.len ∙ e ∙ sym c.class_count-2.ensures.count))

pub returns : goal.returns
returns c =
    let at : c.loop-class.class ≡ c.min-count.result = omega (arith, c.loop-class-test.false, c.loop-class.auto.class-end) in
    let same : length c.args.names.now ≡ length c.args.system.now.names = sym c.len-2.ensures.len ∙ c.if-len-class_count.false ∙ c.class_count-2.ensures.count in
    let all : c.loop-class.class ≡ length c.args.names.now = omega (arith, at, same, c.min-count.ensures, c.len.ensures.len, c.class_count.ensures.count) in
    names-pass c.args.line c.loop-class.class c.args.names.now c.args.system.now.names all same c.loop-class.invariant
