use Rattle.std.proofs.Common.{◌+◌, ◌-◌, length, drop, subst, refl, arith, length-drop}
use Rattle.std.proofs.lemmas.List.{take_all}
use Rattle.bz_model.specs.Number.{IsNumber}
use Rattle.bz_model.proofs.Numbers.{parted, not-parted}
use Rattle.bz_model.proofs.fraction.split.Goals as goal

pub returns-in_default-clause-none : goal.returns-in_default-clause-none
returns-in_default-clause-none c = λ _. not-parted c.args.text.now (c.in_default.ensures.none refl)

pub returns-then-not-is_number-clause-none : goal.returns-then-not-is_number-clause-none
returns-then-not-is_number-clause-none c = λ _ form.
    let p = parted c.args.text.now c.in-Some.stroke c.in-Some.ensures.here.0 c.in-Some.ensures.here.1 c.in-Some.ensures.before form in
    let t = c.if-not-is_number.ensures.1 (subst IsNumber p.num form.is_num) in
    cc

pub returns-then-not-is_number-2-clause-none : goal.returns-then-not-is_number-2-clause-none
returns-then-not-is_number-2-clause-none c = λ _ form.
    let p = parted c.args.text.now c.in-Some.stroke c.in-Some.ensures.here.0 c.in-Some.ensures.here.1 c.in-Some.ensures.before form in
    let t = c.if-not-is_number-2.ensures.1 (rw (take_all (length c.args.text.now - (c.in-Some.stroke + 1)) (drop (c.in-Some.stroke + 1) c.args.text.now) (omega (arith, length-drop (c.in-Some.stroke + 1) c.args.text.now))) (subst IsNumber p.den form.is_den)) in
    cc
