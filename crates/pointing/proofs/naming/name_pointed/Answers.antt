use Rattle.std.proofs.Common.{◌∙◌, ◌++◌, length, arith, ap, take, map}
use Rattle.std.specs.Prelude.{codes}
use Rattle.std.proofs.lemmas.List.{length-take-le}
use Rattle.class_system.specs.Drafting.{with_name}
use Rattle.pointing.specs.PointedSpec.{named}
use Rattle.pointing.proofs.NameSteps.{names-marked, names-unmarked, few-marked}
use Rattle.pointing.proofs.naming.name_pointed.Goals as goal
use Rattle.pointing.proofs.naming.name_pointed.Goals.{then-classes-class+in_ok-format+in_ok-add_class, else-classes-class}

pub add_class-requires : goal.add_class-requires
add_class-requires c =
    let same = ap (λ d. length d.names) c.loop-class.invariant in
    let few = few-marked (codes "P") c.args.draft.now.names (take c.loop-class.class-counter c.args.classes.now) in
    let long = length-take-le c.loop-class.class-counter c.args.classes.now (let lt = c.loop-class-test.true in omega arith) in
    let k = c.requires.few in let r = c.requires.room in let lt = c.loop-class-test.true in
    record { few = omega arith }

pub loop-class-preserved : goal.loop-class-preserved
loop-class-preserved c = elim c.if-classes-class.branch [
  | then-classes-class+in_ok-format+in_ok-add_class w ↦
      w.draft-is ∙ w.in_ok-add_class.ensures.ok ∙ ap (with_name c.loop-class.draft) w.in_ok-format.ensures.ok ∙ ap (λ d. with_name d (named (codes "P") c.loop-class.class-counter)) c.loop-class.invariant
      ∙ ap (λ z. record (c.args.draft.now) { names = z }) (names-marked (codes "P") c.args.draft.now.names c.args.classes.now c.loop-class.class-counter c.loop-class-test.true w.if-classes-class.true)
  | else-classes-class w ↦
      w.draft-is ∙ c.loop-class.invariant ∙ ap (λ z. record (c.args.draft.now) { names = c.args.draft.now.names ++ map (named (codes "P")) z }) (names-unmarked (codes "P") c.args.classes.now c.loop-class.class-counter c.loop-class-test.true w.if-classes-class.false)
]
