use Rattle.std.proofs.Common.{subst, sym}
use Rattle.pointing.specs.Building.{IsTaskDone}
use Rattle.pointing.specs.declared.tasks.Task.TheVariants as task
use Rattle.pointing.proofs.Layouts.{on-both}
use Rattle.pointing.proofs.TaskSteps.{done-together}
use Rattle.pointing.proofs.building.perform.Goals as goal

pub returns-in-Union : goal.returns-in-Union
returns-in-Union c = record { done = on-both c.union.result c.union.ensures.laid c.union.ensures.laid (λ laid again. subst (λ t. IsTaskDone c.args.system.now c.args.classes.now t c.args.tasks.now c.args.tasks.now c.args.layout.now c.union.new.self) (sym c.in-Union.is) (done-together c.args.system.now c.args.classes.now (task.Union c.in-Union.n) c.args.tasks.now c.args.layout.now c.union.new.self laid)) }

pub returns-in-Product : goal.returns-in-Product
returns-in-Product c = record { done = on-both c.product.result c.product.ensures.laid c.product.ensures.laid (λ laid again. subst (λ t. IsTaskDone c.args.system.now c.args.classes.now t c.args.tasks.now c.args.tasks.now c.args.layout.now c.product.new.self) (sym c.in-Product.is) (done-together c.args.system.now c.args.classes.now (task.Product c.in-Product.n) c.args.tasks.now c.args.layout.now c.product.new.self laid)) }

pub returns-in-Seq : goal.returns-in-Seq
returns-in-Seq c = record { done = on-both c.seq.result c.seq.ensures.laid c.seq.ensures.laid (λ laid again. subst (λ t. IsTaskDone c.args.system.now c.args.classes.now t c.args.tasks.now c.args.tasks.now c.args.layout.now c.seq.new.self) (sym c.in-Seq.is) (done-together c.args.system.now c.args.classes.now task.Seq c.args.tasks.now c.args.layout.now c.seq.new.self laid)) }

pub returns-in-Choice : goal.returns-in-Choice
returns-in-Choice c = record { done = on-both c.choice.result c.choice.ensures.laid c.choice.ensures.laid (λ laid again. subst (λ t. IsTaskDone c.args.system.now c.args.classes.now t c.args.tasks.now c.args.tasks.now c.args.layout.now c.choice.new.self) (sym c.in-Choice.is) (done-together c.args.system.now c.args.classes.now (task.Choice c.in-Choice.n) c.args.tasks.now c.args.layout.now c.choice.new.self laid)) }
