use Rattle.std.proofs.Common.{ℕ, ◌≤◌, List, length, subst, sym}
use Rattle.command_words.specs.declared.command.Command.{Command}
use Rattle.command_words.specs.declared.command.Command.TheVariants as command
use Rattle.boltz.specs.Answers.{Carries}
use Rattle.boltz.specs.Commands.{IsStoodFor}
use Rattle.call_stages.specs.Ends.{EndsBy, output}
use Rattle.call_stages.specs.Stages.{files}
use Rattle.boltz.proofs.Commands.{sample_limits, bulk_limits, count_limit, unrank_limit, pool_limits}
use Rattle.boltz.proofs.run.carried_out.Goals as goal

-- the limits of a sample are within those of a drawing
pub sample-requires : goal.sample-requires
sample-requires g c = sample_limits c.in-Sample.file c.in-Sample.x c.in-Sample.tape c.in-Sample.limits c.in-Sample.fraction c.in-Sample.fast (subst IsStoodFor c.in-Sample.is c.requires.stood_for)

-- the number of a run is within the limits
pub bulk-requires-clause-least : goal.bulk-requires-clause-least
bulk-requires-clause-least g c = (bulk_limits c.in-Bulk.n c.in-Bulk.fraction (subst IsStoodFor c.in-Bulk.is c.requires.stood_for)).0

pub bulk-requires-clause-greatest : goal.bulk-requires-clause-greatest
bulk-requires-clause-greatest g c = (bulk_limits c.in-Bulk.n c.in-Bulk.fraction (subst IsStoodFor c.in-Bulk.is c.requires.stood_for)).1

-- the run of a number reads no file
pub returns-in-Bulk-clause-ends : goal.returns-in-Bulk-clause-ends
returns-in-Bulk-clause-ends g c = subst (λ (k : Command). EndsBy (Carries (files (g.S.Shelf.content c.args.shelf.now) (g.S.Shelf.faults c.args.shelf.now) (g.S.Shelf.faults c.args.shelf.now)) k) (output (g.K.Sink.written c.args.out.now) (g.K.Sink.written c.bulk.new.out) (g.K.Sink.faults c.args.out.now) (g.K.Sink.faults c.bulk.new.out) c.args.steps.now c.bulk.new.steps) c.bulk.result) (sym c.in-Bulk.is) c.bulk.ensures.ends

-- a specification is printed
pub returns-in-Spec-clause-ends : goal.returns-in-Spec-clause-ends
returns-in-Spec-clause-ends g c = subst (λ (k : Command). EndsBy (Carries (files (g.S.Shelf.content c.args.shelf.now) (g.S.Shelf.faults c.args.shelf.now) (g.S.Shelf.faults c.spec.new.shelf)) k) (output (g.K.Sink.written c.args.out.now) (g.K.Sink.written c.spec.new.out) (g.K.Sink.faults c.args.out.now) (g.K.Sink.faults c.spec.new.out) c.args.steps.now c.args.steps.now) c.spec.result) (sym c.in-Spec.is) (c.spec.ensures.ends c.args.steps.now)

-- the limits of a pool and the number of its tapes are within those that it takes
pub pool-requires-clause-limits : goal.pool-requires-clause-limits
pool-requires-clause-limits g c = (pool_limits c.in-Pool.file c.in-Pool.x c.in-Pool.schedule c.in-Pool.tapes c.in-Pool.limits c.in-Pool.fraction (subst IsStoodFor c.in-Pool.is c.requires.stood_for)).0

pub pool-requires-clause-number : goal.pool-requires-clause-number
pool-requires-clause-number g c = subst (λ (k : List (List ℕ)). (1 ≤ length k) × (length k ≤ 64)) (sym c.items-tapes.ensures.items) (pool_limits c.in-Pool.file c.in-Pool.x c.in-Pool.schedule c.in-Pool.tapes c.in-Pool.limits c.in-Pool.fraction (subst IsStoodFor c.in-Pool.is c.requires.stood_for)).1

-- the size is within the limits
pub count-requires : goal.count-requires
count-requires g c = record { greatest = count_limit c.in-Count.file c.in-Count.n (subst IsStoodFor c.in-Count.is c.requires.stood_for) }

pub unrank-requires : goal.unrank-requires
unrank-requires g c = record { greatest = unrank_limit c.in-Unrank.file c.in-Unrank.n c.in-Unrank.number (subst IsStoodFor c.in-Unrank.is c.requires.stood_for) }

-- the command's outcome is one of the call
pub returns-in-Point-clause-ends : goal.returns-in-Point-clause-ends
returns-in-Point-clause-ends g c = subst (λ (k : Command). EndsBy (Carries (files (g.S.Shelf.content c.args.shelf.now) (g.S.Shelf.faults c.args.shelf.now) (g.S.Shelf.faults c.point.new.shelf)) k) (output (g.K.Sink.written c.args.out.now) (g.K.Sink.written c.point.new.out) (g.K.Sink.faults c.args.out.now) (g.K.Sink.faults c.point.new.out) c.args.steps.now c.args.steps.now) c.point.result) (sym c.in-Point.is) (c.point.ensures.ends c.args.steps.now)

-- the command's outcome is one of the call
pub returns-in-Count-clause-ends : goal.returns-in-Count-clause-ends
returns-in-Count-clause-ends g c = subst (λ (k : Command). EndsBy (Carries (files (g.S.Shelf.content c.args.shelf.now) (g.S.Shelf.faults c.args.shelf.now) (g.S.Shelf.faults c.count.new.shelf)) k) (output (g.K.Sink.written c.args.out.now) (g.K.Sink.written c.count.new.out) (g.K.Sink.faults c.args.out.now) (g.K.Sink.faults c.count.new.out) c.args.steps.now c.args.steps.now) c.count.result) (sym c.in-Count.is) (c.count.ensures.ends c.args.steps.now)

-- the command's outcome is one of the call
pub returns-in-Unrank-clause-ends : goal.returns-in-Unrank-clause-ends
returns-in-Unrank-clause-ends g c = subst (λ (k : Command). EndsBy (Carries (files (g.S.Shelf.content c.args.shelf.now) (g.S.Shelf.faults c.args.shelf.now) (g.S.Shelf.faults c.unrank.new.shelf)) k) (output (g.K.Sink.written c.args.out.now) (g.K.Sink.written c.unrank.new.out) (g.K.Sink.faults c.args.out.now) (g.K.Sink.faults c.unrank.new.out) c.args.steps.now c.args.steps.now) c.unrank.result) (sym c.in-Unrank.is) (c.unrank.ensures.ends c.args.steps.now)

-- the command's outcome is one of the call
pub returns-in-Rank-clause-ends : goal.returns-in-Rank-clause-ends
returns-in-Rank-clause-ends g c = subst (λ (k : Command). EndsBy (Carries (files (g.S.Shelf.content c.args.shelf.now) (g.S.Shelf.faults c.args.shelf.now) (g.S.Shelf.faults c.rank.new.shelf)) k) (output (g.K.Sink.written c.args.out.now) (g.K.Sink.written c.rank.new.out) (g.K.Sink.faults c.args.out.now) (g.K.Sink.faults c.rank.new.out) c.args.steps.now c.args.steps.now) c.rank.result) (sym c.in-Rank.is) (c.rank.ensures.ends c.args.steps.now)
