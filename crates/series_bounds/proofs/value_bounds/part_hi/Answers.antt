use Rattle.std.proofs.Common.{sym, subst, arith}
use Rattle.series_bounds.specs.Running.{kind_of}
use Rattle.series_bounds.specs.ExactSums.{IsAtLeastTerms}
use Rattle.series_bounds.proofs.Rules.{part_up-cases}
use Rattle.series_bounds.proofs.Ends.{part-some, part-none}
use Rattle.series_bounds.proofs.value_bounds.part_hi.Goals as goal

pub returns-in-Some-clause-exact : goal.returns-in-Some-clause-exact
returns-in-Some-clause-exact g c = part-some (kind_of c.args.kind) g.row.F c.args.a.0 c.args.low c.args.i c.args.cap.0 c.in-Some.summed.sum (omega arith) (sym c.in-Some.ensures.exact)

pub returns-in-Some-clause-upper : goal.returns-in-Some-clause-upper
returns-in-Some-clause-upper g c = λ whole. subst (λ v. IsAtLeastTerms (kind_of c.args.kind) g.row.F c.args.a.0 c.args.low c.args.i v) (sym (part-some (kind_of c.args.kind) g.row.F c.args.a.0 c.args.low c.args.i c.args.cap.0 c.in-Some.summed.sum (omega arith) (sym c.in-Some.ensures.exact))) (part_up-cases (kind_of c.args.kind) g.row.F c.args.a.0 c.args.low c.args.i c.args.cap.0 (λ v. IsAtLeastTerms (kind_of c.args.kind) g.row.F c.args.a.0 c.args.low c.args.i v) c.requires.first (λ v h. h) whole)

pub returns-in-None-clause-exact : goal.returns-in-None-clause-exact
returns-in-None-clause-exact g c = part-none (kind_of c.args.kind) g.row.F c.args.a.0 c.args.low c.args.i c.args.cap.0 (omega arith) (sym c.in-None.ensures.exact)
