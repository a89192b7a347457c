-- One factor for an atom and for a cycle, and those of a set.
use Rattle.std.proofs.Common.{◌+◌, ◌*◌, length, sym, subst}
use Rattle.chance_law.specs.Weights.{AreWithin, visit_factors}
use Rattle.chance_law.proofs.weights.Weights.after.Goals as goal

pub returns-in-Atom-clause-within : goal.returns-in-Atom-clause-within
returns-in-Atom-clause-within c = λ bound h. subst (λ v. AreWithin (bound + 512 * length (visit_factors v)) c.times.result) (sym c.in-Atom.is) (c.times.ensures.within bound h)

pub returns-in-Set-clause-within : goal.returns-in-Set-clause-within
returns-in-Set-clause-within c = λ bound h. subst (λ v. AreWithin (bound + 512 * length (visit_factors v)) c.over_factorial.result) (sym c.in-Set.is) (c.over_factorial.ensures.within bound h)

pub returns-in-Cyc-clause-within : goal.returns-in-Cyc-clause-within
returns-in-Cyc-clause-within c = λ bound h. subst (λ v. AreWithin (bound + 512 * length (visit_factors v)) c.over.result) (sym c.in-Cyc.is) (c.over.ensures.within bound h)
