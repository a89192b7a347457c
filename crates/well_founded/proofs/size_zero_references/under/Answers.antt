use Rattle.std.proofs.Common.{List, ◌↔◌, ◌+◌, ℕ, arith, subst, sym}
use Rattle.well_founded.specs.declared.class_set.ClassSet.{ClassSet}
use Rattle.well_founded.specs.Rounds.{PassesAt}
use Rattle.well_founded.specs.Ways.{IsIn, Points}
use Rattle.well_founded.proofs.Orderly.{orderly}
use Rattle.well_founded.proofs.Passed.{PassedTo, passed-more, passed-all}
use Rattle.well_founded.proofs.size_zero_references.under.Goals as goal

pub loop-e-preserved : goal.loop-e-preserved
loop-e-preserved c =
    let step = subst (λ xs. (d : ℕ) → IsIn c.passes.result d ↔ PassesAt c.args.system.now d (λ part. Points xs part d) c.loop-e.e) c.deref.ensures.value c.passes.ensures in
    subst (λ xs. PassedTo c.args.system.now xs (c.loop-e.e + 1)) (sym {A = List ClassSet} c.in_ok-push.ensures.items) (passed-more _ (orderly _ c.requires.sound) _ _ _ c.loop-e.invariant (omega (arith, c.node_count-e-end.ensures.count)) step)

pub returns : goal.returns
returns c = passed-all _ _ _ (omega (arith, c.node_count-e-end.ensures.count)) c.loop-e.invariant
