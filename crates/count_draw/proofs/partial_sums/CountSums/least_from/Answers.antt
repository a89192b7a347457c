-- The option at hand is found where it reaches the value; none is found at the room, or where all later terms are 0.
use Rattle.std.proofs.Common.{◌≡◌, ◌<◌, ◌≤◌, false, arith, sym, ap}
use Rattle.std.specs.Prelude.{nat_le}
use Rattle.std.proofs.lemmas.Bool.{le-leb, lt-leb}
use Rattle.count_draw.specs.Table.{Filling}
use Rattle.count_draw.proofs.Runs.{run-found, run-ends, run-zero}
use Rattle.count_draw.proofs.partial_sums.CountSums.least_from.Goals as goal
use Rattle.count_draw.proofs.partial_sums.CountSums.least_from.Goals.{then-run-self+else-v-run+else-run-eq0, else-run-self}

pub returns-then-v-run-clause-exact : goal.returns-then-v-run-clause-exact
returns-then-v-run-clause-exact g c =
    let kept = c.terms.invariant in
    let low : c.args.self.now.low ≡ c.self.inside.low = ap (λ (t : Filling). t.low) (sym c.self.view_is) in
    sym (run-found g.row.F c.args.self.now c.args.v c.terms.run.place c.terms.run.power c.terms.run.sum kept.run kept.before kept.room (omega (arith, low, c.if-run-self.true)) (le-leb c.args.v c.terms.run.sum c.if-v-run.true))

pub returns-then-run-eq0-clause-exact : goal.returns-then-run-eq0-clause-exact
returns-then-run-eq0-clause-exact g c =
    let kept = c.terms.invariant in
    sym (run-zero g.row.F c.args.self.now c.args.v c.terms.run.place c.terms.run.power c.terms.run.sum kept.run kept.before kept.room c.if-run-eq0.true (lt-leb c.args.v c.terms.run.sum c.if-v-run.false))

pub returns-then-run-self-2-clause-exact : goal.returns-then-run-self-2-clause-exact
returns-then-run-self-2-clause-exact g c =
    let kept = c.terms.invariant in
    let low : c.args.self.now.low ≡ c.self.inside.low = ap (λ (t : Filling). t.low) (sym c.self.view_is) in
    let room : c.args.self.now.room ≡ c.self.inside.room = ap (λ (t : Filling). t.room) (sym c.self.view_is) in
    let fails : c.args.self.now.low ≤ c.terms.run.place → nat_le c.args.v c.terms.run.sum ≡ false = λ from. elim c.if-run-self.branch [
      | then-run-self+else-v-run+else-run-eq0 w ↦ lt-leb c.args.v c.terms.run.sum w.if-v-run.false
      | else-run-self w ↦ let before : c.terms.run.place < c.self.inside.low = w.if-run-self.false in let never : ⊥ = omega (arith, low) in absurd never
    ] in
    sym (run-ends g.row.F c.args.self.now c.args.v c.terms.run.place c.terms.run.power c.terms.run.sum kept.run kept.before kept.room fails (omega (arith, room, c.if-run-self-2.true)))
