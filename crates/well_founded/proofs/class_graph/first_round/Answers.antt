use Rattle.std.proofs.Common.{ℕ, arith, below_more}
use Rattle.std.proofs.lemmas.Option.{slice_get-get_or}
use Rattle.well_founded.specs.Ways.{PointsRound}
use Rattle.well_founded.proofs.Rows.{row-has, row-in}
use Rattle.well_founded.proofs.class_graph.first_round.Goals as goal

pub loop-c-preserved : goal.loop-c-preserved
loop-c-preserved c =
    let here : ¬ (PointsRound c.args.rows.now c.loop-c.c) = λ p. (let has = c.contains.ensures.1 (row-has _ _ _ _ (slice_get-get_or c.args.rows.now c.loop-c.c (record { 0 = 0 }) c.loop-c-test.true) p) in let no = c.if-contains.false in cc) in
    below_more (λ (k : ℕ). ¬ (PointsRound c.args.rows.now k)) _ c.loop-c.invariant here

pub returns-clause-none : goal.returns-clause-none
returns-clause-none c = λ k p. c.loop-c.invariant k (omega (arith, row-in _ _ _ p)) p
