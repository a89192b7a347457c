use Rattle.std.proofs.Common.{◌≡◌, ◌+◌, arith, sym, subst, add-one}
use Rattle.rank_tables.proofs.LaidOut.{laid_out}
use Rattle.rank_tables.proofs.Rankable.{rankable}
use Rattle.rank_tables.proofs.FilledSizes.{AreFilled, filled-more, passing-told, all-counts, all-small}
use Rattle.rank_tables.proofs.rank_tables.fill.Goals as goal

pub settle-requires-clause-rankable : goal.settle-requires-clause-rankable
settle-requires-clause-rankable c = rankable c.args.system.now c.known.ensures.sound c.requires.well_founded c.requires.unlabelled c.requires.plain

pub returns-in-Some-clause-fault : goal.returns-in-Some-clause-fault
returns-in-Some-clause-fault c =
    let found = c.in-Some.ensures.found in
    let all = c.node_count-nodes.ensures.count in (
      c.requires.unlabelled,
      c.requires.plain,
      passing-told c.args.system.now (laid_out c.args.system.now c.known.ensures.sound) c.loop-n.counts c.loop-n.tails c.settle.new.rows c.settle.new.tails (c.args.most + 1) c.loop-n.n c.loop-n-test.true c.loop-n.invariant
          c.in_ok-settle.ensures.settled c.in_ok-settle.ensures.tails c.settle.ensures.other_rows c.settle.ensures.other_tails c.args.most c.in-Some.node.0
          (rankable c.args.system.now c.known.ensures.sound c.requires.well_founded c.requires.unlabelled c.requires.plain) (omega arith) (let lt = found.0 in omega arith) c.in-Some.ensures.first found.1,
    )

pub loop-n-preserved : goal.loop-n-preserved
loop-n-preserved c =
    let all = c.node_count-nodes.ensures.count in
    subst (AreFilled c.args.system.now c.settle.new.rows c.settle.new.tails (c.args.most + 1)) (sym (add-one c.loop-n.n))
    (filled-more c.args.system.now (laid_out c.args.system.now c.known.ensures.sound) c.loop-n.counts c.loop-n.tails c.settle.new.rows c.settle.new.tails (c.args.most + 1) c.loop-n.n c.loop-n-test.true c.loop-n.invariant
    c.in_ok-settle.ensures.settled c.in_ok-settle.ensures.tails c.settle.ensures.other_rows c.settle.ensures.other_tails
    (λ d inside. c.in_default.ensures.none d (omega arith)))

pub returns-clause-counts : goal.returns-clause-counts
returns-clause-counts c =
    let past = c.loop-n-test.false in
    let end = c.loop-n.auto.n-end in
    let e : c.loop-n.n ≡ c.args.most + 1 = omega arith in
    all-counts c.args.system.now c.requires.unlabelled c.requires.plain (laid_out c.args.system.now c.known.ensures.sound) (rankable c.args.system.now c.known.ensures.sound c.requires.well_founded c.requires.unlabelled c.requires.plain) c.loop-n.counts c.loop-n.tails c.args.most (c.args.most + 1) (add-one c.args.most)
    (subst (AreFilled c.args.system.now c.loop-n.counts c.loop-n.tails (c.args.most + 1)) e c.loop-n.invariant)

pub returns-clause-fits : goal.returns-clause-fits
returns-clause-fits c =
    let past = c.loop-n-test.false in
    let end = c.loop-n.auto.n-end in
    let e : c.loop-n.n ≡ c.args.most + 1 = omega arith in
    all-small c.args.system.now (laid_out c.args.system.now c.known.ensures.sound) (rankable c.args.system.now c.known.ensures.sound c.requires.well_founded c.requires.unlabelled c.requires.plain) c.loop-n.counts c.loop-n.tails c.args.most (c.args.most + 1) (add-one c.args.most)
    (subst (AreFilled c.args.system.now c.loop-n.counts c.loop-n.tails (c.args.most + 1)) e c.loop-n.invariant)
