use Rattle.std.proofs.Common.{◌≡◌, length, arith, sym, ap, ◌∙◌, subst, Some}
use Rattle.std.proofs.lemmas.List.{length-replicate}
use Rattle.std.proofs.lemmas.Bool.{OnFalse_at}
use Rattle.well_founded.proofs.Rows.{written-back}
use Rattle.rank_tables.specs.Filling.{count_of_class}
use Rattle.rank_tables.proofs.LaidOut.{laid_out}
use Rattle.rank_tables.proofs.Settling.{AreReachedAt, none-reached, taken-reached, pass-settled, below-kept}
use Rattle.rank_tables.proofs.Passed.{lesser-kept, unchanged, changed-twice}
use Rattle.rank_tables.proofs.filling.settle.Goals as goal

pub pass-requires-clause-lesser : goal.pass-requires-clause-lesser
pass-requires-clause-lesser c = λ m lt. lesser-kept c.args.system.now c.args.rows.now c.args.tails.now c.passes.rows c.passes.tails c.args.n m c.passes.invariant.in_rows c.passes.invariant.in_tails c.requires.rows.inside c.requires.tails.inside lt (c.requires.filled.each_tail m lt)

pub passes-init : goal.passes-init
passes-init c = record {
  in_rows = unchanged c.args.n c.args.rows.now;
  in_tails = unchanged c.args.n c.args.tails.now;
  long = ap length c.in_ok-classes.ensures ∙ length-replicate c.class_count.result (Some 0) ∙ c.class_count.ensures.count;
  reached = none-reached c.args.system.now c.args.n c.class_count.result c.in_ok-classes.classes.items c.in_ok-classes.ensures;
}

pub returns-then-not-take_bodies-clause-settled : goal.returns-then-not-take_bodies-clause-settled
returns-then-not-take_bodies-clause-settled c =
    let bodies : length c.args.system.now.bodies ≡ length c.args.system.now.names = c.known.ensures.sound.bodies in
    let long : length c.passes.classes.items ≡ length c.args.system.now.names = c.passes.invariant.long in
    let as_long : length c.take_bodies.new.classes ≡ length c.deref_mut.result.now = c.take_bodies.auto.classes in
    let lent : length c.deref_mut.result.now ≡ length c.passes.classes.items = ap length c.deref_mut.ensures.value in
    pass-settled c.args.system.now (laid_out c.args.system.now c.known.ensures.sound) c.requires.rankable c.args.n c.pass.new.rows c.pass.new.tails c.deref.result.now
    (below-kept c.args.system.now (laid_out c.args.system.now c.known.ensures.sound) c.args.n c.args.rows.now c.pass.new.rows c.requires.rows.inside (changed-twice c.args.n c.args.rows.now c.passes.rows c.pass.new.rows c.passes.invariant.in_rows c.pass.ensures.rows) c.requires.filled.settled)
    (subst (λ z. AreReachedAt c.args.system.now c.args.n (count_of_class z)) (sym c.deref.ensures.value) c.passes.invariant.reached)
    c.pass.ensures.passed c.take_bodies.new.classes (omega arith) c.take_bodies.ensures.taken
    (OnFalse_at c.if-not-take_bodies.true c.take_bodies.ensures.same ∙ c.deref_mut.ensures.value ∙ sym c.deref.ensures.value)

pub passes-preserved : goal.passes-preserved
passes-preserved c =
    let bodies : length c.args.system.now.bodies ≡ length c.args.system.now.names = c.known.ensures.sound.bodies in
    let long : length c.passes.classes.items ≡ length c.args.system.now.names = c.passes.invariant.long in
    let as_long : length c.take_bodies.new.classes ≡ length c.deref_mut.result.now = c.take_bodies.auto.classes in
    let lent : length c.deref_mut.result.now ≡ length c.passes.classes.items = ap length c.deref_mut.ensures.value in
    let back = written-back c.passes.classes.len c.take_bodies.new.classes c.passes.classes.items (as_long ∙ lent) (let k = c.passes.classes.ok.0 in omega arith) in
    record {
      in_rows = changed-twice c.args.n c.args.rows.now c.passes.rows c.pass.new.rows c.passes.invariant.in_rows c.pass.ensures.rows;
      in_tails = changed-twice c.args.n c.args.tails.now c.passes.tails c.pass.new.tails c.passes.invariant.in_tails c.pass.ensures.tails;
      long = ap length back ∙ as_long ∙ lent ∙ long;
      reached = subst (λ z. AreReachedAt c.args.system.now c.args.n (count_of_class z)) (sym back)
          (taken-reached c.args.system.now (laid_out c.args.system.now c.known.ensures.sound) c.requires.rankable c.args.n c.pass.new.rows c.pass.new.tails c.deref.result.now
          (below-kept c.args.system.now (laid_out c.args.system.now c.known.ensures.sound) c.args.n c.args.rows.now c.pass.new.rows c.requires.rows.inside (changed-twice c.args.n c.args.rows.now c.passes.rows c.pass.new.rows c.passes.invariant.in_rows c.pass.ensures.rows) c.requires.filled.settled)
          (subst (λ z. AreReachedAt c.args.system.now c.args.n (count_of_class z)) (sym c.deref.ensures.value) c.passes.invariant.reached)
          c.pass.ensures.passed c.take_bodies.new.classes (omega arith) c.take_bodies.ensures.taken);
    }
