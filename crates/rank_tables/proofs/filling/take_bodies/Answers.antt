use Rattle.std.proofs.Common.{◌≡◌, ◌<◌, ◌∙◌, arith, sym, ap, length, subst, Some, None, rules}
use Rattle.std.specs.Prelude.{slice_get}
use Rattle.std.proofs.lemmas.Option.{slice_get_within, slice_get-get_or}
use Rattle.class_system.proofs.Soundness.{body_in_range}
use Rattle.well_founded.proofs.Rows.{set-same, set-other}
use Rattle.rank_tables.proofs.Taken.{take-more}
use Rattle.rank_tables.proofs.filling.take_bodies.Goals as goal
use Rattle.rank_tables.proofs.filling.take_bodies.Goals.{then-not-is_same, else-not-is_same}

pub at-number-requires-clause-node : goal.at-number-requires-clause-node
at-number-requires-clause-node c = let k = body_in_range c.args.system.now c.known.ensures.sound c.loop-c.c c.body.result.0 c.body.ensures.body in let same = c.requires.rows.each_node in omega arith

-- the class is one of the slice
within : (c : goal.Joined-not-is_same) → c.loop-c.c < length c.loop-c.classes
within c = let lt = c.loop-c-test.true in let all = c.class_count-c-end.ensures.count in let long = c.loop-c.auto.classes in let same = c.requires.classes in omega arith

pub loop-c-preserved : goal.loop-c-preserved
loop-c-preserved c = elim c.if-not-is_same.branch [
  | then-not-is_same w ↦ record {
    taken = λ k body lt at. take-more c.args.system.now c.args.rows.now c.args.n c.loop-c.c c.body.result.0 c.at-number.result c.loop-c.classes c.if-not-is_same.classes c.body.ensures.body c.at-number.ensures.exact
        (subst (λ z. slice_get z c.loop-c.c ≡ Some c.at-number.result) (sym w.classes-is) (set-same c.loop-c.classes c.loop-c.c c.at-number.result (within c)))
        (λ j ne. ap (λ z. slice_get z j) w.classes-is ∙ set-other c.loop-c.classes c.loop-c.c c.at-number.result j ne)
        c.loop-c.invariant.taken k body (omega arith) at;
    same = λ no. cc;
  }
  | else-not-is_same w ↦ record {
    taken = λ k body lt at. take-more c.args.system.now c.args.rows.now c.args.n c.loop-c.c c.body.result.0 c.at-number.result c.loop-c.classes c.if-not-is_same.classes c.body.ensures.body c.at-number.ensures.exact
        (ap (λ z. slice_get z c.loop-c.c) w.classes-is ∙ slice_get-get_or c.loop-c.classes c.loop-c.c None (within c) ∙ ap Some (c.is_same.ensures.0 (search (rules, w.if-not-is_same.false))))
        (λ j ne. ap (λ z. slice_get z j) w.classes-is)
        c.loop-c.invariant.taken k body (omega arith) at;
    same = λ no. w.classes-is ∙ c.loop-c.invariant.same (sym w.changed-is ∙ no);
  }
]

pub returns-clause-taken : goal.returns-clause-taken
returns-clause-taken c =
    let past = c.loop-c-test.false in
    let all = c.class_count-c-end.ensures.count in
    let bodies = c.known.ensures.sound.bodies in
    λ k body at. c.loop-c.invariant.taken k body (let lt = slice_get_within c.args.system.now.bodies k body at in omega arith) at
