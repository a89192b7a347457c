use Rattle.std.proofs.Common.{◌+◌, ◌-◌, suc, map, length, get_or, arith, refl, sym, subst, add-one}
use Rattle.class_system.specs.Views.{number}
use Rattle.rank_tables.specs.Grids.{number_at}
use Rattle.rank_tables.specs.Unranking.{AreTupleTasks}
use Rattle.rank_tables.proofs.Cells.{part-small, part-within}
use Rattle.rank_tables.proofs.Parting.{TupleSoFar, tuple-row, tuple-further, tuple-last, last-part}
use Rattle.rank_tables.proofs.Suffixes.{drop-at}
use Rattle.rank_tables.proofs.unranking.tuple_tasks.Goals as goal

pub split_number-split-requires-clause-node : goal.split_number-split-requires-clause-node
split_number-split-requires-clause-node c = let lt = c.loop-i-test.true in part-small _ c.loop-i.i _ c.args.parts.now (omega arith) c.requires.nodes

pub split_number-split-requires-clause-other_node : goal.split_number-split-requires-clause-other_node
split_number-split-requires-clause-other_node c = let lt = c.loop-i-test.true in part-within c.args.tails.now.nodes c.args.counts.now.nodes (c.loop-i.i + 1) _ c.args.parts.now c.requires.tail_nodes (omega arith) c.requires.nodes

pub overflow_sub-left : goal.overflow_sub-left
overflow_sub-left c =
    let lt = c.loop-i-test.true in
    (tuple-row c.args.counts.now c.args.tails.now c.args.parts.now c.args.n c.args.place c.loop-i.i c.loop-i.left c.loop-i.rest c.loop-i.tasks.items c.split_number-split.result (record { 0 = 0 }) c.loop-i.invariant (omega arith) c.requires.tails c.split_number-split.ensures).within

pub loop-i-preserved : goal.loop-i-preserved
loop-i-preserved c =
    let lt = c.loop-i-test.true in
    subst (λ z. TupleSoFar (number_at c.args.counts.now) (map number c.args.parts.now) c.args.n c.args.place z (c.loop-i.left - c.split_number-split.result.first) c.split_number-split.result.rest c.push.new.self.items) (sym (add-one c.loop-i.i))
    (subst (TupleSoFar (number_at c.args.counts.now) (map number c.args.parts.now) c.args.n c.args.place (suc c.loop-i.i) (c.loop-i.left - c.split_number-split.result.first) c.split_number-split.result.rest) (sym c.in_ok-push.ensures.items)
    (tuple-further (number_at c.args.counts.now) (map number c.args.parts.now) c.args.n c.args.place c.loop-i.i c.loop-i.left c.loop-i.rest c.loop-i.tasks.items (record { node = get_or c.args.parts.now c.loop-i.i (record { 0 = 0 }); size = c.split_number-split.result.first; number = c.split_number-split.result.place }) c.split_number-split.result c.loop-i.invariant
    (drop-at c.loop-i.i (record { 0 = 0 }) c.args.parts.now (omega arith)) refl refl
    (tuple-row c.args.counts.now c.args.tails.now c.args.parts.now c.args.n c.args.place c.loop-i.i c.loop-i.left c.loop-i.rest c.loop-i.tasks.items c.split_number-split.result (record { 0 = 0 }) c.loop-i.invariant (omega arith) c.requires.tails c.split_number-split.ensures)))

pub returns : goal.returns
returns c =
    let past = c.loop-i-test.false in
    let end = c.loop-i.auto.i-end in
    let some = c.requires.some in
    record {
      tasks = λ s. subst (AreTupleTasks s (number_at c.args.counts.now) (map number c.args.parts.now) c.args.n c.args.place) (sym c.in_ok-push-2.ensures.items)
          (tuple-last s (number_at c.args.counts.now) (map number c.args.parts.now) c.args.n c.args.place c.loop-i.i c.loop-i.left c.loop-i.rest c.loop-i.tasks.items (record { node = get_or c.args.parts.now (length c.args.parts.now - 1) (record { 0 = 0 }); size = c.loop-i.left; number = c.loop-i.rest }) c.loop-i.invariant (last-part c.args.parts.now c.loop-i.i (record { 0 = 0 }) (omega arith) some) refl refl);
    }
