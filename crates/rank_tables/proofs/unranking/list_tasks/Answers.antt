use Rattle.std.proofs.Common.{◌≡◌, ◌-◌, arith, refl, sym, subst}
use Rattle.std.proofs.lemmas.List.{append-nil}
use Rattle.rank_tables.specs.Grids.{number_at}
use Rattle.rank_tables.specs.Unranking.{AreListTasks}
use Rattle.rank_tables.proofs.Parting.{ListSoFar, list-row, list-further, list-last, first-some}
use Rattle.rank_tables.proofs.unranking.list_tasks.Goals as goal

pub overflow_sub-left : goal.overflow_sub-left
overflow_sub-left c = (list-row c.args.counts.now c.args.e.0 c.args.part.0 c.args.n c.args.place c.objects.left c.objects.rest c.objects.tasks.items c.split_number-split.result c.objects.invariant c.objects-test.true c.requires.none_there c.requires.row c.split_number-split.ensures).within

pub objects-smaller : goal.objects-smaller
objects-smaller c =
    let k = list-row c.args.counts.now c.args.e.0 c.args.part.0 c.args.n c.args.place c.objects.left c.objects.rest c.objects.tasks.items c.split_number-split.result c.objects.invariant c.objects-test.true c.requires.none_there c.requires.row c.split_number-split.ensures in
    let within = k.within in
    let some = first-some (number_at c.args.counts.now) c.args.part.0 c.split_number-split.result.place c.split_number-split.result.first c.requires.none_there k.small in
    omega arith

pub objects-preserved : goal.objects-preserved
objects-preserved c =
    subst (ListSoFar (number_at c.args.counts.now) c.args.e.0 c.args.part.0 c.args.n c.args.place (c.objects.left - c.split_number-split.result.first) c.split_number-split.result.rest) (sym c.in_ok-push.ensures.items)
    (list-further (number_at c.args.counts.now) c.args.e.0 c.args.n c.args.place c.objects.left c.objects.rest c.objects.tasks.items (record { node = c.args.part; size = c.split_number-split.result.first; number = c.split_number-split.result.place }) c.split_number-split.result c.objects.invariant c.requires.none_there refl refl
    (list-row c.args.counts.now c.args.e.0 c.args.part.0 c.args.n c.args.place c.objects.left c.objects.rest c.objects.tasks.items c.split_number-split.result c.objects.invariant c.objects-test.true c.requires.none_there c.requires.row c.split_number-split.ensures))

pub returns-clause-tasks : goal.returns-clause-tasks
returns-clause-tasks c =
    let past = c.objects-test.false in
    let e : c.objects.left ≡ 0 = omega arith in
    λ s. subst (AreListTasks s (number_at c.args.counts.now) c.args.e.0 c.args.part.0 c.args.n c.args.place) (append-nil c.objects.tasks.items)
    (list-last s (number_at c.args.counts.now) c.args.e.0 c.args.part.0 c.args.n c.args.place c.objects.rest c.objects.tasks.items
    (subst (λ z. ListSoFar (number_at c.args.counts.now) c.args.e.0 c.args.part.0 c.args.n c.args.place z c.objects.rest c.objects.tasks.items) e c.objects.invariant)
    (c.requires.row 0 (omega arith)))
