use Rattle.std.proofs.Common.{subst}
use Rattle.rank_tables.specs.Grids.{number_at}
use Rattle.rank_tables.proofs.NodeParts.{node-is, parts-inside}
use Rattle.rank_tables.proofs.StackTold.{ListTold, list-taken}
use Rattle.rank_tables.proofs.rank_steps.take_list.Goals as goal

pub list_of-requires-clause-part : goal.list_of-requires-clause-part
list_of-requires-clause-part c = parts-inside c.args.system.now c.known.ensures.sound c.args.e.0 c.args.counts.now.nodes _ (node-is c.args.system.now c.args.e.0 c.node.result.now _ c.node.ensures.node c.in-Seq.is) c.requires.nodes

pub returns : goal.returns
returns c = record {
  taken = list-taken c.args.system.now (number_at c.args.counts.now) c.args.e.0 c.in-Seq.part.0 c.args.parts c.in_ok-list.list c.args.stack.now c.in_ok-objects.objects.items c.take.new.self c.push.new.self c.in_ok-objects.ensures.items c.in_ok-objects.ensures.count c.in_ok-push.ensures.ok (node-is c.args.system.now c.args.e.0 c.node.result.now _ c.node.ensures.node c.in-Seq.is)
      (subst (λ xs. ListTold (number_at c.args.counts.now) c.args.e.0 c.in-Seq.part.0 xs c.in_ok-list.list) c.deref.ensures.value c.in_ok-list.ensures.whole);
}
