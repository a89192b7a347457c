-- One more number is put.
use Rattle.std.proofs.Common.{◌+◌, ◌≤◌, arith, ◌∙◌}
use Rattle.labelling.proofs.RemainingLabels.{numbers-more}
use Rattle.labelling.proofs.remaining.first_numbers.Goals as goal

pub loop-before-preserved : goal.loop-before-preserved
loop-before-preserved c = record {
  numbers = c.push_reserved.ensures.items ∙ numbers-more c.loop-before.before c.loop-before.list.items c.loop-before.invariant.numbers;
  many = let before = c.loop-before.invariant.many in omega (arith, before, c.push_reserved.ensures.len);
  room = let before = c.loop-before.invariant.room in omega (arith, before, c.push_reserved.ensures.capacity);
}
