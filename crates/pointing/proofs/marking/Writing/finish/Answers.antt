use Rattle.std.proofs.Common.{[]}
use Rattle.bz_model.specs.Object.{none}
use Rattle.pointing.proofs.MarkWalk.{written-whole}
use Rattle.pointing.proofs.marking.Writing.finish.Goals as goal

pub returns : goal.returns
returns c = record {
  whole = λ s whole h. written-whole s whole c.in_ok-_none._none c.next_piece.new.self c.in_ok-_none.ensures.due c.in_ok-_none.ensures.none (c.in_ok-_none.ensures.same.on s whole [] none h);
}
