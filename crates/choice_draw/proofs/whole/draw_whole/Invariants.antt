use Rattle.std.proofs.Common.{◌≡◌, ◌+◌, ◌-◌, ◌^◌, ◌<◌, ◌≤◌, false}
use Rattle.bit_tape.specs.Tape.{LeavesTape, bits_of_source}
use Rattle.choice_draw.specs.Decision.{whole_decision}
use Rattle.choice_draw.proofs.GivenDraws.{IsUnderWay}
use Rattle.choice_draw.proofs.whole.draw_whole.Given as goal

-- the cell has the bits taken so far, and the draw over them goes on from it
abbrev pub invariant-bits : goal.invariant-bits
invariant-bits g l = record {
  few_bits : l.cell.b ≤ 60;
  below : l.cell.k < 2 ^ l.cell.b;
  used : l.tape.used ≡ l.fn.tape.used + l.cell.b;
  tape : LeavesTape g.S.Shelf.content g.S.Shelf.faults false l.fn.shelf l.shelf l.fn.tape l.tape;
  draws : IsUnderWay (whole_decision l.m) (bits_of_source l.fn.tape.source (g.S.Shelf.content l.fn.shelf)) l.fn.tape.used l.cell l.tape.used;
}

abbrev pub decreases-bits : goal.decreases-bits
decreases-bits g l = 60 - l.cell.b
