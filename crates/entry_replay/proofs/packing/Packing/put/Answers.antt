use Rattle.std.proofs.Common.{◌≡◌, ◌-◌, ◌++◌, arith, ◌∙◌, ap}
use Rattle.bz_model.specs.Cell.{bits_of}
use Rattle.entry_replay.proofs.FileBits.{bits-left}
use Rattle.entry_replay.proofs.packing.Packing.put.Goals as goal

pub bits-preserved : goal.bits-preserved
bits-preserved c = record {
  within = omega arith;
  put_so_far =
      ap (λ bs. bs ++ bits_of (c.bits.left - 1) c.args.cell.k) c.in_ok-push.ensures
      ∙ bits-left c.bits.self c.bits.left (c.bits.left - 1) c.args.cell.k c.bit_at.result (c.args.self.now ++ bits_of c.args.cell.b c.args.cell.k) (omega arith) c.bit_at.ensures c.bits.invariant.put_so_far;
}
