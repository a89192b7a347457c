use Rattle.std.proofs.Common.{◌+◌, ◌*◌, ◌%◌, ◌≤◌, length, sym, subst}
use Rattle.bit_tape.specs.Tape.{HoldsBits}
use Rattle.bit_tape.proofs.PeekedBits.{skips_bits, still_fits}
use Rattle.bit_tape.proofs.tape.Tape.skip.Goals as goal

pub returns : goal.returns
returns c = skips_bits c.self.inside.source c.self.inside.used c.args.n c.from.result c.self.inside.buffer c.skip.new.self c.args.self.now c.self.view_is c.requires c.self.invariant.0 c.skip.ensures c.from.ensures

pub invariant_of-self : goal.invariant_of-self
invariant_of-self c =
    let held : c.self.inside.used % 8 + c.args.n ≤ 8 * length c.self.inside.buffer.bytes = subst (λ t. HoldsBits t c.args.n) (sym c.self.view_is) c.requires in
    still_fits c.self.inside.source c.self.inside.used c.args.n c.from.result c.self.inside.buffer c.skip.new.self c.self.invariant.0 c.self.invariant.1 c.self.invariant.2 held c.skip.ensures c.from.ensures
