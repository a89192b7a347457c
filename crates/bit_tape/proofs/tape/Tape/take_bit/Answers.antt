use Rattle.std.proofs.Common.{◌+◌, ◌*◌, ◌%◌, ◌<◌, ◌≤◌, length, arith, refl, sym, subst}
use Rattle.bit_tape.proofs.NextBits.{gives_bit}
use Rattle.bit_tape.proofs.PeekedBits.{still_fits}
use Rattle.bit_tape.proofs.tape.Tape.take_bit.Goals as goal

pub returns : goal.returns
returns c = gives_bit c.self.inside.source c.self.inside.used c.self.inside.buffer c.take_bit-bit.new.self c.take_bit-bit.result c.args.self.now c.self.view_is c.requires c.self.invariant.0 c.self.invariant.1 c.self.invariant.2 c.take_bit-bit.ensures.bit c.take_bit-bit.ensures.after

pub invariant_of-self : goal.invariant_of-self
invariant_of-self c =
    let some : 0 < length c.self.inside.buffer.bytes = subst (λ t. 0 < length t.ahead) (sym c.self.view_is) c.requires in
    let held : c.self.inside.used % 8 + 1 ≤ 8 * length c.self.inside.buffer.bytes = omega arith in
    still_fits c.self.inside.source c.self.inside.used 1 1 c.self.inside.buffer c.take_bit-bit.new.self c.self.invariant.0 c.self.invariant.1 c.self.invariant.2 held c.take_bit-bit.ensures.after refl
