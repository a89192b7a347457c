-- A whole line is a pattern's front with nothing left.
use Rattle.std.proofs.Common.{◌≡◌, [], length, ap, eq-eqb}
use Rattle.certificate.proofs.Filling.{begins-whole, one-filling}
use Rattle.certificate.proofs.pattern.read_whole.Goals as goal

pub returns-in-Some-clause-none : goal.returns-in-Some-clause-none
returns-in-Some-clause-none c = λ ms small e.
    let one : c.in-Some.rest.now ≡ [] = (one-filling c.args.pattern.now c.args.line.now c.read_front.new.numbers ms c.in-Some.rest.now [] c.requires.apart c.in-Some.ensures.found (begins-whole c.args.pattern.now c.args.line.now ms small e)).1 in
    let none : length c.in-Some.rest.now ≡ 0 = ap length one in
    rw c.is_empty.ensures (eq-eqb (length c.in-Some.rest.now) 0 none)

pub returns-in-None-clause-none : goal.returns-in-None-clause-none
returns-in-None-clause-none c = λ ms small e. absurd (c.in-None.ensures.none ms [] (begins-whole c.args.pattern.now c.args.line.now ms small e))
