-- One digit, two or three.
use Rattle.std.proofs.Common.{arith}
use Rattle.object_text.proofs.ShortNumbers.{one-put, two-put, three-put}
use Rattle.object_text.proofs.append.put_short.Goals as goal

pub returns-then-n-lt10 : goal.returns-then-n-lt10
returns-then-n-lt10 c = one-put c.args.n c.args.text.now.items c.push_reserved.new.self.items c.digit.result c.if-n-lt10.true c.digit.ensures c.push_reserved.ensures.items

pub returns-then-n-lt100 : goal.returns-then-n-lt100
returns-then-n-lt100 c =
    let above = c.if-n-lt10.false in
    two-put c.args.n c.args.text.now.items c.push_reserved-then-n-lt100.new.self.items c.push_reserved-then-n-lt100-2.new.self.items c.digit-then-n-lt100.result c.digit-then-n-lt100-2.result (omega (arith, above)) c.if-n-lt100.true c.digit-then-n-lt100.ensures c.digit-then-n-lt100-2.ensures c.push_reserved-then-n-lt100.ensures.items c.push_reserved-then-n-lt100-2.ensures.items

pub returns-else-n-lt100 : goal.returns-else-n-lt100
returns-else-n-lt100 c =
    let above = c.if-n-lt100.false in
    three-put c.args.n c.args.text.now.items c.push_reserved-else-n-lt100.new.self.items c.push_reserved-else-n-lt100-2.new.self.items c.push_reserved-else-n-lt100-3.new.self.items c.digit-else-n-lt100.result c.digit-else-n-lt100-2.result c.digit-else-n-lt100-3.result (omega (arith, above)) c.requires.short c.digit-else-n-lt100.ensures c.digit-else-n-lt100-2.ensures c.digit-else-n-lt100-3.ensures c.push_reserved-else-n-lt100.ensures.items c.push_reserved-else-n-lt100-2.ensures.items c.push_reserved-else-n-lt100-3.ensures.items
