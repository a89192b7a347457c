use Rattle.command_words.specs.Fractions.{fraction_bits}
use Rattle.rounded_map.specs.RoundedMap.{setting}
use Rattle.chance_command.proofs.FewTokens.{few-in-file, read-of}
use Rattle.chance_command.proofs.Weighing.{object-on, object-ended}
use Rattle.chance_command.proofs.chance.read_and_weighed.Goals as goal

-- an object of the first class was read
pub weighed_at-requires-clause-is_of : goal.weighed_at-requires-clause-is_of
weighed_at-requires-clause-is_of g c = read-of c.args.founded.now 0 _ _ _ c.in-Ok.ensures.ok.is_read

pub weighed_at-requires-clause-few : goal.weighed_at-requires-clause-few
weighed_at-requires-clause-few g c = few-in-file c.args.founded.now c.in-Ok.ensures.ok.bytes _ _ c.in-Ok.ensures.ok.few c.in-Ok.ensures.ok.is_read

-- it is weighed
pub returns-in-Ok-clause-ends : goal.returns-in-Ok-clause-ends
returns-in-Ok-clause-ends g c = λ before below.
    let t = setting c.args.founded.now c.args.x.num c.args.x.den (fraction_bits c.args.fraction) in
    object-on (g.S.Shelf.content c.args.shelf.now) before (g.S.Shelf.faults c.object_read.new.shelf) c.args.object.now t _ _ _ _ _ _ _ _ _ c.in-Ok.ensures.ok c.weighed_at.ensures.ends

-- the file has none
pub returns-in-Err-clause-ends : goal.returns-in-Err-clause-ends
returns-in-Err-clause-ends g c = λ before below.
    let t = setting c.args.founded.now c.args.x.num c.args.x.den (fraction_bits c.args.fraction) in
    object-ended (g.S.Shelf.content c.args.shelf.now) before (g.S.Shelf.faults c.object_read.new.shelf) c.args.object.now t _ _ _ _ _ _ _ _ c.refused.ensures.ends (c.in-Err.ensures.err before below)
