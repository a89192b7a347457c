use Rattle.std.proofs.Common.{arith}
use Rattle.rounded_map.specs.RoundedMap.{setting}
use Rattle.chance_command.proofs.RootBounds.{node-within, is-root}
use Rattle.chance_command.proofs.chance.root_bounds.Goals as goal

-- the body is a node of the memo
pub bounds-requires : goal.bounds-requires
bounds-requires g c =
    let t = setting c.args.founded.now c.args.x.num c.args.x.den g.row.F in
    (omega arith, node-within t c.args.base c.system-system.result.now c.in_ok-memo.memo c.raise_to.new.self c.body.result.0 c.system-system.ensures.system c.known.ensures.sound c.body.ensures.body c.in_ok-memo.ensures.made c.raise_to.ensures.raised)

-- the bounds of level 6 enclose the body's value
pub returns-clause-encloses : goal.returns-clause-encloses
returns-clause-encloses g c =
    let t = setting c.args.founded.now c.args.x.num c.args.x.den g.row.F in
    let same = c.system-system.ensures.system in
    let made = c.in_ok-memo.ensures.made in
    let raised = c.raise_to.ensures.raised in
    let within = node-within t c.args.base c.system-system.result.now c.in_ok-memo.memo c.raise_to.new.self c.body.result.0 same c.known.ensures.sound c.body.ensures.body made raised in
    (is-root t c.args.base c.system-system.result.now c.in_ok-memo.memo c.raise_to.new.self c.body.result.0 c.in-Some.root same c.body.ensures.body made raised within c.known-2.ensures.sound c.in-Some.ensures.table).encloses

-- the upper one is above 0
pub returns-clause-some : goal.returns-clause-some
returns-clause-some g c =
    let t = setting c.args.founded.now c.args.x.num c.args.x.den g.row.F in
    let same = c.system-system.ensures.system in
    let made = c.in_ok-memo.ensures.made in
    let raised = c.raise_to.ensures.raised in
    let within = node-within t c.args.base c.system-system.result.now c.in_ok-memo.memo c.raise_to.new.self c.body.result.0 same c.known.ensures.sound c.body.ensures.body made raised in
    (is-root t c.args.base c.system-system.result.now c.in_ok-memo.memo c.raise_to.new.self c.body.result.0 c.in-Some.root same c.body.ensures.body made raised within c.known-2.ensures.sound c.in-Some.ensures.table).some
