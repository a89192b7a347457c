-- What the bits took before they take again.
use Rattle.std.proofs.Common.{◌≡◌, map, arith, refl, sym, ap, subst, Some}
use Rattle.std.proofs.lemmas.List.{length-map}
use Rattle.bit_tape.specs.Tape.{bits_of_source}
use Rattle.class_system.specs.Views.{number}
use Rattle.choice_draw.specs.Decision.{union_decision, union_parts}
use Rattle.choice_draw.specs.KeptChoices.{AreFor}
use Rattle.choice_draw.specs.Compared.{kept_for}
use Rattle.choice_draw.proofs.UnionIdeal.{union-ideal}
use Rattle.choice_draw.proofs.UnionParts.{parts-two, parts-in_range, within}
use Rattle.choice_draw.proofs.Comparing.{kept-there}
use Rattle.choice_draw.proofs.KeptBounds.{takes-from}
use Rattle.choice_draw.proofs.KeptDraws.{draw-found, taken-below, takes-there}
use Rattle.choice_draw.proofs.kept.draw_ahead.Goals as goal

pub is_for-requires-clause-node : goal.is_for-requires-clause-node
is_for-requires-clause-node g c = rw c.requires.spec (within c.args.system.now.nodes c.args.node.0 _ c.requires.union)

pub is_for-requires-clause-parts : goal.is_for-requires-clause-parts
is_for-requires-clause-parts g c = rw c.requires.spec (parts-in_range c.args.system.now c.args.node.0 c.args.parts.now c.known-2.ensures.sound c.requires.union)

pub is_for-requires-clause-union : goal.is_for-requires-clause-union
is_for-requires-clause-union g c = rw c.requires.spec (sym (ap union_parts c.requires.union))

pub is_for-requires-clause-compared : goal.is_for-requires-clause-compared
is_for-requires-clause-compared g c = rw c.requires.spec c.requires.compared

pub returns-clause-drawn : goal.returns-clause-drawn
returns-clause-drawn g c = λ contents belongs.
    let table = g.O.Oracle.table c.args.oracle.now in
    let taken = c.in_ok-taken.taken in
    let parts = map number c.args.parts.now in
    let same : c.index-table.result.now ≡ kept_for c.args.kept.now c.args.node.0 = kept-there c.args.kept.now c.args.node.0 c.in_ok-place.place c.index-table.result.now c.in_ok-place.ensures.place c.in_ok-place.ensures.inside c.index-table.ensures in
    let here : AreFor table c.args.node.0 parts taken.cell.b c.index-table.result.now = subst (AreFor table c.args.node.0 parts taken.cell.b) (sym same) (c.if-not-is_for.ensures.bounds refl) in
    let takes = takes-from table c.args.node.0 parts c.index-table.result.now taken.cell.b here taken.option taken.cell (omega arith) c.in_ok-taken.ensures.takes in
    draw-found (union_decision c.args.system.now table c.args.node.0) (bits_of_source c.args.tape.now.source contents) c.args.tape.now.used c.skip.new.self.used c.peek.result.word c.peek.result.count taken.option taken.cell
    (takes-there c.args.system.now table c.args.node.0 parts taken.option taken.cell (sym (ap union_parts c.requires.union)) takes) c.in_ok-taken.ensures.ahead.0 c.in_ok-taken.ensures.ahead.1 (c.peek.ensures.next contents belongs) c.skip.ensures.used

pub returns-clause-ideal : goal.returns-clause-ideal
returns-clause-ideal g c =
    let table = g.O.Oracle.table c.args.oracle.now in
    let taken = c.in_ok-taken.taken in
    let parts = map number c.args.parts.now in
    let same : c.index-table.result.now ≡ kept_for c.args.kept.now c.args.node.0 = kept-there c.args.kept.now c.args.node.0 c.in_ok-place.place c.index-table.result.now c.in_ok-place.ensures.place c.in_ok-place.ensures.inside c.index-table.ensures in
    let here : AreFor table c.args.node.0 parts taken.cell.b c.index-table.result.now = subst (AreFor table c.args.node.0 parts taken.cell.b) (sym same) (c.if-not-is_for.ensures.bounds refl) in
    let takes = takes-from table c.args.node.0 parts c.index-table.result.now taken.cell.b here taken.option taken.cell (omega arith) c.in_ok-taken.ensures.takes in
    union-ideal c.args.system.now (g.O.Oracle.x c.args.oracle.now) g.row.F c.args.node.0 c.args.parts.now table taken.cell (record { parts = parts; here = c.requires.union }) (sym (ap union_parts c.requires.union))
    (omega (arith, length-map c.args.parts.now number, parts-two c.args.system.now c.args.node.0 c.args.parts.now c.known-2.ensures.sound c.requires.union)) (parts-in_range c.args.system.now c.args.node.0 c.args.parts.now c.known-2.ensures.sound c.requires.union) (rw c.requires.spec at c.known.ensures.sound) takes.is_cell (Some taken.option) (sym takes.takes)

pub returns-clause-in_range : goal.returns-clause-in_range
returns-clause-in_range g c =
    let table = g.O.Oracle.table c.args.oracle.now in
    let taken = c.in_ok-taken.taken in
    let parts = map number c.args.parts.now in
    let same : c.index-table.result.now ≡ kept_for c.args.kept.now c.args.node.0 = kept-there c.args.kept.now c.args.node.0 c.in_ok-place.place c.index-table.result.now c.in_ok-place.ensures.place c.in_ok-place.ensures.inside c.index-table.ensures in
    let here : AreFor table c.args.node.0 parts taken.cell.b c.index-table.result.now = subst (AreFor table c.args.node.0 parts taken.cell.b) (sym same) (c.if-not-is_for.ensures.bounds refl) in
    let takes = takes-from table c.args.node.0 parts c.index-table.result.now taken.cell.b here taken.option taken.cell (omega arith) c.in_ok-taken.ensures.takes in
    let below = taken-below table c.args.node.0 parts taken.cell taken.option takes.takes in
    omega (arith, below, length-map c.args.parts.now number)
