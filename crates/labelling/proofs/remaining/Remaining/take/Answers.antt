-- What is taken out of the second list is taken out of both.
use Rattle.std.proofs.Common.{◌≡◌, ◌≤◌, ◌++◌, length, arith, sym, ◌∙◌, ap}
use Rattle.std.specs.List.{remove}
use Rattle.std.proofs.lemmas.List.Edits.{remove-append_right}
use Rattle.labelling.proofs.remaining.Remaining.take.Goals as goal

pub returns-else-i-listed-clause-removed : goal.returns-else-i-listed-clause-removed
returns-else-i-listed-clause-removed c =
    let list = c.self.inside.list.items in
    let long : length list ≡ c.len-listed.result = let len = c.self.inside.list.ok.0 in omega (arith, c.len-listed.ensures, len) in
    ap (λ t. list ++ t) c.take.ensures.removed
    ∙ sym (remove-append_right list c.self.inside.tree c.len-listed.result c.args.i long (let past = c.if-i-listed.false in omega arith))
    ∙ ap (λ ls. remove ls c.args.i) c.self.view_is
