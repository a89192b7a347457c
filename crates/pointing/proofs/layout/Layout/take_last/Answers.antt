use Rattle.std.proofs.Common.{ap, arith, ◌∙◌, ◌≡◌, length, drop}
use Rattle.std.proofs.lemmas.List.{take_all}
use Rattle.std.proofs.Common.{length-drop}
use Rattle.pointing.proofs.Layouts.{last-numbers, first-numbers}
use Rattle.pointing.proofs.layout.Layout.take_last.Goals as goal

pub returns-clause-parts : goal.returns-clause-parts
returns-clause-parts c =
    let long : length c.deref.result.now ≡ length c.self.inside.numbers.items = ap length c.deref.ensures.value in
    last-numbers c.self.inside.numbers.items _ c.loop-number.parts c.args.self.now.numbers c.saturating_sub-first.result c.args.n c.loop-number.number-index (ap (λ l. l.numbers) c.self.view_is)
    (let a = c.saturating_sub-first.ensures in let b = c.len.ensures in let d = c.deref.ensures.len in omega arith)
    (take_all _ _ (let e = length-drop c.saturating_sub-first.result c.deref.result.now in omega arith) ∙ ap (drop c.saturating_sub-first.result) c.deref.ensures.value)
    c.loop-number-test.false c.loop-number.invariant

pub returns-clause-numbers : goal.returns-clause-numbers
returns-clause-numbers c =
    let long : length c.deref.result.now ≡ length c.self.inside.numbers.items = ap length c.deref.ensures.value in
    first-numbers c.self.inside.numbers.items c.truncate.new.self.items c.args.self.now.numbers c.saturating_sub-first.result c.args.n (ap (λ l. l.numbers) c.self.view_is) (let a = c.saturating_sub-first.ensures in let b = c.len.ensures in let d = c.deref.ensures.len in omega arith) c.truncate.ensures.items
