-- The least of the row is the least option; where there is none, the high is, if it is an option.
use Rattle.std.proofs.Common.{◌≡◌, ◌<◌, ℕ, Some, sym, ◌∙◌, ap, arith}
use Rattle.bz_model.specs.declared.cell.Bounds.{Bounds}
use Rattle.count_draw.specs.Table.{end_value, least_at, least_reaching}
use Rattle.count_draw.proofs.PartialValues.{least-by_value}
use Rattle.count_draw.proofs.LeastOptions.{least-found, least-missing, least-high}
use Rattle.count_draw.proofs.choice.least_or_high.Goals as goal

pub returns-in-Some-clause-exact : goal.returns-in-Some-clause-exact
returns-in-Some-clause-exact g c =
    let end : c.end_of.result ≡ end_value c.args.cell c.args.sums.now.whole.hi = c.end_of.ensures.exact ∙ ap (λ (w : Bounds). end_value c.args.cell w.hi) c.whole.ensures in
    let by_value : least_reaching g.row.F c.args.sums.now c.end_of.result ≡ least_at g.row.F c.args.sums.now c.args.cell = ap (λ v. least_reaching g.row.F c.args.sums.now v) end ∙ least-by_value g.row.F c.args.sums.now c.args.cell in
    sym (least-found g.row.F c.args.sums.now c.args.high c.args.room c.args.cell c.requires.top c.in-Some.option (sym by_value ∙ sym c.in-Some.ensures.exact))

pub returns-then-high-room-clause-exact : goal.returns-then-high-room-clause-exact
returns-then-high-room-clause-exact g c =
    let here : c.args.high ≡ Some c.from-high.result = c.in_ok-high.was ∙ ap Some (sym c.from-high.ensures) in
    let end : c.end_of.result ≡ end_value c.args.cell c.args.sums.now.whole.hi = c.end_of.ensures.exact ∙ ap (λ (w : Bounds). end_value c.args.cell w.hi) c.whole.ensures in
    let by_value : least_reaching g.row.F c.args.sums.now c.end_of.result ≡ least_at g.row.F c.args.sums.now c.args.cell = ap (λ v. least_reaching g.row.F c.args.sums.now v) end ∙ least-by_value g.row.F c.args.sums.now c.args.cell in
    sym (least-high g.row.F c.args.sums.now c.args.high c.from-high.result c.args.room c.args.cell here c.requires.top c.requires.within c.if-high-room.true (sym by_value ∙ sym c.in_default.ensures.exact))

pub returns-else-high-room-clause-exact : goal.returns-else-high-room-clause-exact
returns-else-high-room-clause-exact g c =
    let here : c.args.high ≡ Some c.from-high.result = c.in_ok-high.was ∙ ap Some (sym c.from-high.ensures) in
    let less : c.args.room < c.from-high.result = c.if-high-room.false in
    let end : c.end_of.result ≡ end_value c.args.cell c.args.sums.now.whole.hi = c.end_of.ensures.exact ∙ ap (λ (w : Bounds). end_value c.args.cell w.hi) c.whole.ensures in
    let by_value : least_reaching g.row.F c.args.sums.now c.end_of.result ≡ least_at g.row.F c.args.sums.now c.args.cell = ap (λ v. least_reaching g.row.F c.args.sums.now v) end ∙ least-by_value g.row.F c.args.sums.now c.args.cell in
    sym (least-missing g.row.F c.args.sums.now c.args.high c.args.room c.args.cell c.requires.top (λ (h : ℕ) is. let same : c.from-high.result ≡ h = cc in omega arith) (sym by_value ∙ sym c.in_default.ensures.exact))

pub returns-in_err-high-clause-exact : goal.returns-in_err-high-clause-exact
returns-in_err-high-clause-exact g c =
    let end : c.end_of.result ≡ end_value c.args.cell c.args.sums.now.whole.hi = c.end_of.ensures.exact ∙ ap (λ (w : Bounds). end_value c.args.cell w.hi) c.whole.ensures in
    let by_value : least_reaching g.row.F c.args.sums.now c.end_of.result ≡ least_at g.row.F c.args.sums.now c.args.cell = ap (λ v. least_reaching g.row.F c.args.sums.now v) end ∙ least-by_value g.row.F c.args.sums.now c.args.cell in
    let nothing = c.in_err-high.was in
    c.from_residual.ensures ∙ sym (least-missing g.row.F c.args.sums.now c.args.high c.args.room c.args.cell c.requires.top (λ (h : ℕ) is. let never : ⊥ = cc in absurd never) (sym by_value ∙ sym c.in_default.ensures.exact))
