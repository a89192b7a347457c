use Rattle.std.proofs.Common.{◌≡◌, ◌↔◌, ℕ, length, map, arith, subst, sym, ap, ◌∙◌}
use Rattle.class_system.specs.Views.{number}
use Rattle.well_founded.specs.Foundedness.{Under, Leads}
use Rattle.well_founded.specs.Ways.{Points, BodyPoints}
use Rattle.well_founded.proofs.Rows.{written-back}
use Rattle.well_founded.proofs.StepRows.{chain-leads}
use Rattle.well_founded.proofs.class_graph.leads.Goals as goal

pub returns-clause-exact : goal.returns-clause-exact
returns-clause-exact c =
    let same_length : length c.close.new.rows ≡ length c.in_ok-rows.rows.items = c.close.auto.rows ∙ ap length c.deref_mut.ensures.value in
    let written = written-back c.in_ok-rows.rows.len c.close.new.rows c.in_ok-rows.rows.items same_length (omega (arith, c.deref_mut.ensures.len, ap length c.deref_mut.ensures.value)) in
    let sets = c.deref.result.now in
    let rows = c.deref_mut.result.now in
    let under = subst (λ xs. (e d : ℕ) → Points xs e d ↔ Under c.args.system.now d e) (sym c.deref.ensures.value) c.in_ok-sets.ensures in
    let steps = subst (λ xs. (e d : ℕ) → Points xs e d ↔ BodyPoints sets (map number c.bodies.result.now) e d) (sym c.deref_mut.ensures.value) c.in_ok-rows.ensures.exact in
    subst (λ xs. (e d : ℕ) → Points xs e d ↔ Leads c.args.system.now e d) (sym written) (chain-leads c.args.system.now sets rows c.close.new.rows c.bodies.result.now under c.bodies.ensures.bodies steps c.close.ensures)
