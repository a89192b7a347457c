-- One turn.
use Rattle.std.proofs.Common.{◌≡◌, ◌<◌, ◌≤◌, length, Some, refl, sym, ◌∙◌, ap, subst, arith}
use Rattle.bit_tape.specs.Tape.{bits_of_source}
use Rattle.bz_model.specs.Spec.{Spec}
use Rattle.class_system.specs.Views.{spec_mode}
use Rattle.size_window.specs.Drawing.{DrawingState, DrawingBelongs, shape_of, none_waiting}
use Rattle.size_window.specs.Turn.{outcome_of, IfStraddles, Settles}
use Rattle.size_window.specs.declared.turned.Outcome.TheVariants as outcome
use Rattle.size_window.specs.LabelTurn.{IsLabelTurn}
use Rattle.size_window.specs.contracts.drawing.Drawing.{the_view}
use Rattle.size_window.proofs.Turning.{idle-turn}
use Rattle.size_window.proofs.Belonging.{Visits, left-then, left-on, left-visits, idle-belongs, open-node, six-raised}
use Rattle.size_window.proofs.Turns.{may-settle-seen, belongs-then, kept-then, counted-then, turn-then}
use Rattle.size_window.proofs.LabelTurns.{shape-fits, labels-belong, labels-kept, label-turn}
use Rattle.size_window.proofs.drawing.Drawing.turn.Goals as goal

pub returns-in-Some-clause-turned : goal.returns-in-Some-clause-turned
returns-in-Some-clause-turned g c = idle-turn c.args.founded.now (g.O.Oracle.x c.args.oracle.now) g.row.F (g.O.Oracle.table c.args.oracle.now) (bits_of_source c.args.tape.now.source (g.S.Shelf.content c.args.shelf.now)) c.args.self.now c.requires.drawing c.args.tape.now.used c.in-Some.turned c.idle_turn.new.self c.in-Some.ensures

pub returns-in-Some-clause-drawing : goal.returns-in-Some-clause-drawing
returns-in-Some-clause-drawing g c = idle-belongs c.args.founded.now (g.O.Oracle.x c.args.oracle.now) c.args.self.now c.requires.drawing c.in-Some.turned c.idle_turn.new.self c.in-Some.ensures

-- a shape is labelled
pub label-requires-clause-size : goal.label-requires-clause-size
label-requires-clause-size g c =
    let w = left-then c.args.self.now c.idle_turn.new.self c.idle_turn.result c.idle_turn.ensures c.in_default.not-Some in
    let shape : c.args.self.now.waiting ≡ Some (shape_of c.in-Some-take_waiting.made) = ap (λ (d : DrawingState). d.waiting) (sym w.1) ∙ c.in-Some-take_waiting.ensures.taken.0 in
    let fits = shape-fits c.args.founded.now (g.O.Oracle.x c.args.oracle.now) c.args.self.now c.requires.drawing (left-on w.0) (shape_of c.in-Some-take_waiting.made) shape in
    let most = c.requires.drawing.limits.max in
    omega (arith, fits, most)

pub returns-in-Some-take_waiting-clause-turned : goal.returns-in-Some-take_waiting-clause-turned
returns-in-Some-take_waiting-clause-turned g c =
    let w = left-then c.args.self.now c.idle_turn.new.self c.idle_turn.result c.idle_turn.ensures c.in_default.not-Some in
    let taken = c.in-Some-take_waiting.ensures.taken in
    let bits = bits_of_source c.args.tape.now.source (g.S.Shelf.content c.args.shelf.now) in
    let made = shape_of c.in-Some-take_waiting.made in
    let shape : c.args.self.now.waiting ≡ Some (shape_of c.in-Some-take_waiting.made) = ap (λ (d : DrawingState). d.waiting) (sym w.1) ∙ taken.0 in
    let labelled : IsLabelTurn bits made (none_waiting c.args.self.now) c.args.tape.now.used c.label.result c.label.new.self c.label.new.tape.used = subst (λ d. IsLabelTurn bits made d c.args.tape.now.used c.label.result c.label.new.self c.label.new.tape.used) (taken.1 ∙ ap none_waiting w.1) c.label.ensures.labelled in
    label-turn c.args.founded.now (g.O.Oracle.x c.args.oracle.now) c.args.self.now c.requires.drawing (left-on w.0) made shape g.row.F (g.O.Oracle.table c.args.oracle.now) bits c.args.tape.now.used c.label.new.tape.used c.label.result c.label.new.self c.label.ensures.used.0 labelled

pub returns-in-Some-take_waiting-clause-kept : goal.returns-in-Some-take_waiting-clause-kept
returns-in-Some-take_waiting-clause-kept g c =
    let w = left-then c.args.self.now c.idle_turn.new.self c.idle_turn.result c.idle_turn.ensures c.in_default.not-Some in
    let taken = c.in-Some-take_waiting.ensures.taken in
    let bits = bits_of_source c.args.tape.now.source (g.S.Shelf.content c.args.shelf.now) in
    let made = shape_of c.in-Some-take_waiting.made in
    let shape : c.args.self.now.waiting ≡ Some (shape_of c.in-Some-take_waiting.made) = ap (λ (d : DrawingState). d.waiting) (sym w.1) ∙ taken.0 in
    let labelled : IsLabelTurn bits made (none_waiting c.args.self.now) c.args.tape.now.used c.label.result c.label.new.self c.label.new.tape.used = subst (λ d. IsLabelTurn bits made d c.args.tape.now.used c.label.result c.label.new.self c.label.new.tape.used) (taken.1 ∙ ap none_waiting w.1) c.label.ensures.labelled in
    labels-kept c.args.founded.now (g.O.Oracle.x c.args.oracle.now) c.args.self.now c.requires.drawing (left-on w.0) made shape labelled.told c.label.new.tape.used c.label.result c.label.new.self labelled.cells labelled.settles

pub returns-in-Some-take_waiting-clause-drawing : goal.returns-in-Some-take_waiting-clause-drawing
returns-in-Some-take_waiting-clause-drawing g c =
    let w = left-then c.args.self.now c.idle_turn.new.self c.idle_turn.result c.idle_turn.ensures c.in_default.not-Some in
    let taken = c.in-Some-take_waiting.ensures.taken in
    let bits = bits_of_source c.args.tape.now.source (g.S.Shelf.content c.args.shelf.now) in
    let made = shape_of c.in-Some-take_waiting.made in
    let shape : c.args.self.now.waiting ≡ Some (shape_of c.in-Some-take_waiting.made) = ap (λ (d : DrawingState). d.waiting) (sym w.1) ∙ taken.0 in
    let labelled : IsLabelTurn bits made (none_waiting c.args.self.now) c.args.tape.now.used c.label.result c.label.new.self c.label.new.tape.used = subst (λ d. IsLabelTurn bits made d c.args.tape.now.used c.label.result c.label.new.self c.label.new.tape.used) (taken.1 ∙ ap none_waiting w.1) c.label.ensures.labelled in
    labels-belong c.args.founded.now (g.O.Oracle.x c.args.oracle.now) c.args.self.now c.requires.drawing (left-on w.0) made shape labelled.told c.label.new.tape.used c.label.result c.label.new.self labelled.settles

-- a node is visited
pub outcome_by-outcome-requires : goal.outcome_by-outcome-requires
outcome_by-outcome-requires g c =
    let s = c.args.founded.now in
    let x = g.O.Oracle.x c.args.oracle.now in
    let raised = g.O.Oracle.raised c.step-answer.new.oracle in
    let w = left-then c.args.self.now c.idle_turn.new.self c.idle_turn.result c.idle_turn.ensures c.in_default.not-Some in
    let nothing = c.in_default-take_waiting.ensures.nothing in
    let same = c.self.view_is ∙ nothing.1 ∙ w.1 in
    let b = subst (DrawingBelongs s x) (sym same) c.requires.drawing in
    let v = subst Visits (sym same) (left-visits w.0 (ap (λ (d : DrawingState). d.waiting) (sym w.1) ∙ nothing.0)) in
    record {
      raised = subst (λ (t : Spec). IfStraddles c.step-answer.result (λ node. (6 ≤ raised) × (node.0 < length t.nodes))) (sym (c.step-answer.ensures.oracle.spec ∙ c.requires.spec))
          (open-node s x (the_view c.self.inside) b c.step-answer.result c.step-answer.new.self c.args.tape.now.used c.step-answer.new.tape.used raised (c.step-answer.ensures.draws (b.runs v.on.going))
          (six-raised raised (g.O.Oracle.raised c.args.oracle.now) c.args.tape.now.used c.step-answer.new.tape.used c.step-answer.ensures.raised));
    }

pub settle-requires : goal.settle-requires
settle-requires g c =
    let w = left-then c.args.self.now c.idle_turn.new.self c.idle_turn.result c.idle_turn.ensures c.in_default.not-Some in
    let nothing = c.in_default-take_waiting.ensures.nothing in
    let v = left-visits w.0 (ap (λ (d : DrawingState). d.waiting) (sym w.1) ∙ nothing.0) in
    may-settle-seen c.args.founded.now (g.O.Oracle.x c.args.oracle.now) c.args.self.now (the_view c.self.inside) (c.self.view_is ∙ nothing.1 ∙ w.1) c.requires.drawing v c.step-answer.new.self c.step-answer.ensures.session c.step-answer.result c.step-answer.ensures.leaves c.step-answer.ensures.ideal (g.O.Oracle.table c.step-answer.new.oracle) c.outcome_by-outcome.result c.outcome_by-outcome.ensures

pub returns-clause-drawing : goal.returns-clause-drawing
returns-clause-drawing g c =
    let w = left-then c.args.self.now c.idle_turn.new.self c.idle_turn.result c.idle_turn.ensures c.in_default.not-Some in
    let nothing = c.in_default-take_waiting.ensures.nothing in
    let v = left-visits w.0 (ap (λ (d : DrawingState). d.waiting) (sym w.1) ∙ nothing.0) in
    let mode = sym (c.mode.ensures.mode ∙ ap (λ (t : Spec). t.mode) c.system.ensures.system) in
    belongs-then c.args.founded.now (g.O.Oracle.x c.args.oracle.now) c.args.self.now (the_view c.self.inside) (c.self.view_is ∙ nothing.1 ∙ w.1) c.requires.drawing v c.step-answer.new.self c.step-answer.ensures.session c.step-answer.result c.step-answer.ensures.leaves c.step-answer.ensures.ideal (g.O.Oracle.table c.step-answer.new.oracle) (spec_mode c.mode.result) mode c.outcome_by-outcome.result c.outcome_by-outcome.ensures c.used.result c.settle.result c.settle.new.self c.settle.ensures

pub returns-clause-counted : goal.returns-clause-counted
returns-clause-counted g c =
    let w = left-then c.args.self.now c.idle_turn.new.self c.idle_turn.result c.idle_turn.ensures c.in_default.not-Some in
    let nothing = c.in_default-take_waiting.ensures.nothing in
    let v = left-visits w.0 (ap (λ (d : DrawingState). d.waiting) (sym w.1) ∙ nothing.0) in
    let mode = sym (c.mode.ensures.mode ∙ ap (λ (t : Spec). t.mode) c.system.ensures.system) in
    counted-then c.args.founded.now (g.O.Oracle.x c.args.oracle.now) c.args.self.now (the_view c.self.inside) (c.self.view_is ∙ nothing.1 ∙ w.1) c.requires.drawing v c.step-answer.new.self c.step-answer.ensures.session c.step-answer.result c.step-answer.ensures.leaves c.step-answer.ensures.ideal (g.O.Oracle.table c.step-answer.new.oracle) (spec_mode c.mode.result) mode c.outcome_by-outcome.result c.outcome_by-outcome.ensures c.used.result c.settle.result c.settle.new.self c.settle.ensures

pub returns-clause-kept : goal.returns-clause-kept
returns-clause-kept g c =
    let w = left-then c.args.self.now c.idle_turn.new.self c.idle_turn.result c.idle_turn.ensures c.in_default.not-Some in
    let nothing = c.in_default-take_waiting.ensures.nothing in
    let v = left-visits w.0 (ap (λ (d : DrawingState). d.waiting) (sym w.1) ∙ nothing.0) in
    let mode = sym (c.mode.ensures.mode ∙ ap (λ (t : Spec). t.mode) c.system.ensures.system) in
    let settled = subst (λ n. Settles (spec_mode c.mode.result) c.outcome_by-outcome.result n (record (the_view c.self.inside) { session = c.step-answer.new.self }) c.settle.result c.settle.new.self) c.used.ensures c.settle.ensures in
    kept-then c.args.founded.now (g.O.Oracle.x c.args.oracle.now) c.args.self.now (the_view c.self.inside) (c.self.view_is ∙ nothing.1 ∙ w.1) c.requires.drawing v c.step-answer.new.self c.step-answer.ensures.session c.step-answer.result c.step-answer.ensures.leaves c.step-answer.ensures.ideal (g.O.Oracle.table c.step-answer.new.oracle) (spec_mode c.mode.result) mode c.outcome_by-outcome.result c.outcome_by-outcome.ensures c.step-answer.new.tape.used c.settle.result c.settle.new.self settled

pub returns-clause-turned : goal.returns-clause-turned
returns-clause-turned g c =
    let w = left-then c.args.self.now c.idle_turn.new.self c.idle_turn.result c.idle_turn.ensures c.in_default.not-Some in
    let nothing = c.in_default-take_waiting.ensures.nothing in
    let v = left-visits w.0 (ap (λ (d : DrawingState). d.waiting) (sym w.1) ∙ nothing.0) in
    let mode = sym (c.mode.ensures.mode ∙ ap (λ (t : Spec). t.mode) c.system.ensures.system) in
    let settled = subst (λ n. Settles (spec_mode c.mode.result) c.outcome_by-outcome.result n (record (the_view c.self.inside) { session = c.step-answer.new.self }) c.settle.result c.settle.new.self) c.used.ensures c.settle.ensures in
    let table = g.O.Oracle.table c.step-answer.new.oracle in
    let outcome = ◌∙◌ {b = outcome_of table c.step-answer.result} c.outcome_by-outcome.ensures (ap (λ t. outcome_of t c.step-answer.result) c.step-answer.ensures.oracle.table) in
    turn-then c.args.founded.now (g.O.Oracle.x c.args.oracle.now) c.args.self.now (the_view c.self.inside) (c.self.view_is ∙ nothing.1 ∙ w.1) c.requires.drawing v c.step-answer.new.self c.step-answer.ensures.session c.step-answer.result c.step-answer.ensures.leaves c.step-answer.ensures.ideal (g.O.Oracle.table c.args.oracle.now) (spec_mode c.mode.result) mode c.outcome_by-outcome.result outcome c.step-answer.new.tape.used c.settle.result c.settle.new.self settled
    g.row.F (bits_of_source c.args.tape.now.source (g.S.Shelf.content c.args.shelf.now)) c.args.tape.now.used c.step-answer.ensures.used.0 c.step-answer.ensures.draws c.step-answer.ensures.exact

-- a node was visited, and nodes are pending
pub go_on-requires : goal.go_on-requires
go_on-requires g c =
    let w = left-then c.args.self.now c.idle_turn.new.self c.idle_turn.result c.idle_turn.ensures c.in_default.not-Some in
    let nothing = c.in_default-take_waiting.ensures.nothing in
    let v = left-visits w.0 (ap (λ (d : DrawingState). d.waiting) (sym w.1) ∙ nothing.0) in
    let may = may-settle-seen c.args.founded.now (g.O.Oracle.x c.args.oracle.now) c.args.self.now (the_view c.self.inside) (c.self.view_is ∙ nothing.1 ∙ w.1) c.requires.drawing v c.step-answer.new.self c.step-answer.ensures.session c.step-answer.result c.step-answer.ensures.leaves c.step-answer.ensures.ideal (g.O.Oracle.table c.step-answer.new.oracle) outcome.Moved (sym (ap (outcome_of (g.O.Oracle.table c.step-answer.new.oracle)) c.in-Moved.is)) in
    may.turns

pub returns-in-Moved-clause-drawing : goal.returns-in-Moved-clause-drawing
returns-in-Moved-clause-drawing g c =
    let w = left-then c.args.self.now c.idle_turn.new.self c.idle_turn.result c.idle_turn.ensures c.in_default.not-Some in
    let nothing = c.in_default-take_waiting.ensures.nothing in
    let v = left-visits w.0 (ap (λ (d : DrawingState). d.waiting) (sym w.1) ∙ nothing.0) in
    belongs-then c.args.founded.now (g.O.Oracle.x c.args.oracle.now) c.args.self.now (the_view c.self.inside) (c.self.view_is ∙ nothing.1 ∙ w.1) c.requires.drawing v c.step-answer.new.self c.step-answer.ensures.session c.step-answer.result c.step-answer.ensures.leaves c.step-answer.ensures.ideal (g.O.Oracle.table c.step-answer.new.oracle) c.args.founded.now.mode refl outcome.Moved (sym (ap (outcome_of (g.O.Oracle.table c.step-answer.new.oracle)) c.in-Moved.is)) c.step-answer.new.tape.used c.go_on.result c.go_on.new.self (c.go_on.ensures.told, c.go_on.ensures.turns)

pub returns-in-Moved-clause-counted : goal.returns-in-Moved-clause-counted
returns-in-Moved-clause-counted g c =
    let w = left-then c.args.self.now c.idle_turn.new.self c.idle_turn.result c.idle_turn.ensures c.in_default.not-Some in
    let nothing = c.in_default-take_waiting.ensures.nothing in
    let v = left-visits w.0 (ap (λ (d : DrawingState). d.waiting) (sym w.1) ∙ nothing.0) in
    counted-then c.args.founded.now (g.O.Oracle.x c.args.oracle.now) c.args.self.now (the_view c.self.inside) (c.self.view_is ∙ nothing.1 ∙ w.1) c.requires.drawing v c.step-answer.new.self c.step-answer.ensures.session c.step-answer.result c.step-answer.ensures.leaves c.step-answer.ensures.ideal (g.O.Oracle.table c.step-answer.new.oracle) c.args.founded.now.mode refl outcome.Moved (sym (ap (outcome_of (g.O.Oracle.table c.step-answer.new.oracle)) c.in-Moved.is)) c.step-answer.new.tape.used c.go_on.result c.go_on.new.self (c.go_on.ensures.told, c.go_on.ensures.turns)

pub returns-in-Moved-clause-kept : goal.returns-in-Moved-clause-kept
returns-in-Moved-clause-kept g c =
    let w = left-then c.args.self.now c.idle_turn.new.self c.idle_turn.result c.idle_turn.ensures c.in_default.not-Some in
    let nothing = c.in_default-take_waiting.ensures.nothing in
    let v = left-visits w.0 (ap (λ (d : DrawingState). d.waiting) (sym w.1) ∙ nothing.0) in
    kept-then c.args.founded.now (g.O.Oracle.x c.args.oracle.now) c.args.self.now (the_view c.self.inside) (c.self.view_is ∙ nothing.1 ∙ w.1) c.requires.drawing v c.step-answer.new.self c.step-answer.ensures.session c.step-answer.result c.step-answer.ensures.leaves c.step-answer.ensures.ideal (g.O.Oracle.table c.step-answer.new.oracle) c.args.founded.now.mode refl outcome.Moved (sym (ap (outcome_of (g.O.Oracle.table c.step-answer.new.oracle)) c.in-Moved.is)) c.step-answer.new.tape.used c.go_on.result c.go_on.new.self (c.go_on.ensures.told, c.go_on.ensures.turns)

pub returns-in-Moved-clause-turned : goal.returns-in-Moved-clause-turned
returns-in-Moved-clause-turned g c =
    let w = left-then c.args.self.now c.idle_turn.new.self c.idle_turn.result c.idle_turn.ensures c.in_default.not-Some in
    let nothing = c.in_default-take_waiting.ensures.nothing in
    let v = left-visits w.0 (ap (λ (d : DrawingState). d.waiting) (sym w.1) ∙ nothing.0) in
    turn-then c.args.founded.now (g.O.Oracle.x c.args.oracle.now) c.args.self.now (the_view c.self.inside) (c.self.view_is ∙ nothing.1 ∙ w.1) c.requires.drawing v c.step-answer.new.self c.step-answer.ensures.session c.step-answer.result c.step-answer.ensures.leaves c.step-answer.ensures.ideal (g.O.Oracle.table c.args.oracle.now) c.args.founded.now.mode refl outcome.Moved (sym (ap (outcome_of (g.O.Oracle.table c.args.oracle.now)) c.in-Moved.is)) c.step-answer.new.tape.used c.go_on.result c.go_on.new.self (c.go_on.ensures.told, c.go_on.ensures.turns)
    g.row.F (bits_of_source c.args.tape.now.source (g.S.Shelf.content c.args.shelf.now)) c.args.tape.now.used c.step-answer.ensures.used.0 c.step-answer.ensures.draws c.step-answer.ensures.exact
