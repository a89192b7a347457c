-- What is drawn over the tape of the packed bits is made of the cells, or nothing is.
use Rattle.std.proofs.Common.{◌≡◌, ◌≢◌, ◌≤◌, ℕ, ◌∷◌, ◌++◌, List, [], arith, refl, sym, ◌∙◌, ap, subst}
use Rattle.bz_model.specs.Cell.{spelled}
use Rattle.bz_model.specs.Fraction.{Fraction}
use Rattle.bz_model.specs.Spec.{Spec}
use Rattle.bit_tape.specs.Bits.{file_bit}
use Rattle.bit_tape.specs.Given.{HasBits}
use Rattle.bit_tape.specs.Tape.{TapeState}
use Rattle.class_system.specs.Sound.{IsSound}
use Rattle.class_system.specs.Views.{spec_mode}
use Rattle.object_store.specs.Tokens.{size_of}
use Rattle.object_store.specs.declared.token.Token.{Token}
use Rattle.shape_sampler.specs.State.{attempt_of}
use Rattle.size_window.specs.Follows.{IsMadeOfItsCells}
use Rattle.size_window.proofs.Going.{ideal-fits}
use Rattle.entry_replay.specs.declared.replay.Redrawn.{Redrawn}
use Rattle.entry_replay.specs.Replay.{entry_with, AreMadeOf, IsMadeByTable, IsNeverMade, IsLabelledBy, IsNotLabelled}
use Rattle.entry_replay.proofs.Refusals.{never-none, not-labelled}
use Rattle.entry_replay.proofs.Replays.{some-of, none-of, moved, labelled-made, labelled-ideally}
use Rattle.entry_replay.proofs.replay.replay.Goals as goal

pub returns-then-not-done-clause-none : goal.returns-then-not-done-clause-none
returns-then-not-done-clause-none g c =
    let sound = subst IsSound c.system-system.ensures.system c.known.ensures.sound in
    let zero : c.over-tape.result.used ≡ 0 = ap (λ (t : TapeState). t.used) c.over-tape.ensures.new in
    let have = subst (λ bytes. HasBits (file_bit bytes) 0 (spelled c.args.cells.now)) (sym c.new-shelf.ensures) c.in_ok-bytes.ensures in
    let never = subst (λ n. IsNeverMade c.args.founded.now g.row.F (g.O.Oracle.table c.args.oracle.now) c.args.session.now.whole (file_bit c.new-shelf.result) n) zero (c.in_ok-done.ensures.never c.if-not-done.true) in
    λ tokens labels h. never-none c.args.founded.now sound g.row.F (g.O.Oracle.table c.args.oracle.now) c.args.session.now.whole (file_bit c.new-shelf.result) c.args.cells.now have tokens labels h never

pub label_again-requires-clause-within_limit : goal.label_again-requires-clause-within_limit
label_again-requires-clause-within_limit g c =
    let fits = ideal-fits c.args.founded.now (g.O.Oracle.x c.args.oracle.now) c.args.session.now.whole c.attempt.new.session.tokens c.attempt.new.session.cells (c.in_ok-done.ensures.ideal c.if-not-done.false) in
    let same : size_of c.take_made-shape.result.0.items ≡ size_of c.attempt.new.session.tokens = ap size_of c.take_made-shape.ensures.shape in
    omega (arith, fits, same, c.requires.room)

pub returns-clause-none : goal.returns-clause-none
returns-clause-none g c =
    let sound = subst IsSound c.system-system.ensures.system c.known.ensures.sound in
    let zero : c.over-tape.result.used ≡ 0 = ap (λ (t : TapeState). t.used) c.over-tape.ensures.new in
    let have = subst (λ bytes. HasBits (file_bit bytes) 0 (spelled c.args.cells.now)) (sym c.new-shelf.ensures) c.in_ok-bytes.ensures in
    let attempt = subst (λ n. IsMadeByTable c.args.founded.now g.row.F (g.O.Oracle.table c.args.oracle.now) c.args.session.now.whole (file_bit c.new-shelf.result) n (attempt_of c.attempt.new.session c.attempt.new.tape.used)) zero (c.in_ok-done.ensures.made c.if-not-done.false) in
    let mode = c.mode.ensures.mode ∙ ap (λ (s : Spec). s.mode) c.system-system.ensures.system in
    none-of (IsNotLabelled (spec_mode c.mode.result) (file_bit c.attempt.new.shelf) (size_of c.take_made-shape.result.0.items) c.attempt.new.tape.used c.take_made-shape.result.1.items c.args.cells.now)
    ((tokens : List Token) (labels : List ℕ) → ¬ (AreMadeOf c.args.founded.now g.row.F (g.O.Oracle.table c.args.oracle.now) c.args.session.now.whole c.args.cells.now tokens labels))
    (λ n tokens labels h.
    not-labelled c.args.founded.now sound g.row.F (g.O.Oracle.table c.args.oracle.now) c.args.session.now.whole (file_bit c.new-shelf.result) c.args.cells.now have tokens labels h (attempt_of c.attempt.new.session c.attempt.new.tape.used) attempt
    (moved (λ m b k own. IsNotLabelled m b k c.attempt.new.tape.used own c.args.cells.now) (spec_mode c.mode.result) c.args.founded.now.mode c.attempt.new.shelf c.new-shelf.result c.take_made-shape.result.0.items c.attempt.new.session.tokens c.take_made-shape.result.1.items c.attempt.new.session.cells mode c.attempt.ensures.shelf c.take_made-shape.ensures.shape c.take_made-shape.ensures.cells n))
    c.label_again.result c.label_again.ensures.none

pub returns-clause-made : goal.returns-clause-made
returns-clause-made g c =
    let zero : c.over-tape.result.used ≡ 0 = ap (λ (t : TapeState). t.used) c.over-tape.ensures.new in
    let have = subst (λ bytes. HasBits (file_bit bytes) 0 (spelled c.args.cells.now)) (sym c.new-shelf.ensures) c.in_ok-bytes.ensures in
    let attempt = subst (λ n. IsMadeByTable c.args.founded.now g.row.F (g.O.Oracle.table c.args.oracle.now) c.args.session.now.whole (file_bit c.new-shelf.result) n (attempt_of c.attempt.new.session c.attempt.new.tape.used)) zero (c.in_ok-done.ensures.made c.if-not-done.false) in
    let mode = c.mode.ensures.mode ∙ ap (λ (s : Spec). s.mode) c.system-system.ensures.system in
    some-of (λ (made : Redrawn). (made.shape.items ≡ c.take_made-shape.result.0.items) × IsLabelledBy (spec_mode c.mode.result) (file_bit c.attempt.new.shelf) (size_of c.take_made-shape.result.0.items) c.attempt.new.tape.used c.take_made-shape.result.1.items c.args.cells.now made.labels)
    (λ (made : Redrawn). AreMadeOf c.args.founded.now g.row.F (g.O.Oracle.table c.args.oracle.now) c.args.session.now.whole c.args.cells.now made.shape.items made.labels)
    (λ made p.
    labelled-made c.args.founded.now g.row.F (g.O.Oracle.table c.args.oracle.now) c.args.session.now.whole (file_bit c.new-shelf.result) (attempt_of c.attempt.new.session c.attempt.new.tape.used) made.labels c.args.cells.now made.shape.items attempt (p.0 ∙ c.take_made-shape.ensures.shape)
    (moved (λ m b k own. IsLabelledBy m b k c.attempt.new.tape.used own c.args.cells.now made.labels) (spec_mode c.mode.result) c.args.founded.now.mode c.attempt.new.shelf c.new-shelf.result c.take_made-shape.result.0.items c.attempt.new.session.tokens c.take_made-shape.result.1.items c.attempt.new.session.cells mode c.attempt.ensures.shelf c.take_made-shape.ensures.shape c.take_made-shape.ensures.cells p.1)
    have)
    c.label_again.result c.label_again.ensures.some

pub returns-clause-ideal : goal.returns-clause-ideal
returns-clause-ideal g c =
    let mode = c.mode.ensures.mode ∙ ap (λ (s : Spec). s.mode) c.system-system.ensures.system in
    some-of (λ (made : Redrawn). (made.shape.items ≡ c.take_made-shape.result.0.items) × IsLabelledBy (spec_mode c.mode.result) (file_bit c.attempt.new.shelf) (size_of c.take_made-shape.result.0.items) c.attempt.new.tape.used c.take_made-shape.result.1.items c.args.cells.now made.labels)
    (λ (made : Redrawn). IsMadeOfItsCells c.args.founded.now (g.O.Oracle.x c.args.oracle.now) c.args.session.now.whole (entry_with made.shape.items made.labels c.args.cells.now))
    (λ made p.
    labelled-ideally c.args.founded.now (g.O.Oracle.x c.args.oracle.now) c.args.session.now.whole (file_bit c.new-shelf.result) c.attempt.new.tape.used c.attempt.new.session.tokens c.attempt.new.session.cells c.args.cells.now made.labels made.shape.items (c.in_ok-done.ensures.ideal c.if-not-done.false) (p.0 ∙ c.take_made-shape.ensures.shape)
    (moved (λ m b k own. IsLabelledBy m b k c.attempt.new.tape.used own c.args.cells.now made.labels) (spec_mode c.mode.result) c.args.founded.now.mode c.attempt.new.shelf c.new-shelf.result c.take_made-shape.result.0.items c.attempt.new.session.tokens c.take_made-shape.result.1.items c.attempt.new.session.cells mode c.attempt.ensures.shelf c.take_made-shape.ensures.shape c.take_made-shape.ensures.cells p.1))
    c.label_again.result c.label_again.ensures.some
