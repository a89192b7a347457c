-- Each visit is the next one of the attempt over the tape's bits.
use Rattle.std.proofs.Common.{◌≡◌, ◌≢◌, ℕ, ◌+◌, Bool, List, Option, Some, None, refl, sym, ◌∙◌, ap, subst}
use Rattle.bz_model.specs.Fraction.{Fraction}
use Rattle.bz_model.specs.declared.cell.Bounds.{Bounds}
use Rattle.bit_tape.specs.Bits.{file_bit}
use Rattle.bit_tape.specs.Tape.{bits_of_source}
use Rattle.choice_draw.proofs.Ticks.{oracle-more}
use Rattle.shape_sampler.specs.Answer.{IsVisitByBits}
use Rattle.shape_sampler.specs.State.{SessionBelongs}
use Rattle.shape_sampler.specs.declared.stepped.Stepped.TheVariants.{Moved, Made, ReadFault, OutOfMemory}
use Rattle.entry_replay.proofs.Attempts.{no-fault-answer, same-shelf, still-told, way-goes, way-made, way-never}
use Rattle.entry_replay.proofs.replay.attempt.Goals as goal

pub returns-in-Made-clause-made : goal.returns-in-Made-clause-made
returns-in-Made-clause-made g c =
    let inv = c.visits.invariant in
    let told = still-told c.visits.tape.source c.args.tape.now.source c.args.shelf.now c.visits.shelf (Some (file_bit c.args.shelf.now)) inv.source inv.shelf c.requires.told in
    let exact = subst (λ t. IsVisitByBits c.args.founded.now g.row.F t (bits_of_source c.visits.tape.source (λ name. Some c.visits.shelf)) c.visits.session c.visits.tape.used Made c.step-answer.new.self c.step-answer.new.tape.used) inv.oracle.table (c.in-Made.ensures.exact inv.stopped) in
    λ done. way-made c.args.founded.now g.row.F (g.O.Oracle.table c.args.oracle.now) (file_bit c.args.shelf.now) c.args.tape.now.used c.args.session.now.whole c.visits.visit c.visits.session c.step-answer.new.self c.visits.tape.used c.step-answer.new.tape.used Made (bits_of_source c.visits.tape.source (λ name. Some c.visits.shelf)) told inv.way exact (λ e. cc) (λ e. cc) refl ((c.in-Made.ensures.leaves inv.stopped).1)

pub returns-in-Made-clause-shelf : goal.returns-in-Made-clause-shelf
returns-in-Made-clause-shelf g c = same-shelf c.visits.shelf c.step-answer.new.shelf _ _ refl refl c.step-answer.ensures.tape.content ∙ c.visits.invariant.shelf

pub returns-in_default-clause-shelf : goal.returns-in_default-clause-shelf
returns-in_default-clause-shelf g c = same-shelf c.visits.shelf c.step-answer.new.shelf _ _ refl refl c.step-answer.ensures.tape.content ∙ c.visits.invariant.shelf

pub returns-in_default-clause-never : goal.returns-in_default-clause-never
returns-in_default-clause-never g c =
    let inv = c.visits.invariant in
    let told = still-told c.visits.tape.source c.args.tape.now.source c.args.shelf.now c.visits.shelf (Some (file_bit c.args.shelf.now)) inv.source inv.shelf c.requires.told in
    let exact = subst (λ t. IsVisitByBits c.args.founded.now g.row.F t (bits_of_source c.visits.tape.source (λ name. Some c.visits.shelf)) c.visits.session c.visits.tape.used c.step-answer.result c.step-answer.new.self c.step-answer.new.tape.used) inv.oracle.table (c.step-answer.ensures.exact inv.stopped) in
    let steady = no-fault-answer c.step-answer.result c.visits.session.stopped c.visits.tape.source inv.stopped c.step-answer.ensures.tape.faults in
    λ done. way-never c.args.founded.now g.row.F (g.O.Oracle.table c.args.oracle.now) (file_bit c.args.shelf.now) c.args.tape.now.used c.args.session.now.whole c.visits.visit c.visits.session c.step-answer.new.self c.visits.tape.used c.step-answer.new.tape.used c.step-answer.result (bits_of_source c.visits.tape.source (λ name. Some c.visits.shelf)) told inv.way exact c.in_default.not-OutOfMemory steady c.in_default.not-Moved c.in_default.not-Made

pub visits-preserved : goal.visits-preserved
visits-preserved g c =
    let inv = c.visits.invariant in
    let told = still-told c.visits.tape.source c.args.tape.now.source c.args.shelf.now c.visits.shelf (Some (file_bit c.args.shelf.now)) inv.source inv.shelf c.requires.told in
    let exact = subst (λ t. IsVisitByBits c.args.founded.now g.row.F t (bits_of_source c.visits.tape.source (λ name. Some c.visits.shelf)) c.visits.session c.visits.tape.used Moved c.step-answer.new.self c.step-answer.new.tape.used) inv.oracle.table (c.in-Moved.ensures.exact inv.stopped) in
    let leaves = c.in-Moved.ensures.leaves inv.stopped in
    record {
      session = subst (λ x. SessionBelongs c.args.founded.now x c.step-answer.new.self) inv.oracle.x c.step-answer.ensures.session;
      whole = leaves.0.whole ∙ inv.whole;
      pending = leaves.1;
      stopped = leaves.0.stopped;
      belongs = c.step-answer.ensures.tape.belongs;
      source = c.step-answer.ensures.tape.source ∙ inv.source;
      shelf = same-shelf c.visits.shelf c.step-answer.new.shelf _ _ refl refl c.step-answer.ensures.tape.content ∙ inv.shelf;
      oracle = oracle-more g.O.Oracle.spec g.O.Oracle.x g.O.Oracle.table g.O.Oracle.cost g.O.Oracle.raised c.args.oracle.now c.visits.oracle c.step-answer.new.oracle c.args.steps.now c.visits.steps c.step-answer.new.steps c.known.ensures.costs c.known-in-visits.ensures.raised inv.oracle c.step-answer.ensures.oracle;
      way = way-goes c.args.founded.now g.row.F (g.O.Oracle.table c.args.oracle.now) (file_bit c.args.shelf.now) c.args.tape.now.used c.args.session.now.whole c.visits.visit c.visits.session c.step-answer.new.self c.visits.tape.used c.step-answer.new.tape.used Moved (bits_of_source c.visits.tape.source (λ name. Some c.visits.shelf)) told inv.way exact (λ e. cc) (λ e. cc) refl (c.visits.visit + 1) refl;
    }
