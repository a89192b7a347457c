use Rattle.std.proofs.Common.{◌∙◌, subst}
use Rattle.bit_tape.specs.Tape.{TapeSource, CountsFault}
use Rattle.choice_draw.proofs.Ticks.{oracle-none, oracle-more}
use Rattle.sample_command.specs.UnderWay.{CanTurn, DrawingGoesOn, IsAtEnd, has_failed}
use Rattle.bulk_command.specs.NoFiles.{empty_files, no_faults}
use Rattle.bulk_command.specs.Running.{IsRunning}
use Rattle.bulk_command.proofs.RunTurns.{moved-four}
use Rattle.std.proofs.Common.{refl}
use Rattle.bulk_command.proofs.running.draw_to_the_end.Goals as goal

-- nothing was done yet
pub turns-init : goal.turns-init
turns-init g c = record {
  can_turn = c.requires.can_turn;
  oracle = oracle-none g.O.Oracle.spec g.O.Oracle.x g.O.Oracle.table g.O.Oracle.cost g.O.Oracle.raised c.args.oracle.now c.args.steps.now;
  six = c.requires.levels;
  source = refl;
  running = λ p. p;
}

-- a turn had no memory
pub returns-in_default-clause-under_way : goal.returns-in_default-clause-under_way
returns-in_default-clause-under_way g c = λ p.
    let inv = c.turns.invariant in
    moved-four (λ x t l s. IsRunning c.args.founded.now x g.row.F t l s c.turns.drawing c.turns.tape.used (g.O.Oracle.raised c.turns.oracle) → IsRunning c.args.founded.now x g.row.F t l s c.make_turns.new.drawing c.make_turns.new.tape.used (g.O.Oracle.raised c.make_turns.new.oracle))
    (g.O.Oracle.x c.args.oracle.now) (g.O.Oracle.x c.turns.oracle) (g.O.Oracle.table c.args.oracle.now) (g.O.Oracle.table c.turns.oracle) c.args.drawing.now.limits c.turns.drawing.limits c.args.tape.now.source c.turns.tape.source inv.oracle.x inv.oracle.table inv.can_turn.within inv.source
    c.make_turns.ensures.under_way (inv.running p)

pub returns-in_default-clause-oracle : goal.returns-in_default-clause-oracle
returns-in_default-clause-oracle g c = oracle-more g.O.Oracle.spec g.O.Oracle.x g.O.Oracle.table g.O.Oracle.cost g.O.Oracle.raised c.args.oracle.now c.turns.oracle c.make_turns.new.oracle c.args.steps.now c.turns.steps c.make_turns.new.steps c.requires.costs (c.make_turns.ensures.levels c.turns.invariant.six) c.turns.invariant.oracle c.make_turns.ensures.oracle

pub returns-in_default-clause-reads : goal.returns-in_default-clause-reads
returns-in_default-clause-reads g c = subst (λ (s : TapeSource). CountsFault (has_failed c.make_turns.new.drawing.ending) s no_faults no_faults) c.turns.invariant.source c.make_turns.ensures.reads

-- the last turn ends the run that was under way until then
pub returns-in-Some-clause-under_way : goal.returns-in-Some-clause-under_way
returns-in-Some-clause-under_way g c = λ p.
    let inv = c.turns.invariant in
    moved-four (λ x t l s. IsRunning c.args.founded.now x g.row.F t l s c.turns.drawing c.turns.tape.used (g.O.Oracle.raised c.turns.oracle) → IsRunning c.args.founded.now x g.row.F t l s c.make_turns.new.drawing c.make_turns.new.tape.used (g.O.Oracle.raised c.make_turns.new.oracle))
    (g.O.Oracle.x c.args.oracle.now) (g.O.Oracle.x c.turns.oracle) (g.O.Oracle.table c.args.oracle.now) (g.O.Oracle.table c.turns.oracle) c.args.drawing.now.limits c.turns.drawing.limits c.args.tape.now.source c.turns.tape.source inv.oracle.x inv.oracle.table inv.can_turn.within inv.source
    c.make_turns.ensures.under_way (inv.running p)

pub returns-in-Some-clause-ended : goal.returns-in-Some-clause-ended
returns-in-Some-clause-ended g c =
    let inv = c.turns.invariant in
    let end = subst (DrawingGoesOn c.args.founded.now (g.O.Oracle.x c.turns.oracle) (g.O.Oracle.table c.turns.oracle) empty_files c.turns.drawing.limits c.turns.drawing c.make_turns.new.drawing c.make_turns.new.tape) c.in-Some.is c.in-Ok.ensures.goes_on in
    subst (λ t. IsAtEnd t c.args.drawing.now.limits c.make_turns.new.drawing c.in-Some.ending) inv.oracle.table (subst (λ l. IsAtEnd (g.O.Oracle.table c.turns.oracle) l c.make_turns.new.drawing c.in-Some.ending) inv.can_turn.within end)

pub returns-in-Some-clause-oracle : goal.returns-in-Some-clause-oracle
returns-in-Some-clause-oracle g c = oracle-more g.O.Oracle.spec g.O.Oracle.x g.O.Oracle.table g.O.Oracle.cost g.O.Oracle.raised c.args.oracle.now c.turns.oracle c.make_turns.new.oracle c.args.steps.now c.turns.steps c.make_turns.new.steps c.requires.costs (c.make_turns.ensures.levels c.turns.invariant.six) c.turns.invariant.oracle c.make_turns.ensures.oracle

pub returns-in-Some-clause-reads : goal.returns-in-Some-clause-reads
returns-in-Some-clause-reads g c = subst (λ (s : TapeSource). CountsFault (has_failed c.make_turns.new.drawing.ending) s no_faults no_faults) c.turns.invariant.source c.make_turns.ensures.reads

-- after a turn that goes on the run is under way
pub turns-preserved : goal.turns-preserved
turns-preserved g c =
    let inv = c.turns.invariant in
    let on = subst (DrawingGoesOn c.args.founded.now (g.O.Oracle.x c.turns.oracle) (g.O.Oracle.table c.turns.oracle) empty_files c.turns.drawing.limits c.turns.drawing c.make_turns.new.drawing c.make_turns.new.tape) c.in_default-turned.is c.in-Ok.ensures.goes_on in
    record {
      can_turn = moved-four (λ x t l s. CanTurn c.args.founded.now x empty_files l c.make_turns.new.drawing c.make_turns.new.tape) (g.O.Oracle.x c.args.oracle.now) (g.O.Oracle.x c.turns.oracle) (g.O.Oracle.table c.args.oracle.now) (g.O.Oracle.table c.turns.oracle) c.args.drawing.now.limits c.turns.drawing.limits c.args.tape.now.source c.turns.tape.source inv.oracle.x inv.oracle.table inv.can_turn.within inv.source on.0;
      oracle = oracle-more g.O.Oracle.spec g.O.Oracle.x g.O.Oracle.table g.O.Oracle.cost g.O.Oracle.raised c.args.oracle.now c.turns.oracle c.make_turns.new.oracle c.args.steps.now c.turns.steps c.make_turns.new.steps c.requires.costs (c.make_turns.ensures.levels inv.six) inv.oracle c.make_turns.ensures.oracle;
      six = c.make_turns.ensures.levels inv.six;
      source = c.make_turns.ensures.source ∙ inv.source;
      running = λ p.
          moved-four (λ x t l s. IsRunning c.args.founded.now x g.row.F t l s c.turns.drawing c.turns.tape.used (g.O.Oracle.raised c.turns.oracle) → IsRunning c.args.founded.now x g.row.F t l s c.make_turns.new.drawing c.make_turns.new.tape.used (g.O.Oracle.raised c.make_turns.new.oracle))
          (g.O.Oracle.x c.args.oracle.now) (g.O.Oracle.x c.turns.oracle) (g.O.Oracle.table c.args.oracle.now) (g.O.Oracle.table c.turns.oracle) c.args.drawing.now.limits c.turns.drawing.limits c.args.tape.now.source c.turns.tape.source inv.oracle.x inv.oracle.table inv.can_turn.within inv.source
          c.make_turns.ensures.under_way (inv.running p);
    }
