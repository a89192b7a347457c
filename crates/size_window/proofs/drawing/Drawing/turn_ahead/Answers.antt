-- As many turns go on as visits moved on.
use Rattle.std.proofs.Common.{None}
use Rattle.bit_tape.specs.Tape.{bits_of_source}
use Rattle.size_window.specs.contracts.drawing.Drawing.{the_view}
use Rattle.size_window.proofs.TurnsAhead.{belongs-untold, gone-seen}
use Rattle.size_window.proofs.drawing.Drawing.turn_ahead.Goals as goal

pub returns-clause-goes : goal.returns-clause-goes
returns-clause-goes g c = λ contents belongs.
    let v = c.visit_ahead-made in
    (gone-seen c.args.founded.now (g.O.Oracle.x c.args.oracle.now) g.row.F (g.O.Oracle.table c.args.oracle.now) (bits_of_source c.args.tape.now.source contents) (g.O.Oracle.raised c.args.oracle.now) c.args.self.now (the_view c.self.inside) c.self.view_is c.requires.drawing c.most_ahead-most.result v.result c.most_ahead-most.ensures v.ensures.most c.args.tape.now.used v.new.self v.new.tape.used (v.ensures.moves contents belongs)).0

-- the drawing still belongs, whatever the shelf has
pub returns-clause-drawing : goal.returns-clause-drawing
returns-clause-drawing g c =
    let v = c.visit_ahead-made in
    (gone-seen c.args.founded.now (g.O.Oracle.x c.args.oracle.now) g.row.F (g.O.Oracle.table c.args.oracle.now) (bits_of_source c.args.tape.now.source (λ name. None)) (g.O.Oracle.raised c.args.oracle.now) c.args.self.now (the_view c.self.inside) c.self.view_is c.requires.drawing c.most_ahead-most.result v.result c.most_ahead-most.ensures v.ensures.most c.args.tape.now.used v.new.self v.new.tape.used (v.ensures.moves (λ name. None) (belongs-untold c.args.tape.now))).1
