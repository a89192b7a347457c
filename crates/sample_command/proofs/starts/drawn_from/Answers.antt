use Rattle.std.proofs.Common.{◌∙◌, ap, true, List, ℕ}
use Rattle.bz_model.specs.Fraction.{ratio}
use Rattle.bz_model.specs.Spec.{Spec}
use Rattle.oracle_memo.specs.Levels.{level_bounds_from, cost_at}
use Rattle.rounded_map.specs.RoundedMap.{setting}
use Rattle.size_window.specs.Drawing.{limits_of}
use Rattle.sample_command.specs.Drawn.{drawn_header}
use Rattle.sample_command.specs.Starts.{format_of}
use Rattle.sample_command.specs.UnderWay.{met}
use Rattle.call_stages.specs.Ends.{output}
use Rattle.sample_command.proofs.AtTheEnd.{no-drawing}
use Rattle.sample_command.proofs.Starting.{drawn_by_memo}
use Rattle.sample_command.proofs.starts.drawn_from.Goals as goal

-- there is no memory for the header
pub returns-in_default-clause-ends : goal.returns-in_default-clause-ends
returns-in_default-clause-ends g c =
    let t = setting c.args.founded.now c.args.x.num c.args.x.den g.row.F in
    no-drawing cost_at t.spec (ratio t.num t.den) t.bits (level_bounds_from t c.args.start c.args.base) (limits_of c.args.limits) (met c.args.tape.source (g.S.Shelf.content c.args.shelf.now) (g.S.Shelf.faults c.args.shelf.now) (g.S.Shelf.faults c.args.shelf.now)) (drawn_header (format_of true) t c.args.base (limits_of c.args.limits)) _ _ _ _

-- nor for the levels
pub returns-in_default-make-clause-ends : goal.returns-in_default-make-clause-ends
returns-in_default-make-clause-ends g c =
    let t = setting c.args.founded.now c.args.x.num c.args.x.den g.row.F in
    no-drawing cost_at t.spec (ratio t.num t.den) t.bits (level_bounds_from t c.args.start c.args.base) (limits_of c.args.limits) (met c.args.tape.source (g.S.Shelf.content c.args.shelf.now) (g.S.Shelf.faults c.args.shelf.now) (g.S.Shelf.faults c.args.shelf.now)) (drawn_header (format_of true) t c.args.base (limits_of c.args.limits)) _ _ _ _

-- the lower sweeps start from the vector that is given
pub returns-clause-ends : goal.returns-clause-ends
returns-clause-ends g c =
    let t = setting c.args.founded.now c.args.x.num c.args.x.den g.row.F in
    let tape = met c.args.tape.source (g.S.Shelf.content c.args.shelf.now) (g.S.Shelf.faults c.args.shelf.now) (g.S.Shelf.faults c.drawn.new.shelf) in
    let header =
    c.in-Ok.ensures
    ∙ ap (λ (s : Spec). drawn_header (format_of true) (setting s c.args.x.num c.args.x.den g.row.F) c.values.result.now (limits_of c.args.limits)) c.system-system.ensures.system
    ∙ ap (λ (b : List ℕ). drawn_header (format_of true) t b (limits_of c.args.limits)) c.values.ensures.entries in
    drawn_by_memo true t (limits_of c.args.limits) tape c.args.base c.args.start c.in-Ok.header.items c.in-Ok-make.memo (output (g.K.Sink.written c.args.out.now) (g.K.Sink.written c.drawn.new.out) (g.K.Sink.faults c.args.out.now) (g.K.Sink.faults c.drawn.new.out) c.args.steps.now c.drawn.new.steps) c.drawn.result c.in-Ok-make.ensures.made header c.drawn.ensures.ends
