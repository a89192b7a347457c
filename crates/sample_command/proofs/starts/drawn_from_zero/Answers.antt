use Rattle.std.proofs.Common.{◌∙◌, ap, refl, arith, false, List, ℕ}
use Rattle.bz_model.specs.Spec.{Spec}
use Rattle.kleene_lower.specs.Lower.{zeros}
use Rattle.rounded_map.specs.RoundedMap.{setting}
use Rattle.size_window.specs.Drawing.{limits_of}
use Rattle.sample_command.specs.Drawn.{drawn_header}
use Rattle.sample_command.specs.SampleCommand.{DrawnFrom}
use Rattle.sample_command.specs.Starts.{format_of}
use Rattle.sample_command.specs.UnderWay.{met}
use Rattle.call_stages.specs.Ends.{output}
use Rattle.sample_command.proofs.Starting.{lacks_after_start, ends_from_start, drawn_by_memo}
use Rattle.sample_command.proofs.starts.drawn_from_zero.Goals as goal

-- there is no memory for the header
pub returns-in_default-clause-ends : goal.returns-in_default-clause-ends
returns-in_default-clause-ends g c =
    let t = setting c.args.founded.now c.args.x.num c.args.x.den g.row.F in
    lacks_after_start false t c.args.base (DrawnFrom false t (limits_of c.args.limits) (met c.args.tape.source (g.S.Shelf.content c.args.shelf.now) (g.S.Shelf.faults c.args.shelf.now) (g.S.Shelf.faults c.args.shelf.now)) c.args.base) _ _ _ _ _ (omega arith)

-- nor for the levels
pub returns-in_default-make-clause-ends : goal.returns-in_default-make-clause-ends
returns-in_default-make-clause-ends g c =
    let t = setting c.args.founded.now c.args.x.num c.args.x.den g.row.F in
    lacks_after_start false t c.args.base (DrawnFrom false t (limits_of c.args.limits) (met c.args.tape.source (g.S.Shelf.content c.args.shelf.now) (g.S.Shelf.faults c.args.shelf.now) (g.S.Shelf.faults c.args.shelf.now)) c.args.base) _ _ _ _ _ (omega arith)

-- zero is a start
pub returns-clause-ends : goal.returns-clause-ends
returns-clause-ends g c =
    let t = setting c.args.founded.now c.args.x.num c.args.x.den g.row.F in
    let tape = met c.args.tape.source (g.S.Shelf.content c.args.shelf.now) (g.S.Shelf.faults c.args.shelf.now) (g.S.Shelf.faults c.drawn.new.shelf) in
    let header =
    c.in-Ok.ensures
    ∙ ap (λ (s : Spec). drawn_header (format_of false) (setting s c.args.x.num c.args.x.den g.row.F) c.values.result.now (limits_of c.args.limits)) c.system-system.ensures.system
    ∙ ap (λ (b : List ℕ). drawn_header (format_of false) t b (limits_of c.args.limits)) c.values.ensures.entries in
    ends_from_start false t c.args.base (DrawnFrom false t (limits_of c.args.limits) tape c.args.base) (zeros t) _ _ _ _ _ _ _ _ refl (omega arith)
    (drawn_by_memo false t (limits_of c.args.limits) tape c.args.base (zeros t) c.in-Ok.header.items c.in-Ok-make.memo (output (g.K.Sink.written c.args.out.now) (g.K.Sink.written c.drawn.new.out) (g.K.Sink.faults c.args.out.now) (g.K.Sink.faults c.drawn.new.out) c.args.steps.now c.drawn.new.steps) c.drawn.result c.in-Ok-make.ensures.made header c.drawn.ensures.ends)
