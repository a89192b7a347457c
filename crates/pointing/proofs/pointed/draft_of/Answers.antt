use Rattle.pointing.specs.PointedSpec.{pointed_names}
use Rattle.pointing.proofs.Layouts.{if-ok}
use Rattle.pointing.proofs.Drafted.{layout-start, drafted}
use Rattle.pointing.proofs.pointed.draft_of.Goals as goal

pub returns : goal.returns
returns c = if-ok c.finish.result c.finish.ensures.bodies (λ d with_bodies.
    drafted c.args.system.now c.args.classes.now c.lay_out.new.layout d
    (c.in_ok-lay_out.ensures.laid (pointed_names c.args.classes.now) (layout-start (pointed_names c.args.classes.now) c.in_ok-draft.draft c.new-layout.result c.in_ok-draft.ensures c.new-layout.ensures.draft c.new-layout.ensures.numbers))
    with_bodies)
