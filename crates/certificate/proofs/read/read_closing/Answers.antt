-- The last line, behind an open number or alone.
use Rattle.std.proofs.Common.{[], ◌∷◌}
use Rattle.certificate.specs.Lines.{Line}
use Rattle.certificate.proofs.FirstBad.{passes-more}
use Rattle.certificate.proofs.Parts.{stops-here}
use Rattle.certificate.proofs.read.read_closing.Goals as goal

pub returns-in-None-clause-err : goal.returns-in-None-clause-err
returns-in-None-clause-err c = stops-here c.args.text.now (c.in-None.ensures.none c.requires c.in_default.ensures.none)

pub returns-in-Some-undecided_at-clause-ok : goal.returns-in-Some-undecided_at-clause-ok
returns-in-Some-undecided_at-clause-ok c =
    let k = c.in-Some-undecided_at.closing in
    passes-more c.args.text.now c.in-Some.rest.now c.in-Some-undecided_at.after.now (Line.Open c.in-Some.straddle ∷ []) (Line.End k.word k.kept k.thrown k.bits k.turns ∷ []) c.in-Some.ensures.found c.in-Some-undecided_at.ensures.found
