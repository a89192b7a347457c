-- Line after line.
use Rattle.std.proofs.Common.{◌++◌, ◌∷◌, [], length}
use Rattle.certificate.specs.Certificates.{spec_lines, base_lines}
use Rattle.certificate.specs.Lines.{Line}
use Rattle.certificate.specs.Stages.{Stage}
use Rattle.certificate.proofs.FirstBad.{passes-more}
use Rattle.certificate.proofs.Parts.{stops-here, stops-behind, stops-more, handed-on}
use Rattle.certificate.proofs.read.read_header.Goals as goal

pub returns-in_default-clause-err : goal.returns-in_default-clause-err
returns-in_default-clause-err c = stops-here c.args.text.now c.in_default.ensures.none

pub returns-in_err-digest-clause-err : goal.returns-in_err-digest-clause-err
returns-in_err-digest-clause-err c =
    let text = c.args.text.now in
    let r1 = c.in-Some.rest.now in
    let r2 = c.in-Some-mode_at.rest.now in
    let v = Line.Version c.in-Some.version ∷ [] in
    let m = Line.InMode c.in-Some-mode_at.mode ∷ [] in
    let two = passes-more text r1 r2 v m c.in-Some.ensures.found c.in-Some-mode_at.ensures.found in
    handed-on c.from_residual.result c.in_err-digest.field-0.0 Stage.AtVersion text c.from_residual.ensures.1 (stops-more text r2 (v ++ m) c.in_err-digest.field-0.0 two c.in_err-digest.ensures.err)

pub returns-in_default-x_at-clause-err : goal.returns-in_default-x_at-clause-err
returns-in_default-x_at-clause-err c =
    let text = c.args.text.now in
    let r1 = c.in-Some.rest.now in
    let r2 = c.in-Some-mode_at.rest.now in
    let v = Line.Version c.in-Some.version ∷ [] in
    let m = Line.InMode c.in-Some-mode_at.mode ∷ [] in
    let two = passes-more text r1 r2 v m c.in-Some.ensures.found c.in-Some-mode_at.ensures.found in
    let r3 = c.in_ok-digest.rest.now in
    let d = spec_lines c.in_ok-digest.digest in
    let three = passes-more text r2 r3 (v ++ m) d two c.in_ok-digest.ensures.ok in
    stops-behind text r3 (length r3) ((v ++ m) ++ d) three (stops-here r3 c.in_default-x_at.ensures.none)

pub returns-in_default-fraction_at-clause-err : goal.returns-in_default-fraction_at-clause-err
returns-in_default-fraction_at-clause-err c =
    let text = c.args.text.now in
    let r1 = c.in-Some.rest.now in
    let r2 = c.in-Some-mode_at.rest.now in
    let v = Line.Version c.in-Some.version ∷ [] in
    let m = Line.InMode c.in-Some-mode_at.mode ∷ [] in
    let two = passes-more text r1 r2 v m c.in-Some.ensures.found c.in-Some-mode_at.ensures.found in
    let r3 = c.in_ok-digest.rest.now in
    let d = spec_lines c.in_ok-digest.digest in
    let three = passes-more text r2 r3 (v ++ m) d two c.in_ok-digest.ensures.ok in
    let r4 = c.in-Some-x_at.rest.now in
    let x = Line.X c.in-Some-x_at.x.num c.in-Some-x_at.x.den ∷ [] in
    stops-behind text r3 (length r4) ((v ++ m) ++ d) three (stops-behind r3 r4 (length r4) x c.in-Some-x_at.ensures.found (stops-here r4 c.in_default-fraction_at.ensures.none))

pub returns-in_default-window_at-clause-err : goal.returns-in_default-window_at-clause-err
returns-in_default-window_at-clause-err c =
    let text = c.args.text.now in
    let r1 = c.in-Some.rest.now in
    let r2 = c.in-Some-mode_at.rest.now in
    let v = Line.Version c.in-Some.version ∷ [] in
    let m = Line.InMode c.in-Some-mode_at.mode ∷ [] in
    let two = passes-more text r1 r2 v m c.in-Some.ensures.found c.in-Some-mode_at.ensures.found in
    let r3 = c.in_ok-digest.rest.now in
    let d = spec_lines c.in_ok-digest.digest in
    let three = passes-more text r2 r3 (v ++ m) d two c.in_ok-digest.ensures.ok in
    let r4 = c.in-Some-x_at.rest.now in
    let x = Line.X c.in-Some-x_at.x.num c.in-Some-x_at.x.den ∷ [] in
    let r5 = c.in-Some-fraction_at.rest.now in
    let f = Line.Fraction c.in-Some-fraction_at.fraction ∷ [] in
    stops-behind text r3 (length r5) ((v ++ m) ++ d) three (stops-behind r3 r4 (length r5) x c.in-Some-x_at.ensures.found (stops-behind r4 r5 (length r5) f c.in-Some-fraction_at.ensures.found (stops-here r5 c.in_default-window_at.ensures.none)))

pub returns-clause-ok : goal.returns-clause-ok
returns-clause-ok c =
    let text = c.args.text.now in
    let r1 = c.in-Some.rest.now in
    let r2 = c.in-Some-mode_at.rest.now in
    let v = Line.Version c.in-Some.version ∷ [] in
    let m = Line.InMode c.in-Some-mode_at.mode ∷ [] in
    let two = passes-more text r1 r2 v m c.in-Some.ensures.found c.in-Some-mode_at.ensures.found in
    let r3 = c.in_ok-digest.rest.now in
    let d = spec_lines c.in_ok-digest.digest in
    let three = passes-more text r2 r3 (v ++ m) d two c.in_ok-digest.ensures.ok in
    let r4 = c.in-Some-x_at.rest.now in
    let x = Line.X c.in-Some-x_at.x.num c.in-Some-x_at.x.den ∷ [] in
    let r5 = c.in-Some-fraction_at.rest.now in
    let f = Line.Fraction c.in-Some-fraction_at.fraction ∷ [] in
    let r6 = c.in-Some-window_at.rest.now in
    let w = Line.Window c.in-Some-window_at.min c.in-Some-window_at.max ∷ [] in
    let r7 = c.in_ok-names.rest.now in
    let b = base_lines c.in_ok-names.names c.in_ok-names.base in
    passes-more text r3 r7 ((v ++ m) ++ d) (x ++ (f ++ (w ++ b))) three
    (passes-more r3 r4 r7 x (f ++ (w ++ b)) c.in-Some-x_at.ensures.found
    (passes-more r4 r5 r7 f (w ++ b) c.in-Some-fraction_at.ensures.found
    (passes-more r5 r6 r7 w b c.in-Some-window_at.ensures.found c.in_ok-names.ensures.passes)))
