-- Hex digits or not.
use Rattle.std.proofs.Common.{◌≡◌, ◌∙◌, sym, ap}
use Rattle.hex.specs.Hex.{encode_lower}
use Rattle.certificate.proofs.ReadLines.{decodes}
use Rattle.certificate.proofs.lines.digest_of.Goals as goal
use Rattle.certificate.proofs.lines.digest_of.Goals.{in_default-via-in-Ok+else-is_hex_of, in_default-via-in_default}

pub returns-in_default-clause-none : goal.returns-in_default-clause-none
returns-in_default-clause-none c = λ digest is e.
    let t = decodes c.args.line.now c.in_ok-text.text.now digest c.in_ok-text.ensures.found is e in
    let r = c.from_hex.ensures ∙ t.1 in
    elim c.in_default.branch [
      | in_default-via-in-Ok+else-is_hex_of w ↦
          let same : w.in-Ok.bytes ≡ digest = cc (w.in-Ok.is, r) in
          absurd (let u = w.if-is_hex_of.ensures.1 (t.0 ∙ ap encode_lower (sym same)) in cc)
      | in_default-via-in_default w ↦ absurd (w.in_default.not-Ok digest r)
    ]
