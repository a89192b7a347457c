use Rattle.std.proofs.Common.{sym, subst}
use Rattle.certificate.specs.Reading.{IsFirstBad}
use Rattle.command_words.specs.Fractions.{fraction_bits}
use Rattle.certificate_commands.proofs.FastSamples.{fast-bad}
use Rattle.certificate_commands.proofs.samples.what_a_fast_sample_wrote_is_refused.Goals as goal

pub returns : goal.returns
returns c =
    let refused = c.what_is_no_certificate_is_refused.ensures in
    record {
      bad = λ f file x tape limits bits status text ticks done h. fast-bad f file x tape limits (fraction_bits bits) status text done ticks h;
      verify = λ f g file again wrote s x tape limits bits status other text others ticks more done h has holds memory p.
          let bad = fast-bad f file x tape limits (fraction_bits bits) status text done ticks h in
          refused.verify g again wrote s holds.calm 1 other others more has holds.few (subst (λ t. IsFirstBad t 1) (sym holds.same) bad) memory p;
    }
