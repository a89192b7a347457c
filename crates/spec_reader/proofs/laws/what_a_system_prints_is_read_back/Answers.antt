use Rattle.class_system.specs.CanonicalText.{canonical_text}
use Rattle.spec_reader.proofs.CanonicalReads.{canonical_reads}
use Rattle.spec_reader.proofs.Lengths.{canonical_few}
use Rattle.spec_reader.proofs.OneText.{one_specification, accepted}
use Rattle.spec_reader.proofs.laws.what_a_system_prints_is_read_back.Goals as goal

pub returns : goal.returns
returns c =
    let s = c.args.system.now in
    let known = c.known.ensures in
    let stands = canonical_reads s known.sound known.distinct in
    let few = canonical_few s known.sound known.limits in
    record {
      stands = stands;
      one = λ t other. one_specification (canonical_text s) t s other stands;
      few = few;
      accepted = λ f refused. accepted (canonical_text s) s f few stands known.limits refused;
    }
