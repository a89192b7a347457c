use Rattle.spec_reader.proofs.CanonicalReads.{canonical_reads}
use Rattle.spec_reader.proofs.laws.a_canonical_text_stands_for_its_specification.Goals as goal

pub returns : goal.returns
returns c = record { stands = canonical_reads }
