use Rattle.spec_reader.proofs.OneText.{one_specification}
use Rattle.spec_reader.proofs.laws.a_text_stands_for_one_specification.Goals as goal

pub returns : goal.returns
returns c = record { one = one_specification }
