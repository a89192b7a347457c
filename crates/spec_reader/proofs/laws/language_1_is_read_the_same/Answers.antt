use Rattle.spec_reader.proofs.One.{text_here, ranges_plain}
use Rattle.spec_reader.proofs.laws.language_1_is_read_the_same.Goals as goal

pub returns : goal.returns
returns c = record { text = λ ts m ds h. text_here h; ranges = λ ts m ds h. ranges_plain h }
