-- A text with a bad line is no certificate's.
use Rattle.std.proofs.Common.{refl}
use Rattle.certificate.proofs.laws.written_is_read.Goals as goal

pub returns : goal.returns
returns c = λ cert line is r bad. bad.none cert (record { is = is; in_range = r; text = refl })
