use Rattle.labelling.proofs.SpelledLabels.{labellings_spell}
use Rattle.labelling.proofs.laws.a_labelling_spells_its_bits.Goals as goal

pub returns : goal.returns
returns c = labellings_spell
