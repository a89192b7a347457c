use Rattle.bz_laws.proofs.Makings.{fine}
use Rattle.bz_laws.proofs.ideal_sampler.what_is_made_belongs_and_fits.Goals as goal

pub returns : goal.returns
returns c = λ s x e room room_left us left o h. fine s x h
