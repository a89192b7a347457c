use Rattle.bz_laws.proofs.Rooms.{fits, exceeds_by}
use Rattle.bz_laws.proofs.ideal_sampler.the_room_is_mere_rejection.Goals as goal

pub returns-clause-fits : goal.returns-clause-fits
returns-clause-fits c = λ s x e max us left o h le. fits s x h.made max le

pub returns-clause-over : goal.returns-clause-over
returns-clause-over c = λ s x e max us left o known h le. exceeds_by s x e max us left o known h le
