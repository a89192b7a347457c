use Rattle.bz_laws.proofs.WithoutRoom.{alone-freely, freely-alone, alone-one}
use Rattle.bz_laws.proofs.ideal_sampler.making_without_a_room_is_making_with_some_room.Goals as goal

pub returns-clause-same : goal.returns-clause-same
returns-clause-same c = λ s x e us left o. (λ h. alone-freely s x h, λ h. freely-alone s x h)

pub returns-clause-one : goal.returns-clause-one
returns-clause-one c = λ s x e us left rest o p h k. alone-one s x h k
