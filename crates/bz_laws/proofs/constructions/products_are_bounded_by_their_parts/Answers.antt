use Rattle.bz_laws.proofs.Products.{above-product, below-product}
use Rattle.bz_laws.proofs.constructions.products_are_bounded_by_their_parts.Goals as goal

pub returns-clause-above : goal.returns-clause-above
returns-clause-above c = λ s x e parts value node h. above-product s x e parts node value h

pub returns-clause-below : goal.returns-clause-below
returns-clause-below c = λ s x e parts value node h. below-product s x e parts node value h
