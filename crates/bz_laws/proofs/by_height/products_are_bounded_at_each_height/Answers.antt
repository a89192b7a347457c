use Rattle.bz_laws.proofs.Products.{above-product-at, below-product-at}
use Rattle.bz_model.specs.Object.{ClassHas}
use Rattle.bz_laws.proofs.by_height.products_are_bounded_at_each_height.Goals as goal

pub returns-clause-above : goal.returns-clause-above
returns-clause-above c = λ s x h e parts value at b. above-product-at s (ClassHas s h) x value e parts at b

pub returns-clause-below : goal.returns-clause-below
returns-clause-below c = λ s x h e parts value at b. below-product-at s (ClassHas s h) x value e parts at b
