use Rattle.std.proofs.Common.{◌∙◌, sym, ap}
use Rattle.object_store.specs.Tokens.{size_of}
use Rattle.object_store.proofs.Sizes.{size_of-tokens}
use Rattle.object_store.proofs.laws.dots_are_the_size.Goals as goal

pub returns-clause-object : goal.returns-clause-object
returns-clause-object c = λ o. size_of-tokens o

pub returns-clause-of_class : goal.returns-clause-of_class
returns-clause-of_class c = λ s k tokens of. ap size_of (sym of.spelled) ∙ size_of-tokens of.object
