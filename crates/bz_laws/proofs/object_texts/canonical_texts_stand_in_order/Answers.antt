use Rattle.bz_laws.proofs.Canonical.{canonical-ordered, ordered-canonical}
use Rattle.bz_laws.proofs.object_texts.canonical_texts_stand_in_order.Goals as goal

pub returns-clause-in_order : goal.returns-clause-in_order
returns-clause-in_order c = λ s e text o labels b plain a eq. canonical-ordered s plain e text o labels b a eq

pub returns-clause-canonical : goal.returns-clause-canonical
returns-clause-canonical c = λ s e text o labels b a k. ordered-canonical s e text o labels b a k
