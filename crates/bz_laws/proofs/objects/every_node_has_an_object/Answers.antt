use Rattle.bz_laws.proofs.Inhabited.{node-object, above-pos}
use Rattle.bz_model.specs.Object.{Belongs}
use Rattle.bz_laws.proofs.objects.every_node_has_an_object.Goals as goal

pub returns-clause-object : goal.returns-clause-object
returns-clause-object c = λ s e sound has lt. let h = node-object s sound (λ k body at. let o = has k body at in record { object = o.0; belongs = o.1 }) e lt in (h.object, h.belongs)

pub returns-clause-above : goal.returns-clause-above
returns-clause-above c = λ s x f e sound has lt p up. let h = node-object s sound (λ k body at. let o = has k body at in record { object = o.0; belongs = o.1 }) e lt in above-pos x f (Belongs s e) h.object p h.belongs up
