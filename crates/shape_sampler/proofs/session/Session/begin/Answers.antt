-- A session belongs at the start of an attempt.
use Rattle.std.proofs.Common.{◌∷◌, sym, ◌∙◌, ap, subst}
use Rattle.shape_sampler.specs.State.{SessionBelongs}
use Rattle.shape_sampler.specs.contracts.session.Session.{the_view}
use Rattle.shape_sampler.proofs.Sessions.{begun-belongs-at}
use Rattle.shape_sampler.proofs.session.Session.begin.Goals as goal

pub returns-clause-belongs : goal.returns-clause-belongs
returns-clause-belongs c = λ s x b.
    begun-belongs-at s x (the_view c.self.inside) c.push.new.self.items c.clear-2.new.self.items c.clear-3.new.self.items
    (c.in_ok-push.ensures.ok ∙ ap (λ es. c.self.inside.root.0 ∷ es) c.clear.ensures.items) c.clear-2.ensures.items c.clear-3.ensures.items
    (subst (SessionBelongs s x) (sym c.self.view_is) b)
