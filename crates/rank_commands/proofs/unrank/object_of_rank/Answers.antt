use Rattle.std.proofs.Common.{◌≡◌, subst}
use Rattle.std.specs.Prelude.{Some}
use Rattle.bz_model.specs.Spec.{Spec, body_of}
use Rattle.rank_commands.proofs.Pages.{object_printed, number_refused}
use Rattle.rank_commands.proofs.unrank.object_of_rank.Goals as goal

-- no object has the rank
pub returns-then-number-count-clause-err : goal.returns-then-number-count-clause-err
returns-then-number-count-clause-err c = number_refused c.args.founded.now c.args.n c.args.number c.body.result.0 c.count.result _ _ (subst (λ (k : Spec). body_of k 0 ≡ Some c.body.result.0) c.system-system.ensures.system c.body.ensures.body) (c.count.ensures.count c.args.founded.now c.args.n c.requires.tables) c.if-number-count.true c.in_ok-number_refusal.ensures

-- one has
pub returns-clause-ok : goal.returns-clause-ok
returns-clause-ok c = object_printed c.args.founded.now c.args.n c.args.number c.in_ok-shape.shape.items _ c.in_ok-shape.ensures.size c.in_ok-shape.ensures.rank c.in_ok-printed_object.ensures.text
