-- The text is that of the specification within, with the labels in a list.
use Rattle.std.proofs.Common.{◌≡◌, ◌∙◌, ap, subst}
use Rattle.std.proofs.lemmas.Result.{IfOk-weaker}
use Rattle.bz_model.specs.ObjectText.{object_text}
use Rattle.object_store.specs.Tokens.{IsOf}
use Rattle.object_text.proofs.print.print.Goals as goal

pub returns : goal.returns
returns c = record {
  text = IfOk-weaker c.print_labelled.result _ _
      (λ text h of. subst (λ s. (of : IsOf s c.args.c.0 c.args.shape.now.items) → text.items ≡ object_text s of.body of.object of.belongs c.listed.result.now) c.system.ensures.system h of
      ∙ ap (object_text c.args.founded.now of.body of.object of.belongs) c.listed.ensures)
      c.print_labelled.ensures.text;
}
