-- An atom's word, and its label in labelled mode.
use Rattle.std.proofs.Common.{refl, sym, ◌∙◌, ap, subst, ◌++◌}
use Rattle.std.proofs.lemmas.Result.{err_from_is_err_and}
use Rattle.object_store.specs.declared.token.Token.TheVariants as token
use Rattle.object_text.specs.Taken.{with_token, with_label}
use Rattle.object_text.specs.Scanning.{DiffersFrom}
use Rattle.object_text.specs.Pieces.{IsLabelIf, IsNoAtom}
use Rattle.object_text.proofs.Stops.{stops-weaker}
use Rattle.object_text.proofs.reader.Reader.atom.Goals as goal

pub returns-in_err-behind-clause-stop : goal.returns-in_err-behind-clause-stop
returns-in_err-behind-clause-stop c =
    let p = err_from_is_err_and c.from_residual.result c.from_residual.ensures.1 in
    rw (p.1, p.2) (stops-weaker _ (IsNoAtom c.args.mode c.args.word.now c.args.text.now) (λ left h. IsNoAtom.no_word (subst (λ w. DiffersFrom w c.args.text.now left) c.leaf_word.ensures h)) c.in_err-behind.field-0.0 c.in_err-behind.ensures.stop)

pub returns-in_err-label-in-Labelled-clause-stop : goal.returns-in_err-label-in-Labelled-clause-stop
returns-in_err-label-in-Labelled-clause-stop c =
    let p = err_from_is_err_and c.from_residual-in_err-label-in-Labelled.result c.from_residual-in_err-label-in-Labelled.ensures.1 in
    rw (p.1, p.2) (stops-weaker _ (IsNoAtom c.args.mode c.args.word.now c.args.text.now)
    (λ left h. subst (λ m. IsNoAtom m c.args.word.now c.args.text.now left) (sym c.in-Labelled.is) (IsNoAtom.no_label c.in_ok-behind.behind.now (c.in_ok-behind.ensures.ok ∙ ap (λ w. w ++ c.in_ok-behind.behind.now) c.leaf_word.ensures) h))
    c.in_err-label-in-Labelled.field-0.0 c.in_err-label-in-Labelled.ensures.stop)

pub returns-in-Unlabelled-clause-ok : goal.returns-in-Unlabelled-clause-ok
returns-in-Unlabelled-clause-ok c = record {
  behind = c.in_ok-behind.behind.now;
  split = c.in_ok-behind.ensures.ok ∙ ap (λ w. w ++ c.in_ok-behind.behind.now) c.leaf_word.ensures;
  label = subst (λ m. IsLabelIf m c.in_ok-behind.behind.now (with_token c.args.self.now.taken token.Dot) c.push_token.new.self c.in_ok-behind.behind.now) (sym c.in-Unlabelled.is) (IsLabelIf.unlabelled refl c.in_ok-push_token.ensures);
  over = refl;
  stack = refl;
}

pub returns-in_ok-push_label-in-Labelled-clause-ok : goal.returns-in_ok-push_label-in-Labelled-clause-ok
returns-in_ok-push_label-in-Labelled-clause-ok c = record {
  behind = c.in_ok-behind.behind.now;
  split = c.in_ok-behind.ensures.ok ∙ ap (λ w. w ++ c.in_ok-behind.behind.now) c.leaf_word.ensures;
  label = subst (λ m. IsLabelIf m c.in_ok-behind.behind.now (with_token c.args.self.now.taken token.Dot) c.push_label.new.self c.in_ok-label-in-Labelled.rest.now) (sym c.in-Labelled.is) (IsLabelIf.labelled c.in_ok-label-in-Labelled.label c.in_ok-label-in-Labelled.ensures.ok (c.in_ok-push_label-in-Labelled.ensures ∙ ap (λ t. with_label t c.in_ok-label-in-Labelled.label) c.in_ok-push_token.ensures));
  over = refl;
  stack = refl;
}
