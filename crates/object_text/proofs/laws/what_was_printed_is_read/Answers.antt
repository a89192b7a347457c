use Rattle.std.proofs.Common.{[], refl, sym, ◌∙◌, ap, subst, None}
use Rattle.bz_model.specs.ObjectText.{HasLabels, AreLabelsOf}
use Rattle.object_store.specs.Tokens.{tokens_of}
use Rattle.object_text.specs.Arranged.{LabelledObject, arranged}
use Rattle.object_text.specs.Reading.{told, IsRead}
use Rattle.object_text.proofs.PrintedRead.{printed-read}
use Rattle.object_text.proofs.Unarranged.{arranged-bare}
use Rattle.object_text.proofs.laws.what_was_printed_is_read.Goals as goal

pub returns-clause-read : goal.returns-clause-read
returns-clause-read c = λ s c tokens of labels x k text e. printed-read s c tokens of labels x k text e

pub returns-clause-unlabelled : goal.returns-clause-unlabelled
returns-clause-unlabelled c = λ s c tokens of m text e.
    let r = printed-read s c tokens of [] (subst (λ mode. HasLabels mode of.object []) (sym m) refl) (subst (λ mode. AreLabelsOf mode of.object []) (sym m) refl) text e in
    subst (λ ts. IsRead s c text ts None) (ap tokens_of (ap (λ (i : LabelledObject). i.object) (arranged-bare of.object)) ∙ of.spelled)
    (subst (IsRead s c text (tokens_of (arranged of.object []).object)) (ap (λ mode. told mode (arranged of.object []).labels) m) r)
