-- What was printed is read, in canonical order.
use Rattle.std.proofs.Common.{◌≡◌, ℕ, List, refl, sym, ap, subst}
use Rattle.bz_model.specs.Spec.{Spec}
use Rattle.bz_model.specs.ObjectText.{HasLabels, AreLabelsOf, IsObjectText, object_text}
use Rattle.bz_laws.proofs.Items.{Item}
use Rattle.bz_laws.proofs.Canonical.{ordered-canonical}
use Rattle.object_store.specs.declared.token.Token.{Token}
use Rattle.object_store.specs.Tokens.{tokens_of, IsOf}
use Rattle.object_text.specs.Reading.{told, IsRead}
use Rattle.object_text.specs.Arranged.{arranged}
use Rattle.object_text.proofs.Arranging.{form, form-same, is-arranged}
use Rattle.object_text.proofs.Shuffles.{still-labels}

-- The text printed for an object of a class with labels 1 to n in some order is read as that object
-- arranged in canonical order.
pub printed-read : (s : Spec) (c : ℕ) (tokens : List Token) (of : IsOf s c tokens) (labels : List ℕ) → HasLabels s.mode of.object labels → AreLabelsOf s.mode of.object labels → (text : List ℕ) → text ≡ object_text s of.body of.object of.belongs labels → IsRead s c text (tokens_of (arranged of.object labels).object) (told s.mode (arranged of.object labels).labels)
printed-read s c tokens of labels x k text e =
    let a = is-arranged s of.body of.object labels of.belongs x in
    let same : (arranged of.object labels).labels ≡ (form of.object labels).labels = ap (λ (i : Item). i.labels) (form-same of.object labels) in
    let read : IsObjectText s of.body text (arranged of.object labels).object (arranged of.object labels).labels = subst (λ t. IsObjectText s of.body t (arranged of.object labels).object (arranged of.object labels).labels) (sym e) a.is_text in
    record {
      body = of.body;
      is_body = of.is_body;
      object = (arranged of.object labels).object;
      labels = (arranged of.object labels).labels;
      canonical = record {
        read = read;
        labels_used = subst (AreLabelsOf s.mode (arranged of.object labels).object) (sym same)
            (still-labels s.mode of.object labels (arranged of.object labels).object x a.sized (subst (HasLabels s.mode (arranged of.object labels).object) same read.labelled) k);
        printed = ordered-canonical s of.body text (arranged of.object labels).object (arranged of.object labels).labels read.belongs read a.ordered;
      };
      spelled = refl;
      labels_are = refl;
    }
