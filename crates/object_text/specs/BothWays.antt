-- Texts that are read and printed.
use Rattle.std.specs.Prelude.{◌≡◌, ℕ, List, Option}
use Rattle.bz_model.specs.Spec.{Spec}
use Rattle.bz_model.specs.ObjectText.{object_text}
use Rattle.object_store.specs.declared.token.Token.{Token}
use Rattle.object_store.specs.Tokens.{IsOf}
use Rattle.object_text.specs.Labels.{HasOneForEach, listed}

-- The tokens are those of an object of the class, there is a label for each atom in labelled mode
-- and none in unlabelled mode, and the text is the object's.
pub record IsReprinted (s : Spec) (c : ℕ) (text : List ℕ) (tokens : List Token)
    (labels : Option (List ℕ)) : Type 0 where
  pub is_of : IsOf s c tokens
  pub has_labels : HasOneForEach s.mode tokens (listed labels)
  pub printed : (of : IsOf s c tokens)
      → text ≡ object_text s of.body of.object of.belongs (listed labels)
