-- Without labels an object stands in canonical order as it is.
use Rattle.std.proofs.Common.{◌≡◌, List, [], ◌∷◌, map, drop, refl, ◌∙◌, ap, append-nil}
use Rattle.std.proofs.Math.Seq.{take-nil, drop-nil}
use Rattle.bz_model.specs.Object.{Object, Objects, none, more}
use Rattle.bz_model.specs.Object.Object.{Unit_, Dot, Pick, Tuple, SeqOf, SetOf, CycOf}
use Rattle.bz_model.specs.Measures.{size}
use Rattle.bz_model.specs.ObjectText.{least_label}
use Rattle.object_text.specs.Arranged.{LabelledObject, objects_in, labels_in, least_in, put_part, by_least_label, from_label, from_least_label, arranged, arranged_each}

abbrev bare : Object → LabelledObject
bare o = record { object = o; labels = [] }

abbrev bare_each : Objects → List LabelledObject
bare_each none = []
bare_each (more o os) = bare o ∷ bare_each os

objects-bare : (os : Objects) → objects_in (bare_each os) ≡ os
objects-bare none = refl
objects-bare (more o os) = ap (more o) (objects-bare os)

labels-bare : (os : Objects) → labels_in (bare_each os) ≡ []
labels-bare none = refl
labels-bare (more o os) = labels-bare os

put-bare : (o : Object) (os : Objects) → put_part (bare o) (bare_each os) ≡ bare o ∷ bare_each os
put-bare o none = refl
put-bare o (more p os) = refl

ordered-bare : (os : Objects) → by_least_label (bare_each os) ≡ bare_each os
ordered-bare none = refl
ordered-bare (more o os) = ap (put_part (bare o)) (ordered-bare os) ∙ put-bare o os

leasts-bare : (os : Objects) → least_label (map least_in (bare_each os)) ≡ 0
leasts-bare none = refl
leasts-bare (more o os) = leasts-bare os

rotated-bare : (os : Objects) → from_label 0 [] (bare_each os) ≡ bare_each os
rotated-bare none = refl
rotated-bare (more o os) = append-nil (bare o ∷ bare_each os)

made-bare : (f : Objects → Object) (os : Objects) (ps : List LabelledObject) → ps ≡ bare_each os → record { object = f (objects_in ps); labels = labels_in ps } ≡ bare (f os)
made-bare f os ps e =
    ap (λ qs. record { object = f (objects_in qs); labels = labels_in qs }) e
    ∙ ap (λ qs. record { object = f qs; labels = labels_in (bare_each os) }) (objects-bare os)
    ∙ ap (λ l. record { object = f os; labels = l }) (labels-bare os)

mutual
  pub arranged-bare : (o : Object) → arranged o [] ≡ bare o
  arranged-bare Unit_ = refl
  arranged-bare Dot = refl
  arranged-bare (Pick i o) = ap (λ (x : LabelledObject). record { object = Pick i x.object; labels = x.labels }) (arranged-bare o)
  arranged-bare (Tuple os) = made-bare Tuple os (arranged_each os []) (each-bare os)
  arranged-bare (SeqOf os) = made-bare SeqOf os (arranged_each os []) (each-bare os)
  arranged-bare (SetOf os) = made-bare SetOf os (by_least_label (arranged_each os [])) (ap by_least_label (each-bare os) ∙ ordered-bare os)
  arranged-bare (CycOf os) = made-bare CycOf os (from_least_label (arranged_each os [])) (ap from_least_label (each-bare os) ∙ ap (λ n. from_label n [] (bare_each os)) (leasts-bare os) ∙ rotated-bare os)

  each-bare : (os : Objects) → arranged_each os [] ≡ bare_each os
  each-bare none = refl
  each-bare (more o os) =
      ap (λ l. arranged o l ∷ arranged_each os (drop (size o) [])) (take-nil (size o))
      ∙ ap (λ l. arranged o [] ∷ arranged_each os l) (drop-nil (size o))
      ∙ ap (λ x. x ∷ arranged_each os []) (arranged-bare o)
      ∙ ap (λ xs. bare o ∷ xs) (each-bare os)
