-- An object in canonical order: the parts of each set in the order of their least labels, each
-- cycle from the part with the least label on.
use Rattle.std.specs.Prelude.{ℕ, nat_le, nat_eq, if◌then◌else◌, List, [], ◌∷◌, ◌++◌, map, take}
use Rattle.std.specs.Prelude.{drop}
use Rattle.bz_model.specs.Object.{Object, Objects, none, more}
use Rattle.bz_model.specs.Object.Object.{Unit_, Dot, Pick, Tuple, SeqOf, SetOf, CycOf}
use Rattle.bz_model.specs.Measures.{size}
use Rattle.bz_model.specs.ObjectText.{least_label}

-- An object with its labels in token order.
pub record LabelledObject : Type 0 where
  pub object : Object
  pub labels : List ℕ

-- The objects of a list.
abbrev pub objects_in : List LabelledObject → Objects
objects_in [] = none
objects_in (p ∷ parts) = more p.object (objects_in parts)

-- The labels of all objects of a list, one object after the other.
abbrev pub labels_in : List LabelledObject → List ℕ
labels_in [] = []
labels_in (p ∷ parts) = p.labels ++ labels_in parts

-- The least label of an object, or 0 where it has none.
abbrev pub least_in : LabelledObject → ℕ
least_in p = least_label p.labels

-- A part put before the first one whose least label isn't less.
abbrev pub put_part : LabelledObject → List LabelledObject → List LabelledObject
put_part p [] = p ∷ []
put_part p (q ∷ parts) = if nat_le (least_in p) (least_in q) then p ∷ q ∷ parts else q
    ∷ put_part p parts

-- Parts in the order of their least labels: those without a label first, and those of one least
-- label as they stood.
abbrev pub by_least_label : List LabelledObject → List LabelledObject
by_least_label [] = []
by_least_label (p ∷ parts) = put_part p (by_least_label parts)

-- Parts rotated so that the first one with this least label comes first; the parts seen before it
-- come last.
abbrev pub from_label : ℕ → List LabelledObject → List LabelledObject → List LabelledObject
from_label label seen [] = seen
from_label label seen (p ∷ parts) = if nat_eq (least_in p) label then (p ∷ parts)
    ++ seen else from_label label (seen ++ p ∷ []) parts

-- Parts rotated so that the one with the least label comes first.
abbrev pub from_least_label : List LabelledObject → List LabelledObject
from_least_label parts = from_label (least_label (map least_in parts)) [] parts

-- The object with its labels where all its sets and cycles are put in canonical order, each label
-- staying with its atom.
abbrev mutual
  pub arranged : Object → List ℕ → LabelledObject
  arranged Unit_ labels = record { object = Unit_; labels = labels }
  arranged Dot labels = record { object = Dot; labels = labels }
  arranged (Pick i o) labels = record {
    object = Pick i (arranged o labels).object;
    labels =
        (arranged o labels).labels;
  }
  arranged (Tuple os) labels =
      record {
        object = Tuple (objects_in (arranged_each os labels));
        labels =
            labels_in (arranged_each os labels);
      }
  arranged (SeqOf os) labels =
      record {
        object = SeqOf (objects_in (arranged_each os labels));
        labels =
            labels_in (arranged_each os labels);
      }
  arranged (SetOf os) labels =
      record {
        object = SetOf (objects_in (by_least_label (arranged_each os labels)));
        labels =
            labels_in (by_least_label (arranged_each os labels));
      }
  arranged (CycOf os) labels =
      record {
        object = CycOf (objects_in (from_least_label (arranged_each os labels)));
        labels =
            labels_in (from_least_label (arranged_each os labels));
      }

  -- Each object of a list in canonical order, with as many labels as it has atoms.
  pub arranged_each : Objects → List ℕ → List LabelledObject
  arranged_each none labels = []
  arranged_each (more o os) labels = arranged o (take (size o) labels)
      ∷ arranged_each os (drop (size o) labels)
