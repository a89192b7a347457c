-- The specification that is made from a number, as tables.
use Rattle.std.specs.Prelude.{ℕ, ◌+◌, ◌*◌, List, [], ◌∷◌, map, flat_map}
use Rattle.std.specs.List.{range_with_len}
use Rattle.bz_model.specs.Spec.{Spec, Mode, Node, plain_range}
use Rattle.bulk_command.specs.BulkText.{classes_of, numbered_name, next_class}

-- The nodes of a class: a neutral leaf, an atom, the class, the class after it, the product of
-- these three, and the union of the first and the product.
abbrev pub class_nodes : (classes class : ℕ) → List Node
class_nodes classes class =
    Node.Empty []
    ∷ Node.Atom []
    ∷ Node.Class class
    ∷ Node.Class (next_class classes class)
    ∷ Node.Product ((6 * class + 1) ∷ (6 * class + 2) ∷ (6 * class + 3) ∷ [])
    ∷ Node.Union ((6 * class) ∷ (6 * class + 4) ∷ [])
    ∷ []

-- The nodes of so many classes, six for each.
abbrev pub all_nodes : (classes : ℕ) → List Node
all_nodes classes = flat_map (class_nodes classes) (range_with_len 0 classes)

-- The tables of so many classes: the body of a class is its last node, and every range is plain.
abbrev pub tables_of : (classes : ℕ) → Spec
tables_of classes = record {
  mode = Mode.Unlabelled;
  names = map numbered_name (range_with_len 0 classes);
  bodies = map (λ class. 6 * class + 5) (range_with_len 0 classes);
  nodes = all_nodes classes;
  ranges = map plain_range (all_nodes classes);
}

-- The specification of n.
abbrev pub bulk_tables : (n : ℕ) → Spec
bulk_tables n = tables_of (classes_of n)
