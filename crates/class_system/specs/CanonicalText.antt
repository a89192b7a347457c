-- The canonical text of a specification.
use Rattle.std.specs.Prelude.{ℕ, Bool, true, false, nat_eq, List, [], ◌∷◌, ◌++◌, map, flat_map, zip}
use Rattle.std.specs.Prelude.{slice_get, Option, Some, None, unwrap_or, decimal, codes}
use Rattle.std.specs.Prelude.{if◌then◌else◌}
use Rattle.bz_model.specs.Spec.{Spec, Mode, Node, Range}
use Rattle.class_system.specs.NodeResults.{node_results, ranged_nodes}
use Rattle.class_system.specs.declared.canonical.Form.{Form}
use Rattle.class_system.specs.declared.canonical.Form.TheVariants as form

-- A node's text, and whether it is a union, a product or anything else.
pub record Shown : Type 0 where
  pub form : Form
  pub text : List ℕ

-- A node that is neither a union nor a product.
abbrev pub single : List ℕ → Shown
single text = record { form = form.Single; text = text }

-- A text in parentheses.
abbrev pub bracketed : List ℕ → List ℕ
bracketed text = codes "(" ++ text ++ codes ")"

-- Whether a part of a union or a product stands in parentheses: a union always, and a product in a
-- product.
abbrev pub is_bracketed : (within part : Form) → Bool
is_bracketed within form.Single = false
is_bracketed within form.Summed = true
is_bracketed form.Single form.Multiplied = false
is_bracketed form.Summed form.Multiplied = false
is_bracketed form.Multiplied form.Multiplied = true

-- The text of a part of a union or a product.
abbrev pub part_text : (within : Form) → Shown → List ℕ
part_text within part = if is_bracketed within part.form then bracketed part.text else part.text

-- Texts with a separator between each two of them.
abbrev pub separated : (by : List ℕ) → List (List ℕ) → List ℕ
separated by [] = []
separated by (t ∷ []) = t
separated by (t ∷ u ∷ ts) = t ++ by ++ separated by (u ∷ ts)

-- What is shown of the node at a place.
abbrev pub shown_at : List Shown → ℕ → Shown
shown_at shown i = unwrap_or (slice_get shown i) (single [])

-- A leaf: its letter, and its word where it has one.
abbrev pub written_leaf : (letter word : List ℕ) → List ℕ
written_leaf letter [] = letter
written_leaf letter (b ∷ bs) = letter ++ codes ":" ++ (b ∷ bs)

-- The bound of a counted node, whose plain low is given: nothing for a plain range, else `=k` where
-- low and high are equal, else `>=low` where there is no high, else `<=high`.
abbrev pub bound_text : (plain low : ℕ) → (high : Option ℕ) → List ℕ
bound_text plain low None = if nat_eq low plain then [] else codes ">=" ++ decimal low
bound_text plain low (Some high) = if nat_eq low high then codes "=" ++ decimal high else codes "<="
    ++ decimal high

-- A counted node: its operator, its bound, and its part in parentheses.
abbrev pub counted_text : (operator : List ℕ) → (plain : ℕ) → Range → (part : Shown) → List ℕ
counted_text operator plain range part = operator ++ bound_text plain range.low range.high
    ++ bracketed part.text

-- A union or a product: the texts of its parts with a separator between each two of them.
abbrev pub joined_text : (kind : Form) → (separator : List ℕ) → (before : List Shown)
    → (parts : List ℕ) → Shown
joined_text kind separator before parts =
    record {
      form = kind;
      text =
          separated separator (map (λ part. part_text kind (shown_at before part)) parts);
    }

-- What is shown of a node, from what is shown of the nodes before it.
abbrev pub node_shown : (names : List (List ℕ)) → (before : List Shown) → Node → Range → Shown
node_shown names before (Node.Empty word) range = single (written_leaf (codes "E") word)
node_shown names before (Node.Atom word) range = single (written_leaf (codes "Z") word)
node_shown names before (Node.Class c) range = single (unwrap_or (slice_get names c) [])
node_shown names before (Node.Union parts) range = joined_text form.Summed
    (codes " + ") before parts
node_shown names before (Node.Product parts) range = joined_text form.Multiplied
    (codes "*") before parts
node_shown names before (Node.Seq part) range =
    single (counted_text (codes "Seq") 0 range (shown_at before part))
node_shown names before (Node.Set part) range =
    single (counted_text (codes "Set") 0 range (shown_at before part))
node_shown names before (Node.Cyc part) range =
    single (counted_text (codes "Cyc") 1 range (shown_at before part))

-- What is shown of all nodes.
abbrev pub all_shown : Spec → List Shown
all_shown s = node_results (node_shown s.names) [] (ranged_nodes s)

-- A mode's word.
abbrev pub mode_word : Mode → List ℕ
mode_word Mode.Unlabelled = codes "unlabelled"
mode_word Mode.Labelled = codes "labelled"

-- A class's line: its name, `=`, the text of its body, and a line feed.
abbrev pub canonical_class_line : (name : List ℕ) → (body : Shown) → List ℕ
canonical_class_line name body = name ++ codes " = " ++ body.text ++ 10 ∷ []

-- The line of a class, from its name and the number of its body.
abbrev pub class_line : (shown : List Shown) → List ℕ × ℕ → List ℕ
class_line shown p = canonical_class_line p.0 (shown_at shown p.1)

-- The canonical text: the mode's line, and a line for each class.
abbrev pub canonical_text : Spec → List ℕ
canonical_text s = mode_word s.mode ++ 10 ∷ []
    ++ flat_map (class_line (all_shown s)) (zip s.names s.bodies)
