-- The rounded map: the values of nodes from a vector of class values, its sweeps, and what
-- post-fixed means. A vector has one number for each class. An upper value is None where there is
-- no value.
use Rattle.std.specs.Prelude.{◌≡◌, ◌≢◌, ◌<◌, ℕ, zero, suc, ◌^◌, min, max, Bool, false, nat_le, List}
use Rattle.std.specs.Prelude.{[], ◌∷◌, map, length, slice_index, slice_index_or, Option, Some, None}
use Rattle.std.specs.Prelude.{option_map, option_and_then}
use Rattle.std.specs.List.{list_all}
use Rattle.bz_model.specs.Spec.{Spec, Node, Range}
use Rattle.class_system.specs.NodeResults.{node_results, ranged_nodes}
use Rattle.fixed_enclosure.specs.Rounded.{atom_down, atom_up}
use Rattle.fixed_enclosure.specs.UpperValues.{IsNoGreater, AreNoGreater}
use Rattle.series_bounds.specs.Series.{Kind, counted_down, counted_up}
use Rattle.series_bounds.specs.Lists.{total_down, product_down, total_up, product_up}

-- A specification, the number num / den at which values are taken, and the number of fraction bits.
pub record Setting : Type 0 where
  pub spec : Spec
  pub num : ℕ
  pub den : ℕ
  pub bits : ℕ

-- The value at a place, None past the end.
abbrev pub value_at : List (Option ℕ) → ℕ → Option ℕ
value_at vs i = slice_index_or vs i None

-- The number of a value, 0 where there is none.
abbrev pub amount : Option ℕ → ℕ
amount None = 0
amount (Some v) = v

-- All the values, where each is there.
abbrev pub all_values : List (Option ℕ) → Option (List ℕ)
all_values [] = Some []
all_values (None ∷ vs) = None
all_values (Some v ∷ vs) = option_map (λ ws. v ∷ ws) (all_values vs)

-- The operation at each place of two lists.
abbrev pub at_each : {A B C : Type 0} → (A → B → C) → List A → List B → List C
at_each g [] ys = []
at_each g (x ∷ xs) [] = []
at_each g (x ∷ xs) (y ∷ ys) = g x y ∷ at_each g xs ys

-- The result of n steps.
abbrev pub repeated : {V : Type 0} → (V → V) → ℕ → V → V
repeated step zero v = v
repeated step (suc n) v = step (repeated step n v)

-- A node's lower value from the class vector and the values of the nodes before it.
abbrev pub node_value_down : Setting → (classes : List ℕ) → (before : List ℕ) → Node → Range → ℕ
node_value_down t classes before (Node.Empty word) range = 2 ^ t.bits
node_value_down t classes before (Node.Atom word) range = atom_down t.bits t.num t.den
node_value_down t classes before (Node.Class c) range = slice_index classes c
node_value_down t classes before (Node.Union parts) range = total_down
    (map (slice_index before) parts)
node_value_down t classes before (Node.Product parts) range =
    product_down t.bits (map (slice_index before) parts)
node_value_down t classes before (Node.Seq part) range =
    counted_down Kind.Seq t.bits range (slice_index before part)
node_value_down t classes before (Node.Set part) range =
    counted_down Kind.Set t.bits range (slice_index before part)
node_value_down t classes before (Node.Cyc part) range =
    counted_down Kind.Cyc t.bits range (slice_index before part)

-- A node's upper value from the class vector and the values of the nodes before it.
abbrev pub node_value_up : Setting → (classes : List ℕ) → (before : List (Option ℕ)) → Node → Range
    → Option ℕ
node_value_up t classes before (Node.Empty word) range = Some (2 ^ t.bits)
node_value_up t classes before (Node.Atom word) range = atom_up t.bits t.num t.den
node_value_up t classes before (Node.Class c) range = Some (slice_index classes c)
node_value_up t classes before (Node.Union parts) range = total_up (map (value_at before) parts)
node_value_up t classes before (Node.Product parts) range =
    product_up t.bits (map (value_at before) parts)
node_value_up t classes before (Node.Seq part) range =
    option_and_then (counted_up Kind.Seq t.bits range) (value_at before part)
node_value_up t classes before (Node.Set part) range =
    option_and_then (counted_up Kind.Set t.bits range) (value_at before part)
node_value_up t classes before (Node.Cyc part) range =
    option_and_then (counted_up Kind.Cyc t.bits range) (value_at before part)

-- The lower and the upper values of all nodes.
abbrev pub values_down : Setting → (classes : List ℕ) → List ℕ
values_down t classes = node_results (node_value_down t classes) [] (ranged_nodes t.spec)

abbrev pub values_up : Setting → (classes : List ℕ) → List (Option ℕ)
values_up t classes = node_results (node_value_up t classes) [] (ranged_nodes t.spec)

-- The values of the classes' bodies, from the values of the nodes.
abbrev pub bodies_down : Setting → (values : List ℕ) → List ℕ
bodies_down t values = map (slice_index values) t.spec.bodies

abbrev pub bodies_up : Setting → (values : List (Option ℕ)) → List (Option ℕ)
bodies_up t values = map (value_at values) t.spec.bodies

-- The lesser of a number and a value, and the number where there is no value.
abbrev pub lesser : ℕ → Option ℕ → ℕ
lesser n None = n
lesser n (Some v) = min n v

-- A lower sweep: each class gets the greater of its entry and its body's lower value.
abbrev pub sweep_down : Setting → List ℕ → List ℕ
sweep_down t classes = at_each max classes (bodies_down t (values_down t classes))

-- An upper sweep: each class gets the lesser of its entry and its body's upper value.
abbrev pub sweep_up : Setting → List ℕ → List ℕ
sweep_up t classes = at_each lesser classes (bodies_up t (values_up t classes))

-- There is a value, and it is at most the entry.
abbrev pub is_at_most : Option ℕ → (entry : ℕ) → Bool
is_at_most None entry = false
is_at_most (Some v) entry = nat_le v entry

-- Each body has an upper value that is at most its class's entry.
abbrev pub is_post_fixed : Setting → List ℕ → Bool
is_post_fixed t classes =
    list_all (λ b. b) (at_each is_at_most (bodies_up t (values_up t classes)) classes)

-- The same as a fact: where a vector is post-fixed, there is an entry for each class, and no body's
-- upper value is greater than its class's entry.
pub record IsPostFixed (t : Setting) (classes : List ℕ) : Type 0 where
  pub each : AreNoGreater (bodies_up t (values_up t classes)) (map Some classes)

-- At the first place where one of some values is greater than its class's entry, it is this value,
-- or there is none.
pub record IsFirstAbove (values : List (Option ℕ)) (classes : List ℕ) (place : ℕ) (got : Option ℕ)
    : Type 0 where
  pub within : place < length classes
  pub value : got ≡ value_at values place
  pub above : ¬ IsNoGreater got (Some (slice_index classes place))
  pub before : (c : ℕ) → c < place → IsNoGreater (value_at values c) (Some (slice_index classes c))

-- The first place at which there is no value.
pub record IsFirstMissing (values : List (Option ℕ)) (place : ℕ) : Type 0 where
  pub within : place < length values
  pub missing : value_at values place ≡ None
  pub before : (e : ℕ) → e < place → value_at values e ≢ None

-- The setting of a specification, the parts of x, and the fraction bits.
abbrev pub setting : Spec → (num den bits : ℕ) → Setting
setting s num den bits = record { spec = s; num = num; den = den; bits = bits }
