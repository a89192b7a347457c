-- The limits of a specification, and which fault tells of a broken one.
use Rattle.std.specs.Prelude.{◌≡◌, ℕ, suc, ◌<◌, ◌≤◌, max, List, [], ◌∷◌, map, length, Some}
use Rattle.std.specs.Prelude.{slice_get, slice_index}
use Rattle.bz_model.specs.Spec.{Spec, Node, Range}
use Rattle.class_system.specs.Each.{Each}
use Rattle.class_system.specs.NodeOrder.{parts_of}
use Rattle.class_system.specs.Sound.{IsSound}
use Rattle.class_system.specs.NodeResults.{node_results, ranged_nodes}
use Rattle.class_system.specs.declared.limits.BuildFault.{BuildFault}
use Rattle.class_system.specs.declared.limits.BuildFault.TheVariants.{TooManyClasses, TooManyParts}
use Rattle.class_system.specs.declared.limits.BuildFault.TheVariants.{TooDeep, TooManyNodes}
use Rattle.class_system.specs.declared.limits.BuildFault.TheVariants.{OutOfMemory}

-- The greatest of some numbers, and 0 of none.
abbrev pub greatest_of : List ℕ → ℕ
greatest_of [] = 0
greatest_of (n ∷ ns) = max n (greatest_of ns)

-- The depth of a node is one more than the greatest depth of its parts, so that a leaf and a
-- reference have depth 1.
abbrev pub node_depth : (before : List ℕ) → Node → Range → ℕ
node_depth before n range = suc (greatest_of (map (slice_index before) (parts_of n)))

-- The depths of all nodes.
abbrev pub depths : Spec → List ℕ
depths s = node_results node_depth [] (ranged_nodes s)

-- The depth of a specification is the greatest depth of a node.
abbrev pub depth_of : Spec → ℕ
depth_of s = greatest_of (depths s)

-- A node has at most 64 parts.
pub record HasFewParts (n : Node) : Type 0 where
  pub few : length (parts_of n) ≤ 64

-- A specification is within the limits where it has at most 64 classes, at most 64 parts in each
-- node, depth at most 64 and at most 512 nodes.
pub record IsWithinLimits (s : Spec) : Type 0 where
  pub classes : length s.names ≤ 64
  pub parts : Each HasFewParts s.nodes
  pub depth : depth_of s ≤ 64
  pub nodes : length s.nodes ≤ 512

-- This is the number of parts of the first node that has more than 64.
pub record IsFirstExcess (nodes : List Node) (count : ℕ) : Type 0 where
  pub place : ℕ
  pub node : Node
  pub is_there : slice_get nodes place ≡ Some node
  pub counted : count ≡ length (parts_of node)
  pub excess : 64 < count
  pub before : (i : ℕ) (n : Node) → i < place → slice_get nodes i ≡ Some n → HasFewParts n

-- The number of classes is told where it is above 64.
pub record HasManyClasses (s : Spec) (count : ℕ) : Type 0 where
  pub counted : count ≡ length s.names
  pub excess : 64 < count

-- A number of parts is told where the classes are few.
pub record HasManyParts (s : Spec) (count : ℕ) : Type 0 where
  pub classes : length s.names ≤ 64
  pub first : IsFirstExcess s.nodes count

-- The depth is told where it is above 64 and the limits before it are kept.
pub record IsTooDeep (s : Spec) (depth : ℕ) : Type 0 where
  pub classes : length s.names ≤ 64
  pub parts : Each HasFewParts s.nodes
  pub measured : depth ≡ depth_of s
  pub excess : 64 < depth

-- The number of nodes is told where it is above 512 and the limits before it are kept.
pub record HasManyNodes (s : Spec) (count : ℕ) : Type 0 where
  pub classes : length s.names ≤ 64
  pub parts : Each HasFewParts s.nodes
  pub depth : depth_of s ≤ 64
  pub counted : count ≡ length s.nodes
  pub excess : 512 < count

-- A fault tells the first limit that a specification breaks, or that memory ran out.
abbrev pub TellsLimit : Spec → BuildFault → Type 0
TellsLimit s (TooManyClasses count) = HasManyClasses s count
TellsLimit s (TooManyParts count) = HasManyParts s count
TellsLimit s (TooDeep depth) = IsTooDeep s depth
TellsLimit s (TooManyNodes count) = HasManyNodes s count
TellsLimit s OutOfMemory = Unit {0}

-- A specification is allowed where it is sound and within the limits.
pub record IsAllowed (s : Spec) : Type 0 where
  pub sound : IsSound s
  pub limits : IsWithinLimits s
