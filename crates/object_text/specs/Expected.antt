-- What is expected of the rest of a text.
use Rattle.std.specs.Prelude.{◌≡◌, ℕ, ◌+◌, ◌<◌, ◌^◌, List, [], ◌∷◌, ◌++◌, length, replicate, Option}
use Rattle.std.specs.Prelude.{Some, None}
use Rattle.std.specs.List.{AllByRecursion}
use Rattle.bz_model.specs.Spec.{Spec, Node, Range, node_at, IsInRange, IsWithinHigh}
use Rattle.bz_model.specs.Object.{Object, Belongs}
use Rattle.bz_model.specs.ObjectText.{IsObjectText}
use Rattle.class_system.specs.Views.{spec_range}
use Rattle.class_system.specs.declared.ids.ExprId.{ExprId}
use Rattle.object_text.specs.declared.parsed.Kind.{Kind}
use Rattle.object_text.specs.declared.parsed.Kind.TheVariants.{Sequence, Set, Cycle}
use Rattle.object_text.specs.declared.parse_stack.Expected.{Expected}
use Rattle.object_text.specs.declared.parse_stack.Expected.TheVariants.{Close, Part, Further}
use Rattle.object_text.specs.declared.parse_stack.Counted.{Counted}
use Rattle.object_text.specs.Taken.{Taken, with_object, parted, closed}
use Rattle.object_text.specs.Scanning.{Word, Steps}

-- The byte before the parts of a list, and the byte after them.
abbrev pub opener : Kind → ℕ
opener Sequence = 91
opener Set = 123
opener Cycle = 60

abbrev pub closer : Kind → ℕ
closer Sequence = 93
closer Set = 125
closer Cycle = 62

-- A list's node.
abbrev pub list_node : Kind → ℕ → Node
list_node Sequence part = Node.Seq part
list_node Set part = Node.Set part
list_node Cycle part = Node.Cyc part

-- Objects of some nodes are expected, one after the other.
abbrev pub expected_parts : List ExprId → List Expected
expected_parts [] = []
expected_parts (e ∷ es) = Part e ∷ expected_parts es

-- The text begins with that of an object of the node with labels, and something holds of what
-- follows and of what was read with the object.
pub record ReadsObject (s : Spec) (e : ℕ) (Later : List ℕ → Taken
    → Type 0) (text : List ℕ) (taken : Taken) : Type 0 where
  pub object : Object
  pub labels : List ℕ
  pub own : List ℕ
  pub rest : List ℕ
  pub is_text : IsObjectText s e own object labels
  pub split : text ≡ own ++ rest
  pub later : Later rest (with_object taken object labels)

-- Objects of some nodes follow, each behind a space, and then something holds.
abbrev pub ReadsEach : Spec → (Taken → Taken) → (List ℕ → Taken → Type 0) → List ℕ → List ℕ → Taken
    → Type 0
ReadsEach s ended Later [] text taken = Later text taken
ReadsEach s ended Later (part ∷ parts) text taken =
    Word (32
    ∷ [])
    (λ rest. ReadsObject s part (λ rest taken. ReadsEach s ended Later parts rest (ended taken))
    rest taken) text

-- Behind some whole parts of a list as many parts follow as its range allows, and its closing byte.
pub record ReadsList (s : Spec) (kind : Kind) (part : ℕ) (range : Range) (parts : ℕ) (Later : ℕ
    → List ℕ → Taken → Type 0) (text : List ℕ) (taken : Taken) : Type 0 where
  pub further : ℕ
  pub in_range : IsInRange (parts + further) (Some range)
  pub reads : ReadsEach s parted
      (λ rest taken. Word (closer kind ∷ []) (λ rest. Later (parts + further) rest taken) rest)
      (replicate further part) text taken

-- Behind an object comes what is expected, and then nothing; what was read in all is this.
abbrev pub Reads : Spec → (whole : Taken) → List Expected → List ℕ → Taken → Type 0
Reads s whole [] = λ text taken. (text ≡ []) × (taken ≡ whole)
Reads s whole (Close ∷ stack) =
    λ text taken. Word (41 ∷ []) (λ rest. Reads s whole stack rest taken) text
Reads s whole (Part e ∷ stack) =
    λ text taken. Word (32 ∷ []) (λ rest. ReadsObject s e.0 (Reads s whole stack) rest taken) text
Reads s whole (Further c ∷ stack) =
    λ text taken. ReadsList s c.kind c.part.0 (spec_range c.range) (c.parts + 1)
    (λ parts rest taken. Reads s whole stack rest (closed parts taken)) text (parted taken)

-- An object of this node comes next, or an object is over.
abbrev pub Comes : Spec → Option ExprId → List Expected → Taken → Taken → List ℕ → Type 0
Comes s None stack taken = λ whole text. Reads s whole stack text taken
Comes s (Some e) stack taken = λ whole text. ReadsObject s e.0 (Reads s whole stack) text taken

-- A list may have another part: its range is not used up, and its number of parts is small.
pub record MayHaveAnotherPart (s : Spec) (left : ℕ) (c : Counted) : Type 0 where
  pub part_below : c.part.0 < length s.nodes
  pub few : c.parts + 1 + left < 2 ^ 32
  pub range_some : IsWithinHigh c.range.low c.range.high
  pub below_high : IsWithinHigh (c.parts + 1) c.range.high

-- What is expected can come, in a text of which so many bytes are left.
abbrev pub CanCome : Spec → ℕ → Expected → Type 0
CanCome s left Close = Unit {0}
CanCome s left (Part e) = e.0 < length s.nodes
CanCome s left (Further c) = MayHaveAnotherPart s left c

abbrev pub AllCanCome : Spec → ℕ → List Expected → Type 0
AllCanCome s left stack = AllByRecursion (CanCome s left) stack

-- The next node, if there is one, is a node of the specification.
abbrev pub IsNodeIf : Spec → Option ExprId → Type 0
IsNodeIf s None = Unit {0}
IsNodeIf s (Some e) = e.0 < length s.nodes

-- Each node has an object.
pub record HasObjects (s : Spec) : Type 0 where
  pub object_of : (e : ℕ) → e < length s.nodes → (o : Object) × Belongs s e o

-- A part of the text was read: less is left, what is expected can come, and the same can be read of
-- what is left.
pub record Moves (s : Spec) (Before : Taken → List ℕ
    → Type 0) (text : List ℕ) (next : Option ExprId) (stack : List Expected) (taken : Taken)
    (rest : List ℕ) : Type 0 where
  pub shorter : length rest < length text
  pub next_below : IsNodeIf s next
  pub can_come : AllCanCome s (length rest) stack
  pub steps : Steps Before (Comes s next stack taken) text rest

-- The node is none of a class.
pub record NoClass (s : Spec) (e : ℕ) : Type 0 where
  pub no_class : (c : ℕ) → ¬ (node_at s e ≡ Some (Node.Class c))

-- Two nodes have the same texts.
pub record SameTexts (s : Spec) (e f : ℕ) : Type 0 where
  pub to : (text : List ℕ) (o : Object) (l : List ℕ) → IsObjectText s e text o l
      → IsObjectText s f text o l
  pub from : (text : List ℕ) (o : Object) (l : List ℕ) → IsObjectText s f text o l
      → IsObjectText s e text o l

-- The first node on the way through bodies of classes that is none of a class.
pub record ResolvesTo (s : Spec) (e f : ℕ) : Type 0 where
  pub below : f < length s.nodes
  pub no_class : NoClass s f
  pub same : SameTexts s e f

-- Nothing comes any more, and all was read.
pub record IsOver (next : Option ExprId) (stack : List Expected) (text : List ℕ)
    (stack_now : List Expected) (taken taken_now : Taken) : Type 0 where
  pub no_next : next ≡ None
  pub no_stack : stack ≡ []
  pub no_text : text ≡ []
  pub same : taken_now ≡ taken
