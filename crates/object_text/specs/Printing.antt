-- The state of the walk that prints an object: what is to be done, the tokens and labels left, and
-- what is printed so far.
use Rattle.std.specs.Prelude.{◌≡◌, ℕ, Bool, true, false, List, [], ◌∷◌, ◌++◌, Option, Some, None}
use Rattle.std.specs.Prelude.{take, drop, slice_get}
use Rattle.bz_model.specs.Spec.{Spec}
use Rattle.bz_model.specs.Object.{Object, Belongs}
use Rattle.bz_model.specs.Measures.{size}
use Rattle.bz_model.specs.ObjectText.{object_text, least_label}
use Rattle.class_system.specs.declared.ids.ExprId.{ExprId}
use Rattle.object_store.specs.declared.token.Token.{Token}
use Rattle.object_store.specs.Tokens.{tokens_of, token_size}
use Rattle.object_store.specs.Walk.{HasToken, Expands}
use Rattle.object_text.specs.declared.print_stack.Todo.{Todo}
use Rattle.object_text.specs.declared.print_stack.Todo.TheVariants.{Byte, Node, Part, EndPart}
use Rattle.object_text.specs.declared.print_stack.Todo.TheVariants.{Close}
use Rattle.object_text.specs.Output.{Printed, grown, part_printed, form_closed}

-- The tokens are those of an object of the node, with others after them, and what is done later
-- holds of the others, of the labels that the object doesn't take, and of what is printed with the
-- object's text.
pub record PrintsObject (s : Spec) (e : ℕ) (Later : List Token → List ℕ → Printed
    → Type 0) (tokens : List Token) (labels : List ℕ) (printed : Printed) : Type 0 where
  pub object : Object
  pub belongs : Belongs s e object
  pub rest : List Token
  pub split : tokens ≡ tokens_of object ++ rest
  pub later : Later rest (drop (size object) labels)
      (grown printed (least_label (take (size object) labels))
      (object_text s e object belongs (take (size object) labels)))

-- From these tokens and labels, with this printed, what is to be done makes the whole text.
abbrev pub Prints : Spec → (whole : List ℕ) → List Todo → List Token → (labels : List ℕ) → Printed
    → Type 0
Prints s whole [] = λ tokens labels printed. (tokens ≡ []) × (printed.text ≡ whole)
Prints s whole (Byte byte ∷ todos) =
    λ tokens labels printed. Prints s whole todos tokens labels (grown printed 0 (byte ∷ []))
Prints s whole (Node e ∷ todos) = PrintsObject s e.0 (Prints s whole todos)
Prints s whole (Part e ∷ todos) =
    PrintsObject s e.0 (λ tokens labels printed. Prints s whole todos tokens labels
    (part_printed printed))
Prints s whole (EndPart ∷ todos) =
    λ tokens labels printed. Prints s whole todos tokens labels (part_printed printed)
Prints s whole (Close form ∷ todos) =
    λ tokens labels printed. Prints s whole todos tokens labels (form_closed form printed)

-- These tokens and labels can be printed.
pub record AreWholly (s : Spec) (todos : List Todo) (tokens : List Token) (labels : List ℕ)
    (printed : Printed) : Type 0 where
  pub whole : List ℕ
  pub prints : Prints s whole todos tokens labels printed

-- Some tokens and labels can be printed.
pub record ArePrinted (s : Spec) (todos : List Todo) (printed : Printed) : Type 0 where
  pub tokens : List Token
  pub labels : List ℕ
  pub wholly : AreWholly s todos tokens labels printed

-- The same tokens and labels make the same text.
pub record Goes (s : Spec) (old : List Todo) (before : Printed) (todos : List Todo)
    (printed : Printed) : Type 0 where
  pub on : (whole : List ℕ) (tokens : List Token) (labels : List ℕ)
      → Prints s whole old tokens labels before → Prints s whole todos tokens labels printed

-- The nodes that are to be printed.
abbrev pub nodes_of : List Todo → List ℕ
nodes_of [] = []
nodes_of (Byte byte ∷ todos) = nodes_of todos
nodes_of (Node e ∷ todos) = e.0 ∷ nodes_of todos
nodes_of (Part e ∷ todos) = e.0 ∷ nodes_of todos
nodes_of (EndPart ∷ todos) = nodes_of todos
nodes_of (Close form ∷ todos) = nodes_of todos

-- What needs no token is done, and nothing else.
pub record PassesFreely (old : List Todo) (before : Printed) (todos : List Todo) (printed : Printed)
    : Type 0 where
  pub nodes : nodes_of old ≡ nodes_of todos
  pub goes : (s : Spec) → Goes s old before todos printed

-- All is done up to the next node, or to the end.
abbrev pub IsNextNode : List Todo → Printed → List Todo → Printed → Option ExprId → Type 0
IsNextNode old before todos printed None = PassesFreely old before [] printed
IsNextNode old before todos printed (Some e) = PassesFreely old before (Node e ∷ todos) printed

-- One thing is done, and the others are left.
pub record IsDone (todo : Todo) (rest : List Todo) (before : Printed) (todos : List Todo)
    (printed : Printed) : Type 0 where
  pub left : todos ≡ rest
  pub passes : PassesFreely (todo ∷ rest) before todos printed

-- One thing is done, or a node is to be printed now.
abbrev pub IsDoneOrAtNode : Todo → List Todo → Printed → List Todo → Printed → Option ExprId
    → Type 0
IsDoneOrAtNode todo rest before todos printed None = IsDone todo rest before todos printed
IsDoneOrAtNode todo rest before todos printed (Some e) =
    PassesFreely (todo ∷ rest) before (Node e ∷ todos) printed

-- A class's body, or a product's parts, stand in its place.
pub record Expanded (s : Spec) (e : ExprId) (old : List Todo) (before : Printed) (todos : List Todo)
    (printed : Printed) : Type 0 where
  pub step : Expands s e.0 (nodes_of old) (nodes_of todos)
  pub goes : Goes s (Node e ∷ old) before todos printed

-- The node has a token, and all is as it was.
pub record Stays (s : Spec) (e : ExprId) (old : List Todo) (before : Printed) (todos : List Todo)
    (printed : Printed) : Type 0 where
  pub has_token : HasToken s e.0
  pub todos_same : todos ≡ old
  pub printed_same : printed ≡ before

-- The answer tells whether the node was a class or a product.
abbrev pub ExpandsIf : Spec → ExprId → List Todo → Printed → List Todo → Printed → Bool → Type 0
ExpandsIf s e old before todos printed true = Expanded s e old before todos printed
ExpandsIf s e old before todos printed false = Stays s e old before todos printed

-- A node with a token is to be printed next.
pub record IsAtToken (s : Spec) (e : ExprId) (old : List Todo) (before : Printed)
    (todos : List Todo) (printed : Printed) : Type 0 where
  pub has_token : HasToken s e.0
  pub goes : Goes s old before (Node e ∷ todos) printed

-- What was found on the way down: a node with a token, or that all is done.
abbrev pub IsFront : Spec → List Todo → Printed → List Todo → Printed → Option ExprId → Type 0
IsFront s old before todos printed None = Goes s old before [] printed
IsFront s old before todos printed (Some e) = IsAtToken s e old before todos printed

-- The token is the first of those that can be printed, and the label the first one left, if there
-- is one.
pub record IsToPrint (s : Spec) (e : ExprId) (token : Token) (label : Option ℕ) (todos : List Todo)
    (printed : Printed) : Type 0 where
  pub rest : List Token
  pub labels : List ℕ
  pub is_label : slice_get labels 0 ≡ label
  pub wholly : AreWholly s (Node e ∷ todos) (token ∷ rest) labels printed

-- After a node took its token, and a label where it is an atom, the tokens and labels that follow
-- make the same text.
pub record TakesToken (s : Spec) (e : ExprId) (token : Token) (label : Option ℕ) (old : List Todo)
    (before : Printed) (todos : List Todo) (printed : Printed) : Type 0 where
  pub on : (whole : List ℕ) (rest : List Token) (labels : List ℕ) → slice_get labels 0 ≡ label
      → Prints s whole (Node e ∷ old) (token ∷ rest) labels before
      → Prints s whole todos rest (drop (token_size token) labels) printed
