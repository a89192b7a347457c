-- What is to be printed, seen as nodes that wait for tokens.
use Rattle.std.proofs.Common.{◌≡◌, ℕ, zero, suc, ◌+◌, ◌-◌, ◌<◌, ◌≤◌, arith, drop, drop-cons, length-drop, get_or, add-one, slice_get, List, [], ◌∷◌, ◌++◌, map, length, refl, sym, ◌∙◌, ap, subst, Option, Some, None}
use Rattle.std.specs.Option.{MatchOption, option_copied}
use Rattle.std.specs.List.{HoldsAt}
use denote.Ref.{Bor}
use Rattle.std.proofs.lemmas.Option.{slice_get_within, slice_get_past, slice_get-get_or}
use Rattle.bz_model.specs.Spec.{Spec, Node, Range, node_at, range_at}
use Rattle.bz_model.specs.Object.{Object, none, more, Has, ClassHas, Belongs}
use Rattle.bz_model.specs.Object.Object.{Unit_, Dot, Pick, SeqOf, SetOf, CycOf}
use Rattle.bz_laws.proofs.Nodes.{known}
use Rattle.class_system.specs.Views.{number}
use Rattle.class_system.specs.declared.ids.ExprId.{ExprId}
use Rattle.object_store.specs.declared.token.Token.{Token}
use Rattle.object_store.specs.declared.token.Token.TheVariants as token
use Rattle.object_store.specs.Tokens.{tokens_of, tokens_all, token_size, AreOf}
use Rattle.class_system.specs.Sound.{IsSound}
use Rattle.object_store.specs.Walk.{AllBelow, HasToken, IsTokenNode, Expands}
use Rattle.object_store.proofs.Descent.{Descent, descent-expand, too_long}
use Rattle.object_text.specs.declared.print_stack.Todo.{Todo}
use Rattle.object_text.specs.declared.print_stack.Todo.TheVariants as todo
use Rattle.object_text.specs.Todos.{joined_objects, spaced_objects}
use Rattle.object_text.specs.Output.{Printed}
use Rattle.object_text.specs.Printing.{PrintsObject, Prints, ArePrinted, Goes, PassesFreely, nodes_of}

-- The nodes of joined objects are these.
nodes-spaced : (es : List ExprId) (later : List Todo) → nodes_of (spaced_objects es ++ later) ≡ map number es ++ nodes_of later
nodes-spaced [] later = refl
nodes-spaced (e ∷ es) later = ap (λ ns. e.0 ∷ ns) (nodes-spaced es later)

-- The nodes waiting in objects joined by spaces, with other work after them, are the nodes of these
-- objects and then those of the other work.
pub nodes-joined : (es : List ExprId) (later : List Todo) → nodes_of (joined_objects es ++ later) ≡ map number es ++ nodes_of later
nodes-joined [] later = refl
nodes-joined (e ∷ es) later = ap (λ ns. e.0 ∷ ns) (nodes-spaced es later)

module _ (s : Spec) where
  -- tokens that are printed are those of objects of the nodes
  pub are-of : (whole : List ℕ) (todos : List Todo) (tokens : List Token) (labels : List ℕ) (printed : Printed) → Prints s whole todos tokens labels printed → AreOf s (nodes_of todos) tokens
  are-of whole [] tokens labels printed p = record { objects = none; belong = tt; spelled = sym p.0 }
  are-of whole (todo.Byte byte ∷ todos) tokens labels printed p = are-of whole todos tokens labels _ p
  are-of whole (todo.EndPart ∷ todos) tokens labels printed p = are-of whole todos tokens labels _ p
  are-of whole (todo.Close form ∷ todos) tokens labels printed p = are-of whole todos tokens labels _ p
  are-of whole (todo.Node e ∷ todos) tokens labels printed p =
      let r = are-of whole todos p.rest _ _ p.later in
      record { objects = more p.object r.objects; belong = (p.belongs, r.belong); spelled = ap (λ ts. tokens_of p.object ++ ts) r.spelled ∙ sym p.split }
  are-of whole (todo.Part e ∷ todos) tokens labels printed p =
      let r = are-of whole todos p.rest _ _ p.later in
      record { objects = more p.object r.objects; belong = (p.belongs, r.belong); spelled = ap (λ ts. tokens_of p.object ++ ts) r.spelled ∙ sym p.split }

  -- a node that has an object is one of the nodes
  has-below : (h e : ℕ) (n : Option Node) → node_at s e ≡ n → (o : Object) → Has s (ClassHas s h) n (range_at s e) o → e < length s.nodes
  has-below h e None at o w = elim w [ ]
  has-below h e (Some n) at o w = slice_get_within s.nodes e n at

  pub all-below : (whole : List ℕ) (todos : List Todo) (tokens : List Token) (labels : List ℕ) (printed : Printed) → Prints s whole todos tokens labels printed → AllBelow (length s.nodes) (nodes_of todos)
  all-below whole [] tokens labels printed p = tt
  all-below whole (todo.Byte byte ∷ todos) tokens labels printed p = all-below whole todos tokens labels _ p
  all-below whole (todo.EndPart ∷ todos) tokens labels printed p = all-below whole todos tokens labels _ p
  all-below whole (todo.Close form ∷ todos) tokens labels printed p = all-below whole todos tokens labels _ p
  all-below whole (todo.Node e ∷ todos) tokens labels printed p = (has-below p.belongs.0 e.0 (node_at s e.0) refl p.object p.belongs.1, all-below whole todos p.rest _ _ p.later)
  all-below whole (todo.Part e ∷ todos) tokens labels printed p = (has-below p.belongs.0 e.0 (node_at s e.0) refl p.object p.belongs.1, all-below whole todos p.rest _ _ p.later)

  -- a node with a token has at least one
  pub record HasFirst (o : Object) : Type 0 where
    pub token_first : Token
    pub others : List Token
    pub is_first : tokens_of o ≡ token_first ∷ others

  first-of : (R : ℕ → Object → Type 0) (n : Node) (r : Option Range) → IsTokenNode n → (o : Object) → Has s R (Some n) r o → HasFirst o
  first-of R (Node.Empty word) r t Unit_ w = record { token_first = token.Unit; others = []; is_first = refl }
  first-of R (Node.Atom word) r t Dot w = record { token_first = token.Dot; others = []; is_first = refl }
  first-of R (Node.Union parts) r t (Pick i o) w = record { token_first = token.Pick i; others = tokens_of o; is_first = refl }
  first-of R (Node.Seq part) r t (SeqOf os) w = record { token_first = _; others = tokens_all os; is_first = refl }
  first-of R (Node.Set part) r t (SetOf os) w = record { token_first = _; others = tokens_all os; is_first = refl }
  first-of R (Node.Cyc part) r t (CycOf os) w = record { token_first = _; others = tokens_all os; is_first = refl }
  first-of R (Node.Class c) r t o w = elim t [ ]
  first-of R (Node.Product parts) r t o w = elim t [ ]
  first-of R _ r t _ w = elim w [ ]

  pub has-first : (e : ℕ) → HasToken s e → (o : Object) → Belongs s e o → HasFirst o
  has-first e t o b = first-of (ClassHas s b.0) t.node (range_at s e) t.has_token o (known s (ClassHas s b.0) e t.is_node o b.1)

-- The way down isn't over while there is an object.
module _ (s : Spec) (start : List Todo) (printed : Printed) (e : ExprId) (todos : List Todo) where
  pub not_over : (left : ℕ) → ArePrinted s start printed → Descent s (nodes_of start) (e.0 ∷ nodes_of todos) left → 1 ≤ left
  not_over zero some d = absurd (too_long s (nodes_of start) e.0 (nodes_of todos) d some.tokens (are-of s some.wholly.whole start some.tokens some.labels printed some.wholly.prints))
  not_over (suc left) some d = omega arith

module _ (s : Spec) (sound : IsSound s) (start : List Todo) (printed : Printed) (e : ExprId) (todos now : List Todo) where
  pub through : (left : ℕ) → ArePrinted s start printed → Descent s (nodes_of start) (e.0 ∷ nodes_of todos) left → Expands s e.0 (nodes_of todos) (nodes_of now) → Descent s (nodes_of start) (nodes_of now) (left - 1)
  through left some d step =
      let more_left = not_over s start printed e todos left some d in
      let count : left ≡ suc (left - 1) = omega arith in
      descent-expand s sound (nodes_of start) e.0 (left - 1) (nodes_of todos) (nodes_of now) step (subst (λ n. Descent s (nodes_of start) (e.0 ∷ nodes_of todos) n) count d)

-- Where what is printed is given by an equation.
pub goes-to : (s : Spec) (old now : List Todo) (before made after : Printed) → after ≡ made → Goes s old before now made → Goes s old before now after
goes-to s old now before made after e h = subst (λ q. Goes s old before now q) (sym e) h

-- A node with a token finds one.
module _ (s : Spec) (e place : ℕ) (tokens : List Token) (labels : List ℕ) (printed : Printed) (Later : List Token → List ℕ → Printed → Type 0) where
  pub token-there : HasToken s e → PrintsObject s e Later (drop place tokens) labels printed → place < length tokens
  token-there t p =
      let f = has-first s e t p.object p.belongs in
      let first : drop place tokens ≡ f.token_first ∷ (f.others ++ p.rest) = p.split ∙ ap (λ ts. ts ++ p.rest) f.is_first in
      omega (arith, ap length first, length-drop place tokens)

  pub token-next : (d : Token) → HasToken s e → PrintsObject s e Later (drop place tokens) labels printed → drop place tokens ≡ get_or tokens place d ∷ drop (place + 1) tokens
  token-next d t p = let within = token-there t p in rw (add-one, drop-cons tokens place d) refl

-- the first label left
pub label-next : (labels : List ℕ) (used : ℕ) → slice_get (drop used labels) 0 ≡ slice_get labels used
label-next [] zero = refl
label-next [] (suc used) = refl
label-next (l ∷ labels) zero = refl
label-next (l ∷ labels) (suc used) = label-next labels used

-- Each token stands for at most one atom.
pub one-atom : (t : Token) → token_size t ≤ 1
one-atom token.Unit = omega arith
one-atom token.Dot = omega arith
one-atom (token.Pick i) = omega arith
one-atom (token.Count k) = omega arith

-- what the code reads is the label at a place
pub label-read : (labels : List ℕ) (used : ℕ) (r : Option (Bor ℕ)) → MatchOption r (length labels ≤ used) (λ x. (used < length labels) × HoldsAt (λ y. x.now ≡ y) labels used) → slice_get labels used ≡ option_copied r
label-read labels used None h = slice_get_past labels used h
label-read labels used (Some x) h = slice_get-get_or labels used 0 h.0 ∙ ap Some (sym (h.1 0))

-- What was done after what was done.
pub passes-then : (old middle todos : List Todo) (before printed after : Printed) → PassesFreely old before middle printed → PassesFreely middle printed todos after → PassesFreely old before todos after
passes-then old middle todos before printed after h k = record {
  nodes = h.nodes ∙ k.nodes;
  goes = λ s. record { on = λ whole tokens labels p. (k.goes s).on whole tokens labels ((h.goes s).on whole tokens labels p) };
}

-- Where a list is given by an equation.
pub passes-from : (old other todos : List Todo) (before printed : Printed) → other ≡ old → PassesFreely old before todos printed → PassesFreely other before todos printed
passes-from old other todos before printed e h = subst (λ ds. PassesFreely ds before todos printed) (sym e) h

-- One thing that needs no token is done.
pub passes-one : (one : Todo) (todos : List Todo) (before made printed : Printed) → printed ≡ made → nodes_of (one ∷ todos) ≡ nodes_of todos → ((s : Spec) → Goes s (one ∷ todos) before todos made) → PassesFreely (one ∷ todos) before todos printed
passes-one one todos before made printed e nodes goes = record { nodes = nodes; goes = λ s. goes-to s (one ∷ todos) todos before made printed e (goes s) }
