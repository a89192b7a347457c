-- What a token makes of a node, as the code reads it.
use Rattle.std.proofs.Common.{◌≡◌, ◌⊎◌, inl, inr, ℕ, ◌<◌, List, [], ◌∷◌, ◌++◌, map, take, take_all, drop, length, get_or, arith, refl, sym, ◌∙◌, ap, subst, append-nil, replicate, decimal, Some, slice_get}
use Rattle.std.proofs.lemmas.List.{length-map}
use Rattle.std.proofs.lemmas.Option.{slice_get_within}
use Rattle.bz_model.specs.Spec.{Spec, Mode, Node, node_at, body_of}
use Rattle.bz_model.specs.Measures.{size}
use Rattle.bz_model.specs.ObjectText.{object_text}
use Rattle.class_system.specs.Views.{number, spec_node}
use Rattle.class_system.specs.declared.expr.Expr.{Expr}
use Rattle.class_system.specs.declared.expr.Expr.TheVariants as expr
use Rattle.class_system.specs.declared.ids.ExprId.{ExprId}
use Rattle.class_system.specs.declared.ids.ClassId.{ClassId}
use Rattle.class_system.proofs.Results.{mapped-at}
use Rattle.object_store.specs.declared.token.Token.{Token}
use Rattle.object_store.specs.declared.token.Token.TheVariants as token
use Rattle.object_store.specs.Tokens.{tokens_of, token_size, size_of, IsOf}
use Rattle.object_store.proofs.Sizes.{size_of-tokens}
use Rattle.object_text.specs.Labels.{HasOneForEach}
use Rattle.std.proofs.Math.Seq.{take-nil}
use Rattle.object_store.specs.Walk.{HasToken, IsTokenNode}
use Rattle.object_text.specs.declared.print_stack.Todo.{Todo}
use Rattle.object_text.specs.declared.print_stack.Todo.TheVariants as todo
use Rattle.object_text.specs.Todos.{joined_objects}
use Rattle.object_text.specs.Printing.{PrintsObject, Prints}
use Rattle.object_text.specs.declared.output.Form.{Form}
use Rattle.object_text.specs.declared.output.Form.TheVariants as form
use Rattle.object_text.specs.Output.{Printed, blank, grown, form_opened}
use Rattle.object_text.proofs.Steps.{of-union, of-sequence, of-set, of-cycle, CountsOpen}

token-node : (s : Spec) (e : ℕ) (n : Node) → HasToken s e → node_at s e ≡ Some n → IsTokenNode n
token-node s e n t at = let is_node = t.is_node in let same : t.node ≡ n = cc in subst IsTokenNode same t.has_token

-- A node with a token is no class and no product.
pub no_other : (s : Spec) (e : ℕ) (n : Expr) → HasToken s e → node_at s e ≡ Some (spec_node n) → ((x : ClassId) × (n ≡ expr.Class x)) ⊎ ((x : List ExprId) × (n ≡ expr.Product x)) → ⊥
no_other s e n t at (inl k) = token-node s e (spec_node (expr.Class k.0)) t (at ∙ ap (λ m. Some (spec_node m)) k.1)
no_other s e n t at (inr k) = token-node s e (spec_node (expr.Product k.0)) t (at ∙ ap (λ m. Some (spec_node m)) k.1)

module _ (s : Spec) (whole : List ℕ) (later : List Todo) (e : ℕ) (l : List ℕ) (p : Printed) (t : Token) (rest : List Token) where
  same-option : (i j : ℕ) → t ≡ token.Pick i → t ≡ token.Pick j → i ≡ j
  same-option i j a b = cc

  -- a union's token picks one of its parts
  pub option-within : (es : List ExprId) (i : ℕ) → node_at s e ≡ Some (Node.Union (map number es)) → t ≡ token.Pick i → PrintsObject s e (Prints s whole later) (t ∷ rest) l p → i < length es
  option-within es i at is h =
      let k = of-union s whole later e l p (map number es) at t rest h in
      let same = same-option k.option i k.is_pick is in
      let within = slice_get_within (map number es) k.option k.part k.is_part in
      omega (arith, within, same, length-map es number)

  pub prints-pick : (es : List ExprId) (i : ℕ) (d : ExprId) → node_at s e ≡ Some (Node.Union (map number es)) → t ≡ token.Pick i → PrintsObject s e (Prints s whole later) (t ∷ rest) l p → Prints s whole (todo.Node (get_or es i d) ∷ later) rest (drop (token_size t) l) (grown (grown p 0 (decimal i)) 0 (46 ∷ []))
  prints-pick es i d at is h =
      let k = of-union s whole later e l p (map number es) at t rest h in
      let same = same-option k.option i k.is_pick is in
      let there = mapped-at number es i d (option-within es i at is h) in
      let part_at : slice_get (map number es) i ≡ Some k.part = subst (λ n. slice_get (map number es) n ≡ Some k.part) same k.is_part in
      let part : k.part ≡ (get_or es i d).0 = cc in
      subst (λ u. PrintsObject s (get_or es i d).0 (Prints s whole later) rest (drop (token_size u) l) (grown (grown p 0 (decimal i)) 0 (46 ∷ []))) (sym is)
      (subst (λ n. PrintsObject s (get_or es i d).0 (Prints s whole later) rest l (grown (grown p 0 (decimal n)) 0 (46 ∷ []))) same
      (subst (λ f. PrintsObject s f (Prints s whole later) rest l (grown (grown p 0 (decimal k.option)) 0 (46 ∷ []))) part k.prints))

  same-number : (i j : ℕ) → t ≡ token.Count i → t ≡ token.Count j → i ≡ j
  same-number i j a b = cc

  -- a sequence's token counts its parts
  pub prints-count : (part : ExprId) (n : ℕ) → node_at s e ≡ Some (Node.Seq part.0) → t ≡ token.Count n → PrintsObject s e (Prints s whole later) (t ∷ rest) l p → Prints s whole (joined_objects (replicate n part) ++ todo.Byte 93 ∷ later) rest (drop (token_size t) l) (grown p 0 (91 ∷ []))
  prints-count part n at is h =
      let k = of-sequence s whole later e l p part at t rest h in
      subst (λ u. Prints s whole (joined_objects (replicate n part) ++ todo.Byte 93 ∷ later) rest (drop (token_size u) l) (grown p 0 (91 ∷ []))) (sym is)
      (subst (λ m. Prints s whole (joined_objects (replicate m part) ++ todo.Byte 93 ∷ later) rest l (grown p 0 (91 ∷ []))) (same-number k.parts n k.is_count is) k.prints)

  -- and so does that of a set or a cycle
  prints-open : (f : Form) (part : ExprId) (n : ℕ) → t ≡ token.Count n → CountsOpen s whole later e l p f part t rest → Prints s whole (replicate n (todo.Part part) ++ todo.Close f ∷ later) rest (drop (token_size t) l) (form_opened p)
  prints-open f part n is k =
      subst (λ u. Prints s whole (replicate n (todo.Part part) ++ todo.Close f ∷ later) rest (drop (token_size u) l) (form_opened p)) (sym is)
      (subst (λ m. Prints s whole (replicate m (todo.Part part) ++ todo.Close f ∷ later) rest l (form_opened p)) (same-number k.parts n k.is_count is) k.prints)

  pub prints-set : (part : ExprId) (n : ℕ) → node_at s e ≡ Some (Node.Set part.0) → t ≡ token.Count n → PrintsObject s e (Prints s whole later) (t ∷ rest) l p → Prints s whole (replicate n (todo.Part part) ++ todo.Close form.Set ∷ later) rest (drop (token_size t) l) (form_opened p)
  prints-set part n at is h = prints-open form.Set part n is (of-set s whole later e l p part at t rest h)

  pub prints-cycle : (part : ExprId) (n : ℕ) → node_at s e ≡ Some (Node.Cyc part.0) → t ≡ token.Count n → PrintsObject s e (Prints s whole later) (t ∷ rest) l p → Prints s whole (replicate n (todo.Part part) ++ todo.Close form.Cycle ∷ later) rest (drop (token_size t) l) (form_opened p)
  prints-cycle part n at is h = prints-open form.Cycle part n is (of-cycle s whole later e l p part at t rest h)

-- The tokens of a class's object are printed as the object's text.
pub of-object : (s : Spec) (c : ℕ) (tokens : List Token) (of : IsOf s c tokens) (l : List ℕ) (e : ExprId) → body_of s c ≡ Some e.0 → Prints s (object_text s of.body of.object of.belongs (take (size of.object) l)) (todo.Node e ∷ []) tokens l blank
of-object s c tokens of l e at =
    let is_body = of.is_body in
    let same : of.body ≡ e.0 = cc in
    go e.0 same
  where
    text : List ℕ
    text = object_text s of.body of.object of.belongs (take (size of.object) l)

    go : (b : ℕ) → of.body ≡ b → PrintsObject s b (λ rest labels printed. (rest ≡ []) × (printed.text ≡ text)) tokens l blank
    go b same = subst (λ b. PrintsObject s b (λ rest labels printed. (rest ≡ []) × (printed.text ≡ text)) tokens l blank) same (record { object = of.object; belongs = of.belongs; rest = []; split = sym of.spelled ∙ sym (append-nil (tokens_of of.object)); later = (refl, refl) })

-- The same where the code's state is that of the start, and there are no more labels than atoms.
pub of-start : (s : Spec) (c : ℕ) (items tokens : List Token) (of : IsOf s c items) (l : List ℕ) → take (size of.object) l ≡ l → (e : ExprId) → body_of s c ≡ Some e.0 → (todos later : List Todo) (printed : Printed) → later ≡ [] → todos ≡ todo.Node e ∷ later → tokens ≡ items → printed ≡ blank → Prints s (object_text s of.body of.object of.belongs l) todos tokens l printed
of-start s c items tokens of l own e at todos later printed none put same empty =
    subst (λ t. Prints s (object_text s of.body of.object of.belongs l) todos tokens l t) (sym empty)
    (subst (λ ts. Prints s (object_text s of.body of.object of.belongs l) todos ts l blank) (sym same)
    (subst (λ ds. Prints s (object_text s of.body of.object of.belongs l) ds items l blank) (sym (put ∙ ap (λ ds. todo.Node e ∷ ds) none))
    (subst (λ m. Prints s (object_text s of.body of.object of.belongs m) (todo.Node e ∷ []) items l blank) own (of-object s c items of l e at))))

-- An object takes all labels.
pub takes-all : (s : Spec) (c : ℕ) (tokens : List Token) (labels : List ℕ) (m : Mode) → HasOneForEach m tokens labels → (of : IsOf s c tokens) → take (size of.object) labels ≡ labels
takes-all s c tokens labels Mode.Unlabelled h of = ap (take (size of.object)) h ∙ take-nil (size of.object) ∙ sym h
takes-all s c tokens labels Mode.Labelled h of =
    let sized : size_of tokens ≡ size of.object = ap size_of (sym of.spelled) ∙ size_of-tokens of.object in
    take_all (size of.object) labels (omega arith)

-- In unlabelled mode, labels that are one for each atom as the mode demands are none.
pub none-unlabelled : (m : Mode) (tokens : List Token) (labels : List ℕ) → HasOneForEach m tokens labels → m ≡ Mode.Unlabelled → labels ≡ []
none-unlabelled Mode.Unlabelled tokens labels h e = h
none-unlabelled Mode.Labelled tokens labels h e = absurd (cc)
