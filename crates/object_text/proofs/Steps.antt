-- What a node prints: a class what its body prints, and any other node its own bytes before what its parts print.
use Rattle.std.proofs.Common.{◌≡◌, ℕ, zero, suc, ◌+◌, List, [], ◌∷◌, ◌++◌, map, take, drop, refl, sym, ◌∙◌, ap, subst, append_assoc, append-nil, Option, Some, None, replicate, decimal, codes}
use Rattle.std.specs.Prelude.{slice_get}
use Rattle.bz_model.specs.Spec.{Spec, Mode, Node, node_at, range_at, node_of, range_of, body_of}
use Rattle.bz_model.specs.Object.{Object, Objects, none, more, count, Has, HaveEach, HaveAll, ClassHas}
use Rattle.bz_model.specs.Object.Object.{Unit_, Dot, Pick, Tuple, SeqOf, SetOf, CycOf}
use Rattle.bz_model.specs.Measures.{size, sizes}
use Rattle.bz_model.specs.ObjectText.{Arrangement, PartText, least_label, lesser_label, leaf_text, label_text, spaced, text_by, texts_of_each, texts_of_all, class_text, text_within}
use Rattle.bz_laws.proofs.Nodes.{known}
use Rattle.bz_laws.proofs.Items.{lesser-zero}
use Rattle.class_system.specs.Views.{number}
use Rattle.class_system.specs.declared.ids.ExprId.{ExprId}
use Rattle.object_store.specs.declared.token.Token.{Token}
use Rattle.object_store.specs.declared.token.Token.TheVariants as token
use Rattle.object_store.specs.Tokens.{tokens_of, tokens_all, token_size}
use Rattle.object_text.specs.declared.print_stack.Todo.{Todo}
use Rattle.object_text.specs.declared.print_stack.Todo.TheVariants as todo
use Rattle.object_text.specs.declared.output.Form.{Form}
use Rattle.object_text.specs.declared.output.Form.TheVariants as form
use Rattle.object_text.specs.Output.{OpenParts, Printed, grown, form_opened, arranged, opening_byte, closing_byte, labelled_leaf}
use Rattle.object_text.specs.Todos.{joined_objects, spaced_objects}
use Rattle.object_text.specs.Printing.{PrintsObject, Prints}
use Rattle.object_text.proofs.PartTexts.{after_spaces, spaced-first}
use Rattle.object_text.proofs.LabelParts.{drop-drop, least-parts, each-enough, all-enough, least-all, grown-grown, grown-none}

abbrev canonical : Arrangement
canonical = Arrangement.Canonical

-- The text of an object of a node.
abbrev text_of : Spec → ℕ → ℕ → Object → List ℕ → List ℕ
text_of s h e o l = text_by canonical s (class_text canonical s h) (node_at s e) o l

-- The texts of objects of nodes.
abbrev texts : Spec → ℕ → List ExprId → Objects → List ℕ → List PartText
texts s h es os l = texts_of_each canonical s (class_text canonical s h) (map number es) os l

abbrev texts_all : Spec → ℕ → ℕ → Objects → List ℕ → List PartText
texts_all s h e os l = texts_of_all canonical s (class_text canonical s h) e os l

module _ (s : Spec) (whole : List ℕ) (later : List Todo) where
  -- an object of each node, with a space before each
  spaced-each : (h : ℕ) (es : List ExprId) (os : Objects) → HaveEach s (ClassHas s h) (map number es) os → (rest : List Token) (l : List ℕ) (p : Printed) → Prints s whole later rest (drop (sizes os) l) (grown p (least_label (take (sizes os) l)) (after_spaces (texts s h es os l))) → Prints s whole (spaced_objects es ++ later) (tokens_all os ++ rest) l p
  spaced-each h [] none w rest l p k = subst (Prints s whole later rest l) (sym (grown-none p)) k
  spaced-each h (e ∷ es) (more o os) w rest l p k = record {
    object = o;
    belongs = (h, w.0);
    rest = tokens_all os ++ rest;
    split = append_assoc (tokens_of o) (tokens_all os) rest;
    later =
        let t : List ℕ = text_of s h e.0 o (take (size o) l) in
        let u : List ℕ = after_spaces (texts s h es os (drop (size o) l)) in
        let a : ℕ = least_label (take (size o) l) in
        let b : ℕ = least_label (take (sizes os) (drop (size o) l)) in
        spaced-each h es os w.1 rest (drop (size o) l) (grown (grown p 0 (32 ∷ [])) a t)
        (subst (Prints s whole later rest (drop (sizes os) (drop (size o) l)))
        (ap (λ n. grown p n ((32 ∷ t) ++ u)) (least-parts (size o) (sizes os) l)
        ∙ sym (grown-grown (grown p 0 (32 ∷ [])) a b t u ∙ grown-grown p 0 (lesser_label a b) (32 ∷ []) (t ++ u)))
        (subst (λ m. Prints s whole later rest m (grown p (least_label (take (size o + sizes os) l)) (32 ∷ t ++ u))) (drop-drop (size o) (sizes os) l) k));
  }
  spaced-each h _ _ w rest l p k = elim w [ ]

  -- with a space between each two
  pub joined-each : (h : ℕ) (es : List ExprId) (os : Objects) → HaveEach s (ClassHas s h) (map number es) os → (rest : List Token) (l : List ℕ) (p : Printed) → Prints s whole later rest (drop (sizes os) l) (grown p (least_label (take (sizes os) l)) (spaced (texts s h es os l))) → Prints s whole (joined_objects es ++ later) (tokens_all os ++ rest) l p
  joined-each h [] none w rest l p k = subst (Prints s whole later rest l) (sym (grown-none p)) k
  joined-each h (e ∷ es) (more o os) w rest l p k = record {
    object = o;
    belongs = (h, w.0);
    rest = tokens_all os ++ rest;
    split = append_assoc (tokens_of o) (tokens_all os) rest;
    later =
        let t : List ℕ = text_of s h e.0 o (take (size o) l) in
        let u : List ℕ = after_spaces (texts s h es os (drop (size o) l)) in
        let a : ℕ = least_label (take (size o) l) in
        let b : ℕ = least_label (take (sizes os) (drop (size o) l)) in
        spaced-each h es os w.1 rest (drop (size o) l) (grown p a t)
        (subst (Prints s whole later rest (drop (sizes os) (drop (size o) l)))
        (ap (λ n. grown p n (spaced (texts s h (e ∷ es) (more o os) l))) (least-parts (size o) (sizes os) l)
        ∙ ap (grown p (lesser_label a b)) (spaced-first (record { least = a; text = t }) (texts s h es os (drop (size o) l)))
        ∙ sym (grown-grown p a b t u))
        (subst (λ m. Prints s whole later rest m (grown p (least_label (take (size o + sizes os) l)) (spaced (texts s h (e ∷ es) (more o os) l)))) (drop-drop (size o) (sizes os) l) k));
  }
  joined-each h _ _ w rest l p k = elim w [ ]

  -- as parts of a set or a cycle
  pub parts-all : (h : ℕ) (e : ExprId) (os : Objects) → HaveAll s (ClassHas s h) e.0 os → (rest : List Token) (l : List ℕ) (least : ℕ) (text : List ℕ) (parts : List PartText) (frames : List OpenParts) → Prints s whole later rest (drop (sizes os) l) (record { least = 0; text = []; frames = record { least = least; text = text; parts = parts ++ texts_all s h e.0 os l } ∷ frames }) → Prints s whole (replicate (count os) (todo.Part e) ++ later) (tokens_all os ++ rest) l (record { least = 0; text = []; frames = record { least = least; text = text; parts = parts } ∷ frames })
  parts-all h e none w rest l least text parts frames k = subst (λ ps. Prints s whole later rest l (record { least = 0; text = []; frames = record { least = least; text = text; parts = ps } ∷ frames })) (append-nil parts) k
  parts-all h e (more o os) w rest l least text parts frames k = record {
    object = o;
    belongs = (h, w.0);
    rest = tokens_all os ++ rest;
    split = append_assoc (tokens_of o) (tokens_all os) rest;
    later =
        let part : PartText = record { least = least_label (take (size o) l); text = text_of s h e.0 o (take (size o) l) } in
        parts-all h e os w.1 rest (drop (size o) l) least text (parts ++ part ∷ []) frames
        (subst (λ ps. Prints s whole later rest (drop (sizes os) (drop (size o) l)) (record { least = 0; text = []; frames = record { least = least; text = text; parts = ps } ∷ frames })) (sym (append_assoc parts (part ∷ []) (texts_all s h e.0 os (drop (size o) l))))
        (subst (λ m. Prints s whole later rest m (record { least = 0; text = []; frames = record { least = least; text = text; parts = parts ++ texts_all s h e.0 (more o os) l } ∷ frames })) (drop-drop (size o) (sizes os) l) k));
  }

  -- a class prints what its body prints
  pub of-class : (e c body : ℕ) → node_at s e ≡ Some (Node.Class c) → body_of s c ≡ Some body → (tokens : List Token) (l : List ℕ) (p : Printed) → PrintsObject s e (Prints s whole later) tokens l p → PrintsObject s body (Prints s whole later) tokens l p
  of-class e c body at b tokens l p k = go k.belongs.0 (known s (ClassHas s k.belongs.0) e at k.object k.belongs.1) k.later
    where
      own : List ℕ
      own = take (size k.object) l

      text-at : (h : ℕ) → text_within canonical s h (Some e) k.object own ≡ class_text canonical s h c k.object own
      text-at h = ap (λ n. text_by canonical s (class_text canonical s h) n k.object own) at

      go : (h : ℕ) → ClassHas s h c k.object → Prints s whole later k.rest (drop (size k.object) l) (grown p (least_label own) (text_within canonical s h (Some e) k.object own)) → PrintsObject s body (Prints s whole later) tokens l p
      go zero w m = elim w [ ]
      go (suc h) w m = record {
        object = k.object;
        belongs = (h, subst (λ n. Has s (ClassHas s h) (node_of s n) (range_of s n) k.object) b w);
        rest = k.rest;
        split = k.split;
        later = subst (λ t. Prints s whole later k.rest (drop (size k.object) l) (grown p (least_label own) t)) (text-at (suc h) ∙ ap (λ n. text_by canonical s (class_text canonical s h) (node_of s n) k.object own) b) m;
      }

-- Objects of one node are objects of so many equal nodes.
all-each : (s : Spec) (h : ℕ) (e : ExprId) (os : Objects) (l : List ℕ) → texts_all s h e.0 os l ≡ texts s h (replicate (count os) e) os l
all-each s h e none l = refl
all-each s h e (more o os) l = ap (λ ps. record { least = least_label (take (size o) l); text = text_of s h e.0 o (take (size o) l) } ∷ ps) (all-each s h e os (drop (size o) l))

each-of-all : (s : Spec) (R : ℕ → Object → Type 0) (e : ExprId) (os : Objects) → HaveAll s R e.0 os → HaveEach s R (map number (replicate (count os) e)) os
each-of-all s R e none w = tt
each-of-all s R e (more o os) w = (w.0, each-of-all s R e os w.1)

-- Text between two bytes.
between : (p : Printed) (a : ℕ) (before after : ℕ) (t : List ℕ) → grown p a ((before ∷ []) ++ t ++ (after ∷ [])) ≡ grown (grown (grown p 0 (before ∷ [])) a t) 0 (after ∷ [])
between p a before after t =
    sym (grown-grown (grown p 0 (before ∷ [])) a 0 t (after ∷ []) ∙ grown-grown p 0 (lesser_label a 0) (before ∷ []) (t ++ after ∷ []) ∙ ap (λ n. grown p n ((before ∷ []) ++ (t ++ after ∷ []))) (lesser-zero a))

-- What each kind of node prints.
module _ (s : Spec) (whole : List ℕ) (later : List Todo) (e : ℕ) (l : List ℕ) (p : Printed) where
  -- the state after the object, where the node is known
  abbrev After : ℕ → Option Node → Object → List Token → Type 0
  After h n o rest = Prints s whole later rest (drop (size o) l) (grown p (least_label (take (size o) l)) (text_by canonical s (class_text canonical s h) n o (take (size o) l)))

  at-node : (n : Node) (h : ℕ) (o : Object) (rest : List Token) → node_at s e ≡ Some n → After h (node_at s e) o rest → After h (Some n) o rest
  at-node n h o rest at k = subst (λ m. After h m o rest) at k

  -- a product prints its parts between parentheses
  pub of-product : (es : List ExprId) → node_at s e ≡ Some (Node.Product (map number es)) → (tokens : List Token) → PrintsObject s e (Prints s whole later) tokens l p → Prints s whole (joined_objects es ++ todo.Byte 41 ∷ later) tokens l (grown p 0 (40 ∷ []))
  of-product es at tokens k = go k.object k.split (known s (ClassHas s k.belongs.0) e at k.object k.belongs.1) (at-node (Node.Product (map number es)) k.belongs.0 k.object k.rest at k.later)
    where
      go : (o : Object) → tokens ≡ tokens_of o ++ k.rest → Has s (ClassHas s k.belongs.0) (Some (Node.Product (map number es))) (range_at s e) o → After k.belongs.0 (Some (Node.Product (map number es))) o k.rest → Prints s whole (joined_objects es ++ todo.Byte 41 ∷ later) tokens l (grown p 0 (40 ∷ []))
      go (Tuple os) split w m =
          subst (λ ts. Prints s whole (joined_objects es ++ todo.Byte 41 ∷ later) ts l (grown p 0 (40 ∷ []))) (sym split)
          (joined-each s whole (todo.Byte 41 ∷ later) k.belongs.0 es os w k.rest l (grown p 0 (40 ∷ []))
          (subst (Prints s whole later k.rest (drop (sizes os) l))
          (ap (λ ts. grown p (least_label (take (sizes os) l)) ((40 ∷ []) ++ spaced ts ++ (41 ∷ []))) (each-enough canonical s (class_text canonical s k.belongs.0) (map number es) os l)
          ∙ between p (least_label (take (sizes os) l)) 40 41 (spaced (texts s k.belongs.0 es os l))) m))
      go _ split w m = elim w [ ]

  -- a neutral leaf prints its word, or its letter
  pub of-empty : (word : List ℕ) → node_at s e ≡ Some (Node.Empty word) → (t : Token) (tokens : List Token) → PrintsObject s e (Prints s whole later) (t ∷ tokens) l p → Prints s whole later tokens (drop (token_size t) l) (grown p 0 (leaf_text (codes "E") word))
  of-empty word at t tokens k = go k.object k.split (known s (ClassHas s k.belongs.0) e at k.object k.belongs.1) (at-node (Node.Empty word) k.belongs.0 k.object k.rest at k.later)
    where
      go : (o : Object) → t ∷ tokens ≡ tokens_of o ++ k.rest → Has s (ClassHas s k.belongs.0) (Some (Node.Empty word)) (range_at s e) o → After k.belongs.0 (Some (Node.Empty word)) o k.rest → Prints s whole later tokens (drop (token_size t) l) (grown p 0 (leaf_text (codes "E") word))
      go Unit_ split w m =
          let same : k.rest ≡ tokens = cc in
          let unit : token.Unit ≡ t = cc in
          subst (λ u. Prints s whole later tokens (drop (token_size u) l) (grown p 0 (leaf_text (codes "E") word))) unit
          (subst (λ ts. Prints s whole later ts l (grown p 0 (leaf_text (codes "E") word))) same m)
      go _ split w m = elim w [ ]

  -- an atom prints its word, or its letter, and its label
  leaf-label : (text : List ℕ) (label : Option ℕ) (labels : List ℕ) → slice_get labels 0 ≡ label → (s.mode ≡ Mode.Unlabelled → label ≡ None) → grown p (least_label (take 1 labels)) (text ++ label_text s.mode (take 1 labels)) ≡ labelled_leaf p text label
  leaf-label text None [] is bare = go s.mode
    where
      go : (m : Mode) → grown p 0 (text ++ label_text m []) ≡ grown p 0 text
      go Mode.Unlabelled = ap (grown p 0) (append-nil text)
      go Mode.Labelled = ap (grown p 0) (append-nil text)
  leaf-label text (Some x) [] is bare = absurd (cc)
  leaf-label text None (x ∷ labels) is bare = absurd (cc)
  leaf-label text (Some y) (x ∷ labels) is bare = go s.mode (λ e. bare e)
    where
      same : x ≡ y
      same = cc

      go : (m : Mode) → (m ≡ Mode.Unlabelled → Some y ≡ None) → grown p (lesser_label x 0) (text ++ label_text m (x ∷ [])) ≡ grown (grown p 0 text) y (35 ∷ decimal y)
      go Mode.Unlabelled h = let e = h refl in absurd (cc)
      go Mode.Labelled h = ap (λ n. grown p n (text ++ (35 ∷ decimal x))) (lesser-zero x) ∙ ap (λ n. grown p n (text ++ (35 ∷ decimal n))) same ∙ sym (grown-grown p 0 y text (35 ∷ decimal y))

  pub of-atom : (word : List ℕ) → node_at s e ≡ Some (Node.Atom word) → (label : Option ℕ) → slice_get l 0 ≡ label → (s.mode ≡ Mode.Unlabelled → label ≡ None) → (t : Token) (tokens : List Token) → PrintsObject s e (Prints s whole later) (t ∷ tokens) l p → Prints s whole later tokens (drop (token_size t) l) (labelled_leaf p (leaf_text (codes "Z") word) label)
  of-atom word at label is bare t tokens k = go k.object k.split (known s (ClassHas s k.belongs.0) e at k.object k.belongs.1) (at-node (Node.Atom word) k.belongs.0 k.object k.rest at k.later)
    where
      go : (o : Object) → t ∷ tokens ≡ tokens_of o ++ k.rest → Has s (ClassHas s k.belongs.0) (Some (Node.Atom word)) (range_at s e) o → After k.belongs.0 (Some (Node.Atom word)) o k.rest → Prints s whole later tokens (drop (token_size t) l) (labelled_leaf p (leaf_text (codes "Z") word) label)
      go Dot split w m =
          let same : k.rest ≡ tokens = cc in
          let dot : token.Dot ≡ t = cc in
          subst (λ u. Prints s whole later tokens (drop (token_size u) l) (labelled_leaf p (leaf_text (codes "Z") word) label)) dot
          (subst (λ ts. Prints s whole later ts (drop 1 l) (labelled_leaf p (leaf_text (codes "Z") word) label)) same
          (subst (Prints s whole later k.rest (drop 1 l)) (leaf-label (leaf_text (codes "Z") word) label l is bare) m))
      go _ split w m = elim w [ ]

  -- what a union makes of the first token
  pub record PicksPart (parts : List ℕ) (t : Token) (tokens : List Token) : Type 0 where
    pub option : ℕ
    pub part : ℕ
    pub is_part : slice_get parts option ≡ Some part
    pub is_pick : t ≡ token.Pick option
    pub prints : PrintsObject s part (Prints s whole later) tokens l (grown (grown p 0 (decimal option)) 0 (46 ∷ []))

  -- a union prints the option's number, a dot, and the part
  pub of-union : (parts : List ℕ) → node_at s e ≡ Some (Node.Union parts) → (t : Token) (tokens : List Token) → PrintsObject s e (Prints s whole later) (t ∷ tokens) l p → PicksPart parts t tokens
  of-union parts at t tokens k = go k.object k.split (known s (ClassHas s k.belongs.0) e at k.object k.belongs.1) (at-node (Node.Union parts) k.belongs.0 k.object k.rest at k.later)
    where
      here : (i : ℕ) (o : Object) (n : Option ℕ) → slice_get parts i ≡ n → t ∷ tokens ≡ token.Pick i ∷ tokens_of o ++ k.rest → Has s (ClassHas s k.belongs.0) (node_of s n) (range_of s n) o → Prints s whole later k.rest (drop (size o) l) (grown p (least_label (take (size o) l)) (decimal i ++ (46 ∷ []) ++ text_by canonical s (class_text canonical s k.belongs.0) (node_of s n) o (take (size o) l))) → PicksPart parts t tokens
      here i o (Some part) q split w m = record {
        option = i;
        part = part;
        is_part = q;
        is_pick = cc;
        prints = record {
          object = o;
          belongs = (k.belongs.0, w);
          rest = k.rest;
          split = cc;
          later =
              let a : ℕ = least_label (take (size o) l) in
              let u : List ℕ = text_of s k.belongs.0 part o (take (size o) l) in
              subst (Prints s whole later k.rest (drop (size o) l))
              (sym (ap (λ q. grown q a u) (grown-grown p 0 0 (decimal i) (46 ∷ [])) ∙ grown-grown p 0 a (decimal i ++ 46 ∷ []) u)) m;
        };
      }
      here i o None q split w m = elim w [ ]

      go : (o : Object) → t ∷ tokens ≡ tokens_of o ++ k.rest → Has s (ClassHas s k.belongs.0) (Some (Node.Union parts)) (range_at s e) o → After k.belongs.0 (Some (Node.Union parts)) o k.rest → PicksPart parts t tokens
      go (Pick i o) split w m = here i o (slice_get parts i) refl split w m
      go _ split w m = elim w [ ]

  -- what a sequence makes of the first token
  pub record CountsParts (part : ExprId) (t : Token) (tokens : List Token) : Type 0 where
    pub parts : ℕ
    pub is_count : t ≡ token.Count parts
    pub prints : Prints s whole (joined_objects (replicate parts part) ++ todo.Byte 93 ∷ later) tokens l (grown p 0 (91 ∷ []))

  -- a sequence prints its parts between brackets
  pub of-sequence : (part : ExprId) → node_at s e ≡ Some (Node.Seq part.0) → (t : Token) (tokens : List Token) → PrintsObject s e (Prints s whole later) (t ∷ tokens) l p → CountsParts part t tokens
  of-sequence part at t tokens k = go k.object k.split (known s (ClassHas s k.belongs.0) e at k.object k.belongs.1) (at-node (Node.Seq part.0) k.belongs.0 k.object k.rest at k.later)
    where
      go : (o : Object) → t ∷ tokens ≡ tokens_of o ++ k.rest → Has s (ClassHas s k.belongs.0) (Some (Node.Seq part.0)) (range_at s e) o → After k.belongs.0 (Some (Node.Seq part.0)) o k.rest → CountsParts part t tokens
      go (SeqOf os) split w m = record {
        parts = count os;
        is_count = cc;
        prints =
            let same : tokens ≡ tokens_all os ++ k.rest = cc in
            subst (λ ts. Prints s whole (joined_objects (replicate (count os) part) ++ todo.Byte 93 ∷ later) ts l (grown p 0 (91 ∷ []))) (sym same)
            (joined-each s whole (todo.Byte 93 ∷ later) k.belongs.0 (replicate (count os) part) os (each-of-all s (ClassHas s k.belongs.0) part os w.1) k.rest l (grown p 0 (91 ∷ []))
            (subst (Prints s whole later k.rest (drop (sizes os) l))
            (ap (λ ts. grown p (least_label (take (sizes os) l)) ((91 ∷ []) ++ spaced ts ++ (93 ∷ []))) (all-enough canonical s (class_text canonical s k.belongs.0) part.0 os l ∙ all-each s k.belongs.0 part os l)
            ∙ between p (least_label (take (sizes os) l)) 91 93 (spaced (texts s k.belongs.0 (replicate (count os) part) os l))) m));
      }
      go _ split w m = elim w [ ]

  -- what a set or a cycle makes of the first token
  pub record CountsOpen (f : Form) (part : ExprId) (t : Token) (tokens : List Token) : Type 0 where
    pub parts : ℕ
    pub is_count : t ≡ token.Count parts
    pub prints : Prints s whole (replicate parts (todo.Part part) ++ todo.Close f ∷ later) tokens l (form_opened p)

  open-parts : (f : Form) (part : ExprId) (os : Objects) (h : ℕ) (t : Token) (tokens rest : List Token) → t ∷ tokens ≡ token.Count (count os) ∷ tokens_all os ++ rest → HaveAll s (ClassHas s h) part.0 os → Prints s whole later rest (drop (sizes os) l) (grown p (least_label (take (sizes os) l)) (opening_byte f ∷ spaced (arranged f (texts_all s h part.0 os (take (sizes os) l))) ++ closing_byte f ∷ [])) → CountsOpen f part t tokens
  open-parts f part os h t tokens rest split w m = record {
    parts = count os;
    is_count = cc;
    prints =
        let same : tokens ≡ tokens_all os ++ rest = cc in
        let all : List PartText = texts_all s h part.0 os l in
        subst (λ ts. Prints s whole (replicate (count os) (todo.Part part) ++ todo.Close f ∷ later) ts l (form_opened p)) (sym same)
        (parts-all s whole (todo.Close f ∷ later) h part os w rest l p.least p.text [] p.frames
        (subst (λ n. Prints s whole later rest (drop (sizes os) l) (record { least = lesser_label p.least n; text = p.text ++ (opening_byte f ∷ spaced (arranged f all) ++ closing_byte f ∷ []); frames = p.frames })) (sym (least-all canonical s (class_text canonical s h) part.0 os l))
        (subst (λ ts. Prints s whole later rest (drop (sizes os) l) (grown p (least_label (take (sizes os) l)) (opening_byte f ∷ spaced (arranged f ts) ++ closing_byte f ∷ []))) (all-enough canonical s (class_text canonical s h) part.0 os l) m)));
  }

  pub of-set : (part : ExprId) → node_at s e ≡ Some (Node.Set part.0) → (t : Token) (tokens : List Token) → PrintsObject s e (Prints s whole later) (t ∷ tokens) l p → CountsOpen form.Set part t tokens
  of-set part at t tokens k = go k.object k.split (known s (ClassHas s k.belongs.0) e at k.object k.belongs.1) (at-node (Node.Set part.0) k.belongs.0 k.object k.rest at k.later)
    where
      go : (o : Object) → t ∷ tokens ≡ tokens_of o ++ k.rest → Has s (ClassHas s k.belongs.0) (Some (Node.Set part.0)) (range_at s e) o → After k.belongs.0 (Some (Node.Set part.0)) o k.rest → CountsOpen form.Set part t tokens
      go (SetOf os) split w m = open-parts form.Set part os k.belongs.0 t tokens k.rest split w.1 m
      go _ split w m = elim w [ ]

  pub of-cycle : (part : ExprId) → node_at s e ≡ Some (Node.Cyc part.0) → (t : Token) (tokens : List Token) → PrintsObject s e (Prints s whole later) (t ∷ tokens) l p → CountsOpen form.Cycle part t tokens
  of-cycle part at t tokens k = go k.object k.split (known s (ClassHas s k.belongs.0) e at k.object k.belongs.1) (at-node (Node.Cyc part.0) k.belongs.0 k.object k.rest at k.later)
    where
      go : (o : Object) → t ∷ tokens ≡ tokens_of o ++ k.rest → Has s (ClassHas s k.belongs.0) (Some (Node.Cyc part.0)) (range_at s e) o → After k.belongs.0 (Some (Node.Cyc part.0)) o k.rest → CountsOpen form.Cycle part t tokens
      go (CycOf os) split w m = open-parts form.Cycle part os k.belongs.0 t tokens k.rest split w.1 m
      go _ split w m = elim w [ ]
