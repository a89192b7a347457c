-- What a visit shows of the objects that wait: the first object is of the form that is seen, and the objects right below it wait in its place.
use Rattle.std.proofs.Common.{◌≡◌, ℕ, List, [], ◌∷◌, ◌++◌, replicate, refl, sym, ◌∙◌, ap, subst, Option, Some, None, slice_get, drop}
use Rattle.bz_model.specs.Spec.{Spec, Node, node_at, range_at, node_of, range_of}
use Rattle.bz_model.specs.Object.{Object, Objects, none, more, count, Has, Belongs}
use Rattle.bz_model.specs.Object.Object.{Unit_, Dot, Pick, SeqOf, SetOf, CycOf}
use Rattle.bz_model.specs.Making.{IsCounted}
use Rattle.bz_laws.proofs.Leaves.{class-from}
use Rattle.bz_laws.proofs.Nodes.{ClassBelongs, known, belongs-has, belongs-of}
use Rattle.object_store.specs.declared.token.Token.{Token}
use Rattle.object_store.specs.declared.token.Token.TheVariants as token
use Rattle.object_store.specs.declared.visit.Visit.{Visit}
use Rattle.object_store.specs.declared.visit.Visit.TheVariants as visit
use Rattle.object_store.specs.Tokens.{tokens_of, tokens_all, BelongEach, AreOf}
use Rattle.object_store.specs.Seen.{Seen, IsLeafAt, IsUnionAt, IsListAt, IsNoPick, IsNoCount, nodes_below, tokens_after, parts_at}
use Rattle.object_store.specs.Waiting.{AreWaiting, Shows, ShowsTuple, ShowsLeaf, ShowsPick, ShowsList}
use Rattle.object_store.proofs.NextToken.{tokens_all-joined, each-joined, tuple-of, list-of, all-each-of, form-tokens}

-- The objects that wait are what the tokens are asked for.
pub asked : (s : Spec) (es : List ℕ) (os : Objects) (ts : List Token) → AreWaiting s es os ts → AreOf s es ts
asked s es os ts w = record { objects = os; belong = w.belong; spelled = w.spelled }

-- The first object that waits, and the others.
pub record FirstWaits (s : Spec) (e : ℕ) (es : List ℕ) (os : Objects) (ts : List Token) : Type 0 where
  pub object : Object
  pub others : Objects
  pub whole : os ≡ more object others
  pub belongs : Belongs s e object
  pub belong : BelongEach s es others
  pub spelled : tokens_of object ++ tokens_all others ≡ ts

pub first-waits : (s : Spec) (e : ℕ) (es : List ℕ) (os : Objects) (ts : List Token) → AreWaiting s (e ∷ es) os ts → FirstWaits s e es os ts
first-waits s e es none ts w = elim w.belong [ ]
first-waits s e es (more o ps) ts w = record { object = o; others = ps; whole = refl; belongs = w.belong.0; belong = w.belong.1; spelled = w.spelled }

-- Where nothing waits no token is left.
pub nothing-waits : (s : Spec) (os : Objects) (ts : List Token) → AreWaiting s [] os ts → (os ≡ none) × (ts ≡ [])
nothing-waits s none ts w = (refl, sym w.spelled)
nothing-waits s (more o os) ts w = elim w.belong [ ]

same-later : (t u : Token) (ts us : List Token) → t ∷ ts ≡ u ∷ us → (t ≡ u) × (ts ≡ us)
same-later t u ts us e = (cc, cc)

same-pick : (i j : ℕ) → token.Pick i ≡ token.Pick j → i ≡ j
same-pick i j e = cc

same-number : (i j : ℕ) → token.Count i ≡ token.Count j → i ≡ j
same-number i j e = cc

-- The objects of leaves.
module _ (s : Spec) (e : ℕ) where
  pub only-unit : (word : List ℕ) (o : Object) → Has s (ClassBelongs s) (Some (Node.Empty word)) (range_at s e) o → o ≡ Unit_
  only-unit word Unit_ h = refl
  only-unit word _ h = elim h [ ]

  pub only-dot : (word : List ℕ) (o : Object) → Has s (ClassBelongs s) (Some (Node.Atom word)) (range_at s e) o → o ≡ Dot
  only-dot word Dot h = refl
  only-dot word _ h = elim h [ ]

module _ (s : Spec) (e : ℕ) (es : List ℕ) (os : Objects) (ts : List Token) where
  tuple-waits : (parts : List ℕ) → node_at s e ≡ Some (Node.Product parts) → AreWaiting s (e ∷ es) os ts → ShowsTuple s e es os ts (parts ++ es) ts
  tuple-waits parts at w =
      let f = first-waits s e es os ts w in
      let t = tuple-of s e parts at f.object f.belongs in
      record {
        parts = parts;
        members = t.parts_are;
        others = f.others;
        is_node = at;
        is_tuple = f.whole ∙ ap (λ o. more o f.others) t.form;
        belong = t.belong;
        put = refl;
        no_token = refl;
        waits = record {
          belong = each-joined s parts es t.parts_are f.others t.belong f.belong;
          spelled = tokens_all-joined t.parts_are f.others ∙ ap (λ o. tokens_of o ++ tokens_all f.others) (sym t.form) ∙ f.spelled;
        };
      }

  leaf-waits : (node : List ℕ → Node) (leaf : Object) (t : Token) (k : IsLeafAt node t s e ts) → (tokens_of leaf ≡ t ∷ []) → ((o : Object) → Has s (ClassBelongs s) (Some (node k.word)) (range_at s e) o → o ≡ leaf) → AreWaiting s (e ∷ es) os ts → ShowsLeaf node leaf t s e es os ts es (drop 1 ts)
  leaf-waits node leaf t k one only w =
      let f = first-waits s e es os ts w in
      let is = only f.object (known s (ClassBelongs s) e k.is_node f.object (belongs-has s e f.object f.belongs)) in
      let whole : t ∷ tokens_all f.others ≡ ts = ap (λ us. us ++ tokens_all f.others) (sym one ∙ ap tokens_of (sym is)) ∙ f.spelled in
      let rest : drop 1 ts ≡ tokens_all f.others = ap (drop 1) (sym whole) in
      record {
        word = k.word;
        others = f.others;
        is_node = k.is_node;
        is_leaf = f.whole ∙ ap (λ o. more o f.others) is;
        put = refl;
        is_token = sym whole ∙ ap (λ us. t ∷ us) (sym rest);
        waits = record { belong = f.belong; spelled = sym rest };
      }

  pick-waits : (option part : ℕ) → IsUnionAt s e ts option part → AreWaiting s (e ∷ es) os ts → ShowsPick s e es os ts option part (part ∷ es) (drop 1 ts)
  pick-waits option part k w =
      let f = first-waits s e es os ts w in
      go f.object f.others f.whole (known s (ClassBelongs s) e k.is_node f.object (belongs-has s e f.object f.belongs)) f.belong f.spelled
    where
      pick : (i : ℕ) (o : Object) (ps : Objects) → os ≡ more (Pick i o) ps → i ≡ option → Has s (ClassBelongs s) (node_of s (slice_get k.parts i)) (range_of s (slice_get k.parts i)) o → BelongEach s es ps → tokens_of o ++ tokens_all ps ≡ drop 1 ts → ShowsPick s e es os ts option part (part ∷ es) (drop 1 ts)
      pick i o ps whole same h b spelled =
          let at : slice_get k.parts i ≡ Some part = ap (slice_get k.parts) same ∙ k.is_part in
          let belongs : Belongs s part o = belongs-of s part o (subst (λ n. Has s (ClassBelongs s) (node_of s n) (range_of s n) o) at h) in
          record {
            parts = k.parts;
            object = o;
            others = ps;
            is_node = k.is_node;
            is_part = k.is_part;
            is_pick = whole ∙ ap (λ j. more (Pick j o) ps) same;
            put = refl;
            is_token = k.is_token ∙ ap (λ us. token.Pick option ∷ us) (ap (drop 1) (sym k.is_token));
            waits = record { belong = (belongs, b); spelled = spelled };
          }

      go : (o : Object) (ps : Objects) → os ≡ more o ps → Has s (ClassBelongs s) (Some (Node.Union k.parts)) (range_at s e) o → BelongEach s es ps → tokens_of o ++ tokens_all ps ≡ ts → ShowsPick s e es os ts option part (part ∷ es) (drop 1 ts)
      go (Pick i o) ps whole h b spelled =
          let same = same-later (token.Pick i) (token.Pick option) (tokens_of o ++ tokens_all ps) k.later (spelled ∙ k.is_token) in
          pick i o ps whole (same-pick i option same.0) h b (ap (drop 1) spelled)
      go _ ps whole h b spelled = elim h [ ]

  list-waits : (node : ℕ → Node) (form : Objects → Object) (parts part : ℕ) → IsListAt node s e ts parts part → IsCounted (node part) part form → AreWaiting s (e ∷ es) os ts → ShowsList node form s e es os ts parts part (replicate parts part ++ es) (drop 1 ts)
  list-waits node form parts part k c w =
      let f = first-waits s e es os ts w in
      let l = list-of s (node part) part form (range_at s e) f.object c (known s (ClassBelongs s) e k.is_node f.object (belongs-has s e f.object f.belongs)) in
      let whole : token.Count (count l.parts_are) ∷ (tokens_all l.parts_are ++ tokens_all f.others) ≡ ts = ap (λ us. us ++ tokens_all f.others) (sym (form-tokens s (node part) part form l.parts_are c) ∙ ap tokens_of (sym l.is_form)) ∙ f.spelled in
      let same = same-later (token.Count (count l.parts_are)) (token.Count parts) (tokens_all l.parts_are ++ tokens_all f.others) k.later (whole ∙ k.is_token) in
      let number = same-number (count l.parts_are) parts same.0 in
      let belong : BelongEach s (replicate parts part) l.parts_are = subst (λ n. BelongEach s (replicate n part) l.parts_are) number (all-each-of s part l.parts_are l.have) in
      record {
        members = l.parts_are;
        others = f.others;
        is_node = k.is_node;
        in_range = k.in_range;
        is_list = f.whole ∙ ap (λ o. more o f.others) l.is_form;
        counted = number;
        belong = belong;
        put = refl;
        is_token = k.is_token ∙ ap (λ us. token.Count parts ∷ us) (ap (drop 1) (sym k.is_token));
        waits = record {
          belong = each-joined s (replicate parts part) es l.parts_are f.others belong f.belong;
          spelled = tokens_all-joined l.parts_are f.others ∙ ap (drop 1) whole;
        };
      }

  -- What is seen at a node's first token is what the first object that waits is.
  pub shown : (v : Visit) → Seen s e ts v → AreWaiting s (e ∷ es) os ts → Shows s e es os ts v (nodes_below s e v ++ es) (tokens_after v ts)
  shown (visit.Class body) k w =
      let f = first-waits s e es os ts w in
      record {
        class = k.class;
        is_node = k.is_node;
        is_body = k.is_body;
        put = refl;
        no_token = refl;
        waits = subst (λ ps. AreWaiting s (body.0 ∷ es) ps ts) (sym f.whole) (record { belong = (class-from s e k.class body.0 k.is_node k.is_body f.object f.belongs, f.belong); spelled = f.spelled });
      }
  shown visit.Product k w = subst (λ ps. ShowsTuple s e es os ts (ps ++ es) ts) (sym (ap parts_at k.is_node)) (tuple-waits k.parts k.is_node w)
  shown visit.Empty k w = leaf-waits Node.Empty Unit_ token.Unit k refl (only-unit s e k.word) w
  shown visit.Atom k w = leaf-waits Node.Atom Dot token.Dot k refl (only-dot s e k.word) w
  shown (visit.Union option part) k w = pick-waits option part.0 k w
  shown (visit.Seq parts part) k w = list-waits Node.Seq SeqOf parts part.0 k (refl, refl) w
  shown (visit.Set parts part) k w = list-waits Node.Set SetOf parts part.0 k (refl, refl) w
  shown (visit.Cyc parts part) k w = list-waits Node.Cyc CycOf parts part.0 k (refl, refl) w

-- Where the first token isn't one of the node's, no object is there.
module _ (s : Spec) (e : ℕ) (es : List ℕ) (ts : List Token) where
  waiting : (a : AreOf s (e ∷ es) ts) → FirstWaits s e es a.objects ts
  waiting a = first-waits s e es a.objects ts (record { belong = a.belong; spelled = a.spelled })

  pub no-leaf : (node : List ℕ → Node) (leaf : Object) (t : Token) (word : List ℕ) → node_at s e ≡ Some (node word) → tokens_of leaf ≡ t ∷ [] → ((o : Object) → Has s (ClassBelongs s) (Some (node word)) (range_at s e) o → o ≡ leaf) → ((later : List Token) → ¬ (ts ≡ t ∷ later)) → ¬ (AreOf s (e ∷ es) ts)
  no-leaf node leaf t word at one only never a =
      let f = waiting a in
      let is = only f.object (known s (ClassBelongs s) e at f.object (belongs-has s e f.object f.belongs)) in
      never (tokens_all f.others) (sym f.spelled ∙ ap (λ us. us ++ tokens_all f.others) (ap tokens_of is ∙ one))

  pub no-pick : (parts : List ℕ) → node_at s e ≡ Some (Node.Union parts) → IsNoPick parts ts → ¬ (AreOf s (e ∷ es) ts)
  no-pick parts at never a = let f = waiting a in go f.object (known s (ClassBelongs s) e at f.object (belongs-has s e f.object f.belongs)) f.others f.spelled
    where
      pick : (i : ℕ) (o : Object) (p : Option ℕ) → slice_get parts i ≡ p → Has s (ClassBelongs s) (node_of s p) (range_of s p) o → (ps : Objects) → tokens_of (Pick i o) ++ tokens_all ps ≡ ts → ⊥
      pick i o None q h ps spelled = elim h [ ]
      pick i o (Some part) q h ps spelled = never i part (tokens_of o ++ tokens_all ps) q (sym spelled)

      go : (o : Object) → Has s (ClassBelongs s) (Some (Node.Union parts)) (range_at s e) o → (ps : Objects) → tokens_of o ++ tokens_all ps ≡ ts → ⊥
      go (Pick i o) h ps spelled = pick i o (slice_get parts i) refl h ps spelled
      go _ h ps spelled = elim h [ ]

  pub no-list : (node : Node) (part : ℕ) (form : Objects → Object) → node_at s e ≡ Some node → IsCounted node part form → IsNoCount (range_at s e) ts → ¬ (AreOf s (e ∷ es) ts)
  no-list node part form at c never a =
      let f = waiting a in
      let l = list-of s node part form (range_at s e) f.object c (known s (ClassBelongs s) e at f.object (belongs-has s e f.object f.belongs)) in
      never (count l.parts_are) (tokens_all l.parts_are ++ tokens_all f.others) l.in_range (sym f.spelled ∙ ap (λ us. us ++ tokens_all f.others) (ap tokens_of l.is_form ∙ form-tokens s node part form l.parts_are c))
