-- What the first of several nodes makes of the tokens: a class and a product stand for their body and their parts, and any other node takes one token.
use Rattle.std.proofs.Common.{◌≡◌, ◌↔◌, ℕ, zero, suc, List, [], ◌∷◌, ◌++◌, refl, sym, ◌∙◌, ap, subst, append_assoc, Option, Some, None, replicate}
use Rattle.std.specs.Prelude.{slice_get}
use Rattle.bz_model.specs.Spec.{Spec, Node, Range, node_at, range_at, node_of, range_of, body_of, IsInRange}
use Rattle.bz_model.specs.Object.{Object, Objects, none, more, count, Has, HaveEach, HaveAll, Belongs}
use Rattle.bz_model.specs.Object.Object.{Unit_, Dot, Pick, Tuple, SeqOf, SetOf, CycOf}
use Rattle.bz_model.specs.Making.{IsCounted}
use Rattle.bz_laws.proofs.Leaves.{class-into, class-from}
use Rattle.bz_laws.proofs.Nodes.{ClassBelongs, known, unknown, belongs-has, belongs-of}
use Rattle.object_store.specs.declared.token.Token.{Token}
use Rattle.object_store.specs.declared.token.Token.TheVariants as token
use Rattle.object_store.specs.Tokens.{tokens_of, tokens_all, BelongEach, AreOf}
pub use Rattle.object_store.specs.Waiting.{joined}

-- The tokens of two lists of objects put together are those of the first, followed by those of the
-- second.
pub tokens_all-joined : (os ps : Objects) → tokens_all (joined os ps) ≡ tokens_all os ++ tokens_all ps
tokens_all-joined none ps = refl
tokens_all-joined (more o os) ps = ap (λ ts. tokens_of o ++ ts) (tokens_all-joined os ps) ∙ sym (append_assoc (tokens_of o) (tokens_all os) (tokens_all ps))

module _ (s : Spec) where
  pub each-has : (es : List ℕ) (os : Objects) → BelongEach s es os → HaveEach s (ClassBelongs s) es os
  each-has [] none h = tt
  each-has (e ∷ es) (more o os) h = (belongs-has s e o h.0, each-has es os h.1)
  each-has _ _ h = elim h [ ]

  pub each-of : (es : List ℕ) (os : Objects) → HaveEach s (ClassBelongs s) es os → BelongEach s es os
  each-of [] none h = tt
  each-of (e ∷ es) (more o os) h = (belongs-of s e o h.0, each-of es os h.1)
  each-of _ _ h = elim h [ ]

  pub each-joined : (es fs : List ℕ) (os ps : Objects) → BelongEach s es os → BelongEach s fs ps → BelongEach s (es ++ fs) (joined os ps)
  each-joined [] fs none ps h k = k
  each-joined (e ∷ es) fs (more o os) ps h k = (h.0, each-joined es fs os ps h.1 k)
  each-joined [] fs (more o os) ps h k = elim h [ ]
  each-joined (e ∷ es) fs none ps h k = elim h [ ]

  -- the first objects of a list and the others
  pub record Parted (es fs : List ℕ) (os : Objects) : Type 0 where
    pub front : Objects
    pub back : Objects
    pub front_belong : BelongEach s es front
    pub back_belong : BelongEach s fs back
    pub whole : os ≡ joined front back

  pub parted : (es fs : List ℕ) (os : Objects) → BelongEach s (es ++ fs) os → Parted es fs os
  parted [] fs os h = record { front = none; back = os; front_belong = tt; back_belong = h; whole = refl }
  parted (e ∷ es) fs (more o os) h =
      let r = parted es fs os h.1 in
      record { front = more o r.front; back = r.back; front_belong = (h.0, r.front_belong); back_belong = r.back_belong; whole = ap (more o) r.whole }
  parted (e ∷ es) fs none h = elim h [ ]

  -- the first object of several
  pub record First (e : ℕ) (es : List ℕ) (ts : List Token) : Type 0 where
    pub object : Object
    pub others : Objects
    pub belongs : Belongs s e object
    pub belong : BelongEach s es others
    pub spelled : tokens_of object ++ tokens_all others ≡ ts

  pub first : (e : ℕ) (es : List ℕ) (ts : List Token) → AreOf s (e ∷ es) ts → First e es ts
  first e es ts h = go h.objects h.belong h.spelled
    where
      go : (os : Objects) → BelongEach s (e ∷ es) os → tokens_all os ≡ ts → First e es ts
      go none b q = elim b [ ]
      go (more o os) b q = record { object = o; others = os; belongs = b.0; belong = b.1; spelled = q }

  pub of-first : (e : ℕ) (es : List ℕ) (ts : List Token) → First e es ts → AreOf s (e ∷ es) ts
  of-first e es ts h = record { objects = more h.object h.others; belong = (h.belongs, h.belong); spelled = h.spelled }

  -- nothing is left where nothing is pending
  pub of-none : (ts : List Token) → AreOf s [] ts ↔ (ts ≡ [])
  of-none ts = (λ h. go h.objects h.belong h.spelled, λ e. record { objects = none; belong = tt; spelled = sym e })
    where
      go : (os : Objects) → BelongEach s [] os → tokens_all os ≡ ts → ts ≡ []
      go none b q = sym q
      go (more o os) b q = elim b [ ]

  -- a class stands for its body
  pub of-class : (e c body : ℕ) (es : List ℕ) → node_at s e ≡ Some (Node.Class c) → body_of s c ≡ Some body → (ts : List Token) → AreOf s (e ∷ es) ts ↔ AreOf s (body ∷ es) ts
  of-class e c body es at b ts = (
    λ h. let r = first e es ts h in of-first body es ts (record { object = r.object; others = r.others; belongs = class-from s e c body at b r.object r.belongs; belong = r.belong; spelled = r.spelled }),
    λ h. let r = first body es ts h in of-first e es ts (record { object = r.object; others = r.others; belongs = class-into s e c body at b r.object r.belongs; belong = r.belong; spelled = r.spelled }),
  )

  -- a product's object is a tuple of one object of each part
  pub record IsTuple (parts : List ℕ) (o : Object) : Type 0 where
    pub parts_are : Objects
    pub form : o ≡ Tuple parts_are
    pub belong : BelongEach s parts parts_are

  pub tuple-of : (e : ℕ) (parts : List ℕ) → node_at s e ≡ Some (Node.Product parts) → (o : Object) → Belongs s e o → IsTuple parts o
  tuple-of e parts at o b = go o (known s (ClassBelongs s) e at o (belongs-has s e o b))
    where
      go : (o : Object) → Has s (ClassBelongs s) (Some (Node.Product parts)) (range_at s e) o → IsTuple parts o
      go (Tuple os) h = record { parts_are = os; form = refl; belong = each-of parts os h }
      go _ h = elim h [ ]

  pub of-tuple : (e : ℕ) (parts : List ℕ) → node_at s e ≡ Some (Node.Product parts) → (os : Objects) → BelongEach s parts os → Belongs s e (Tuple os)
  of-tuple e parts at os b = belongs-of s e (Tuple os) (unknown s (ClassBelongs s) e at (Tuple os) (each-has parts os b))

  -- a product stands for its parts
  pub of-product : (e : ℕ) (parts es : List ℕ) → node_at s e ≡ Some (Node.Product parts) → (ts : List Token) → AreOf s (e ∷ es) ts ↔ AreOf s (parts ++ es) ts
  of-product e parts es at ts = (to, from)
    where
      to : AreOf s (e ∷ es) ts → AreOf s (parts ++ es) ts
      to h =
          let r = first e es ts h in
          let t = tuple-of e parts at r.object r.belongs in
          record {
            objects = joined t.parts_are r.others;
            belong = each-joined parts es t.parts_are r.others t.belong r.belong;
            spelled = tokens_all-joined t.parts_are r.others ∙ ap (λ o. tokens_of o ++ tokens_all r.others) (sym t.form) ∙ r.spelled;
          }

      from : AreOf s (parts ++ es) ts → AreOf s (e ∷ es) ts
      from h =
          let r = parted parts es h.objects h.belong in
          of-first e es ts (record { object = Tuple r.front; others = r.back; belongs = of-tuple e parts at r.front r.front_belong; belong = r.back_belong; spelled = sym (tokens_all-joined r.front r.back) ∙ ap tokens_all (sym r.whole) ∙ h.spelled })

  -- a neutral leaf takes the token of a neutral object
  pub of-empty : (e : ℕ) (word : List ℕ) (es : List ℕ) → node_at s e ≡ Some (Node.Empty word) → (t : Token) (ts : List Token) → AreOf s (e ∷ es) (t ∷ ts) ↔ ((t ≡ token.Unit) × AreOf s es ts)
  of-empty e word es at t ts = (to, from)
    where
      unit : (o : Object) → Has s (ClassBelongs s) (Some (Node.Empty word)) (range_at s e) o → o ≡ Unit_
      unit Unit_ h = refl
      unit _ h = elim h [ ]

      to : AreOf s (e ∷ es) (t ∷ ts) → (t ≡ token.Unit) × AreOf s es ts
      to h =
          let r = first e es (t ∷ ts) h in
          let o = unit r.object (known s (ClassBelongs s) e at r.object (belongs-has s e r.object r.belongs)) in
          let q : token.Unit ∷ tokens_all r.others ≡ t ∷ ts = ap (λ p. tokens_of p ++ tokens_all r.others) (sym o) ∙ r.spelled in
          (cc, record { objects = r.others; belong = r.belong; spelled = cc })

      from : (t ≡ token.Unit) × AreOf s es ts → AreOf s (e ∷ es) (t ∷ ts)
      from h =
          let spelled = h.1.spelled in
          let is_unit = h.0 in
          of-first e es (t ∷ ts) (record { object = Unit_; others = h.1.objects; belongs = belongs-of s e Unit_ (unknown s (ClassBelongs s) e at Unit_ tt); belong = h.1.belong; spelled = cc })

  -- an atom takes a dot
  pub of-atom : (e : ℕ) (word : List ℕ) (es : List ℕ) → node_at s e ≡ Some (Node.Atom word) → (t : Token) (ts : List Token) → AreOf s (e ∷ es) (t ∷ ts) ↔ ((t ≡ token.Dot) × AreOf s es ts)
  of-atom e word es at t ts = (to, from)
    where
      dot : (o : Object) → Has s (ClassBelongs s) (Some (Node.Atom word)) (range_at s e) o → o ≡ Dot
      dot Dot h = refl
      dot _ h = elim h [ ]

      to : AreOf s (e ∷ es) (t ∷ ts) → (t ≡ token.Dot) × AreOf s es ts
      to h =
          let r = first e es (t ∷ ts) h in
          let o = dot r.object (known s (ClassBelongs s) e at r.object (belongs-has s e r.object r.belongs)) in
          let q : token.Dot ∷ tokens_all r.others ≡ t ∷ ts = ap (λ p. tokens_of p ++ tokens_all r.others) (sym o) ∙ r.spelled in
          (cc, record { objects = r.others; belong = r.belong; spelled = cc })

      from : (t ≡ token.Dot) × AreOf s es ts → AreOf s (e ∷ es) (t ∷ ts)
      from h =
          let spelled = h.1.spelled in
          let is_dot = h.0 in
          of-first e es (t ∷ ts) (record { object = Dot; others = h.1.objects; belongs = belongs-of s e Dot (unknown s (ClassBelongs s) e at Dot tt); belong = h.1.belong; spelled = cc })

  -- a union takes the option of one of its parts, and the part stands in its place
  pub record IsPick (parts : List ℕ) (es : List ℕ) (t : Token) (ts : List Token) : Type 0 where
    pub option : ℕ
    pub part : ℕ
    pub is_part : slice_get parts option ≡ Some part
    pub is_pick : t ≡ token.Pick option
    pub later : AreOf s (part ∷ es) ts

  pub of-union : (e : ℕ) (parts es : List ℕ) → node_at s e ≡ Some (Node.Union parts) → (t : Token) (ts : List Token) → AreOf s (e ∷ es) (t ∷ ts) ↔ IsPick parts es t ts
  of-union e parts es at t ts = (to, from)
    where
      here : (i : ℕ) (o : Object) (n : Option ℕ) → slice_get parts i ≡ n → Has s (ClassBelongs s) (node_of s n) (range_of s n) o → (others : Objects) → BelongEach s es others → tokens_of (Pick i o) ++ tokens_all others ≡ t ∷ ts → IsPick parts es t ts
      here i o (Some part) q h others b spelled = record { option = i; part = part; is_part = q; is_pick = cc; later = of-first part es ts (record { object = o; others = others; belongs = belongs-of s part o h; belong = b; spelled = cc }) }
      here i o None q h others b spelled = elim h [ ]

      go : (o : Object) → Has s (ClassBelongs s) (Some (Node.Union parts)) (range_at s e) o → (others : Objects) → BelongEach s es others → tokens_of o ++ tokens_all others ≡ t ∷ ts → IsPick parts es t ts
      go (Pick i o) h others b q = here i o (slice_get parts i) refl h others b q
      go _ h others b q = elim h [ ]

      to : AreOf s (e ∷ es) (t ∷ ts) → IsPick parts es t ts
      to h =
          let r = first e es (t ∷ ts) h in
          go r.object (known s (ClassBelongs s) e at r.object (belongs-has s e r.object r.belongs)) r.others r.belong r.spelled

      from : IsPick parts es t ts → AreOf s (e ∷ es) (t ∷ ts)
      from h =
          let r = first h.part es ts h.later in
          let has : Has s (ClassBelongs s) (node_of s (slice_get parts h.option)) (range_of s (slice_get parts h.option)) r.object = subst (λ n. Has s (ClassBelongs s) (node_of s n) (range_of s n) r.object) (sym h.is_part) (belongs-has s h.part r.object r.belongs) in
          let spelled = r.spelled in
          let is_pick = h.is_pick in
          of-first e es (t ∷ ts) (record { object = Pick h.option r.object; others = r.others; belongs = belongs-of s e (Pick h.option r.object) (unknown s (ClassBelongs s) e at (Pick h.option r.object) has); belong = r.belong; spelled = cc })

  -- a sequence, set or cycle takes a number of parts of its range, and the part stands in its place so many times
  pub record IsCount (e part : ℕ) (es : List ℕ) (t : Token) (ts : List Token) : Type 0 where
    pub parts : ℕ
    pub in_range : IsInRange parts (range_at s e)
    pub is_count : t ≡ token.Count parts
    pub later : AreOf s (replicate parts part ++ es) ts

  pub all-each-of : (part : ℕ) (os : Objects) → HaveAll s (ClassBelongs s) part os → BelongEach s (replicate (count os) part) os
  all-each-of part none h = tt
  all-each-of part (more o os) h = (belongs-of s part o h.0, all-each-of part os h.1)

  pub each-all-has : (part k : ℕ) (os : Objects) → BelongEach s (replicate k part) os → HaveAll s (ClassBelongs s) part os × (count os ≡ k)
  each-all-has part zero none h = (tt, refl)
  each-all-has part (suc k) (more o os) h = let r = each-all-has part k os h.1 in ((belongs-has s part o h.0, r.0), ap suc r.1)
  each-all-has part zero (more o os) h = elim h [ ]
  each-all-has part (suc k) none h = elim h [ ]

  -- an object of a counted node is its form of a list of objects of the part
  pub record IsList (part : ℕ) (form : Objects → Object) (r : Option Range) (o : Object) : Type 0 where
    pub parts_are : Objects
    pub is_form : o ≡ form parts_are
    pub in_range : IsInRange (count parts_are) r
    pub have : HaveAll s (ClassBelongs s) part parts_are

  pub list-of : (node : Node) (part : ℕ) (form : Objects → Object) (r : Option Range) (o : Object) → IsCounted node part form → Has s (ClassBelongs s) (Some node) r o → IsList part form r o
  list-of (Node.Seq p) part form r (SeqOf os) c h = record { parts_are = os; is_form = ap (λ f. f os) (sym c.1); in_range = h.0; have = subst (λ q. HaveAll s (ClassBelongs s) q os) c.0 h.1 }
  list-of (Node.Set p) part form r (SetOf os) c h = record { parts_are = os; is_form = ap (λ f. f os) (sym c.1); in_range = h.0; have = subst (λ q. HaveAll s (ClassBelongs s) q os) c.0 h.1 }
  list-of (Node.Cyc p) part form r (CycOf os) c h = record { parts_are = os; is_form = ap (λ f. f os) (sym c.1); in_range = h.0; have = subst (λ q. HaveAll s (ClassBelongs s) q os) c.0 h.1 }
  list-of (Node.Seq p) part form r _ c h = elim h [ ]
  list-of (Node.Set p) part form r _ c h = elim h [ ]
  list-of (Node.Cyc p) part form r _ c h = elim h [ ]
  list-of _ part form r o c h = elim c [ ]

  pub of-list : (node : Node) (part : ℕ) (form : Objects → Object) (r : Option Range) (os : Objects) → IsCounted node part form → IsInRange (count os) r → HaveAll s (ClassBelongs s) part os → Has s (ClassBelongs s) (Some node) r (form os)
  of-list (Node.Seq p) part form r os c i h = subst (λ f. Has s (ClassBelongs s) (Some (Node.Seq p)) r (f os)) (sym c.1) (i, subst (λ q. HaveAll s (ClassBelongs s) q os) (sym c.0) h)
  of-list (Node.Set p) part form r os c i h = subst (λ f. Has s (ClassBelongs s) (Some (Node.Set p)) r (f os)) (sym c.1) (i, subst (λ q. HaveAll s (ClassBelongs s) q os) (sym c.0) h)
  of-list (Node.Cyc p) part form r os c i h = subst (λ f. Has s (ClassBelongs s) (Some (Node.Cyc p)) r (f os)) (sym c.1) (i, subst (λ q. HaveAll s (ClassBelongs s) q os) (sym c.0) h)
  of-list _ part form r os c i h = elim c [ ]

  pub form-tokens : (node : Node) (part : ℕ) (form : Objects → Object) (os : Objects) → IsCounted node part form → tokens_of (form os) ≡ token.Count (count os) ∷ tokens_all os
  form-tokens (Node.Seq p) part form os c = ap (λ f. tokens_of (f os)) c.1
  form-tokens (Node.Set p) part form os c = ap (λ f. tokens_of (f os)) c.1
  form-tokens (Node.Cyc p) part form os c = ap (λ f. tokens_of (f os)) c.1
  form-tokens _ part form os c = elim c [ ]

  pub of-counted : (e part : ℕ) (node : Node) (form : Objects → Object) (es : List ℕ) → node_at s e ≡ Some node → IsCounted node part form → (t : Token) (ts : List Token) → AreOf s (e ∷ es) (t ∷ ts) ↔ IsCount e part es t ts
  of-counted e part node form es at c t ts = (to, from)
    where
      to : AreOf s (e ∷ es) (t ∷ ts) → IsCount e part es t ts
      to h =
          let r = first e es (t ∷ ts) h in
          let l = list-of node part form (range_at s e) r.object c (known s (ClassBelongs s) e at r.object (belongs-has s e r.object r.belongs)) in
          let q : token.Count (count l.parts_are) ∷ tokens_all l.parts_are ++ tokens_all r.others ≡ t ∷ ts = ap (λ us. us ++ tokens_all r.others) (sym (form-tokens node part form l.parts_are c) ∙ ap tokens_of (sym l.is_form)) ∙ r.spelled in
          record {
            parts = count l.parts_are;
            in_range = l.in_range;
            is_count = cc;
            later = record { objects = joined l.parts_are r.others; belong = each-joined (replicate (count l.parts_are) part) es l.parts_are r.others (all-each-of part l.parts_are l.have) r.belong; spelled = tokens_all-joined l.parts_are r.others ∙ cc };
          }

      from : IsCount e part es t ts → AreOf s (e ∷ es) (t ∷ ts)
      from h =
          let r = parted (replicate h.parts part) es h.later.objects h.later.belong in
          let l = each-all-has part h.parts r.front r.front_belong in
          let has = of-list node part form (range_at s e) r.front c (subst (λ k. IsInRange k (range_at s e)) (sym l.1) h.in_range) l.0 in
          let spelled : tokens_all r.front ++ tokens_all r.back ≡ ts = sym (tokens_all-joined r.front r.back) ∙ ap tokens_all (sym r.whole) ∙ h.later.spelled in
          let is_count = h.is_count in
          let number = l.1 in
          of-first e es (t ∷ ts) (record { object = form r.front; others = r.back; belongs = belongs-of s e (form r.front) (unknown s (ClassBelongs s) e at (form r.front) has); belong = r.back_belong; spelled = ap (λ us. us ++ tokens_all r.back) (form-tokens node part form r.front c) ∙ cc })
