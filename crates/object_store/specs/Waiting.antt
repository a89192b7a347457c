-- A walk over the tokens of objects, from node to node in preorder: what waits, and what a visit
-- shows of it.
use Rattle.std.specs.Prelude.{◌≡◌, ℕ, List, ◌∷◌, ◌++◌, Some, slice_get, replicate}
use Rattle.bz_model.specs.Spec.{Spec, Node, node_at, range_at, body_of, IsInRange}
use Rattle.bz_model.specs.Object.{Object, Objects, none, more, count}
use Rattle.bz_model.specs.Object.Object.{Unit_, Dot, Pick, Tuple, SeqOf, SetOf, CycOf}
use Rattle.object_store.specs.declared.token.Token.{Token}
use Rattle.object_store.specs.declared.token.Token.TheVariants as token
use Rattle.object_store.specs.declared.visit.Visit.{Visit}
use Rattle.object_store.specs.declared.visit.Visit.TheVariants as visit
use Rattle.object_store.specs.Tokens.{tokens_all, BelongEach}

-- The objects of two lists, one after the other.
abbrev pub joined : Objects → Objects → Objects
joined none ps = ps
joined (more o os) ps = more o (joined os ps)

-- One object of each of these nodes waits, and the tokens are theirs, one object after the other.
pub record AreWaiting (s : Spec) (es : List ℕ) (os : Objects) (tokens : List Token) : Type 0 where
  pub belong : BelongEach s es os
  pub spelled : tokens_all os ≡ tokens

-- A class's body waits in its place, for the same objects and the same tokens.
pub record ShowsClass (s : Spec) (e : ℕ) (es : List ℕ) (os : Objects) (ts : List Token) (body : ℕ)
    (fs : List ℕ) (us : List Token) : Type 0 where
  pub class : ℕ
  pub is_node : node_at s e ≡ Some (Node.Class class)
  pub is_body : body_of s class ≡ Some body
  pub put : fs ≡ body ∷ es
  pub no_token : us ≡ ts
  pub waits : AreWaiting s fs os us

-- The first object is a tuple of one object of each part, and the parts wait in the product's
-- place.
pub record ShowsTuple (s : Spec) (e : ℕ) (es : List ℕ) (os : Objects) (ts : List Token)
    (fs : List ℕ) (us : List Token) : Type 0 where
  pub parts : List ℕ
  pub members : Objects
  pub others : Objects
  pub is_node : node_at s e ≡ Some (Node.Product parts)
  pub is_tuple : os ≡ more (Tuple members) others
  pub belong : BelongEach s parts members
  pub put : fs ≡ parts ++ es
  pub no_token : us ≡ ts
  pub waits : AreWaiting s fs (joined members others) us

-- The first object is a leaf, of this kind of node and with this token.
pub record ShowsLeaf (node : List ℕ → Node) (leaf : Object) (t : Token) (s : Spec) (e : ℕ)
    (es : List ℕ) (os : Objects) (ts : List Token) (fs : List ℕ) (us : List Token) : Type 0 where
  pub word : List ℕ
  pub others : Objects
  pub is_node : node_at s e ≡ Some (node word)
  pub is_leaf : os ≡ more leaf others
  pub put : fs ≡ es
  pub is_token : ts ≡ t ∷ us
  pub waits : AreWaiting s fs others us

-- The first object is the pick of this part, which waits in the union's place.
pub record ShowsPick (s : Spec) (e : ℕ) (es : List ℕ) (os : Objects) (ts : List Token)
    (option part : ℕ) (fs : List ℕ) (us : List Token) : Type 0 where
  pub parts : List ℕ
  pub object : Object
  pub others : Objects
  pub is_node : node_at s e ≡ Some (Node.Union parts)
  pub is_part : slice_get parts option ≡ Some part
  pub is_pick : os ≡ more (Pick option object) others
  pub put : fs ≡ part ∷ es
  pub is_token : ts ≡ token.Pick option ∷ us
  pub waits : AreWaiting s fs (more object others) us

-- The first object is a list of so many objects of the part, in this form, and the part waits so
-- many times in the node's place.
pub record ShowsList (node : ℕ → Node) (form : Objects → Object) (s : Spec) (e : ℕ) (es : List ℕ)
    (os : Objects) (ts : List Token) (parts part : ℕ) (fs : List ℕ) (us : List Token) : Type 0 where
  pub members : Objects
  pub others : Objects
  pub is_node : node_at s e ≡ Some (node part)
  pub in_range : IsInRange parts (range_at s e)
  pub is_list : os ≡ more (form members) others
  pub counted : count members ≡ parts
  pub belong : BelongEach s (replicate parts part) members
  pub put : fs ≡ replicate parts part ++ es
  pub is_token : ts ≡ token.Count parts ∷ us
  pub waits : AreWaiting s fs (joined members others) us

-- What a visit of node e shows, where it was the first node that waited, before the nodes es, with
-- objects os and tokens ts: the nodes fs wait afterwards, and the tokens us are left.
abbrev pub Shows : Spec → (e : ℕ) → (es : List ℕ) → (os : Objects) → (ts : List Token) → Visit
    → (fs : List ℕ) → (us : List Token) → Type 0
Shows s e es os ts (visit.Class body) fs us = ShowsClass s e es os ts body.0 fs us
Shows s e es os ts visit.Product fs us = ShowsTuple s e es os ts fs us
Shows s e es os ts visit.Empty fs us = ShowsLeaf Node.Empty Unit_ token.Unit s e es os ts fs us
Shows s e es os ts visit.Atom fs us = ShowsLeaf Node.Atom Dot token.Dot s e es os ts fs us
Shows s e es os ts (visit.Union option part) fs us = ShowsPick s e es os ts option part.0 fs us
Shows s e es os ts (visit.Seq parts part) fs us =
    ShowsList Node.Seq SeqOf s e es os ts parts part.0 fs us
Shows s e es os ts (visit.Set parts part) fs us =
    ShowsList Node.Set SetOf s e es os ts parts part.0 fs us
Shows s e es os ts (visit.Cyc parts part) fs us =
    ShowsList Node.Cyc CycOf s e es os ts parts part.0 fs us
