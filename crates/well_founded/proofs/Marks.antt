-- What one computed round says: a node's mark is its rule at the marks of its parts and of its classes.
use Rattle.std.proofs.Common.{◌≡◌, ℕ, zero, suc, ◌⊎◌, inl, inr, List, [], ◌∷◌, Bool, true, false, ◌||◌, ◌&&◌, eqb, Some, refl, subst}
use Rattle.std.specs.List.{slice_get, list_any, list_all}
use Rattle.std.proofs.lemmas.Bool.Decides.{eqb_tells}
use Rattle.bz_model.specs.Spec.{Node, Range}
use Rattle.well_founded.specs.Foundedness.{IsPartOfNode}
use Rattle.well_founded.specs.Marking.{IsMarked}
use Rattle.well_founded.specs.EmptyObjects.{answer_at, node_has_empty, counted_has_empty}

-- A truth value is true or false.
pub two : (b : Bool) → (b ≡ true) ⊎ (b ≡ false)
two true = inl refl
two false = inr refl

any-later : (a b : Bool) → (a || b) ≡ true → a ≡ false → b ≡ true
any-later true b h e = absurd (cc)
any-later false b h e = h

or-right : (a b : Bool) → b ≡ true → (a || b) ≡ true
or-right true b h = refl
or-right false b h = h

or-left : (a b : Bool) → a ≡ true → (a || b) ≡ true
or-left true b h = refl
or-left false b h = absurd (cc)

and-right : (a b : Bool) → (a && b) ≡ true → b ≡ true
and-right true b h = h
and-right false b h = absurd (cc)

and-left : (a b : Bool) → (a && b) ≡ true → a ≡ true
and-left true b h = refl
and-left false b h = absurd (cc)

and-both : (a b : Bool) → a ≡ true → b ≡ true → (a && b) ≡ true
and-both true b h k = k
and-both false b h k = absurd (cc)

pub record Holding (p : ℕ → Bool) (xs : List ℕ) : Type 0 where
  pub i : ℕ
  pub part : ℕ
  pub is : slice_get xs i ≡ Some part
  pub passes : p part ≡ true

-- Where the test for some element of a list says yes, an element at some place passes.
pub any-down : (p : ℕ → Bool) (xs : List ℕ) → list_any p xs ≡ true → Holding p xs
any-down p [] h = absurd (cc)
any-down p (x ∷ xs) h = elim (two (p x)) [
  | inl e ↦ record { i = 0; part = x; is = refl; passes = e }
  | inr e ↦ let k = any-down p xs (any-later (p x) (list_any p xs) h e) in record { i = suc k.i; part = k.part; is = k.is; passes = k.passes }
]

-- Where the element at some place of a list passes, the test for some element says yes.
pub any-up : (p : ℕ → Bool) (xs : List ℕ) (i part : ℕ) → slice_get xs i ≡ Some part → p part ≡ true → list_any p xs ≡ true
any-up p [] i part g h = absurd (cc)
any-up p (x ∷ xs) zero part g h = let same : part ≡ x = cc in or-left (p x) (list_any p xs) (subst (λ y. p y ≡ true) same h)
any-up p (x ∷ xs) (suc i) part g h = or-right (p x) (list_any p xs) (any-up p xs i part g h)

-- Where the test of all elements of a list says yes, each element passes.
pub all-down : (p : ℕ → Bool) (xs : List ℕ) → list_all p xs ≡ true → (i part : ℕ) → slice_get xs i ≡ Some part → p part ≡ true
all-down p [] h i part g = absurd (cc)
all-down p (x ∷ xs) h zero part g = let same : x ≡ part = cc in subst (λ y. p y ≡ true) same (and-left (p x) (list_all p xs) h)
all-down p (x ∷ xs) h (suc i) part g = all-down p xs (and-right (p x) (list_all p xs) h) i part g

-- Where each element of a list passes, the test of all elements says yes.
pub all-up : (p : ℕ → Bool) (xs : List ℕ) → ((i part : ℕ) → slice_get xs i ≡ Some part → p part ≡ true) → list_all p xs ≡ true
all-up p [] f = refl
all-up p (x ∷ xs) f = and-both (p x) (list_all p xs) (f 0 x refl) (all-up p xs (λ i part g. f (suc i) part g))

-- The rule at a node, where K holds of the classes that have an object of size 0, and P of the nodes.
abbrev pub Holds : (ℕ → Type 0) → (ℕ → Type 0) → Range → Node → Type 0
Holds K P r (Node.Empty word) = Unit {0}
Holds K P r (Node.Atom word) = ⊥
Holds K P r (Node.Class c) = K c
Holds K P r (Node.Union parts) = (i : ℕ) × (part : ℕ) × (slice_get parts i ≡ Some part) × P part
Holds K P r (Node.Product parts) = (i part : ℕ) → slice_get parts i ≡ Some part → P part
Holds K P r (Node.Seq part) = (r.low ≡ 0) ⊎ P part
Holds K P r (Node.Set part) = (r.low ≡ 0) ⊎ P part
Holds K P r (Node.Cyc part) = (r.low ≡ 0) ⊎ P part

module _ (K L P Q : ℕ → Type 0) (r : Range) (k : (c : ℕ) → K c → L c) where
  or-more : (part : ℕ) → (P part → Q part) → (r.low ≡ 0) ⊎ P part → (r.low ≡ 0) ⊎ Q part
  or-more part f (inl z) = inl z
  or-more part f (inr h) = inr (f h)

  pub holds-more : (n : Node) → ((part : ℕ) → IsPartOfNode n part → P part → Q part) → Holds K P r n → Holds L Q r n
  holds-more (Node.Empty word) f h = tt
  holds-more (Node.Atom word) f h = h
  holds-more (Node.Class c) f h = k c h
  holds-more (Node.Union parts) f h = (h.0, h.1, h.2, f h.1 (h.0, h.2) h.3)
  holds-more (Node.Product parts) f h = λ i part g. f part (i, g) (h i part g)
  holds-more (Node.Seq part) f h = or-more part (f part refl) h
  holds-more (Node.Set part) f h = or-more part (f part refl) h
  holds-more (Node.Cyc part) f h = or-more part (f part refl) h

counted-down : (r : Range) (b : Bool) → counted_has_empty r b ≡ true → (r.low ≡ 0) ⊎ (b ≡ true)
counted-down r b h = elim (eqb_tells r.low 0) [ inl e ↦ inl e.1 | inr e ↦ inr (any-later (eqb r.low 0) b h e.0) ]

counted-up : (r : Range) (b : Bool) → (r.low ≡ 0) ⊎ (b ≡ true) → counted_has_empty r b ≡ true
counted-up r b (inl z) = elim (eqb_tells r.low 0) [ inl e ↦ or-left (eqb r.low 0) b e.0 | inr e ↦ absurd (e.1 z) ]
counted-up r b (inr h) = or-right (eqb r.low 0) b h

-- Where the computed answer for a node is yes, the rule holds at it for the marked classes and
-- nodes.
pub mark-holds : (classes before : List Bool) (n : Node) (r : Range) → node_has_empty classes before n r ≡ true → Holds (IsMarked classes) (IsMarked before) r n
mark-holds cl bf (Node.Empty word) r h = tt
mark-holds cl bf (Node.Atom word) r h = absurd (cc)
mark-holds cl bf (Node.Class c) r h = h
mark-holds cl bf (Node.Union parts) r h = let k = any-down (answer_at bf) parts h in (k.i, k.part, k.is, k.passes)
mark-holds cl bf (Node.Product parts) r h = all-down (answer_at bf) parts h
mark-holds cl bf (Node.Seq part) r h = counted-down r (answer_at bf part) h
mark-holds cl bf (Node.Set part) r h = counted-down r (answer_at bf part) h
mark-holds cl bf (Node.Cyc part) r h = counted-down r (answer_at bf part) h

-- Where the rule holds at a node for the marked classes and nodes, the computed answer for the node
-- is yes.
pub holds-mark : (classes before : List Bool) (n : Node) (r : Range) → Holds (IsMarked classes) (IsMarked before) r n → node_has_empty classes before n r ≡ true
holds-mark cl bf (Node.Empty word) r h = refl
holds-mark cl bf (Node.Atom word) r h = elim h [ ]
holds-mark cl bf (Node.Class c) r h = h
holds-mark cl bf (Node.Union parts) r h = any-up (answer_at bf) parts h.0 h.1 h.2 h.3
holds-mark cl bf (Node.Product parts) r h = all-up (answer_at bf) parts h
holds-mark cl bf (Node.Seq part) r h = counted-up r (answer_at bf part) h
holds-mark cl bf (Node.Set part) r h = counted-up r (answer_at bf part) h
holds-mark cl bf (Node.Cyc part) r h = counted-up r (answer_at bf part) h
