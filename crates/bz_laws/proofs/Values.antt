-- Numbers that cover the nodes bound them from above, and numbers that are reached from below, for any meaning of classes.
use Rattle.std.proofs.Common.{◌≡◌, ℕ, zero, suc, ◌-◌, ◌<◌, ◌≤◌, List, [], ◌∷◌, length, arith, refl, subst, Option, Some, None}
use Rattle.std.specs.Prelude.{slice_get, Bool, IsTrue}
use Rattle.std.proofs.Math.Decide.{dec_le}
use Rattle.bz_model.specs.Fraction.{Fraction, AtMost, whole, sum_from}
use Rattle.bz_model.specs.Spec.{Spec, Node, Range, node_at, range_at, body_of, IsInRange}
use Rattle.bz_model.specs.Object.{Object, Objects, Has, ClassHas, HasWithin, Belongs}
use Rattle.bz_model.specs.Totals.{Above, Below, total_by}
use Rattle.bz_model.specs.Ideal.{option_of}
use Rattle.bz_model.specs.Making.{IsCounted}
use Rattle.bz_laws.specs.Terms.{term_of, product_by}
use Rattle.bz_laws.specs.Sound.{EachPart}
use Rattle.bz_laws.specs.Values.{CoversTerms, CoversRange, CoversNode, Covers, IsReachedByTerms, IsReachedInRange, IsReachedByNode, AreReached}
use Rattle.bz_laws.proofs.Samples.{AllByRecursion-weaker, AllByRecursion-both, above-none, below-none}
use Rattle.bz_laws.proofs.Bounds.{above-higher, below-lower}
use Rattle.bz_laws.proofs.Nodes.{HasAt, ClassBelongs, known, above-of, below-of}
use Rattle.bz_laws.proofs.Leaves.{above-atom-at, below-atom-at, above-empty-at, below-empty-at, above-class-at, below-class-at}
use Rattle.bz_laws.proofs.Unions.{above-union-at, below-union-at}
use Rattle.bz_laws.proofs.Products.{above-product-at, below-product-at}
use Rattle.bz_laws.proofs.Counted.{counted-range, above-counted-at, above-ranged-at, below-counted-at, below-ranged-at}
use Rattle.bz_laws.proofs.Tallest.{above-body, above-each-height, entries-above, classes-above, above-class-belongs, below-class-belongs}

module _ (s : Spec) (R : ℕ → Object → Type 0) (x : Fraction) where
  module _ (e part : ℕ) (node : Node) (form : Objects → Object) (at : node_at s e ≡ Some node) (c : IsCounted node part form) (a v : Fraction) where
    above-terms : (r : Range) → range_at s e ≡ Some r → (high : Option ℕ) → r.high ≡ high → CoversTerms node a r.low high v → Above x a (HasAt s R part) → Above x v (HasAt s R e)
    above-terms r ranged None eq cover up = above-counted-at s R x a part e node form at c r.low r.high ranged cover up
    above-terms r ranged (Some high) eq cover up =
        let q : range_at s e ≡ Some (record { low = r.low; high = Some high }) = subst (λ h. range_at s e ≡ Some (record { low = r.low; high = h })) eq ranged in
        above-higher x (sum_from (term_of node a) r.low (suc high - r.low)) v (HasAt s R e) cover (above-ranged-at s R x a part e node form at c r.low high q up)

    above-range : (r : Option Range) → range_at s e ≡ r → CoversRange node a r v → Above x a (HasAt s R part) → Above x v (HasAt s R e)
    above-range None eq cover up = above-none (λ o h. subst (λ q. IsInRange (option_of o) q) eq (counted-range s R node part form (range_at s e) o c (known s R e at o h)))
    above-range (Some r) eq cover up = above-terms r eq r.high refl cover up

    below-terms : (r : Range) → range_at s e ≡ Some r → (high : Option ℕ) → r.high ≡ high → IsReachedByTerms node a r.low high v → Below x a (HasAt s R part) → Below x v (HasAt s R e)
    below-terms r ranged None eq reach down =
        let q : range_at s e ≡ Some (record { low = r.low; high = None }) = subst (λ h. range_at s e ≡ Some (record { low = r.low; high = h })) eq ranged in
        below-lower x (sum_from (term_of node a) r.low reach.0) v (HasAt s R e) reach.1 (below-counted-at s R x a part e node form at c r.low reach.0 q down)
    below-terms r ranged (Some high) eq reach down =
        let q : range_at s e ≡ Some (record { low = r.low; high = Some high }) = subst (λ h. range_at s e ≡ Some (record { low = r.low; high = h })) eq ranged in
        below-lower x (sum_from (term_of node a) r.low (suc high - r.low)) v (HasAt s R e) reach (below-ranged-at s R x a part e node form at c r.low high q down)

    below-range : (r : Option Range) → range_at s e ≡ r → IsReachedInRange node a r v → Below x a (HasAt s R part) → Below x v (HasAt s R e)
    below-range None eq reach down = below-lower x (whole 0) v (HasAt s R e) reach below-none
    below-range (Some r) eq reach down = below-terms r eq r.high refl reach down

  module _ (entry value : ℕ → Fraction) where
    abbrev pub AboveAt : ℕ → Type 0
    AboveAt e = Above x (value e) (HasAt s R e)

    abbrev pub BelowAt : ℕ → Type 0
    BelowAt e = Below x (value e) (HasAt s R e)

    -- one node, from its parts and the classes
    pub above-node : (e : ℕ) (node : Node) → node_at s e ≡ Some node → ((c : ℕ) → Above x (entry c) (R c)) → EachPart AboveAt node → CoversNode x entry value node (range_at s e) (value e) → AboveAt e
    above-node e (Node.Empty word) at up parts cover = above-higher x (whole 1) (value e) (HasAt s R e) cover (above-empty-at s R x e word at)
    above-node e (Node.Atom word) at up parts cover = above-higher x x (value e) (HasAt s R e) cover (above-atom-at s R x e word at)
    above-node e (Node.Class c) at up parts cover = above-higher x (entry c) (value e) (HasAt s R e) cover (above-class-at s R x e c at (up c))
    above-node e (Node.Union ps) at up parts cover = above-higher x (total_by value ps) (value e) (HasAt s R e) cover (above-union-at s R x e ps at value parts)
    above-node e (Node.Product ps) at up parts cover = above-higher x (product_by value ps) (value e) (HasAt s R e) cover (above-product-at s R x value e ps at parts)
    above-node e (Node.Seq part) at up parts cover = above-range e part (Node.Seq part) Object.SeqOf at (refl, refl) (value part) (value e) (range_at s e) refl cover parts
    above-node e (Node.Set part) at up parts cover = above-range e part (Node.Set part) Object.SetOf at (refl, refl) (value part) (value e) (range_at s e) refl cover parts
    above-node e (Node.Cyc part) at up parts cover = above-range e part (Node.Cyc part) Object.CycOf at (refl, refl) (value part) (value e) (range_at s e) refl cover parts

    pub below-node : (e : ℕ) (node : Node) → node_at s e ≡ Some node → ((c : ℕ) → node ≡ Node.Class c → Below x (entry c) (R c)) → EachPart BelowAt node → IsReachedByNode x entry value node (range_at s e) (value e) → BelowAt e
    below-node e (Node.Empty word) at down parts reach = below-lower x (whole 1) (value e) (HasAt s R e) reach (below-empty-at s R x e word at)
    below-node e (Node.Atom word) at down parts reach = below-lower x x (value e) (HasAt s R e) reach (below-atom-at s R x e word at)
    below-node e (Node.Class c) at down parts reach = below-lower x (entry c) (value e) (HasAt s R e) reach (below-class-at s R x e c at (down c refl))
    below-node e (Node.Union ps) at down parts reach = below-lower x (total_by value ps) (value e) (HasAt s R e) reach (below-union-at s R x e ps at value parts)
    below-node e (Node.Product ps) at down parts reach = below-lower x (product_by value ps) (value e) (HasAt s R e) reach (below-product-at s R x value e ps at parts)
    below-node e (Node.Seq part) at down parts reach = below-range e part (Node.Seq part) Object.SeqOf at (refl, refl) (value part) (value e) (range_at s e) refl reach parts
    below-node e (Node.Set part) at down parts reach = below-range e part (Node.Set part) Object.SetOf at (refl, refl) (value part) (value e) (range_at s e) refl reach parts
    below-node e (Node.Cyc part) at down parts reach = below-range e part (Node.Cyc part) Object.CycOf at (refl, refl) (value part) (value e) (range_at s e) refl reach parts

-- a property of parts that follows from another
pub each_part-weaker : {P Q : ℕ → Type 0} → ((p : ℕ) → P p → Q p) → (node : Node) → EachPart P node → EachPart Q node
each_part-weaker f (Node.Union parts) h = AllByRecursion-weaker f parts h
each_part-weaker f (Node.Product parts) h = AllByRecursion-weaker f parts h
each_part-weaker f (Node.Seq part) h = f part h
each_part-weaker f (Node.Set part) h = f part h
each_part-weaker f (Node.Cyc part) h = f part h
each_part-weaker f (Node.Empty word) h = tt
each_part-weaker f (Node.Atom word) h = tt
each_part-weaker f (Node.Class c) h = tt

-- two properties of parts that give a third
pub each_part-both : {P Q S : ℕ → Type 0} → ((p : ℕ) → P p → Q p → S p) → (node : Node) → EachPart P node → EachPart Q node → EachPart S node
each_part-both {P} {Q} f (Node.Union parts) h k = AllByRecursion-weaker (λ p both. f p both.0 both.1) parts (AllByRecursion-both P Q parts h k)
each_part-both {P} {Q} f (Node.Product parts) h k = AllByRecursion-weaker (λ p both. f p both.0 both.1) parts (AllByRecursion-both P Q parts h k)
each_part-both f (Node.Seq part) h k = f part h k
each_part-both f (Node.Set part) h k = f part h k
each_part-both f (Node.Cyc part) h k = f part h k
each_part-both f (Node.Empty word) h k = tt
each_part-both f (Node.Atom word) h k = tt
each_part-both f (Node.Class c) h k = tt

-- what each node has where its parts have it, all nodes have
module _ (s : Spec) (below : (e : ℕ) (node : Node) → node_at s e ≡ Some node → EachPart (λ part. part < e) node) (P : ℕ → Type 0) (step : (e : ℕ) (node : Node) → node_at s e ≡ Some node → EachPart P node → P e) where
  there : (nodes : List Node) (e : ℕ) → e < length nodes → (node : Node) × (slice_get nodes e ≡ Some node)
  there [] e lt = absurd (omega arith)
  there (node ∷ nodes) zero lt = (node, refl)
  there (node ∷ nodes) (suc e) lt = there nodes e (omega arith)

  pub up_to : (n : ℕ) → n ≤ length s.nodes → (e : ℕ) → e < n → P e
  up_to zero le e lt = absurd (omega arith)
  up_to (suc n) le e lt =
      let t = there s.nodes e (omega arith) in
      step e t.0 t.1 (each_part-weaker (λ p less. up_to n (omega arith) p (omega arith)) t.0 (below e t.0 t.1))

  pub each-node : (e : ℕ) → e < length s.nodes → P e
  each-node e lt = up_to (length s.nodes) (omega arith) e lt

missing : (nodes : List Node) (e : ℕ) → length nodes ≤ e → slice_get nodes e ≡ None
missing [] e le = refl
missing (node ∷ nodes) zero le = absurd (omega arith)
missing (node ∷ nodes) (suc e) le = missing nodes e (omega arith)

module _ (s : Spec) (below : (e : ℕ) (node : Node) → node_at s e ≡ Some node → EachPart (λ part. part < e) node) (x : Fraction) (entry value : ℕ → Fraction) where
  -- numbers that cover their nodes bound what these have, where the entries bound what the classes have
  pub covers-above : (R : ℕ → Object → Type 0) (told : ℕ → Bool) → Covers s x told entry value → ((c : ℕ) → Above x (entry c) (R c)) → (e : ℕ) → IsTrue (told e) → Above x (value e) (HasAt s R e)
  covers-above R told cover up e yes_told = go (dec_le (suc e) (length s.nodes))
    where
      go : Dec (suc e ≤ length s.nodes) → Above x (value e) (HasAt s R e)
      go (yes lt) = each-node s below (λ d. IsTrue (told d) → Above x (value d) (HasAt s R d)) (λ d node at parts t. above-node s R x entry value d node at up (each_part-both (λ p h k. h k) node parts (cover.parts d node t at)) (cover.node d node t at)) e lt yes_told
      go (no ge) = above-none (λ o h. let none_there : Has s R None (range_at s e) o = subst (λ n. Has s R n (range_at s e) o) (missing s.nodes e (omega (arith, ge))) h in none_there)

  -- numbers that are reached by the nodes are reached by what they have, where the entries are by what the classes have
  pub reached-below : (R : ℕ → Object → Type 0) → AreReached s x entry value → ((e c : ℕ) → node_at s e ≡ Some (Node.Class c) → Below x (entry c) (R c)) → (e : ℕ) → e < length s.nodes → Below x (value e) (HasAt s R e)
  reached-below R reach down e lt = each-node s below (λ d. Below x (value d) (HasAt s R d)) (λ d node at parts. below-node s R x entry value d node at (λ c eq. down d c (subst (λ m. node_at s d ≡ Some m) eq at)) parts (reach.node d node at)) e lt

  pub reached-belongs : AreReached s x entry value → ((e c : ℕ) → node_at s e ≡ Some (Node.Class c) → (body : ℕ) × (body_of s c ≡ Some body)) → ((c body : ℕ) → body_of s c ≡ Some body → Below x (entry c) (Belongs s body)) → (e : ℕ) → e < length s.nodes → Below x (value e) (Belongs s e)
  reached-belongs reach classes down e lt = below-of s x e (reached-below (ClassBelongs s) reach (λ d c at. let b = classes d c at in below-class-belongs s x c b.0 b.1 (down c b.0 b.1)) e lt)

  module _ (told : ℕ → Bool) (cover : Covers s x told entry value) where
    -- by height: with one reference more than the entries' objects
    pub covers-height : (h : ℕ) → ((c body : ℕ) → body_of s c ≡ Some body → Above x (entry c) (HasWithin s h (Some body))) → (e : ℕ) → IsTrue (told e) → Above x (value e) (HasWithin s (suc h) (Some e))
    covers-height h up e t = covers-above (ClassHas s (suc h)) told cover (λ c. above-body s x (entry c) h c (up c)) e t

    -- and of height 0 whatever the entries are
    pub covers-height_zero : (e : ℕ) → IsTrue (told e) → Above x (value e) (HasWithin s 0 (Some e))
    covers-height_zero e t = covers-above (ClassHas s 0) told cover (λ c. above-none (λ o k. k)) e t

    -- of whatever height
    pub covers-belongs : ((c body : ℕ) → body_of s c ≡ Some body → Above x (entry c) (Belongs s body)) → (e : ℕ) → IsTrue (told e) → Above x (value e) (Belongs s e)
    covers-belongs up e t = above-of s x e (covers-above (ClassBelongs s) told cover (λ c. above-class-belongs s x (entry c) c (up c)) e t)

    -- entries that are at least their bodies' numbers bound every total
    module _ (all_told : (c body : ℕ) → body_of s c ≡ Some body → IsTrue (told body)) (post_fixed : (c body : ℕ) → body_of s c ≡ Some body → AtMost (value body) (entry c)) where
      step : (h : ℕ) → ((c : ℕ) → Above x (entry c) (ClassHas s h c)) → (c body : ℕ) → body_of s c ≡ Some body → Above x (entry c) (HasWithin s h (Some body))
      step h up c body at = above-higher x (value body) (entry c) (HasWithin s h (Some body)) (post_fixed c body at) (covers-above (ClassHas s h) told cover up body (all_told c body at))

      pub post_fixed-entries : (c body : ℕ) → body_of s c ≡ Some body → Above x (entry c) (Belongs s body)
      post_fixed-entries = entries-above s x entry step

      pub post_fixed-values : (e : ℕ) → IsTrue (told e) → Above x (value e) (Belongs s e)
      post_fixed-values e t = above-each-height s e (λ h. covers-above (ClassHas s h) told cover (classes-above s x entry step h) e t)
