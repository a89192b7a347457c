-- What a sequence, set or cycle has: lists of the part's objects. With exactly k parts they total the k-th power of the part's value, times the share of k parts.
use Rattle.std.proofs.Common.{◌≡◌, ℕ, zero, suc, ◌-◌, ◌<◌, ◌≤◌, arith, refl, sym, ◌∙◌, ap, subst, Option, Some, None, replicate}
use Rattle.std.specs.List.{AllByRecursion}
use Rattle.bz_model.specs.Fraction.{Fraction, AtMost, times, whole, power, sum_from}
use Rattle.bz_model.specs.Spec.{Spec, Node, Range, node_at, range_at, IsInRange, IsWithinHigh}
use Rattle.bz_model.specs.Object.{Object, Objects, none, more, count, Has, HaveEach, HaveAll, ClassHas, Belongs}
use Rattle.bz_model.specs.Measures.{size, sizes, weight, weights, set_share, cycle_share, share_of}
use Rattle.bz_model.specs.Totals.{AboveBy, BelowBy, Above, Below}
use Rattle.bz_model.specs.Ideal.{option_of, Upto, IsGreatestOption}
use Rattle.bz_model.specs.Making.{IsCounted}
use Rattle.bz_laws.specs.Terms.{term_of, product_by}
use Rattle.bz_laws.proofs.Fractions.{AtMost-refl}
use Rattle.bz_laws.proofs.Samples.{above-along, below-along, above-none, above-scaled, below-scaled, AboveBy-weaker, BelowBy-weaker}
use Rattle.bz_laws.proofs.Products.{above-each, below-each}
use Rattle.bz_laws.proofs.Nodes.{HasAt, HasUpto, ClassBelongs, known, unknown, belongs-has, belongs-of, above-has, below-has, upto-has, upto-of}
use Rattle.bz_laws.proofs.Numbered.{above-run, below-run, above-from}

-- the parts of a counted node's object
abbrev pub listed : Object → Objects
listed (Object.SeqOf os) = os
listed (Object.SetOf os) = os
listed (Object.CycOf os) = os
listed _ = none

-- The size of a sequence, set or cycle is the sum of the sizes of its parts.
pub counted-size : (node : Node) (part : ℕ) (form : Objects → Object) (os : Objects) → IsCounted node part form → size (form os) ≡ sizes os
counted-size (Node.Seq p) part form os c = subst (λ f. size (f os) ≡ sizes os) (sym c.1) refl
counted-size (Node.Set p) part form os c = subst (λ f. size (f os) ≡ sizes os) (sym c.1) refl
counted-size (Node.Cyc p) part form os c = subst (λ f. size (f os) ≡ sizes os) (sym c.1) refl
counted-size _ part form os c = elim c [ ]

pub form-listed : (node : Node) (part : ℕ) (form : Objects → Object) (os : Objects) → IsCounted node part form → (listed (form os) ≡ os) × (option_of (form os) ≡ count os)
form-listed (Node.Seq p) part form os c = subst (λ f. (listed (f os) ≡ os) × (option_of (f os) ≡ count os)) (sym c.1) (refl, refl)
form-listed (Node.Set p) part form os c = subst (λ f. (listed (f os) ≡ os) × (option_of (f os) ≡ count os)) (sym c.1) (refl, refl)
form-listed (Node.Cyc p) part form os c = subst (λ f. (listed (f os) ≡ os) × (option_of (f os) ≡ count os)) (sym c.1) (refl, refl)
form-listed _ part form os c = elim c [ ]

form-weight : (x : Fraction) (node : Node) (part : ℕ) (form : Objects → Object) (os : Objects) → IsCounted node part form → AtMost (weight x (form os)) (times (share_of node (count os)) (weights x os)) × AtMost (times (share_of node (count os)) (weights x os)) (weight x (form os))
form-weight x (Node.Seq p) part form os c = subst (λ f. AtMost (weight x (f os)) (times (whole 1) (weights x os)) × AtMost (times (whole 1) (weights x os)) (weight x (f os))) (sym c.1) (omega arith, omega arith)
form-weight x (Node.Set p) part form os c = subst (λ f. AtMost (weight x (f os)) (times (set_share (count os)) (weights x os)) × AtMost (times (set_share (count os)) (weights x os)) (weight x (f os))) (sym c.1) (AtMost-refl _, AtMost-refl _)
form-weight x (Node.Cyc p) part form os c = subst (λ f. AtMost (weight x (f os)) (times (cycle_share (count os)) (weights x os)) × AtMost (times (cycle_share (count os)) (weights x os)) (weight x (f os))) (sym c.1) (AtMost-refl _, AtMost-refl _)
form-weight x _ part form os c = elim c [ ]

-- one object, n times
abbrev pub repeated : ℕ → Object → Objects
repeated zero o = none
repeated (suc n) o = more o (repeated n o)

pub count-repeated : (n : ℕ) (o : Object) → count (repeated n o) ≡ n
count-repeated zero o = refl
count-repeated (suc n) o = ap suc (count-repeated n o)

module _ (s : Spec) (R : ℕ → Object → Type 0) where
  -- a counted node's object is a list of the part's objects, of a length in the range
  pub has-counted : (node : Node) (part : ℕ) (form : Objects → Object) (r : Option Range) (o : Object) → IsCounted node part form → Has s R (Some node) r o → (o ≡ form (listed o)) × (option_of o ≡ count (listed o)) × HaveAll s R part (listed o)
  has-counted (Node.Seq p) part form r (Object.SeqOf os) c h = (sym (ap (λ f. f os) c.1), refl, subst (λ q. HaveAll s R q os) c.0 h.1)
  has-counted (Node.Set p) part form r (Object.SetOf os) c h = (sym (ap (λ f. f os) c.1), refl, subst (λ q. HaveAll s R q os) c.0 h.1)
  has-counted (Node.Cyc p) part form r (Object.CycOf os) c h = (sym (ap (λ f. f os) c.1), refl, subst (λ q. HaveAll s R q os) c.0 h.1)
  has-counted (Node.Seq p) part form r _ c h = elim h [ ]
  has-counted (Node.Set p) part form r _ c h = elim h [ ]
  has-counted (Node.Cyc p) part form r _ c h = elim h [ ]
  has-counted _ part form r o c h = elim c [ ]

  pub counted-range : (node : Node) (part : ℕ) (form : Objects → Object) (r : Option Range) (o : Object) → IsCounted node part form → Has s R (Some node) r o → IsInRange (option_of o) r
  counted-range (Node.Seq p) part form r (Object.SeqOf os) c h = h.0
  counted-range (Node.Set p) part form r (Object.SetOf os) c h = h.0
  counted-range (Node.Cyc p) part form r (Object.CycOf os) c h = h.0
  counted-range (Node.Seq p) part form r _ c h = elim h [ ]
  counted-range (Node.Set p) part form r _ c h = elim h [ ]
  counted-range (Node.Cyc p) part form r _ c h = elim h [ ]
  counted-range _ part form r o c h = elim c [ ]

  pub into-counted : (node : Node) (part : ℕ) (form : Objects → Object) (r : Option Range) (os : Objects) → IsCounted node part form → IsInRange (count os) r → HaveAll s R part os → Has s R (Some node) r (form os)
  into-counted (Node.Seq p) part form r os c i h = subst (λ f. Has s R (Some (Node.Seq p)) r (f os)) (sym c.1) (i, subst (λ q. HaveAll s R q os) (sym c.0) h)
  into-counted (Node.Set p) part form r os c i h = subst (λ f. Has s R (Some (Node.Set p)) r (f os)) (sym c.1) (i, subst (λ q. HaveAll s R q os) (sym c.0) h)
  into-counted (Node.Cyc p) part form r os c i h = subst (λ f. Has s R (Some (Node.Cyc p)) r (f os)) (sym c.1) (i, subst (λ q. HaveAll s R q os) (sym c.0) h)
  into-counted _ part form r os c i h = elim c [ ]

  -- a list of k objects of the part has one object of each of k parts
  pub each-all : (part k : ℕ) (os : Objects) → HaveEach s R (replicate k part) os → HaveAll s R part os × (count os ≡ k)
  each-all part zero none h = (tt, refl)
  each-all part zero (more o os) h = elim h [ ]
  each-all part (suc k) none h = elim h [ ]
  each-all part (suc k) (more o os) h = let r = each-all part k os h.1 in ((h.0, r.0), ap suc r.1)

  pub all-each : (part : ℕ) (os : Objects) → HaveAll s R part os → HaveEach s R (replicate (count os) part) os
  all-each part none h = tt
  all-each part (more o os) h = (h.0, all-each part os h.1)

  pub all-repeated : (part n : ℕ) (o : Object) → HasAt s R part o → HaveAll s R part (repeated n o)
  all-repeated part zero o h = tt
  all-repeated part (suc n) o h = (h, all-repeated part n o h)

  module _ (x a : Fraction) (part : ℕ) where
    same-power : (k : ℕ) → product_by (λ p. a) (replicate k part) ≡ power a k
    same-power zero = refl
    same-power (suc k) = ap (times a) (same-power k)

    of-each : (P : ℕ → Type 0) (k : ℕ) → P part → AllByRecursion P (replicate k part)
    of-each P zero h = tt
    of-each P (suc k) h = (h, of-each P k h)

    -- lists of exactly k parts
    abbrev pub HasList : ℕ → Objects → Type 0
    HasList k os = HaveAll s R part os × (count os ≡ k)

    pub above-lists : (k : ℕ) → Above x a (HasAt s R part) → AboveBy (weights x) (power a k) (HasList k)
    above-lists k up =
        AboveBy-weaker (λ os h. subst (λ j. HaveEach s R (replicate j part) os) h.1 (all-each part os h.0))
        (subst (λ f. AboveBy (weights x) f (HaveEach s R (replicate k part))) (same-power k) (above-each s R x (λ p. a) (replicate k part) (of-each (λ p. Above x a (HasAt s R p)) k up)))

    pub below-lists : (k : ℕ) → Below x a (HasAt s R part) → BelowBy (weights x) (power a k) (HasList k)
    below-lists k down =
        BelowBy-weaker (λ os h. each-all part k os h)
        (subst (λ f. BelowBy (weights x) f (HaveEach s R (replicate k part))) (same-power k) (below-each s R x (λ p. a) (replicate k part) (of-each (λ p. Below x a (HasAt s R p)) k down)))

    module _ (e : ℕ) (node : Node) (form : Objects → Object) (at : node_at s e ≡ Some node) (c : IsCounted node part form) where
      -- the node's objects of exactly k parts
      abbrev pub HasExactly : ℕ → Object → Type 0
      HasExactly k o = HasAt s R e o × (option_of o ≡ k)

      taken-apart : (k : ℕ) (o : Object) → HasExactly k o → (o ≡ form (listed o)) × HasList k (listed o)
      taken-apart k o h =
          let r = has-counted node part form (range_at s e) o c (known s R e at o h.0) in
          (r.0, (r.2, sym r.1 ∙ h.1))

      pub above-exactly-at : (k : ℕ) → Above x a (HasAt s R part) → Above x (term_of node a k) (HasExactly k)
      above-exactly-at k up =
          above-along listed (HasExactly k) (HasList k) (λ o h. (taken-apart k o h).1) (λ o p h j eq. (taken-apart k o h).0 ∙ ap form eq ∙ sym (taken-apart k p j).0) (weight x) (λ os. times (share_of node k) (weights x os)) no_less
          (above-scaled (share_of node k) (above-lists k up))
        where
          no_less : (o : Object) → HasExactly k o → AtMost (weight x o) (times (share_of node k) (weights x (listed o)))
          no_less o h =
              let t = taken-apart k o h in
              subst (λ p. AtMost (weight x p) (times (share_of node k) (weights x (listed o)))) (sym t.0) (subst (λ j. AtMost (weight x (form (listed o))) (times (share_of node j) (weights x (listed o)))) t.1.1 (form-weight x node part form (listed o) c).0)

      into-exactly : (k : ℕ) → IsInRange k (range_at s e) → (os : Objects) → HasList k os → HasExactly k (form os)
      into-exactly k within os h =
          let n : IsInRange (count os) (range_at s e) = subst (λ j. IsInRange j (range_at s e)) (sym h.1) within in
          (unknown s R e at (form os) (into-counted node part form (range_at s e) os c n h.0), (form-listed node part form os c).1 ∙ h.1)

      pub below-exactly-at : (k : ℕ) → IsInRange k (range_at s e) → Below x a (HasAt s R part) → Below x (term_of node a k) (HasExactly k)
      below-exactly-at k within down =
          below-along form (HasList k) (HasExactly k) (into-exactly k within) (λ os qs h j eq. sym (form-listed node part form os c).0 ∙ ap listed eq ∙ (form-listed node part form qs c).0) (λ os. times (share_of node k) (weights x os)) (weight x) no_less
          (below-scaled (share_of node k) (below-lists k down))
        where
          no_less : (os : Objects) → HasList k os → AtMost (times (share_of node k) (weights x os)) (weight x (form os))
          no_less os h = subst (λ j. AtMost (times (share_of node j) (weights x os)) (weight x (form os))) h.1 (form-weight x node part form os c).1

      module _ (low : ℕ) (high : Option ℕ) (ranged : range_at s e ≡ Some (record { low = low; high = high })) where
        in-range : (o : Object) → HasAt s R e o → IsInRange (option_of o) (Some (record { low = low; high = high }))
        in-range o h = subst (IsInRange (option_of o)) ranged (counted-range node part form (range_at s e) o c (known s R e at o h))

        is-ranged : (k : ℕ) → low ≤ k → IsWithinHigh k high → IsInRange k (range_at s e)
        is-ranged k l h = subst (IsInRange k) (sym ranged) (l, h)

        -- its objects of up to i parts: the terms from low to i
        pub above-upto-at : (i : ℕ) → Above x a (HasAt s R part) → Above x (sum_from (term_of node a) low (suc i - low)) (HasUpto s R e i)
        above-upto-at i up =
            AboveBy-weaker (λ o h. let l = (in-range o h.0).0 in let r = h.1 in (h.0, (l, omega arith)))
            (above-run (weight x) option_of (HasAt s R e) (term_of node a) (suc i - low) low (λ k inside. above-exactly-at k up))

        pub below-upto-at : (i : ℕ) → IsWithinHigh i high → Below x a (HasAt s R part) → Below x (sum_from (term_of node a) low (suc i - low)) (HasUpto s R e i)
        below-upto-at i fits down =
            BelowBy-weaker (λ o h. let l = h.1.0 in let r = h.1.1 in (h.0, omega arith))
            (below-run (weight x) option_of (HasAt s R e) (term_of node a) (suc i - low) low (λ k inside. let l = inside.0 in let r = inside.1 in below-exactly-at k (is-ranged k l (lower k high (omega arith) fits)) down))
          where
            lower : (k : ℕ) (h : Option ℕ) → k ≤ i → IsWithinHigh i h → IsWithinHigh k h
            lower k None le f = tt
            lower k (Some h) le f = omega arith

        -- any number that no sum of terms from low on exceeds bounds the node
        pub above-counted-at : {f : Fraction} → ((n : ℕ) → AtMost (sum_from (term_of node a) low n) f) → Above x a (HasAt s R part) → Above x f (HasAt s R e)
        above-counted-at {f} sums up =
            AboveBy-weaker (λ o h. (h, (in-range o h).0))
            (above-from (weight x) option_of (HasAt s R e) (term_of node a) (λ k. above-exactly-at k up) low f sums)

      module _ (low high : ℕ) (ranged : range_at s e ≡ Some (record { low = low; high = Some high })) where
        -- with a high all objects: the terms from low to high
        pub above-ranged-at : Above x a (HasAt s R part) → Above x (sum_from (term_of node a) low (suc high - low)) (HasAt s R e)
        above-ranged-at up = AboveBy-weaker (λ o h. (h, (in-range low (Some high) ranged o h).1)) (above-upto-at low (Some high) ranged high up)

        pub below-ranged-at : Below x a (HasAt s R part) → Below x (sum_from (term_of node a) low (suc high - low)) (HasAt s R e)
        below-ranged-at down = BelowBy-weaker (λ o h. h.0) (below-upto-at low (Some high) ranged high (omega arith) down)

      -- without a high each sum of terms from low on is reached
      pub below-counted-at : (low n : ℕ) → range_at s e ≡ Some (record { low = low; high = None }) → Below x a (HasAt s R part) → Below x (sum_from (term_of node a) low n) (HasAt s R e)
      below-counted-at low n ranged down =
          BelowBy-weaker (λ o h. h.0)
          (below-run (weight x) option_of (HasAt s R e) (term_of node a) n low (λ k inside. below-exactly-at k (is-ranged low None ranged k inside.0 tt) down))

module _ (s : Spec) (x a : Fraction) (e part : ℕ) (node : Node) (form : Objects → Object) (at : node_at s e ≡ Some node) (c : IsCounted node part form) where
  -- the same for what belongs to the node
  pub above-exactly : (k : ℕ) → Above x a (Belongs s part) → Above x (term_of node a k) (λ o. Belongs s e o × (option_of o ≡ k))
  above-exactly k up = AboveBy-weaker (λ o h. (belongs-has s e o h.0, h.1)) (above-exactly-at s (ClassBelongs s) x a part e node form at c k (above-has s x part up))

  pub below-exactly : (k : ℕ) → IsInRange k (range_at s e) → Below x a (Belongs s part) → Below x (term_of node a k) (λ o. Belongs s e o × (option_of o ≡ k))
  below-exactly k within down = BelowBy-weaker (λ o h. (belongs-of s e o h.0, h.1)) (below-exactly-at s (ClassBelongs s) x a part e node form at c k within (below-has s x part down))

  module _ (low : ℕ) (high : Option ℕ) (ranged : range_at s e ≡ Some (record { low = low; high = high })) where
    pub above-upto : (i : ℕ) → Above x a (Belongs s part) → Above x (sum_from (term_of node a) low (suc i - low)) (Upto s e i)
    above-upto i up = AboveBy-weaker (upto-has s e i) (above-upto-at s (ClassBelongs s) x a part e node form at c low high ranged i (above-has s x part up))

    pub below-upto : (i : ℕ) → IsWithinHigh i high → Below x a (Belongs s part) → Below x (sum_from (term_of node a) low (suc i - low)) (Upto s e i)
    below-upto i fits down = BelowBy-weaker (upto-of s e i) (below-upto-at s (ClassBelongs s) x a part e node form at c low high ranged i fits (below-has s x part down))

    pub above-counted : {f : Fraction} → ((n : ℕ) → AtMost (sum_from (term_of node a) low n) f) → Above x a (Belongs s part) → Above x f (Belongs s e)
    above-counted sums up = AboveBy-weaker (belongs-has s e) (above-counted-at s (ClassBelongs s) x a part e node form at c low high ranged sums (above-has s x part up))

    -- up to an option below the low there is nothing
    pub none-below-low : {f : Fraction} (i : ℕ) → i < low → Above x f (Upto s e i)
    none-below-low i lt = above-none (λ o h. let l = (in-range s (ClassBelongs s) x a part e node form at c low high ranged o (belongs-has s e o h.0)).0 in let r = h.1 in absurd (omega arith))

  module _ (low high : ℕ) (ranged : range_at s e ≡ Some (record { low = low; high = Some high })) where
    pub above-ranged : Above x a (Belongs s part) → Above x (sum_from (term_of node a) low (suc high - low)) (Belongs s e)
    above-ranged up = AboveBy-weaker (belongs-has s e) (above-ranged-at s (ClassBelongs s) x a part e node form at c low high ranged (above-has s x part up))

    pub below-ranged : Below x a (Belongs s part) → Below x (sum_from (term_of node a) low (suc high - low)) (Belongs s e)
    below-ranged down = BelowBy-weaker (belongs-of s e) (below-ranged-at s (ClassBelongs s) x a part e node form at c low high ranged (below-has s x part down))

  pub below-counted : (low n : ℕ) → range_at s e ≡ Some (record { low = low; high = None }) → Below x a (Belongs s part) → Below x (sum_from (term_of node a) low n) (Belongs s e)
  below-counted low n ranged down = BelowBy-weaker (belongs-of s e) (below-counted-at s (ClassBelongs s) x a part e node form at c low n ranged (below-has s x part down))

-- k objects of the part make one of the node, for each k of the range
pub into-counted-of : (s : Spec) (e part k : ℕ) (node : Node) (form : Objects → Object) → node_at s e ≡ Some node → IsCounted node part form → IsInRange k (range_at s e) → (o : Object) → Belongs s part o → Belongs s e (form (repeated k o)) × (option_of (form (repeated k o)) ≡ k)
into-counted-of s e part k node form at c within o b =
    let n : IsInRange (count (repeated k o)) (range_at s e) = subst (λ j. IsInRange j (range_at s e)) (sym (count-repeated k o)) within in
    ((b.0, unknown s (ClassHas s b.0) e at (form (repeated k o)) (into-counted s (ClassHas s b.0) node part form (range_at s e) (repeated k o) c n (all-repeated s (ClassHas s b.0) part k o b.1))), (form-listed node part form (repeated k o) c).1 ∙ count-repeated k o)

-- a high is the greatest option, where it isn't below the low and the part has an object
pub high-greatest : (s : Spec) (e part low high : ℕ) (node : Node) (form : Objects → Object) → node_at s e ≡ Some node → IsCounted node part form → range_at s e ≡ Some (record { low = low; high = Some high }) → low ≤ high → (o : Object) → Belongs s part o → IsGreatestOption s e high
high-greatest s e part low high node form at c range le o b =
    let w = into-counted-of s e part high node form at c (subst (IsInRange high) (sym range) (le, omega arith)) o b in
    record { above = most; witness = form (repeated high o); belongs = w.0; option = w.1 }
  where
    most : (p : Object) → Belongs s e p → option_of p ≤ high
    most p h =
        let r = counted-range s (ClassHas s h.0) node part form (range_at s e) p c (known s (ClassHas s h.0) e at p h.1) in
        let k : IsInRange (option_of p) (Some (record { low = low; high = Some high })) = subst (IsInRange (option_of p)) range r in
        k.1

-- an option below the low is no object's
pub not-below-low : (s : Spec) (e part low : ℕ) (high : Option ℕ) (node : Node) (form : Objects → Object) → node_at s e ≡ Some node → IsCounted node part form → range_at s e ≡ Some (record { low = low; high = high }) → (o : Object) → Belongs s e o → low ≤ option_of o
not-below-low s e part low high node form at c ranged o b = (in-range s (ClassHas s b.0) (whole 1) (whole 1) part e node form at c low high ranged o b.1).0

-- the option of a counted node's object lies in the range
pub option-ranged : (s : Spec) (e part : ℕ) (node : Node) (form : Objects → Object) → node_at s e ≡ Some node → IsCounted node part form → (o : Object) → Belongs s e o → IsInRange (option_of o) (range_at s e)
option-ranged s e part node form at c o b = counted-range s (ClassHas s b.0) node part form (range_at s e) o c (known s (ClassHas s b.0) e at o b.1)
