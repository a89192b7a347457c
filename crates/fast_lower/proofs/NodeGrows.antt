-- One node, from its parts: where the parts' lower numbers are reached but for t times the parts' growths, the node's is reached but for t times its growth.
use Rattle.std.proofs.Common.{◌≡◌, ℕ, zero, suc, ◌-◌, ◌<◌, ◌≤◌, List, [], ◌∷◌, length, arith, refl, subst, Option, Some, None, slice_get}
use Rattle.std.specs.Prelude.{Bool, IsTrue}
use Rattle.std.proofs.Math.Decide.{dec_le}
use Rattle.std.proofs.lemmas.Option.{slice_get_within}
use Rattle.bz_model.specs.Fraction.{Fraction, AtMost, plus, times, whole, sum_from}
use Rattle.bz_model.specs.Spec.{Spec, Node, Range, node_at, range_at, body_of}
use Rattle.bz_model.specs.Object.{Object, Objects, Belongs}
use Rattle.bz_model.specs.Totals.{Above, Below, total_by}
use Rattle.bz_model.specs.Making.{IsCounted}
use Rattle.bz_laws.specs.Terms.{term_of, product_by}
use Rattle.bz_laws.specs.Sound.{EachPart, IsLaidOut}
use Rattle.bz_laws.specs.Values.{IsReachedByTerms, IsReachedInRange, IsReachedByNode, AreReached}
use Rattle.bz_laws.proofs.Fractions.{AtMost-trans, AtMost-refl, plus-mono, times-mono}
use Rattle.bz_laws.proofs.Samples.{AllByRecursion-weaker, below-none}
use Rattle.bz_laws.proofs.Nodes.{HasAt, ClassBelongs, below-of}
use Rattle.bz_laws.proofs.Leaves.{below-atom-at, below-empty-at, below-class-at}
use Rattle.bz_laws.proofs.Unions.{below-union-at}
use Rattle.bz_laws.proofs.Products.{below-product-at}
use Rattle.bz_laws.proofs.Counted.{below-counted-at, below-ranged-at}
use Rattle.bz_laws.proofs.Tallest.{below-class-belongs}
use Rattle.bz_laws.proofs.Values.{each_part-both}
use Rattle.fast_lower.specs.Growth.{term_growth, HasSlope, CoversRangeGrowth, CoversNodeGrowth, CoversGrowth}
use Rattle.fast_lower.specs.Close.{IsNear, IsClose}
use Rattle.fast_lower.proofs.Growing.{sum-grows, total-grows, product-grows}

plus-left : (a b : Fraction) → AtMost a (plus a b)
plus-left a b = omega arith

one-times : (a : Fraction) → AtMost a (times (whole 1) a)
one-times a = omega arith

times-one : (a : Fraction) → AtMost (times (whole 1) a) a
times-one a = omega arith

inward : (s t d : Fraction) → AtMost (times s (times t d)) (times t (times s d))
inward s t d = omega arith

-- What is close at a greater margin.
close-wider : (b a t d e : Fraction) → AtMost b (plus a (times t d)) → AtMost d e → AtMost b (plus a (times t e))
close-wider b a t d e h k = AtMost-trans h (plus-mono (AtMost-refl a) (times-mono (AtMost-refl t) k))

module _ (s : Spec) (x : Fraction) (laid : IsLaidOut s) (told : ℕ → Bool) (t : Fraction) (entry along : ℕ → Fraction) (low_value high_value growth : ℕ → Fraction) (reach : AreReached s x entry low_value) (grow : CoversGrowth s told along high_value growth) (above : (e : ℕ) → e < length s.nodes → Above x (high_value e) (HasAt s (ClassBelongs s) e)) (less : (e : ℕ) → e < length s.nodes → AtMost (low_value e) (high_value e)) (classes : (c body : ℕ) → body_of s c ≡ Some body → IsClose x t (entry c) (along c) (Belongs s body)) where
  -- what the node has
  abbrev HasHere : ℕ → Object → Type 0
  HasHere e = HasAt s (ClassBelongs s) e

  -- A number that is Below for the node, and that the node's lower number is close to.
  record Reaches (e : ℕ) (a : Fraction) : Type 0 where
    below : Below x a (HasHere e)
    within : AtMost (low_value e) (plus a (times t (growth e)))

  -- The same where the node is there and has a growth.
  record ReachesAt (e : ℕ) : Type 0 where
    reached : Fraction
    holds : e < length s.nodes → IsTrue (told e) → Reaches e reached

  -- The same of a node before a place.
  record ReachesBefore (n e : ℕ) : Type 0 where
    reached : Fraction
    holds : e < n → e < length s.nodes → IsTrue (told e) → Reaches e reached

  -- a lower bound of a node is at most its upper value
  most : (e : ℕ) (a : Fraction) → e < length s.nodes → Below x a (HasHere e) → AtMost a (high_value e)
  most e a within down = AtMost-trans down.reached ((above e within).holds down.list down.sample)

  near : (e : ℕ) (a : Fraction) → e < length s.nodes → Reaches e a → IsNear t a (low_value e) (high_value e) (growth e)
  near e a within r = record { within = r.within; a_most = most e a within r.below; b_most = less e within }

  module _ (e : ℕ) (before : (p : ℕ) → ReachesBefore e p) where
    abbrev given : ℕ → Fraction
    given p = (before p).reached

    module _ (node : Node) (at : node_at s e ≡ Some node) where
      inside : e < length s.nodes
      inside = slice_get_within s.nodes e node at

      -- the parts, where the node has a growth
      parts-reach : IsTrue (told e) → EachPart (λ p. Reaches p (given p)) node
      parts-reach is_told = each_part-both (λ p lower here. (before p).holds lower (omega (arith, inside)) here) node (laid.below e node at) (grow.parts e node is_told at)

      parts-near : IsTrue (told e) → EachPart (λ p. IsNear t (given p) (low_value p) (high_value p) (growth p)) node
      parts-near is_told = each_part-both (λ p lower r. near p (given p) (omega (arith, inside)) r) node (laid.below e node at) (parts-reach is_told)

    -- a counted node
    module _ (part : ℕ) (node : Node) (form : Objects → Object) (at : node_at s e ≡ Some node) (c : IsCounted node part form) (part-near : IsTrue (told e) → IsNear t (given part) (low_value part) (high_value part) (growth part)) (part-below : IsTrue (told e) → Below x (given part) (HasHere part)) where
      within-sum : (low n : ℕ) (slope : Fraction) → IsNear t (given part) (low_value part) (high_value part) (growth part) → AtMost (low_value e) (sum_from (term_of node (low_value part)) low n) → AtMost (sum_from (term_growth node (high_value part)) low n) slope → AtMost (times slope (growth part)) (growth e) → AtMost (low_value e) (plus (sum_from (term_of node (given part)) low n) (times t (growth e)))
      within-sum low n slope k reached covers along_slope =
          let g = sum_from (term_growth node (high_value part)) low n in
          let d = growth part in
          AtMost-trans reached
          (AtMost-trans (sum-grows (given part) (low_value part) (high_value part) (times t d) k.within k.a_most k.b_most node low n)
          (plus-mono (AtMost-refl (sum_from (term_of node (given part)) low n))
          (AtMost-trans (inward g t d) (times-mono (AtMost-refl t) (AtMost-trans (times-mono covers (AtMost-refl d)) along_slope)))))

      counted-high : (r : Range) → range_at s e ≡ Some r → (high : Option ℕ) → r.high ≡ high → IsReachedByTerms node (low_value part) r.low high (low_value e) → (IsTrue (told e) → HasSlope node (high_value part) (growth part) r.low high (growth e)) → ReachesAt e
      counted-high r ranged None eq reached slope =
          let q : range_at s e ≡ Some (record { low = r.low; high = None }) = subst (λ h. range_at s e ≡ Some (record { low = r.low; high = h })) eq ranged in
          record {
            reached = sum_from (term_of node (given part)) r.low reached.0;
            holds = λ within is_told. record {
              below = below-counted-at s (ClassBelongs s) x (given part) part e node form at c r.low reached.0 q (part-below is_told);
              within = let k = slope is_told in within-sum r.low reached.0 k.slope (part-near is_told) reached.1 (k.covers reached.0) k.along;
            };
          }
      counted-high r ranged (Some high) eq reached slope =
          let q : range_at s e ≡ Some (record { low = r.low; high = Some high }) = subst (λ h. range_at s e ≡ Some (record { low = r.low; high = h })) eq ranged in
          record {
            reached = sum_from (term_of node (given part)) r.low (suc high - r.low);
            holds = λ within is_told. record {
              below = below-ranged-at s (ClassBelongs s) x (given part) part e node form at c r.low high q (part-below is_told);
              within = let k = slope is_told in within-sum r.low (suc high - r.low) k.slope (part-near is_told) reached k.covers k.along;
            };
          }

      counted : (r : Option Range) → range_at s e ≡ r → IsReachedInRange node (low_value part) r (low_value e) → (IsTrue (told e) → CoversRangeGrowth node (high_value part) (growth part) r (growth e)) → ReachesAt e
      counted None eq reached slope = record {
        reached = whole 0;
        holds = λ within is_told. record { below = below-none; within = AtMost-trans reached (plus-left (whole 0) (times t (growth e))) };
      }
      counted (Some r) eq reached slope = counted-high r eq r.high refl reached slope

    -- one node
    node-reaches : (node : Node) → node_at s e ≡ Some node → IsReachedByNode x entry low_value node (range_at s e) (low_value e) → (IsTrue (told e) → CoversNodeGrowth along high_value growth node (range_at s e) (growth e)) → ReachesAt e
    node-reaches (Node.Empty word) at reached slope = record {
      reached = whole 1;
      holds = λ within is_told. record { below = below-empty-at s (ClassBelongs s) x e word at; within = AtMost-trans reached (plus-left (whole 1) (times t (growth e))) };
    }
    node-reaches (Node.Atom word) at reached slope = record {
      reached = x;
      holds = λ within is_told. record { below = below-atom-at s (ClassBelongs s) x e word at; within = AtMost-trans reached (plus-left x (times t (growth e))) };
    }
    node-reaches (Node.Class c) at reached slope =
        let b = laid.classes e c at in
        let k = classes c b.0 b.1 in
        record {
          reached = k.reached;
          holds = λ within is_told. record {
            below = below-class-at s (ClassBelongs s) x e c at (below-class-belongs s x c b.0 b.1 k.below);
            within = AtMost-trans reached (close-wider (entry c) k.reached t (along c) (growth e) k.within (slope is_told));
          };
        }
    node-reaches (Node.Union ps) at reached slope = record {
      reached = total_by given ps;
      holds = λ within is_told. record {
        below = below-union-at s (ClassBelongs s) x e ps at given (AllByRecursion-weaker (λ p r. r.below) ps (parts-reach (Node.Union ps) at is_told));
        within = AtMost-trans reached (close-wider (total_by low_value ps) (total_by given ps) t (total_by growth ps) (growth e) (total-grows given low_value high_value growth t ps (parts-near (Node.Union ps) at is_told)) (slope is_told));
      };
    }
    node-reaches (Node.Product ps) at reached slope = record {
      reached = product_by given ps;
      holds = λ within is_told. record {
        below = below-product-at s (ClassBelongs s) x given e ps at (AllByRecursion-weaker (λ p r. r.below) ps (parts-reach (Node.Product ps) at is_told));
        within =
            AtMost-trans reached
            (AtMost-trans (one-times (product_by low_value ps))
            (AtMost-trans (product-grows given low_value high_value growth t (whole 1) ps (parts-near (Node.Product ps) at is_told))
            (plus-mono (times-one (product_by given ps)) (times-mono (AtMost-refl t) (slope is_told)))));
      };
    }
    node-reaches (Node.Seq part) at reached slope = counted part (Node.Seq part) Object.SeqOf at (refl, refl) (parts-near (Node.Seq part) at) (λ is_told. (parts-reach (Node.Seq part) at is_told).below) (range_at s e) refl reached slope
    node-reaches (Node.Set part) at reached slope = counted part (Node.Set part) Object.SetOf at (refl, refl) (parts-near (Node.Set part) at) (λ is_told. (parts-reach (Node.Set part) at is_told).below) (range_at s e) refl reached slope
    node-reaches (Node.Cyc part) at reached slope = counted part (Node.Cyc part) Object.CycOf at (refl, refl) (parts-near (Node.Cyc part) at) (λ is_told. (parts-reach (Node.Cyc part) at is_told).below) (range_at s e) refl reached slope

    there-reaches : (n : Option Node) → node_at s e ≡ n → ReachesAt e
    there-reaches None at = record { reached = whole 0; holds = λ within is_told. absurd (none-past s.nodes e at within) }
      where
        none-past : (nodes : List Node) (i : ℕ) → slice_get nodes i ≡ None → i < length nodes → ⊥
        none-past [] i none within = omega arith
        none-past (node ∷ nodes) zero none within = cc
        none-past (node ∷ nodes) (suc i) none within = none-past nodes i none (omega arith)
    there-reaches (Some node) at = node-reaches node at (reach.node e node at) (λ is_told. grow.node e node is_told at)

  -- one node more
  one-more : (n e : ℕ) → ReachesBefore n e → (Unit {0} → ReachesAt n) → Dec (suc e ≤ n) → ReachesBefore (suc n) e
  one-more n e h at_n (yes lower) = record { reached = h.reached; holds = λ _ within is_told. h.holds lower within is_told }
  one-more n e h at_n (no past) =
      let r = at_n tt in
      record {
        reached = r.reached;
        holds = λ lower within is_told.
            let same : n ≡ e = omega (arith, past) in
            subst (λ i. i < length s.nodes → IsTrue (told i) → Reaches i r.reached) same r.holds within is_told;
      }

  all-before : (n e : ℕ) → ReachesBefore n e
  all-before zero e = record { reached = whole 0; holds = λ lower within is_told. absurd (omega arith) }
  all-before (suc n) e = one-more n e (all-before n e) (λ _. there-reaches n (all-before n) (node_at s n) refl) (dec_le (suc e) n)

  -- Each node's lower number is reached but for t times its growth.
  pub node-close : (e : ℕ) → e < length s.nodes → IsTrue (told e) → IsClose x t (low_value e) (growth e) (Belongs s e)
  node-close e within is_told =
      let h = all-before (suc e) e in
      let r = h.holds (omega arith) within is_told in
      record { reached = h.reached; below = below-of s x e r.below; within = r.within }
