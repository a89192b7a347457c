-- The counts of each kind of node from those of its parts.
use Rattle.std.proofs.Common.{◌≡◌, ℕ, suc, ◌+◌, ◌-◌, ◌*◌, ◌≤◌, List, Some, arith, refl, sym, ◌∙◌}
use Rattle.std.specs.Prelude.{sum_by}
use Rattle.std.specs.List.{AllByRecursion}
use Rattle.bz_model.specs.Spec.{Spec, Node, node_at, range_at, body_of, plain_range}
use Rattle.bz_model.specs.Object.{Object}
use Rattle.bz_model.specs.Measures.{HasZero}
use Rattle.bz_laws.proofs.Samples.{AllByRecursion-weaker}
use Rattle.bz_laws.proofs.Nodes.{ClassBelongs, known, unknown, belongs-has, belongs-of}
use Rattle.bz_laws.proofs.Leaves.{class-into, class-from}
use Rattle.rank_tables.specs.Counting.{HasCount}
use Rattle.rank_tables.specs.RankOrder.{IsSized, IsCount}
use Rattle.rank_tables.specs.TableRule.{one_at, sum_below, tuples}
use Rattle.rank_tables.proofs.Counting.{count-same}
use Rattle.rank_tables.proofs.Related.{same-passes, CountsAs}
use Rattle.rank_tables.proofs.NodeCounts.{SizedAt, as-union, as-lists}
use Rattle.rank_tables.proofs.Table.{as-leaf, as-product, as-sequence, has-atom, has-empty}
use Rattle.rank_tables.proofs.Placed.{exact, counted-as}

module _ (s : Spec) where
  of-belongs : (e n : ℕ) {k : ℕ} → HasCount (SizedAt s (ClassBelongs s) e n) k → IsCount s e n k
  of-belongs e n c = count-same (SizedAt s (ClassBelongs s) e n) (IsSized s e n) (λ o k. (belongs-of s e o k.0, k.1)) (λ o k. (belongs-has s e o k.0, k.1)) c

  as-counted : (e n : ℕ) {k : ℕ} → IsCount s e n k → CountsAs (λ a b. a ≡ b) (SizedAt s (ClassBelongs s) e n) k
  as-counted e n c = counted-as (SizedAt s (ClassBelongs s) e n) (count-same (IsSized s e n) (SizedAt s (ClassBelongs s) e n) (λ o k. (belongs-has s e o k.0, k.1)) (λ o k. (belongs-of s e o k.0, k.1)) c)

  pub empty-count : (e n : ℕ) (word : List ℕ) → node_at s e ≡ Some (Node.Empty word) → IsCount s e n (one_at 0 n)
  empty-count e n word at = of-belongs e n (exact (SizedAt s (ClassBelongs s) e n) (as-leaf s (ClassBelongs s) (λ a b. a ≡ b) same-passes (λ d m. 0) e 0 n Object.Unit_ refl (unknown s (ClassBelongs s) e at Object.Unit_ tt) (λ p h. has-empty s (ClassBelongs s) word (range_at s e) p (known s (ClassBelongs s) e at p h))))

  pub atom-count : (e n : ℕ) (word : List ℕ) → node_at s e ≡ Some (Node.Atom word) → IsCount s e n (one_at 1 n)
  atom-count e n word at = of-belongs e n (exact (SizedAt s (ClassBelongs s) e n) (as-leaf s (ClassBelongs s) (λ a b. a ≡ b) same-passes (λ d m. 0) e 1 n Object.Dot refl (unknown s (ClassBelongs s) e at Object.Dot tt) (λ p h. has-atom s (ClassBelongs s) word (range_at s e) p (known s (ClassBelongs s) e at p h))))

  pub class-count : (e c body n k : ℕ) → node_at s e ≡ Some (Node.Class c) → body_of s c ≡ Some body → IsCount s body n k → IsCount s e n k
  class-count e c body n k at is count = count-same (IsSized s body n) (IsSized s e n) (λ o h. (class-into s e c body at is o h.0, h.1)) (λ o h. (class-from s e c body at is o h.0, h.1)) count

  pub union-count : (t : ℕ → ℕ → ℕ) (e n : ℕ) (parts : List ℕ) → node_at s e ≡ Some (Node.Union parts) → AllByRecursion (λ p. IsCount s p n (t p n)) parts → IsCount s e n (sum_by (λ p. t p n) parts)
  union-count t e n parts at h = of-belongs e n (exact (SizedAt s (ClassBelongs s) e n) (as-union s (ClassBelongs s) (λ a b. a ≡ b) same-passes t e n parts at (AllByRecursion-weaker (λ p c. as-counted p n c) parts h)))

  pub product-count : (t : ℕ → ℕ → ℕ) (e n : ℕ) (parts : List ℕ) → node_at s e ≡ Some (Node.Product parts) → AllByRecursion (λ p. (m : ℕ) → m ≤ n → IsCount s p m (t p m)) parts → IsCount s e n (tuples t parts n)
  product-count t e n parts at h = of-belongs e n (exact (SizedAt s (ClassBelongs s) e n) (as-product s (ClassBelongs s) (λ a b. a ≡ b) same-passes t n e n parts at (omega arith) (AllByRecursion-weaker (λ p c m le. as-counted p m (c m le)) parts h)))

  pub sequence-count : (t : ℕ → ℕ → ℕ) (e part n : ℕ) → node_at s e ≡ Some (Node.Seq part) → range_at s e ≡ Some (plain_range (Node.Seq part)) → ¬ (HasZero s part) → ((m : ℕ) → m ≤ n → IsCount s part m (t part m)) → ((m : ℕ) → m ≤ n → t e m ≡ one_at 0 m + sum_below m (λ j. t part (suc j) * t e (m - suc j))) → IsCount s e n (t e n)
  sequence-count t e part n at plain no_zero parts row =
      of-belongs e n (exact (SizedAt s (ClassBelongs s) e n)
      (as-sequence s (ClassBelongs s) (λ a b. a ≡ b) same-passes t e n part at plain
      (as-lists s (ClassBelongs s) (λ a b. a ≡ b) same-passes t n e part (λ m le. as-counted part m (parts m le)) (λ o h is. no_zero (record { object = o; belongs = belongs-of s part o h; no_atom = is })) (λ m j le eq. eq ∙ sym (row m le)) (suc n) n (omega arith) (omega arith))))
