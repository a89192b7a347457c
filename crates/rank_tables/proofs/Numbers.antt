-- The rule over numbers alone: what two tables have in relation passes from the parts to the node.
use Rattle.std.proofs.Common.{◌≡◌, ℕ, zero, suc, ◌+◌, ◌-◌, ◌*◌, ◌<◌, ◌≤◌, List, [], ◌∷◌, Some, arith, sym, subst}
use Rattle.std.specs.Prelude.{sum_by}
use Rattle.std.specs.List.{AllByRecursion}
use Rattle.std.proofs.lemmas.List.Sums.{sum_by-cons}
use Rattle.std.proofs.lemmas.Option.{slice_get_within}
use Rattle.std.proofs.Math.Nat.{mul-le-mul}
use Rattle.bz_model.specs.Spec.{Spec, Node, node_at}
use Rattle.bz_laws.specs.Sound.{EachPart, IsLaidOut}
use Rattle.bz_laws.proofs.Samples.{AllByRecursion-weaker}
use Rattle.rank_tables.specs.TableRule.{one_at, sum_below, tuples, rule}
use Rattle.rank_tables.proofs.Related.{PassesOn}
use Rattle.rank_tables.proofs.Table.{node-there}

module _ (Rel : ℕ → ℕ → Type 0) (keeps : PassesOn Rel) where
  one_at-passes : (a n : ℕ) → Rel (one_at a n) (one_at a n)
  one_at-passes zero zero = keeps.ones
  one_at-passes zero (suc n) = keeps.zeros
  one_at-passes (suc a) zero = keeps.zeros
  one_at-passes (suc a) (suc n) = one_at-passes a n

  pub sum_below-passes : (f g : ℕ → ℕ) (n : ℕ) → ((j : ℕ) → j < n → Rel (f j) (g j)) → Rel (sum_below n f) (sum_below n g)
  sum_below-passes f g zero h = keeps.zeros
  sum_below-passes f g (suc n) h = keeps.sums (sum_below n f) (sum_below n g) (f n) (g n) (sum_below-passes f g n (λ j lt. h j (omega arith))) (h n (omega arith))

  pub sum_by-passes : (f g : ℕ → ℕ) (parts : List ℕ) → AllByRecursion (λ p. Rel (f p) (g p)) parts → Rel (sum_by f parts) (sum_by g parts)
  sum_by-passes f g [] h = keeps.zeros
  sum_by-passes f g (p ∷ parts) h =
      subst (λ z. Rel z (sum_by g (p ∷ parts))) (sym (sum_by-cons f p parts))
      (subst (Rel (f p + sum_by f parts)) (sym (sum_by-cons g p parts)) (keeps.sums (f p) (g p) (sum_by f parts) (sum_by g parts) h.0 (sum_by-passes f g parts h.1)))

  pub tuples-passes : (t u : ℕ → ℕ → ℕ) (n : ℕ) (parts : List ℕ) → AllByRecursion (λ p. (m : ℕ) → m ≤ n → Rel (t p m) (u p m)) parts → Rel (tuples t parts n) (tuples u parts n)
  tuples-passes t u n [] h = one_at-passes 0 n
  tuples-passes t u n (p ∷ parts) h =
      sum_below-passes (λ j. t p j * tuples t parts (n - j)) (λ j. u p j * tuples u parts (n - j)) (suc n)
      (λ j lt. keeps.products (t p j) (u p j) (tuples t parts (n - j)) (tuples u parts (n - j)) (h.0 j (omega arith)) (tuples-passes t u (n - j) parts (AllByRecursion-weaker (λ q k m le. k m (omega arith)) parts h.1)))

  -- where two tables have their numbers from the rule, in the relation's sense, and the classes' numbers are in relation, so are all numbers
  module _ (s : Spec) (laid_out : IsLaidOut s) (most : ℕ) (entry other : ℕ → ℕ → ℕ) (t u : ℕ → ℕ → ℕ)
      (classes : (c n : ℕ) → n ≤ most → Rel (entry c n) (other c n))
      (pass : (e n : ℕ) (node : Node) → n ≤ most → node_at s e ≡ Some node → Rel (rule entry t e node n) (rule other u e node n) → Rel (t e n) (u e n)) where
    sequence : (e part : ℕ) → node_at s e ≡ Some (Node.Seq part) → ((m : ℕ) → m ≤ most → Rel (t part m) (u part m)) → (bound n : ℕ) → n < bound → n ≤ most → Rel (t e n) (u e n)
    sequence e part at parts zero n lt le = absurd (omega arith)
    sequence e part at parts (suc bound) n lt le =
        pass e n (Node.Seq part) le at
        (keeps.sums (one_at 0 n) (one_at 0 n) (sum_below n (λ j. t part (suc j) * t e (n - suc j))) (sum_below n (λ j. u part (suc j) * u e (n - suc j))) (one_at-passes 0 n)
        (sum_below-passes (λ j. t part (suc j) * t e (n - suc j)) (λ j. u part (suc j) * u e (n - suc j)) n
        (λ j small. keeps.products (t part (suc j)) (u part (suc j)) (t e (n - suc j)) (u e (n - suc j)) (parts (suc j) (omega arith)) (sequence e part at parts bound (n - suc j) (omega arith) (omega arith)))))

    related : (bound e n : ℕ) (node : Node) → e < bound → n ≤ most → node_at s e ≡ Some node → Rel (t e n) (u e n)
    related zero e n node lt le at = absurd (omega arith)
    related (suc bound) e n node lt le at = by_kind (λ p m small fits. let inside = slice_get_within s.nodes e node at in let r = node-there s.nodes p (omega arith) in related bound p m r.0 (omega arith) fits r.1) node at (laid_out.below e node at)
      where
        by_kind : ((p m : ℕ) → p < e → m ≤ most → Rel (t p m) (u p m)) → (node : Node) → node_at s e ≡ Some node → EachPart (λ p. p < e) node → Rel (t e n) (u e n)
        by_kind part (Node.Empty word) at b = pass e n (Node.Empty word) le at (one_at-passes 0 n)
        by_kind part (Node.Atom word) at b = pass e n (Node.Atom word) le at (one_at-passes 1 n)
        by_kind part (Node.Class c) at b = pass e n (Node.Class c) le at (classes c n le)
        by_kind part (Node.Union parts) at b = pass e n (Node.Union parts) le at (sum_by-passes (λ p. t p n) (λ p. u p n) parts (AllByRecursion-weaker (λ p small. part p n small le) parts b))
        by_kind part (Node.Product parts) at b = pass e n (Node.Product parts) le at (tuples-passes t u n parts (AllByRecursion-weaker (λ p small m fits. part p m small (omega arith)) parts b))
        by_kind part (Node.Seq p) at b = sequence e p at (λ m fits. part p m b fits) (suc n) n (omega arith) le
        by_kind part (Node.Set p) at b = pass e n (Node.Set p) le at keeps.zeros
        by_kind part (Node.Cyc p) at b = pass e n (Node.Cyc p) le at keeps.zeros

    pub rows-related : (e n : ℕ) (node : Node) → n ≤ most → node_at s e ≡ Some node → Rel (t e n) (u e n)
    rows-related e n node le at = related (suc e) e n node (omega arith) le at

-- numbers that are at most others pass on
pub grows-passes : PassesOn (λ a b. a ≤ b)
grows-passes = record {
  zeros = omega arith;
  ones = omega arith;
  sums = λ a b c d h k. omega arith;
  products = λ a b c d h k. mul-le-mul h k;
}
