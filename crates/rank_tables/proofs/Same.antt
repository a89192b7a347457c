-- Tables that agree where the rule reads them give the same numbers.
use Rattle.std.proofs.Common.{◌≡◌, ℕ, suc, ◌+◌, ◌-◌, ◌*◌, ◌<◌, ◌≤◌, List, [], ◌∷◌, arith, refl, sym, ◌∙◌, ap, subst}
use Rattle.std.specs.List.{AllByRecursion}
use Rattle.bz_model.specs.Spec.{Node}
use Rattle.bz_laws.specs.Sound.{EachPart}
use Rattle.bz_laws.proofs.Samples.{AllByRecursion-weaker}
use Rattle.rank_tables.specs.Capped.{Tells}
use Rattle.rank_tables.specs.Grids.{Cells, cell, AreSuffixes}
use Rattle.rank_tables.specs.TableRule.{one_at, tuples, rule}
use Rattle.rank_tables.proofs.Related.{same-passes}
use Rattle.rank_tables.proofs.Numbers.{sum_below-passes, sum_by-passes, tuples-passes}

-- The rule gives the same number from tables that agree on the parts up to the size, and on the node itself below the size.
pub rule-same : (entry other t u : ℕ → ℕ → ℕ) (e n : ℕ) (node : Node) → EachPart (λ p. p < e) node → ((p m : ℕ) → p < e → m ≤ n → t p m ≡ u p m) → ((m : ℕ) → m < n → t e m ≡ u e m) → ((c : ℕ) → entry c n ≡ other c n) → rule entry t e node n ≡ rule other u e node n
rule-same entry other t u e n (Node.Empty word) below parts own classes = refl
rule-same entry other t u e n (Node.Atom word) below parts own classes = refl
rule-same entry other t u e n (Node.Class c) below parts own classes = classes c
rule-same entry other t u e n (Node.Union ps) below parts own classes = sum_by-passes (λ a b. a ≡ b) same-passes (λ p. t p n) (λ p. u p n) ps (AllByRecursion-weaker (λ p small. parts p n small (omega arith)) ps below)
rule-same entry other t u e n (Node.Product ps) below parts own classes = tuples-passes (λ a b. a ≡ b) same-passes t u n ps (AllByRecursion-weaker (λ p small m fits. parts p m small fits) ps below)
rule-same entry other t u e n (Node.Seq p) below parts own classes =
    ap (λ z. one_at 0 n + z)
    (sum_below-passes (λ a b. a ≡ b) same-passes (λ j. t p (suc j) * t e (n - suc j)) (λ j. u p (suc j) * u e (n - suc j)) n
    (λ j lt. ap (λ z. z * t e (n - suc j)) (parts p (suc j) below (omega arith)) ∙ ap (λ z. u p (suc j) * z) (own (n - suc j) (omega arith))))
rule-same entry other t u e n (Node.Set p) below parts own classes = refl
rule-same entry other t u e n (Node.Cyc p) below parts own classes = refl

-- The tails of a list of parts are the same where the rows of the parts are, and their own numbers.
pub record Agree (t u : ℕ → ℕ → ℕ) (g h : Cells) (n p : ℕ) : Type 0 where
  pub rows : (m : ℕ) → m ≤ n → t p m ≡ u p m
  pub tail : cell h p n ≡ cell g p n

-- Where the numbers up to n and the tail cells at n of all parts agree, tails that are right by one
-- table are right by the other.
pub suffixes-same : (t u : ℕ → ℕ → ℕ) (g h : Cells) (parts : List ℕ) (n : ℕ) → AllByRecursion (Agree t u g h n) parts → AreSuffixes t g parts n → AreSuffixes u h parts n
suffixes-same t u g h [] n same k = tt
suffixes-same t u g h (p ∷ ps) n same k = (
  subst (λ v. Tells v (tuples u (p ∷ ps) n)) (sym (same.0).tail) (subst (Tells (cell g p n)) (tuples-passes (λ a b. a ≡ b) same-passes t u n (p ∷ ps) (AllByRecursion-weaker (λ q a. a.rows) (p ∷ ps) same)) k.0),
  suffixes-same t u g h ps n same.1 k.1,
)

-- What holds of every number holds of all elements of a list.
pub all-of : {P : ℕ → Type 0} → ((p : ℕ) → P p) → (xs : List ℕ) → AllByRecursion P xs
all-of h [] = tt
all-of h (x ∷ xs) = (h x, all-of h xs)
