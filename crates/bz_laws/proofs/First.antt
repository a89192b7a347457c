-- The first option of a counted node is its low.
use Rattle.std.proofs.Common.{◌≡◌, ℕ, suc, ◌*◌, ◌^◌, ◌<◌, ◌≤◌, inr, List, [], ◌∷◌, arith, Option, Some}
use Rattle.bz_model.specs.Fraction.{Fraction, AtMost, plus, times, whole, one_in, units}
use Rattle.bz_model.specs.Spec.{Spec, Node, node_at, range_at}
use Rattle.bz_model.specs.Object.{Object, Objects, Belongs}
use Rattle.bz_model.specs.Totals.{Above, Below, IsSample, total}
use Rattle.bz_model.specs.Ideal.{Before, Upto, IsIdealOption}
use Rattle.bz_model.specs.Making.{IsCounted}
use Rattle.bz_model.specs.Cell.{IsInCell}
use Rattle.bz_laws.proofs.Options.{decided}
use Rattle.bz_laws.proofs.Counted.{not-below-low, high-greatest}
use Rattle.bz_laws.proofs.Makings.{ideal-taken}

-- nothing comes before the end of an option up to which there is nothing
pub none-before-nothing : (s : Spec) (x u : Fraction) (e j : ℕ) → ((o : Object) → ¬ (Upto s e j o)) → ¬ (Before s x u e j)
none-before-nothing s x u e j never b = go b.list b.sample (b.reached [] (record { distinct = tt; each = tt }))
  where
    go : (os : List Object) → IsSample (Upto s e j) os → AtMost (plus (times u (whole 0)) (one_in b.gap b.gap_pos)) (total x os) → ⊥
    go [] k h = let c = h.cross in let p = u.positive in omega arith
    go (o ∷ os) k h = never o k.each.0

module _ (s : Spec) (e part low : ℕ) (high : Option ℕ) (node : Node) (form : Objects → Object) (at : node_at s e ≡ Some node) (c : IsCounted node part form) (ranged : range_at s e ≡ Some (record { low = low; high = high })) where
  pub none-upto : (i : ℕ) → i < low → (o : Object) → ¬ (Upto s e i o)
  none-upto i lt o h = let l = not-below-low s e part low high node form at c ranged o h.0 in let r = h.1 in omega arith

  pub none-before-low : (x u : Fraction) (j : ℕ) → j < low → ¬ (Before s x u e j)
  none-before-low x u j lt = none-before-nothing s x u e j (none-upto j lt)

  -- the low needs the first test alone
  pub low-decided : (x u : Fraction) (k b F lo hi : ℕ) → 0 < x.num → (o : Object) → Belongs s e o → Above x (units F hi) (Belongs s e) → Below x (units F lo) (Upto s e low) → suc k * hi ≤ 2 ^ b * lo → IsInCell k b u → IsIdealOption s x u e low
  low-decided x u k b F lo hi p o belongs up down h cell = decided s x u k b F e low lo hi p o belongs up down h (none-before-low x u) cell

  -- no option below it is ideal
  pub none-ideal-below : (x u : Fraction) (i : ℕ) → i < low → ¬ (IsIdealOption s x u e i)
  none-ideal-below x u i lt ideal =
      let t = ideal-taken s x u e i ideal in
      let l = not-below-low s e part low high node form at c ranged t.object t.belongs in
      let q = t.option in
      omega arith

-- where it is the high too it needs no test
pub low-only : (s : Spec) (x u : Fraction) (e part low : ℕ) (node : Node) (form : Objects → Object) → node_at s e ≡ Some node → IsCounted node part form → range_at s e ≡ Some (record { low = low; high = Some low }) → (o : Object) → Belongs s part o → IsIdealOption s x u e low
low-only s x u e part low node form at c ranged o b = record {
  none_before = λ j lt. none-before-low s e part low (Some low) node form at c ranged x u j lt;
  here = inr (high-greatest s e part low low node form at c ranged (omega arith) o b);
}
