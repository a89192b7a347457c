-- A list of distinct objects splits at an option, by the test whether the option is less.
use Rattle.std.proofs.Common.{◌≡◌, ℕ, ◌<◌, ◌≤◌, List, [], ◌∷◌, arith, refl, Bool, true, false, nat_lt}
use Rattle.std.specs.Prelude.{cond}
use Rattle.std.specs.List.{AllByRecursion, filter}
use Rattle.bz_model.specs.Fraction.{Fraction}
use Rattle.bz_model.specs.Spec.{Spec}
use Rattle.bz_model.specs.Object.{Object}
use Rattle.bz_model.specs.Ideal.{option_of, Upto}
use Rattle.bz_model.specs.Measures.{weight}
use Rattle.bz_model.specs.Totals.{IsSample}
use Rattle.bz_laws.proofs.Lists.{filter-distinct, filter-total}
use Rattle.bz_laws.specs.ByOption.{HasOptionBelow, HasOption, SplitsAt}

-- What passes a test has what the test says.
filter-told : {A : Type 0} (P Q : A → Type 0) (test : A → Bool) → ((a : A) → test a ≡ true → P a → Q a) → (xs : List A) → AllByRecursion P xs → AllByRecursion Q (filter test xs)
filter-told P Q test tells [] h = tt
filter-told {A} P Q test tells (a ∷ xs) h = go (test a) (λ e. tells a e h.0) (filter-told P Q test tells xs h.1)
  where
    go : (b : Bool) → (b ≡ true → Q a) → AllByRecursion Q (filter test xs) → AllByRecursion Q (cond b (a ∷ filter test xs) (filter test xs))
    go true q k = (q refl, k)
    go false q k = k

below-told : (o : Object) (i : ℕ) → nat_lt (option_of o) i ≡ true → option_of o < i
below-told o i e = grind arith

others-told : (o : Object) (i : ℕ) → cond (nat_lt (option_of o) i) false true ≡ true → option_of o ≤ i → option_of o ≡ i
others-told o i e le = grind arith

-- The lesser ones and the others, of which each has the option itself.
pub split-at : (s : Spec) (x : Fraction) (e i : ℕ) (os : List Object) → IsSample (Upto s e i) os → SplitsAt s x e i os
split-at s x e i os h =
    let test : Object → Bool = λ o. nat_lt (option_of o) i in
    let other : Object → Bool = λ o. cond (nat_lt (option_of o) i) false true in
    record {
      lesser = filter test os;
      equal = filter other os;
      lesser_sample = record { distinct = filter-distinct test os h.distinct; each = filter-told (Upto s e i) (HasOptionBelow s e i) test (λ o t u. (u.0, below-told o i t)) os h.each };
      equal_sample = record { distinct = filter-distinct other os h.distinct; each = filter-told (Upto s e i) (HasOption s e i) other (λ o t u. (u.0, others-told o i t u.1)) os h.each };
      totals = filter-total (weight x) test os;
    }
