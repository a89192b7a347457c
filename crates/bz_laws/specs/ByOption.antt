-- The objects of a node by their option.
use Rattle.std.specs.Prelude.{◌≡◌, ℕ, ◌<◌, List}
use Rattle.bz_model.specs.Fraction.{Fraction, plus}
use Rattle.bz_model.specs.Spec.{Spec}
use Rattle.bz_model.specs.Object.{Object, Belongs}
use Rattle.bz_model.specs.Ideal.{option_of}
use Rattle.bz_model.specs.Totals.{IsSample, total}
use Rattle.bz_laws.specs.Terms.{AreEqual}

-- The objects of a node with an option below i.
abbrev pub HasOptionBelow : Spec → (e i : ℕ) → Object → Type 0
HasOptionBelow s e i o = Belongs s e o × (option_of o < i)

-- The objects of a node with the option i.
abbrev pub HasOption : Spec → (e i : ℕ) → Object → Type 0
HasOption s e i o = Belongs s e o × (option_of o ≡ i)

-- A list of distinct objects splits at the option i into one of those with a lesser option and one
-- of those with this option, and the totals add up.
pub record SplitsAt (s : Spec) (x : Fraction) (e i : ℕ) (os : List Object) : Type 0 where
  pub lesser : List Object
  pub equal : List Object
  pub lesser_sample : IsSample (HasOptionBelow s e i) lesser
  pub equal_sample : IsSample (HasOption s e i) equal
  pub totals : AreEqual (total x os) (plus (total x lesser) (total x equal))
