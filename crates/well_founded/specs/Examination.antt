-- What the examination of a specification tells.
use Rattle.std.specs.Prelude.{◌≡◌, ℕ, ◌<◌, Bool, List, Some}
use Rattle.bz_model.specs.Spec.{Spec, body_of}
use Rattle.bz_model.specs.WellFounded.{IsWellFounded}
use Rattle.well_founded.specs.Foundedness.{HasSome, LacksObject, RepeatsZero, LeadsRound}
use Rattle.well_founded.specs.Marking.{AreMarked}
use Rattle.well_founded.specs.declared.cause.UnfoundedCause.{UnfoundedCause}
use Rattle.well_founded.specs.declared.cause.UnfoundedCause.TheVariants.{NoObject, ZeroPart}
use Rattle.well_founded.specs.declared.cause.UnfoundedCause.TheVariants.{ZeroLoop, OutOfMemory}

-- A number has a property, and none below it has.
pub record IsLeast (P : ℕ → Type 0) (n : ℕ) : Type 0 where
  pub holds : P n
  pub least : (k : ℕ) → k < n → ¬ (P k)

-- Each class has an object.
pub record EachHasObject (s : Spec) : Type 0 where
  pub objects : (c body : ℕ) → body_of s c ≡ Some body → HasSome s body

-- Each class has an object, and this is the least counted node without high whose part has an
-- object of size 0.
pub record IsFirstRepeat (s : Spec) (e : ℕ) : Type 0 where
  pub objects : EachHasObject s
  pub first : IsLeast (RepeatsZero s) e

-- Each class has an object, no counted node without high has a part with an object of size 0, and
-- this is the least class that leads to itself.
pub record IsFirstRound (s : Spec) (c : ℕ) : Type 0 where
  pub objects : EachHasObject s
  pub parts : (e : ℕ) → ¬ (RepeatsZero s e)
  pub first : IsLeast (LeadsRound s) c

-- The cause is the first one that the rule has, at the least number.
abbrev pub TellsCause : Spec → UnfoundedCause → Type 0
TellsCause s (NoObject c) = IsLeast (LacksObject s) c.0
TellsCause s (ZeroPart e) = IsFirstRepeat s e.0
TellsCause s (ZeroLoop c) = IsFirstRound s c.0
TellsCause s OutOfMemory = Unit {0}

-- The specification is well founded, and the marked nodes are those with an object of size 0.
pub record IsFoundedBy (s : Spec) (zero : List Bool) : Type 0 where
  pub well_founded : IsWellFounded s
  pub zeros : AreMarked s ⊥ zero
