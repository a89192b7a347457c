-- Vectors of entries and of node values that bound, or are reached by, what the objects total.
use Rattle.std.specs.Prelude.{◌≡◌, ℕ, ◌<◌, List, length, slice_index, Option, Some}
use Rattle.bz_model.specs.Fraction.{Fraction, units}
use Rattle.bz_model.specs.Spec.{Spec, body_of}
use Rattle.bz_model.specs.Object.{HasWithin, Belongs}
use Rattle.bz_model.specs.Totals.{Above, Below}
use Rattle.rounded_map.specs.RoundedMap.{value_at}

-- Each entry is at least what every list of distinct objects of its class totals.
pub record AreAbove (s : Spec) (x : Fraction) (F : ℕ) (classes : List ℕ) : Type 0 where
  pub at : (c body : ℕ) → body_of s c ≡ Some body
      → Above x (units F (slice_index classes c)) (Belongs s body)

-- The same of the objects of height at most h in the class's body.
pub record AreAboveWithin (s : Spec) (x : Fraction) (F h : ℕ) (classes : List ℕ) : Type 0 where
  pub at : (c body : ℕ) → body_of s c ≡ Some body
      → Above x (units F (slice_index classes c)) (HasWithin s h (Some body))

-- Each entry is at most what some list of distinct objects of its class totals.
pub record AreBelow (s : Spec) (x : Fraction) (F : ℕ) (classes : List ℕ) : Type 0 where
  pub at : (c body : ℕ) → body_of s c ≡ Some body
      → Below x (units F (slice_index classes c)) (Belongs s body)

-- Each upper value, where there is one, is at least what every list of distinct objects of its node
-- totals.
pub record ValuesAbove (s : Spec) (x : Fraction) (F : ℕ) (values : List (Option ℕ)) : Type 0 where
  pub at : (e v : ℕ) → value_at values e ≡ Some v → Above x (units F v) (Belongs s e)

-- The same of the node's objects of height at most h.
pub record ValuesAboveWithin (s : Spec) (x : Fraction) (F h : ℕ) (values : List (Option ℕ)) : Type 0
  where
    pub at : (e v : ℕ) → value_at values e ≡ Some v → Above x (units F v) (HasWithin s h (Some e))

-- Each lower value is at most what some list of distinct objects of its node totals.
pub record ValuesBelow (s : Spec) (x : Fraction) (F : ℕ) (values : List ℕ) : Type 0 where
  pub at : (e : ℕ) → e < length s.nodes → Below x (units F (slice_index values e)) (Belongs s e)
