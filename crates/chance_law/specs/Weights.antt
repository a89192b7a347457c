-- The weights that a walk over the tokens of an object has come to.
use Rattle.std.specs.Prelude.{◌≡◌, ℕ, suc, ◌+◌, ◌*◌, List, [], ◌∷◌, length}
use Rattle.bz_model.specs.Spec.{Spec}
use Rattle.bz_model.specs.Object.{Object, Objects}
use Rattle.object_store.specs.declared.token.Token.{Token}
use Rattle.object_store.specs.declared.visit.Visit.{Visit}
use Rattle.object_store.specs.declared.visit.Visit.TheVariants as visit
use Rattle.object_store.specs.Waiting.{AreWaiting}
use Rattle.chance_law.specs.declared.scaled.Scaled.{Scaled}
use Rattle.chance_law.specs.declared.weights.Weights.{Weights}
use Rattle.chance_law.specs.Scaled.{IsScaled, IsNearZero, one}
use Rattle.chance_law.specs.Factors.{Factor, factors, all_factors, over_two_to}
use Rattle.chance_law.specs.Chance.{LeadsDown, LeadsUp}

-- Both weights are scaled numbers, with exponents at most this far from 0.
pub record AreWithin (bound : ℕ) (w : Weights) : Type 0 where
  pub lo_scaled : IsScaled w.lo
  pub hi_scaled : IsScaled w.hi
  pub lo_near : IsNearZero bound w.lo.e
  pub hi_near : IsNearZero bound w.hi.e

-- What a visit multiplies the weights by: x for an atom, one part in each of 2 to k for a set of k
-- parts, and one part in k for a cycle of k parts.
abbrev pub visit_factors : Visit → List Factor
visit_factors (visit.Class body) = []
visit_factors visit.Product = []
visit_factors visit.Empty = []
visit_factors visit.Atom = Factor.ByX ∷ []
visit_factors (visit.Union option part) = []
visit_factors (visit.Seq parts part) = []
visit_factors (visit.Set parts part) = over_two_to parts
visit_factors (visit.Cyc parts part) = Factor.Over parts ∷ []

-- The walk over an object has come to these weights, with these objects waiting: what their factors
-- lead to from here is what the object's factors lead to from 1.
pub record HasCome (x w : Weights) (o : Object) (os : Objects) : Type 0 where
  pub down : (v : Scaled) → LeadsDown x.lo w.lo (all_factors os) v
      → LeadsDown x.lo one (factors o) v
  pub up : (v : Scaled) → LeadsUp x.hi w.hi (all_factors os) v → LeadsUp x.hi one (factors o) v

-- The factors of an object lead from 1 to these weights.
pub record AreWeightsOf (x : Weights) (o : Object) (w : Weights) : Type 0 where
  pub down : LeadsDown x.lo one (factors o) w.lo
  pub up : LeadsUp x.hi one (factors o) w.hi

-- The state of the walk over an object: objects of the nodes that wait have the tokens that are
-- left, and after n factors the weights are those that the walk has come to, with exponents of at
-- most 512 (n + 1).
pub record IsOnTheWay (s : Spec) (x : Weights) (o : Object) (es : List ℕ) (tokens : List Token)
    (w : Weights) : Type 0 where
  pub objects : Objects
  pub waits : AreWaiting s es objects tokens
  pub come : HasCome x w o objects
  pub done : ℕ
  pub counted : done + length (all_factors objects) ≡ length (factors o)
  pub within : AreWithin (512 * suc done) w
