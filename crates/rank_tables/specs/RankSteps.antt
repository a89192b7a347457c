-- A rank from the tokens: steps in preorder, and what stands on the stack when they are taken from
-- the last to the first.
use Rattle.std.specs.Prelude.{◌≡◌, ℕ, ◌+◌, ◌-◌, ◌*◌, ◌<◌, List, [], ◌∷◌, map}
use Rattle.bz_model.specs.Spec.{Spec}
use Rattle.bz_model.specs.Object.{more, none}
use Rattle.class_system.specs.declared.ids.ExprId.{ExprId}
use Rattle.object_store.specs.Tokens.{IsOf}
use Rattle.object_store.specs.declared.token.Token.{Token}
use Rattle.object_store.specs.declared.visit.Visit as seen
use Rattle.object_store.specs.declared.visit.Visit.TheVariants as seen_at
use Rattle.rank_tables.specs.Capped.{Tells}
use Rattle.rank_tables.specs.Grids.{Cells, TellRow}
use Rattle.rank_tables.specs.TableRule.{sum_below}
use Rattle.rank_tables.specs.Visits.{Visit, AreVisits, Told}
use Rattle.rank_tables.specs.declared.places_stack.Placed.{Placed}
use Rattle.rank_tables.specs.declared.rank_steps.Step.{Step}
use Rattle.rank_tables.specs.declared.rank_steps.Step.TheVariants as step

-- The visit that a step stands for.
abbrev pub visit_of : Step → Visit
visit_of (step.Leaf atoms) = Visit.Leaf atoms
visit_of (step.Picked e option) = Visit.Picked e.0 option
visit_of (step.Tupled e) = Visit.Tupled e.0
visit_of (step.Listed e parts) = Visit.Listed e.0 parts

-- The step at a node, from what is seen of its object; a reference makes none.
abbrev pub step_at : ExprId → seen.Visit → List Step
step_at e (seen_at.Class body) = []
step_at e seen_at.Product = step.Tupled e ∷ []
step_at e seen_at.Empty = step.Leaf 0 ∷ []
step_at e seen_at.Atom = step.Leaf 1 ∷ []
step_at e (seen_at.Union option part) = step.Picked e option ∷ []
step_at e (seen_at.Seq parts part) = step.Listed e parts ∷ []
step_at e (seen_at.Set parts part) = []
step_at e (seen_at.Cyc parts part) = []

-- The steps are the visits of the object of the class whose tokens these are.
pub record AreStepsOf (s : Spec) (c : ℕ) (tokens : List Token) (steps : List Step) : Type 0 where
  pub shape : IsOf s c tokens
  pub visits : AreVisits s (shape.body ∷ []) (more shape.object none) (map visit_of steps)

-- The size is told, and the place up to 2^128.
pub record IsTold (p : Placed) (q : Told) : Type 0 where
  pub size : p.size ≡ q.size
  pub place : Tells p.place q.place

abbrev pub TellStack : List Placed → List Told → Type 0
TellStack [] [] = Unit {0}
TellStack (p ∷ ps) (q ∷ qs) = IsTold p q × TellStack ps qs
TellStack _ _ = ⊥

-- The first of these is told.
pub record IsFirstTold (p : Placed) (told : List Told) : Type 0 where
  pub rest : List Placed
  pub all : TellStack (p ∷ rest) told

-- Whatever the two rows tell, the whole tells the size and the place of a first object before
-- others.
pub record IsJoined (left : Cells) (e : ℕ) (right : Cells) (d : ℕ) (first rest whole : Placed)
    : Type 0 where
  pub size : whole.size ≡ first.size + rest.size
  pub fits : whole.size < left.sizes
  pub place : (f g : ℕ → ℕ) (x y : ℕ) → TellRow left e whole.size f → TellRow right d whole.size g
      → Tells first.place x → Tells rest.place y
      → Tells whole.place (sum_below first.size (λ j. f j * g (whole.size - j)) + x * g rest.size
      + y)
