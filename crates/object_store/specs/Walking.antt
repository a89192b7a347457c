-- The state of a walk over tokens, and its steps.
use Rattle.std.specs.Prelude.{◌≡◌, ◌↔◌, ℕ, suc, ◌+◌, ◌*◌, ◌<◌, List, [], ◌∷◌, length}
use Rattle.bz_model.specs.Spec.{Spec}
use Rattle.bz_model.specs.Object.{Objects}
use Rattle.object_store.specs.declared.token.Token.{Token}
use Rattle.object_store.specs.declared.visit.Visit.{Visit}
use Rattle.object_store.specs.declared.walk.Next.{Next}
use Rattle.object_store.specs.declared.walk.Next.TheVariants as next
use Rattle.object_store.specs.Tokens.{AreOf}
use Rattle.object_store.specs.Waiting.{AreWaiting, Shows}
use Rattle.object_store.specs.Descent.{Descent}

-- A walk over tokens by a specification: the nodes that wait, the next one first, the tokens that
-- are left, and how many classes and products may be passed before the next token.
pub record Walking : Type 0 where
  pub system : Spec
  pub waiting : List ℕ
  pub left : List Token
  pub way : ℕ

-- A bound on the visits that are still to come: to each token, and after the last one, a way leads
-- down that passes no node twice.
abbrev pub visits_left : Walking → ℕ
visits_left w = length w.left * suc (length w.system.nodes) + w.way

-- The walk came down a way of classes and products that began with these nodes waiting.
pub record IsOnItsWay (s : Spec) (waiting : List ℕ) (way : ℕ) : Type 0 where
  pub start : List ℕ
  pub descent : Descent s start waiting way

-- Node e was the first that waited. Whatever objects waited, the visit shows what the first of them
-- is and what waits now; the tokens before are those of objects exactly where those now are; and
-- fewer visits are left.
pub record IsVisitOfWalk (before now : Walking) (e : ℕ) (v : Visit) : Type 0 where
  pub others : List ℕ
  pub first : before.waiting ≡ e ∷ others
  pub in_range : e < length before.system.nodes
  pub system : now.system ≡ before.system
  pub shows : (os : Objects) → AreWaiting before.system before.waiting os before.left
      → Shows before.system e others os before.left v now.waiting now.left
  pub same : AreOf before.system before.waiting before.left
      ↔ AreOf before.system now.waiting now.left
  pub fewer : visits_left now < visits_left before

-- At the end nothing waits and no token is left.
pub record IsEnd (before now : Walking) : Type 0 where
  pub nothing : before.waiting ≡ []
  pub no_token : before.left ≡ []
  pub stays : now ≡ before

-- No objects of the nodes that wait have the tokens that are left.
pub record HasNoObjects (before now : Walking) : Type 0 where
  pub never : ¬ (AreOf before.system before.waiting before.left)
  pub stays : now ≡ before

-- What a step of the walk comes to.
abbrev pub IsNext : (before now : Walking) → Next → Type 0
IsNext before now (next.Node e v) = IsVisitOfWalk before now e.0 v
IsNext before now next.End = IsEnd before now
IsNext before now next.NoObject = HasNoObjects before now
