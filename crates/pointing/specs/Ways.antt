-- The way down to an atom of an object: at each tuple and each list on it, the place of the part
-- that holds the atom.
use Rattle.std.specs.Prelude.{◌≡◌, ℕ, zero, suc, ◌-◌, ◌<◌, List, [], ◌∷◌, ◌++◌, Bool, true, false}
use Rattle.std.specs.Prelude.{map, reverse}
use Rattle.bz_model.specs.Spec.{Spec}
use Rattle.bz_model.specs.Object.{Object, Objects, none, more}
use Rattle.bz_model.specs.Object.Object.{Unit_, Dot, Pick, Tuple, SeqOf, SetOf, CycOf}
use Rattle.bz_model.specs.Measures.{size, sizes}
use Rattle.object_store.specs.declared.token.Token.{Token}
use Rattle.object_store.specs.declared.visit.Visit.{Visit}
use Rattle.object_store.specs.Waiting.{AreWaiting, Shows}
use Rattle.pointing.specs.declared.ways.Level.{Level}

-- The first of two lists where the number is above 0, else the second.
abbrev pub here_or : ℕ → (here later : List ℕ) → List ℕ
here_or zero here later = later
here_or (suc n) here later = here

-- The places on the way down to an atom of an object, atoms being numbered from 0 in token order.
abbrev mutual
  pub way : Object → (atom : ℕ) → List ℕ
  way Unit_ n = []
  way Dot n = []
  way (Pick i o) n = way o n
  way (Tuple os) n = way_among 0 os n
  way (SeqOf os) n = way_among 0 os n
  way (SetOf os) n = way_among 0 os n
  way (CycOf os) n = way_among 0 os n

  -- The same among some objects, the first of which has this place.
  pub way_among : (place : ℕ) → Objects → (atom : ℕ) → List ℕ
  way_among i none n = []
  way_among i (more o os) n =
      here_or (size o - n) (i ∷ way o n) (way_among (suc i) os (n - size o))

-- The place of the part that stands at a level.
abbrev pub place : Level → ℕ
place level = level.parts - level.left

-- The places at some levels, the innermost level standing first.
abbrev pub level_places : List Level → List ℕ
level_places levels = map place (reverse levels)

-- One part of a level is done, where so many were left.
abbrev pub one_done : (left : ℕ) → Level → List Level → (closed : List Level) → List Level
one_done zero level levels closed = closed
one_done (suc zero) level levels closed = closed
one_done (suc (suc n)) level levels closed =
    record { parts = level.parts; left = suc n } ∷ levels

-- An object is done: the next part stands at the innermost level, and a level whose parts are all
-- done is an object that is done.
abbrev pub finished : List Level → List Level
finished [] = []
finished (level ∷ levels) = one_done level.left level levels (finished levels)

-- An object with so many parts is begun; with none it is done.
abbrev pub level_opened : (parts : ℕ) → List Level → List Level
level_opened zero levels = finished levels
level_opened (suc n) levels = record { parts = suc n; left = suc n } ∷ levels

-- A search for an atom: the levels on the way to the object that comes next, and how many atoms
-- come before the one that is searched for.
pub record Search : Type 0 where
  pub levels : List Level
  pub before : ℕ

-- The way that a search finds, where these objects wait.
abbrev pub way_from : List Level → (before : ℕ) → Objects → List ℕ
way_from levels n none = []
way_from levels n (more o os) =
    here_or (size o - n) (level_places levels ++ way o n)
    (way_from (finished levels) (n - size o) os)

-- The search finds the same way from what waits now.
pub record IsNearer (s : Spec) (before now : Search) (os : Objects) (fs : List ℕ)
    (us : List Token) : Type 0 where
  pub objects : Objects
  pub waits : AreWaiting s fs objects us
  pub within : now.before < sizes objects
  pub same : way_from before.levels before.before os ≡ way_from now.levels now.before objects

-- The atom was found, or the search is nearer to it.
abbrev pub IsFoundOrNearer : Spec → (found : Bool) → (before now : Search) → Objects → List ℕ
    → List Token → Type 0
IsFoundOrNearer s true before now os fs us =
    way_from before.levels before.before os ≡ level_places now.levels
IsFoundOrNearer s false before now os fs us = IsNearer s before now os fs us

-- The search passed the visit of a node, and tells whether that was the atom.
pub record HasPassed (s : Spec) (e : ℕ) (v : Visit) (before now : Search) (found : Bool)
    : Type 0 where
  pub on : (es : List ℕ) (os : Objects) (ts : List Token) (fs : List ℕ) (us : List Token)
      → Shows s e es os ts v fs us → before.before < sizes os
      → IsFoundOrNearer s found before now os fs us
