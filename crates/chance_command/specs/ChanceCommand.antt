-- The command `chance`.
use Rattle.std.specs.Prelude.{ℕ, List, [], ◌++◌}
use Rattle.bz_model.specs.Fraction.{ratio}
use Rattle.bz_model.specs.declared.fraction.Fraction.{Fraction}
use Rattle.object_store.specs.declared.token.Token.{Token}
use Rattle.object_store.specs.Tokens.{IsOf}
use Rattle.oracle_memo.specs.Levels.{level_bounds, cost_at}
use Rattle.rounded_map.specs.RoundedMap.{Setting, setting}
use Rattle.chance_law.specs.declared.scaled.ChanceBounds.{ChanceBounds}
use Rattle.chance_law.specs.Chance.{AreChanceBounds, IsEnclosed}
use Rattle.chance_law.specs.Line.{chance_line}
use Rattle.call_stages.specs.Lines.{end_done_line}
use Rattle.call_stages.specs.Outcomes.{Outcome, Says}
use Rattle.call_stages.specs.Stages.{Files, Specified, Based}
use Rattle.call_stages.specs.declared.status.Status.{Status}
use Rattle.object_stage.specs.ObjectStage.{ObjectRead}

-- The two lines: the bounds of the chance, and the end.
abbrev pub chance_text : ChanceBounds → List ℕ
chance_text b = chance_line b ++ end_done_line

-- These are the bounds of the chance of the object of class 0 with these tokens, where the class's
-- body has the bounds of level 6 over the base; and they enclose it.
pub record AreBoundsOver (t : Setting) (base : List ℕ) (tokens : List Token)
    (b : ChanceBounds) : Type 0 where
  pub of : IsOf t.spec 0 tokens
  pub are : AreChanceBounds t.bits (ratio t.num t.den) (level_bounds t base 6 of.body) of.object b
  pub enclose : IsEnclosed t.spec (ratio t.num t.den) of.body of.object b

-- An object is weighed over a base: the bounds of its chance are printed, or memory runs out. All
-- six levels are raised.
pub data Weighed (t : Setting) (tokens : List Token) (base : List ℕ)
    (status : Status) (text : List ℕ) (ticks : ℕ) : Type 0 where
  bounded : (b : ChanceBounds) → AreBoundsOver t base tokens b
      → Says Status.Done (chance_text b) (cost_at 6) status text ticks
      → Weighed t tokens base status text ticks
  no_memory : Says Status.OutOfMemory [] (cost_at 6) status text ticks
      → Weighed t tokens base status text ticks

-- A base is searched for a specification at x, and an object with these tokens is weighed over it.
abbrev pub WeighedAt : (t : Setting) → (tokens : List Token) → Outcome
WeighedAt t tokens = Based t (Weighed t tokens)

-- The object of a specification is read, and weighed at x.
abbrev pub ReadAndWeighed : Files → (object : List ℕ) → Setting → Outcome
ReadAndWeighed f object t = ObjectRead f t.spec object (λ tokens labels. WeighedAt t tokens)

-- `chance FILE X OBJ`: a specification is read and judged, then an object of its first class, then
-- a base is searched, and the object is weighed over it.
abbrev pub CarriesChance : Files → (file : List ℕ) → Fraction → (object : List ℕ) → (F : ℕ)
    → Outcome
CarriesChance f file x object F =
    Specified f file (λ s. ReadAndWeighed f object (setting s x.num x.den F))
