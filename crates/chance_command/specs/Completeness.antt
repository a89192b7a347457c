-- Files of which the answer is certain, and what the answer says.
use Rattle.std.specs.Prelude.{◌≡◌, ℕ, ◌≤◌, List, length, Option}
use Rattle.bz_model.specs.Fraction.{ratio}
use Rattle.bz_model.specs.Spec.{Spec}
use Rattle.bz_model.specs.declared.fraction.Fraction.{Fraction}
use Rattle.object_store.specs.declared.token.Token.{Token}
use Rattle.object_text.specs.Reading.{IsRead, TellsFault}
use Rattle.object_text.specs.declared.fault.TextFault.{TextFault}
use Rattle.chance_law.specs.declared.scaled.ChanceBounds.{ChanceBounds}
use Rattle.chance_law.specs.Chance.{IsEnclosed}
use Rattle.call_stages.specs.Stages.{Files, IsCalm, IsSpecified}
use Rattle.object_stage.specs.ObjectStage.{without_feed, IsObjectIn}
use Rattle.chance_command.specs.ChanceCommand.{chance_text}

-- The file's bytes are known and no read of it failed; with or without a line feed at their end
-- they are the canonical text of an object of the first class, with these tokens and labels.
pub record HasObjectText (f : Files) (file : List ℕ) (s : Spec) (tokens : List Token)
    (labels : Option (List ℕ)) : Type 0 where
  pub calm : IsCalm f file
  pub few : length calm.bytes ≤ 16777216
  pub is_read : IsRead s 0 (without_feed calm.bytes) tokens labels

-- The file's bytes are known and no read of it failed; with or without a line feed at their end
-- they are no canonical text of an object of the first class, for this cause.
pub record LacksObjectText (f : Files) (file : List ℕ) (s : Spec) (fault : TextFault) : Type 0 where
  pub calm : IsCalm f file
  pub few : length calm.bytes ≤ 16777216
  pub tells : TellsFault s 0 (without_feed calm.bytes) fault

-- The text is the lines of bounds that enclose the chance of the object in the second file, an
-- object of the first class of the specification in the first file: its weight at x over the value
-- of the class.
pub record EnclosesChance (f : Files) (file : List ℕ) (x : Fraction) (object : List ℕ)
    (text : List ℕ) : Type 0 where
  pub spec : Spec
  pub specified : IsSpecified f.content file spec
  pub tokens : List Token
  pub labels : Option (List ℕ)
  pub found : IsObjectIn f.content spec object tokens labels
  pub bounds : ChanceBounds
  pub text_is : text ≡ chance_text bounds
  pub enclosed : IsEnclosed spec (ratio x.num x.den) found.is_read.body found.is_read.object bounds
