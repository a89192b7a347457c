-- An object is read from a file and judged: a stage of a call with what comes next as a parameter.
use Rattle.std.specs.Prelude.{◌≢◌, ℕ, ◌<◌, ◌≤◌, nat_eq, if◌then◌else◌, List, [], ◌∷◌, ◌++◌, length}
use Rattle.std.specs.Prelude.{decimal, codes, Option}
use Rattle.bz_model.specs.Spec.{Spec}
use Rattle.object_store.specs.declared.token.Token.{Token}
use Rattle.object_text.specs.Reading.{IsRead, TellsFault}
use Rattle.object_text.specs.declared.fault.TextFault.{TextFault}
use Rattle.call_stages.specs.Lines.{feed}
use Rattle.call_stages.specs.Outcomes.{Outcome, Says}
use Rattle.call_stages.specs.Stages.{Files, AreRead, FileRead}
use Rattle.call_stages.specs.declared.status.Status.{Status}

-- A text without the line feed at its end; one alone is taken off.
abbrev pub without_feed : List ℕ → List ℕ
without_feed [] = []
without_feed (b ∷ []) = if nat_eq b 10 then [] else b ∷ []
without_feed (b ∷ c ∷ bs) = b ∷ without_feed (c ∷ bs)

-- An object's file is too long.
abbrev pub too_long_line : List ℕ
too_long_line = codes "refused object too long" ++ feed

-- Why a text is no object; nothing is told of want of memory.
abbrev pub object_fault_line : TextFault → List ℕ
object_fault_line (TextFault.NotObject place) = codes "refused object at "
    ++ (decimal place ++ feed)
object_fault_line TextFault.NotCanonical = codes "refused object not canonical" ++ feed
object_fault_line TextFault.OutOfMemory = []

-- The bytes are judged: they are too many, their text is no object of the first class or not as it
-- is printed, or it is that of an object with these tokens and labels.
pub data ObjectJudged (s : Spec) (next : (tokens : List Token) (labels : Option (List ℕ))
    → Outcome) (bytes : List ℕ) (status : Status) (text : List ℕ) (ticks : ℕ) : Type 0 where
  too_long : 16777216 < length bytes → Says Status.ObjectRefused too_long_line 0 status text ticks
      → ObjectJudged s next bytes status text ticks
  refused : (fault : TextFault) → length bytes ≤ 16777216 → fault ≢ TextFault.OutOfMemory
      → TellsFault s 0 (without_feed bytes) fault
      → Says Status.ObjectRefused (object_fault_line fault) 0 status text ticks
      → ObjectJudged s next bytes status text ticks
  no_memory : Says Status.OutOfMemory [] 0 status text ticks
      → ObjectJudged s next bytes status text ticks
  read : (tokens : List Token) (labels : Option (List ℕ)) → length bytes ≤ 16777216
      → IsRead s 0 (without_feed bytes) tokens labels → next tokens labels status text ticks
      → ObjectJudged s next bytes status text ticks

-- An object of the first class is read from the first 16777217 bytes of a file and judged.
abbrev pub ObjectRead : Files → Spec → (file : List ℕ)
    → (next : (tokens : List Token) (labels : Option (List ℕ)) → Outcome) → Outcome
ObjectRead f s file next = FileRead f file 16777217 (ObjectJudged s next)

-- An object with these tokens and labels was read from a file.
pub record IsObjectIn (content : List ℕ
    → Option (List ℕ)) (s : Spec) (file : List ℕ) (tokens : List Token) (labels : Option (List ℕ))
    : Type 0 where
  pub bytes : List ℕ
  pub read : AreRead content file 16777217 bytes
  pub few : length bytes ≤ 16777216
  pub is_read : IsRead s 0 (without_feed bytes) tokens labels
