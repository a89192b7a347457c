-- Turns in any order: each drawing of a pool stands where it would stand alone.
use Rattle.std.specs.Prelude.{◌≡◌, ◌≢◌, ℕ, ◌+◌, ◌-◌, ◌^◌, ◌≤◌, min, nat_eq, Bool, true, false, List}
use Rattle.std.specs.Prelude.{map, slice_get, Option, Some, None, IfSome, IsSome}
use Rattle.std.specs.List.{count_by}
use Rattle.std.specs.Str.{bytes_eq}
use Rattle.bz_model.specs.declared.cell.Bounds.{Bounds}
use Rattle.bz_model.specs.Fraction.{Fraction}
use Rattle.bz_model.specs.Spec.{Spec}
use Rattle.bit_tape.specs.Tape.{TapeSource, bits_of_source, HasFault}
use Rattle.shape_sampler.specs.Visit.{Chooser}
use Rattle.shape_sampler.specs.Answer.{ChoosesBy}
use Rattle.size_window.specs.declared.ending.Ending.{Ending}
use Rattle.size_window.specs.declared.ending.Ending.TheVariants.{Done, TurnLimit, ReadFault}
use Rattle.size_window.specs.declared.turned.Turned.TheVariants as turned
use Rattle.size_window.specs.RunByBits.{Limits, Course}
use Rattle.size_window.specs.Drawing.{DrawingState, state_of}
use Rattle.size_window.specs.Turn.{TellsOpen, entry_of, turns_of}
use Rattle.size_window.specs.Trace.{HasTrace}
use Rattle.session_pool.specs.Member.{MemberState}
use Rattle.session_pool.specs.Pool.{sources_of}

-- What the drawings of a pool share: the specification, x, a table of bounds of its nodes in units
-- of 2^-F, and the contents of the files where they are told.
pub record Shared : Type 0 where
  pub spec : Spec
  pub x : Fraction
  pub F : ℕ
  pub table : (level node : ℕ) → Bounds
  pub contents : List ℕ → Option (List ℕ)

-- The setting of these.
abbrev pub shared_setting : Spec → Fraction → (F : ℕ) → (table : (level node : ℕ) → Bounds)
    → (contents : List ℕ → Option (List ℕ)) → Shared
shared_setting s x F table contents = record {
  spec = s;
  x = x;
  F = F;
  table = table;
  contents = contents;
}

-- How often a drawing's number stands in a list of turns.
abbrev pub how_often : (number : ℕ) → (turns : List ℕ) → ℕ
how_often number turns = count_by (nat_eq number) turns

-- A drawing was asked for so many turns. While it goes on all of them were counted. One that ended
-- was asked for those that it counted at least, and for one more where its ending cost no turn.
abbrev pub WasAsked : (turns : ℕ) → DrawingState → Option Ending → Type 0
WasAsked turns d None = d.turns ≡ turns
WasAsked turns d (Some ending) = d.turns + (1 - turns_of ending) ≤ turns

-- Why a drawing ended: Done comes only where as many objects as wanted are kept, the limit of turns
-- only where so many turns were counted and fewer objects are kept, and a failed read only where
-- the count of its tape's name rose. Of a node whose number was left open the bounds of level 6 are
-- told.
pub record EndedRightly (w : Shared) (limits : Limits) (source : TapeSource) (begun counts : List ℕ
    → ℕ) (d : DrawingState) (ending : Ending) : Type 0 where
  pub kept : ending ≡ Done → d.kept ≡ limits.count
  pub out_of_turns : ending ≡ TurnLimit → (d.kept ≢ limits.count) × (d.turns ≡ limits.turns)
  pub failed : ending ≡ ReadFault → HasFault source begun counts
  pub left_open : TellsOpen w.table (turned.Finished ending)

-- A drawing of a pool after so many turns of its own: it has the trace of a drawing alone that was
-- asked for so many turns over the bits that its tape was given, and the trace's entries are those
-- that the drawing kept.
pub record IsMemberAfter (w : Shared) (limits : Limits) (begun counts : List ℕ → ℕ) (turns : ℕ)
    (m : MemberState) : Type 0 where
  pub most : ℕ
  pub course : Course
  pub trace : HasTrace w.spec w.x w.F w.table limits (bits_of_source m.tape.source w.contents) turns
      m.drawing m.tape.used most course
  pub entries : course.entries ≡ map entry_of m.entries
  pub asked : WasAsked turns m.drawing m.drawing.ending
  pub ended : IfSome m.drawing.ending (EndedRightly w limits m.tape.source begun counts m.drawing)

-- A drawing over the tape of this name ended with a failed read.
abbrev pub failed_on_tape : (name : List ℕ) → TapeSource → Option Ending → Bool
failed_on_tape name (TapeSource.Named other) (Some ReadFault) = bytes_eq name other
failed_on_tape name source ending = false

-- How many drawings over the tape of this name ended with a failed read.
abbrev pub failures : (name : List ℕ) → List MemberState → ℕ
failures name pool = count_by (λ m. failed_on_tape name m.tape.source m.drawing.ending) pool

-- A drawing ended with a failed read.
abbrev pub ended_failing : Option Ending → Bool
ended_failing (Some ReadFault) = true
ended_failing ending = false

-- How many drawings ended with a failed read.
abbrev pub all_failures : List MemberState → ℕ
all_failures pool = count_by (λ m. ended_failing m.drawing.ending) pool

-- The count went up so many times, or stands at its last value.
abbrev pub RoseBy : (number before now : ℕ) → Type 0
RoseBy number before now = min (before + number) (2 ^ 64 - 1) ≤ now

-- A pool after these turns, each named by its drawing's number: each drawing stands where it would
-- stand alone after as many turns as the list names it. The counts of failed reads never fell since
-- the beginning; for each name that count rose at least as often as drawings over its tape ended
-- with a failed read, and no count rose more often than drawings ended so.
pub record IsPoolAfter (w : Shared) (limits : Limits) (sources : List TapeSource)
    (begun counts : List ℕ → ℕ) (turns : List ℕ) (pool : List MemberState) : Type 0 where
  pub same_sources : sources_of pool ≡ sources
  pub each : (number : ℕ) (m : MemberState) → slice_get pool number ≡ Some m
      → IsMemberAfter w limits begun counts (how_often number turns) m
  pub rose : (name : List ℕ) → begun name ≤ counts name
  pub failed : (name : List ℕ) → RoseBy (failures name pool) (begun name) (counts name)
  pub only : (name : List ℕ) → counts name ≤ begun name + all_failures pool

-- Two drawings are alike: they have one state, with as many bits used, kept the same objects in the
-- same order, and counted as many atoms.
pub record AreAlikeMembers (m other : MemberState) : Type 0 where
  pub state : state_of m.drawing m.tape.used ≡ state_of other.drawing other.tape.used
  pub atoms : m.drawing.atoms ≡ other.drawing.atoms
  pub entries : map entry_of m.entries ≡ map entry_of other.entries

-- Two pools over the same tapes made turns, in any orders. Where the bits of one of the tapes are
-- told, and its drawing ended with a failed read in neither pool, the two drawings over it are
-- alike if the premise holds of how often the orders name them and of the two.
abbrev pub AreAlikeWhere : (Premise : (times other_times : ℕ) → MemberState → MemberState → Type 0)
    → Type 0
AreAlikeWhere Premise =
    (w : Shared) (limits : Limits) (sources : List TapeSource) (c : Chooser)
    → ChoosesBy w.spec w.F w.table c
    → (begun counts : List ℕ → ℕ) (turns : List ℕ) (pool : List MemberState)
    → IsPoolAfter w limits sources begun counts turns pool
    → (begun_then counts_then : List ℕ → ℕ) (others : List ℕ) (other : List MemberState)
    → IsPoolAfter w limits sources begun_then counts_then others other
    → (number : ℕ) (m n : MemberState) → slice_get pool number ≡ Some m
    → slice_get other number ≡ Some n → IsSome (bits_of_source m.tape.source w.contents)
    → m.drawing.ending ≢ Some ReadFault → n.drawing.ending ≢ Some ReadFault
    → Premise (how_often number turns) (how_often number others) m n → AreAlikeMembers m n
