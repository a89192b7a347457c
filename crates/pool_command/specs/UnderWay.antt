-- Pools under way, as the code has them.
use Rattle.std.specs.Prelude.{◌≡◌, ◌≢◌, ℕ, ◌+◌, ◌-◌, ◌<◌, ◌≤◌, Bool, true, false, List, [], length}
use Rattle.std.specs.Prelude.{map, slice_get, Option, Some, None, IsSome}
use Rattle.std.specs.List.{All}
use Rattle.bz_model.specs.Fraction.{Fraction}
use Rattle.bz_model.specs.Spec.{Spec}
use Rattle.bit_tape.specs.Tape.{TapeSource, TapeState, CountsFault, bits_of_source}
use Rattle.choice_draw.specs.Decision.{level_for}
use Rattle.class_system.specs.Sound.{IsSound}
use Rattle.oracle_memo.specs.Levels.{cost_at, costs}
use Rattle.session_pool.specs.Member.{MemberState}
use Rattle.session_pool.specs.Pool.{PoolBelongs, TapesBelong, tapes_of, ending_at}
use Rattle.session_pool.specs.Interleaving.{Shared, IsPoolAfter}
use Rattle.size_window.specs.declared.ending.Ending.{Ending}
use Rattle.size_window.specs.RunByBits.{Limits}
use Rattle.size_window.specs.Drawing.{DrawingState}
use Rattle.size_window.specs.Turn.{EntryHasLabels, entry_of, turns_of}
use Rattle.sample_command.specs.UnderWay.{IsCourseSoFar, has_failed}
use Rattle.pool_command.specs.Schedule.{ends_in, all_asked, drawings_named}
use Rattle.pool_command.specs.PoolCommand.{greatest_below}

-- The tape over the file of a name, of which no bit is used.
abbrev pub tape_over : (name : List ℕ) → TapeState
tape_over name = record { source = TapeSource.Named name; used = 0; ahead = [] }

-- How often a drawing was asked for a turn until it ended; 0 while it goes on.
abbrev pub asked_until : DrawingState → Option Ending → ℕ
asked_until d None = 0
asked_until d (Some ending) = d.turns + (1 - turns_of ending)

abbrev pub asked_of_member : Option MemberState → ℕ
asked_of_member None = 0
asked_of_member (Some m) = asked_until m.drawing m.drawing.ending

-- How often the drawing of each number was asked until it ended; 0 while it goes on.
abbrev pub asked_by : List MemberState → (number : ℕ) → ℕ
asked_by pool number = asked_of_member (slice_get pool number)

-- How many turns a drawing made; 0 where there is none.
abbrev pub turns_of_member : Option MemberState → ℕ
turns_of_member None = 0
turns_of_member (Some m) = m.drawing.turns

abbrev pub turns_at : List MemberState → (number : ℕ) → ℕ
turns_at pool number = turns_of_member (slice_get pool number)

-- Two moments between which a drawing met its tape, told by the counts of failed reads: the first
-- isn't before the pool began, nor the second after now. In between the count of the tape's name
-- rose once where the drawing ended with a failed read; else no count changed.
pub record AreMoments (source : TapeSource) (failed : Bool)
    (begun counts : List ℕ → ℕ) : Type 0 where
  pub before : List ℕ → ℕ
  pub now : List ℕ → ℕ
  pub since : (name : List ℕ) → begun name ≤ before name
  pub until : (name : List ℕ) → now name ≤ counts name
  pub reads : CountsFault failed source before now

-- A drawing is under way or has ended: it has a course so far, whose entries are those that were
-- kept, each with labels as the mode wants them.
pub record IsMemberUnderWay (w : Shared) (limits : Limits) (begun counts : List ℕ → ℕ)
    (m : MemberState) (most : ℕ) : Type 0 where
  pub so_far : IsCourseSoFar w.spec w.x w.F w.table limits (bits_of_source m.tape.source w.contents)
      m.drawing m.tape.used most
  pub entries : so_far.course.entries ≡ map entry_of m.entries
  pub labels : All (EntryHasLabels w.spec.mode) m.entries
  pub moments : AreMoments m.tape.source (has_failed m.drawing.ending) begun counts

-- A moment of a pool: what its drawings share, the counts of failed reads, what raising a level
-- costs, how far the levels are raised, the steps taken, and its drawings.
pub record Moment : Type 0 where
  pub shared : Shared
  pub counts : List ℕ → ℕ
  pub cost : List ℕ
  pub raised : ℕ
  pub ticks : ℕ
  pub pool : List MemberState

abbrev pub moment : (shared : Shared) (counts : List ℕ → ℕ) (cost : List ℕ) (raised ticks : ℕ)
    (pool : List MemberState) → Moment
moment shared counts cost raised ticks pool = record {
  shared = shared;
  counts = counts;
  cost = cost;
  raised = raised;
  ticks = ticks;
  pool = pool;
}

-- How a pool began: what its drawings share, their limits, where the bits of their tapes come from,
-- the counts of failed reads and the steps taken.
pub record Beginning : Type 0 where
  pub shared : Shared
  pub limits : Limits
  pub sources : List TapeSource
  pub counts : List ℕ → ℕ
  pub ticks : ℕ

abbrev pub pool_beginning : (shared : Shared) (limits : Limits) (sources : List TapeSource)
    (counts : List ℕ → ℕ) (ticks : ℕ) → Beginning
pool_beginning shared limits sources counts ticks = record {
  shared = shared;
  limits = limits;
  sources = sources;
  counts = counts;
  ticks = ticks;
}

-- A pool so far, after these drawings were asked for turns: each stands where it would stand alone,
-- and the levels are raised for the bits that numbers were given in any drawing.
pub record IsSoFar (b : Beginning) (asked : List ℕ) (n : Moment) : Type 0 where
  pub same : n.shared ≡ b.shared
  pub mosts : ℕ → ℕ
  pub each : (number : ℕ) (m : MemberState) → slice_get n.pool number ≡ Some m
      → IsMemberUnderWay b.shared b.limits b.counts n.counts m (mosts number)
  pub after : IsPoolAfter b.shared b.limits b.sources b.counts n.counts asked n.pool
  pub cost_is : n.cost ≡ costs
  pub levels : n.raised ≤ 6
  pub raised_is : n.raised ≡ level_for (greatest_below mosts (length n.pool))
  pub few : n.ticks ≤ b.ticks + cost_at n.raised

-- So far the drawings ended in this order.
pub record IsPoolRunning (b : Beginning) (asked : List ℕ) (n : Moment)
    (order : List ℕ) : Type 0 where
  pub so_far : IsSoFar b asked n
  pub order_is : order ≡ ends_in (asked_by n.pool) [] asked

-- A pool was broken off, after some drawings were asked for turns.
pub record IsBrokenPool (b : Beginning) (n : Moment) : Type 0 where
  pub asked : List ℕ
  pub so_far : IsSoFar b asked n

-- A pool of so many drawings from a sound specification over tapes can be asked for turns.
pub record CanAsk (s : Spec) (oracle_spec : Spec) (x : Fraction)
    (contents : List ℕ → Option (List ℕ)) (count : ℕ) (pool : List MemberState) : Type 0 where
  pub sound : IsSound s
  pub spec : oracle_spec ≡ s
  pub drawings : PoolBelongs s x pool
  pub tapes : TapesBelong contents (tapes_of pool)
  pub number : length pool ≡ count

-- Where a drawing goes on after it was asked it made one turn more; where it ended it was asked
-- once more than it had made turns.
abbrev pub CountsAsked : (turns_before turns : ℕ) → (asked : ℕ) → Option Ending → Type 0
CountsAsked turns_before turns asked None = turns ≡ turns_before + 1
CountsAsked turns_before turns asked (Some ending) = asked ≡ turns_before + 1

-- A drawing was asked for a turn: every other one is as it was, and so is this one if it had ended.
pub record IsAsked (pool : List MemberState) (number : ℕ) (later : List MemberState) : Type 0 where
  pub others : (other : ℕ) → other ≢ number → slice_get later other ≡ slice_get pool other
  pub rests : IsSome (ending_at pool number) → later ≡ pool
  pub counted : ending_at pool number ≡ None
      → CountsAsked (turns_at pool number) (turns_at later number) (asked_by later number)
      (ending_at later number)

-- A drawing that hadn't ended has ended.
abbrev pub ended_now : (before now : Option Ending) → Bool
ended_now None (Some ending) = true
ended_now before now = false

-- A drawing was asked until it ended: it has, and every other one is as it was.
pub record IsFinished (pool : List MemberState) (number : ℕ)
    (later : List MemberState) : Type 0 where
  pub ended : IsSome (ending_at later number)
  pub others : (other : ℕ) → other ≢ number → slice_get later other ≡ slice_get pool other

-- All of so many drawings have ended, asked by the bytes of a schedule and then, least number
-- first, until each had ended.
pub record IsEnded (b : Beginning) (schedule : List ℕ) (count : ℕ) (n : Moment)
    (order : List ℕ) : Type 0 where
  pub under_way : IsPoolRunning b (all_asked (asked_by n.pool)
      (drawings_named count schedule) count) n order
  pub ended : (number : ℕ) → number < count → IsSome (ending_at n.pool number)
