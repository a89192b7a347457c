-- What contracts see of a pool: the list of its members.
use Rattle.std.specs.Prelude.{◌≡◌, ℕ, List, map, slice_get, Option, Some, None}
use Rattle.std.specs.List.{All}
use Rattle.bz_model.specs.Fraction.{Fraction}
use Rattle.bz_model.specs.Spec.{Spec}
use Rattle.bit_tape.specs.Tape.{TapeState, TapeSource, BelongsToShelf, LeavesTape}
use Rattle.size_window.specs.declared.ending.Ending.{Ending}
use Rattle.size_window.specs.RunByBits.{Limits}
use Rattle.size_window.specs.Drawing.{DrawingBelongs}
use Rattle.session_pool.specs.Member.{MemberState, IsNewMember, bits_to_nodes, read_failed}

-- The tapes of a pool, in order.
abbrev pub tapes_of : List MemberState → List TapeState
tapes_of pool = map (λ m. m.tape) pool

-- Where the bits of its tapes come from, in order.
abbrev pub sources_of : List MemberState → List TapeSource
sources_of pool = map (λ m. m.tape.source) pool

-- A pool belongs to a specification and x where each of its drawings does.
pub record PoolBelongs (s : Spec) (x : Fraction) (pool : List MemberState) : Type 0 where
  pub each : All (λ m. DrawingBelongs s x m.drawing) pool

-- Tapes belong to a shelf with these contents where each of them does.
pub record TapesBelong (contents : List ℕ → Option (List ℕ)) (tapes : List TapeState) : Type 0 where
  pub each : All (BelongsToShelf contents) tapes

-- A pool before its first turn: it has one drawing per tape, in order, and each is a new one over
-- its tape.
pub record IsNewPool (limits : Limits) (tapes : List TapeState)
    (pool : List MemberState) : Type 0 where
  pub same_tapes : tapes_of pool ≡ tapes
  pub each : All (λ m. IsNewMember limits m.tape m) pool

-- The bits that a turn gave to numbers of nodes, where there is a drawing before and after it.
abbrev pub bits_between : Option MemberState → Option MemberState → ℕ
bits_between (Some m) (Some later) = bits_to_nodes m later
bits_between _ _ = 0

-- How many bits a turn from one pool to another gave to numbers of nodes, in the drawing of this
-- number.
abbrev pub bits_to_nodes_at : (number : ℕ) → (pool later : List MemberState) → ℕ
bits_to_nodes_at number pool later = bits_between (slice_get pool number) (slice_get later number)

-- Why a drawing ended, where there is one and it ended.
abbrev pub ending_of_member : Option MemberState → Option Ending
ending_of_member (Some m) = m.drawing.ending
ending_of_member None = None

-- Why the drawing of this number ended, if it ended.
abbrev pub ending_at : List MemberState → (number : ℕ) → Option Ending
ending_at pool number = ending_of_member (slice_get pool number)

-- What a turn of a drawing leaves of its tape and the shelf, where there is a drawing before and
-- after it: a failed read is counted exactly where the drawing ends with one.
abbrev pub LeavesTapeOf : {S : Type 0} → (contents : S → List ℕ → Option (List ℕ))
    → (counts : S → List ℕ → ℕ) → (before now : S) → Option MemberState → Option MemberState
    → Type 0
LeavesTapeOf contents counts before now (Some m) (Some later) =
    LeavesTape contents counts (read_failed m.drawing.ending later.drawing.ending)
    before now m.tape later.tape
LeavesTapeOf contents counts before now _ _ = Unit {0}
