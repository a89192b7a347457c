-- What contracts see of a drawing in a pool.
use Rattle.std.specs.Prelude.{◌≡◌, ℕ, ◌-◌, Bool, true, false, List, [], Option, Some, None}
use Rattle.bit_tape.specs.Tape.{TapeState}
use Rattle.size_window.specs.declared.ending.Ending.{Ending}
use Rattle.size_window.specs.declared.ending.Ending.TheVariants.{ReadFault}
use Rattle.size_window.specs.declared.limits.Counts.{Counts}
use Rattle.size_window.specs.declared.turned.Entry.{Entry}
use Rattle.size_window.specs.RunByBits.{Limits, start}
use Rattle.size_window.specs.Drawing.{DrawingState, state_of}
use Rattle.size_window.specs.Turn.{node_bits}

-- A drawing, the tape that it draws from, and the objects that it kept, in order.
pub record MemberState : Type 0 where
  pub drawing : DrawingState
  pub tape : TapeState
  pub entries : List Entry

-- What a drawing counted.
abbrev pub counts_of : DrawingState → Counts
counts_of d = record { kept = d.kept; thrown = d.thrown; turns = d.turns; atoms = d.atoms }

-- A drawing before its first turn, with these limits, over this tape.
pub record IsNewMember (limits : Limits) (tape : TapeState) (m : MemberState) : Type 0 where
  pub state : state_of m.drawing 0 ≡ start
  pub same_limits : m.drawing.limits ≡ limits
  pub atoms : m.drawing.atoms ≡ 0
  pub same_tape : m.tape ≡ tape
  pub entries : m.entries ≡ []

-- How many bits a turn from one state of a member to another gave to numbers of nodes.
abbrev pub bits_to_nodes : (m later : MemberState) → ℕ
bits_to_nodes m later = node_bits m.drawing.waiting (later.tape.used - m.tape.used)

-- A drawing that hadn't ended has ended with a failed read.
abbrev pub read_failed : (before now : Option Ending) → Bool
read_failed None (Some ReadFault) = true
read_failed before now = false
