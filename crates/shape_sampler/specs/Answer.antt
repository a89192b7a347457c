-- What a step's answer tells of the visit.
use Rattle.std.specs.Prelude.{◌≡◌, ◌≢◌, ◌↔◌, ℕ, ◌+◌, Bool, true, false, IsTrue, List, ◌∷◌, ◌++◌}
use Rattle.std.specs.Prelude.{Option, Some, None, IfSome, slice_get}
use Rattle.bz_model.specs.declared.cell.Cell.{Cell}
use Rattle.class_system.specs.declared.ids.ExprId.{ExprId}
use Rattle.bz_model.specs.declared.cell.Bounds.{Bounds}
use Rattle.bz_model.specs.Fraction.{Fraction}
use Rattle.bz_model.specs.Spec.{Spec}
use Rattle.bz_model.specs.Measures.{HasZero}
use Rattle.bz_model.specs.Cell.{IsCell}
use Rattle.bit_tape.specs.Given.{HasBits, Gave}
use Rattle.choice_draw.specs.Decision.{IsUnion, union_decision}
use Rattle.choice_draw.specs.Draw.{Bit, bit_of}
use Rattle.count_draw.specs.Kinds.{IsCountedNode}
use Rattle.count_draw.specs.Decision.{count_decision}
use Rattle.shape_sampler.specs.declared.stepped.Stepped.{Stepped}
use Rattle.shape_sampler.specs.declared.stepped.Stepped.TheVariants.{Moved, Made, Overshot}
use Rattle.shape_sampler.specs.declared.stepped.Stepped.TheVariants.{Straddles, Ended, ReadFault}
use Rattle.shape_sampler.specs.declared.stepped.Stepped.TheVariants.{OutOfMemory}
use Rattle.shape_sampler.specs.Visit.{Chooser, Attempt, Visited, visit, atom_visited, with_pending}
use Rattle.shape_sampler.specs.State.{SessionState, attempt_of, Leaves}
use Rattle.shape_sampler.specs.Belonging.{IsIdealShape, IsIdealOver}

-- The visit that an answer tells, where it isn't want of memory: the session as it is now, so many
-- bits being used now.
abbrev pub told_visit : Stepped → (now : SessionState) → (used : ℕ) → Visited
told_visit Moved now used = Visited.Went (attempt_of now used)
told_visit Made now used = Visited.Went (attempt_of now used)
told_visit Overshot now used = Visited.Over (attempt_of now used)
told_visit (Straddles node cell) now used = Visited.Straddled node.0 cell
told_visit Ended now used = Visited.Ended used
told_visit ReadFault now used = Visited.Failed used
told_visit OutOfMemory now used = Visited.Went (attempt_of now used)

-- The place at which the shelf failed, where the answer is that it did.
abbrev pub visit_fault_place : Stepped → (used : ℕ) → Option ℕ
visit_fault_place ReadFault used = Some used
visit_fault_place _ used = None

-- The answer is that the shelf failed, in this visit: nothing had stopped the session before.
abbrev pub is_visit_fault : Stepped → (stopped : Option Stepped) → Bool
is_visit_fault ReadFault None = true
is_visit_fault _ stopped = false

-- Where the tape's end stopped the visit, these bits end at the place used.
abbrev pub EndsThere : Stepped → (used : ℕ) → (bits : ℕ → Option Bool) → Type 0
EndsThere Ended used bits = bits used ≡ None
EndsThere _ used bits = Unit {0}

-- A chooser decides by a table of bounds, in units of 2^-f, at the unions and at the sequences,
-- sets and cycles of a specification, and tells which nodes have an object of size 0.
pub record ChoosesBy (s : Spec) (f : ℕ) (table : (level node : ℕ) → Bounds)
    (c : Chooser) : Type 0 where
  pub same_spec : c.spec ≡ s
  pub at_unions : (e room : ℕ) → IsUnion s e → c.decide e room ≡ union_decision s table e
  pub at_counted : (e room : ℕ) → IsCountedNode s e
      → c.decide e room ≡ count_decision s f table e room
  pub frees : (part : ℕ) → IsTrue (c.is_free part) ↔ HasZero s part

-- An answer is that of the visit from the state before, over these bits; the shelf fails only if
-- the answer says so, and then after the bits used. Want of memory tells nothing.
pub record IsVisit (c : Chooser) (bits : ℕ → Option Bool) (before : SessionState) (start : ℕ)
    (answer : Stepped) (now : SessionState) (used : ℕ) : Type 0 where
  pub same : answer ≢ OutOfMemory
      → told_visit answer now used ≡ visit c (bit_of bits (visit_fault_place answer used))
      (attempt_of before start)

-- An answer is that of the visit over the bits that it was given: it was given as many bits as were
-- used, the tape's own where they are told; and over every tape that has these bits there, and ends
-- where the answer says that it did, it is the visit by each chooser that decides by the table.
pub record IsVisitByBits (s : Spec) (f : ℕ) (table : (level node : ℕ) → Bounds) (told : Option (ℕ
    → Option Bool)) (before : SessionState) (start : ℕ) (answer : Stepped) (now : SessionState)
    (used : ℕ) : Type 0 where
  pub given : List Bool
  pub gave : Gave told start used given
  pub ended : IfSome told (EndsThere answer used)
  pub exact : (bits : ℕ → Option Bool) → HasBits bits start given → EndsThere answer used bits
      → (c : Chooser) → ChoosesBy s f table c → IsVisit c bits before start answer now used

-- An answer is that of the visit by every chooser of the specification, over any bits, so many
-- being used before and after.
pub record IsVisitOfAll (s : Spec) (before : SessionState) (answer : Stepped)
    (now : SessionState) : Type 0 where
  pub same : (c : Chooser) (bit : ℕ → Bit) (used : ℕ) → c.spec ≡ s
      → told_visit answer now used ≡ visit c bit (attempt_of before used)

-- What was made is the shape that ideal making makes for every list of numbers in the cells; what
-- was overshot is over for every such list.
abbrev pub IsIdealAnswer : (s : Spec) (x : Fraction) → Stepped → (now : SessionState) → Type 0
IsIdealAnswer s x Made now = IsIdealShape s x now.whole now.tokens now.cells
IsIdealAnswer s x Overshot now = IsIdealOver s x now.whole now.cells
IsIdealAnswer s x _ now = Unit {0}

-- Cells are those before, and others after them.
pub record Extends (before now : List Cell) : Type 0 where
  pub more : List Cell
  pub whole : now ≡ before ++ more

-- A cell that straddles is one of 60 bits, at the first pending node; so many bits were used.
pub record StraddlesAtNode (node : ExprId) (cell : Cell) (before : SessionState)
    (start used : ℕ) : Type 0 where
  pub first : slice_get before.pending 0 ≡ Some node.0
  pub is_cell : IsCell cell.k cell.b
  pub bits : cell.b ≡ 60
  pub all_used : used ≡ start + cell.b

-- What a visit draws, from so many bits used before to so many now. Where it isn't stopped, its
-- cells stand after those before.
abbrev pub Draws : Stepped → (before now : SessionState) → (start used : ℕ) → Type 0
Draws (Straddles node cell) before now start used = StraddlesAtNode node cell before start used
Draws Ended before now start used = Unit {0}
Draws ReadFault before now start used = Unit {0}
Draws _ before now start used = Extends before.cells now.cells

-- An answer that needs no tape: it is none of a straddling cell, the tape's end and a failed read.
abbrev pub IsPlainAnswer : Stepped → Type 0
IsPlainAnswer (Straddles node cell) = ⊥
IsPlainAnswer Ended = ⊥
IsPlainAnswer ReadFault = ⊥
IsPlainAnswer _ = Unit {0}

-- The answer and the session after the visit of a node that takes no number: what the visit makes
-- of an attempt and of the nodes after the first pending one.
pub record IsPlainVisit (visited : Attempt → (rest : List ℕ) → Visited) (before : SessionState)
    (answer : Stepped) (now : SessionState) : Type 0 where
  pub plain : IsPlainAnswer answer
  pub leaves : Leaves answer before now
  pub cells : now.cells ≡ before.cells
  pub same : answer ≢ OutOfMemory → (e : ℕ) (rest : List ℕ) (used : ℕ) → before.pending ≡ e ∷ rest
      → told_visit answer now used ≡ visited (attempt_of before used) rest

-- An atom is visited with the room that the attempt has left.
abbrev pub room_atom_visited : Attempt → (rest : List ℕ) → Visited
room_atom_visited a rest = atom_visited a rest a.room

-- These nodes are put in the place of the first pending one.
abbrev pub replaced_by : (nodes : List ℕ) → Attempt → (rest : List ℕ) → Visited
replaced_by nodes a rest = Visited.Went (with_pending a (nodes ++ rest))
