-- Drawings: what they are functions of, why they end, and what they write.
use Rattle.std.specs.Prelude.{◌≡◌, ℕ, ◌*◌, Bool, true, false, List, [], ◌∷◌, ◌++◌, length, Option}
use Rattle.std.specs.Prelude.{Some, None, IfSome, codes}
use Rattle.bz_model.specs.Fraction.{Fraction}
use Rattle.bz_model.specs.Spec.{Spec}
use Rattle.bz_model.specs.ObjectText.{object_text}
use Rattle.bz_model.specs.declared.cell.Bounds.{Bounds}
use Rattle.bit_tape.specs.Given.{HasBits, Gave}
use Rattle.bit_tape.specs.Tape.{TapeSource, bits_of_source, CountsFault, HasFault}
use Rattle.object_store.specs.Tokens.{IsOf}
use Rattle.size_window.specs.declared.ending.Straddle.{Straddle}
use Rattle.size_window.specs.declared.ending.Straddle.TheVariants as straddle
use Rattle.size_window.specs.RunByBits.{Limits, Sampling, Entry, Course, Ending, Open}
use Rattle.size_window.specs.Ideally.{chooser_of}
use Rattle.well_founded.specs.EmptyObjects.{has_empty}
use Rattle.size_window.specs.Follows.{Follows}
use Rattle.size_window.specs.Trace.{Spells, EndsAt, IsCourseOver}
use Rattle.choice_draw.specs.Decision.{level_for}
use Rattle.rounded_map.specs.RoundedMap.{Setting}
use Rattle.certificate.specs.declared.closing.Closing.{Closing}
use Rattle.certificate.specs.declared.closing.ClosingWord.{ClosingWord}
use Rattle.certificate.specs.declared.closing.ClosingWord.TheVariants as closing
use Rattle.certificate.specs.Certificates.{object_lines}
use Rattle.certificate.specs.Certificates as certificate
use Rattle.certificate.specs.Headers.{drawn_lines}
use Rattle.certificate.specs.Lines.{text_of}
use Rattle.call_stages.specs.Outcomes.{Says}
use Rattle.call_stages.specs.Lines.{feed}
use Rattle.call_stages.specs.declared.status.Status.{Status}

-- A drawing is a function of the specification, a table of bounds of its nodes in units of 2^-F,
-- the limits, and the bits of the tape.
abbrev pub sampling : Spec → (F : ℕ) → (table : (level node : ℕ) → Bounds) → Limits
    → (bits : ℕ → Option Bool) → Sampling
sampling s F table limits bits = record {
  chooser = chooser_of s F table (has_empty s);
  limits =
      limits;
  tape = bits;
}

-- A tape as a call meets it: where its bits come from, the contents of the files where they are
-- known, and the counts of failed reads of each name when the call began and now.
pub record TapeMet : Type 0 where
  pub source : TapeSource
  pub contents : List ℕ → Option (List ℕ)
  pub before : List ℕ → ℕ
  pub now : List ℕ → ℕ

-- A read of the tape failed in the call: its count of failed reads rose.
abbrev pub HasFailed : TapeMet → Type 0
HasFailed t = HasFault t.source t.before t.now

-- A course ended with a failed read.
abbrev pub ended_by_fault : Option Ending → Bool
ended_by_fault (Some Ending.ReadFault) = true
ended_by_fault ending = false

-- A course so far. It follows the ideal run: for all numbers in its cells that run keeps the
-- objects of its entries. It was given as many bits as it used: the tape's first ones where its
-- bits are known, and all of them where it met the tape's end. Its cells, and the bits of a number
-- that it left open, spell these bits. Over every tape that begins with them, and has no more where
-- it met the tape's end, it is the course of so many turns that they fix; `most` is the greatest
-- number of bits that one number of a choice node was given in a turn. The shelf failed in a turn
-- only where the course ended with a failed read. Then the count of the tape's name rose once in
-- the call; else each name's count is what it was when the call began.
pub record IsCourse (s : Spec) (x : Fraction) (F : ℕ) (table : (level node : ℕ)
    → Bounds) (limits : Limits) (t : TapeMet) (c : Course) (most : ℕ) : Type 0 where
  pub follows : Follows s x limits c
  pub given : List Bool
  pub gave : Gave (bits_of_source t.source t.contents) 0 c.state.attempt.used given
  pub ends : IfSome (bits_of_source t.source t.contents)
      (EndsAt c.state.ending c.state.attempt.used)
  pub spells : Spells c given
  pub turns : ℕ
  pub faults : ℕ → Option ℕ
  pub exact : (tape : ℕ → Option Bool) → HasBits tape 0 given
      → EndsAt c.state.ending c.state.attempt.used tape
      → IsCourseOver (sampling s F table limits tape) faults turns c most
  pub disturbed : (turn before : ℕ) → faults turn ≡ Some before
      → c.state.ending ≡ Some Ending.ReadFault
  pub reads : CountsFault (ended_by_fault c.state.ending) t.source t.before t.now

-- So many bits are all that a tape has: eight for each byte of its file, where the file's content
-- is known. A seed's bits don't end.
abbrev pub AreAll : TapeSource → (contents : List ℕ → Option (List ℕ)) → (used : ℕ) → Type 0
AreAll (TapeSource.Named name) contents used =
    IfSome (contents name) (λ bytes. used ≡ 8 * length bytes)
AreAll (TapeSource.Seeded seed) contents used = ⊥

-- A course has come to its end. Done comes only where as many objects as wanted are kept, the limit
-- of turns only where as many were made, and the tape's end only where all bits of its file are
-- used, and never of a seed.
pub record IsDrawn (s : Spec) (x : Fraction) (F : ℕ) (table : (level node : ℕ)
    → Bounds) (limits : Limits) (t : TapeMet) (c : Course) (most : ℕ) (ending : Ending) : Type 0
  where
    pub course : IsCourse s x F table limits t c most
    pub ended : c.state.ending ≡ Some ending
    pub kept : ending ≡ Ending.Done → c.state.kept ≡ limits.count
    pub out_of_turns : ending ≡ Ending.TurnLimit → c.state.turns ≡ limits.turns
    pub used_up : ending ≡ Ending.TapeEnded → AreAll t.source t.contents c.state.attempt.used

-- The lines of an entry are those of a certificate: they state its number, place and size, its
-- object's text, and its cells. The object is the one that its tokens spell, in whichever way that
-- is seen.
pub record AreLinesOf (s : Spec) (e : Entry) (lines : List ℕ) : Type 0 where
  pub is_of : IsOf s 0 e.tokens
  pub same : (of : IsOf s 0 e.tokens)
      → lines ≡ text_of (object_lines e.number e.place e.size
      (object_text s of.body of.object of.belongs e.labels) e.cells)

-- The lines of entries, in order.
pub data Lists (s : Spec) : List Entry → List ℕ → Type 0 where
  none : {entries : List Entry} {text : List ℕ} → entries ≡ [] → text ≡ [] → Lists s entries text
  one_more : {entries : List Entry} {text : List ℕ}
      → (before : List Entry) (last : Entry) (front lines : List ℕ) → Lists s before front
      → AreLinesOf s last lines → entries ≡ before ++ last ∷ [] → text ≡ front ++ lines
      → Lists s entries text

-- Why a drawing ended, as a certificate names it.
abbrev pub closing_word : Ending → ClosingWord
closing_word Ending.Done = closing.Done
closing_word Ending.TapeEnded = closing.TapeEnded
closing_word (Ending.Undecided left_open) = closing.Undecided
closing_word Ending.TurnLimit = closing.TurnLimit
closing_word Ending.ReadFault = closing.ReadFault

-- The same as a word.
abbrev pub ending_word : Ending → List ℕ
ending_word Ending.Done = codes "done"
ending_word Ending.TapeEnded = codes "tape-ended"
ending_word (Ending.Undecided left_open) = codes "undecided"
ending_word Ending.TurnLimit = codes "turn-limit"
ending_word Ending.ReadFault = codes "read-fault"

-- The program's answer for each end of a drawing.
abbrev pub ending_status : Ending → Status
ending_status Ending.Done = Status.Done
ending_status Ending.TapeEnded = Status.TapeEnded
ending_status (Ending.Undecided left_open) = Status.Undecided
ending_status Ending.TurnLimit = Status.TurnLimit
ending_status Ending.ReadFault = Status.ReadFault

-- The number that was left open, if one was: at a node, with the node's bounds at level 6, or for a
-- label.
abbrev pub straddle_of : (table : (level node : ℕ) → Bounds) → Ending → Option Straddle
straddle_of table (Ending.Undecided (Open.AtNode node cell)) =
    Some (straddle.Node (record { 0 = node }) cell (table 6 node).lo (table 6 node).hi)
straddle_of table (Ending.Undecided (Open.AtLabel m cell)) = Some (straddle.Label m cell)
straddle_of table ending = None

-- The closing of a drawing: why it ended, the number that was left open, if one was, and how much
-- was kept, thrown away, used and turned.
abbrev pub closing_of : (table : (level node : ℕ) → Bounds) → Course → Ending → Closing
closing_of table c ending =
    record {
      word = closing_word ending;
      straddle = straddle_of table ending;
      kept = c.state.kept;
      thrown = c.state.thrown;
      bits = c.state.attempt.used;
      turns = c.state.turns;
    }

-- The lines after the last object are those of a certificate's closing.
abbrev pub closing_text : (table : (level node : ℕ) → Bounds) → Course → Ending → List ℕ
closing_text table c ending = text_of (certificate.closing_lines (closing_of table c ending))

-- The lines before the first object: the format, and below it the lines of a certificate's header,
-- which state the specification, x, the fraction bits, the window of sizes, and the base.
abbrev pub drawn_header : (format : List ℕ) → Setting → (base : List ℕ) → Limits → List ℕ
drawn_header format t base limits = (format ++ feed)
    ++ text_of (drawn_lines t.spec t.num t.den t.bits limits.min limits.max base)

-- Objects are drawn by a table of bounds whose levels cost so much to raise, after these lines of a
-- header. The drawing comes to its end: the header, the lines of the kept objects and the closing
-- are its text, and its end gives the status. Or memory runs out: the text until then is the header
-- with the lines of the first entries of a course so far, or nothing. A level is raised only for
-- the bits that one number of a choice node was given: one for each ten of them begun.
pub data Drawn (cost : (level : ℕ) → ℕ) (header : List ℕ) (s : Spec) (x : Fraction) (F : ℕ)
    (table : (level node : ℕ) → Bounds) (limits : Limits) (t : TapeMet) (status : Status)
    (text : List ℕ) (ticks : ℕ) : Type 0 where
  ended : (course : Course) (most : ℕ) (ending : Ending) (lines : List ℕ)
      → IsDrawn s x F table limits t course most ending → Lists s course.entries lines
      → Says (ending_status ending) (header ++ (lines ++ closing_text table course ending))
      (cost (level_for most)) status text ticks
      → Drawn cost header s x F table limits t status text ticks
  so_far : (course : Course) (most : ℕ) (first others : List Entry) (lines : List ℕ)
      → IsCourse s x F table limits t course most → course.entries ≡ first ++ others
      → Lists s first lines
      → Says Status.OutOfMemory (header ++ lines) (cost (level_for most)) status text ticks
      → Drawn cost header s x F table limits t status text ticks
  no_memory : Says Status.OutOfMemory [] 0 status text ticks
      → Drawn cost header s x F table limits t status text ticks
