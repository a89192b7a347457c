-- The lines that may stand next: they have no line feeds, and their texts tell what comes after them.
use Rattle.std.specs.Prelude.{codes, flat_map}
use Rattle.std.proofs.Common.{◌≡◌, ◌≢◌, ℕ, zero, suc, ◌^◌, ◌<◌, ◌≤◌, List, [], ◌∷◌, ◌++◌, get_or, arith, refl, sym, ◌∙◌, ap, append-nil, decimal, ◌⊎◌, inl, inr}
use Rattle.std.proofs.lemmas.List.{append_cancel_left}
use Rattle.std.proofs.Math.Nat.{pow-le-pow_right}
use Rattle.bz_model.specs.declared.cell.Cell.{Cell}
use Rattle.bz_model.specs.Cell.{IsCell, AreCells}
use Rattle.class_system.specs.declared.draft.Mode.{Mode}
use Rattle.class_system.specs.declared.draft.Mode.TheVariants as mode
use Rattle.class_system.specs.Words.{IsName}
use Rattle.size_window.specs.declared.ending.Straddle.{Straddle}
use Rattle.size_window.specs.declared.ending.Straddle.TheVariants as straddle
use Rattle.certificate.specs.declared.closing.ClosingWord.{ClosingWord}
use Rattle.certificate.specs.declared.closing.ClosingWord.TheVariants.{Done, TapeEnded, Undecided, TurnLimit, ReadFault}
use Rattle.certificate.specs.Patterns.{filled, filled_from, AreSmall}
use Rattle.certificate.specs.Fields.{cell_field, base_line}
use Rattle.certificate.specs.Lines.{Line, line_text, end_line, end_pattern, open_line, object_line}
use Rattle.certificate.specs.Certificates.{IsOpen}
use Rattle.certificate.specs.Ranges.{IsSmall, OpenInRange}
use Rattle.certificate.specs.Reading.{HasNoFeed}
use Rattle.certificate.specs.Stages.{Stage, May}
use Rattle.certificate.proofs.Filling.{one-line}
use Rattle.certificate.proofs.Feeds.{one-cut-at, run-no-space, append-no-feed, filled-no-feed, run-no-feed, printed-no-feed, tested-no-feed, hex-no-feed}

-- No numbers are small, and one more small number keeps them so.
pub no-numbers : AreSmall []
no-numbers = record { each = λ k. omega arith }

pub small-more : (n : ℕ) (ns : List ℕ) → IsSmall n → AreSmall ns → AreSmall (n ∷ ns)
small-more n ns h s = record { each = λ k. each k }
  where
    each : (k : ℕ) → get_or (n ∷ ns) k 0 < 2 ^ 64
    each zero = h
    each (suc k) = s.each k

-- A number of 64 bits alone makes a list of numbers of 64 bits.
pub small1 : (a : ℕ) → IsSmall a → AreSmall (a ∷ [])
small1 a h = small-more a [] h no-numbers

-- Two numbers of 64 bits make a list of numbers of 64 bits.
pub small2 : (a b : ℕ) → IsSmall a → IsSmall b → AreSmall (a ∷ b ∷ [])
small2 a b h k = small-more a (b ∷ []) h (small1 b k)

-- Three numbers of 64 bits make a list of numbers of 64 bits.
pub small3 : (a b c : ℕ) → IsSmall a → IsSmall b → IsSmall c → AreSmall (a ∷ b ∷ c ∷ [])
small3 a b c h k l = small-more a (b ∷ c ∷ []) h (small2 b c k l)

-- Four numbers of 64 bits make a list of numbers of 64 bits.
pub small4 : (a b c d : ℕ) → IsSmall a → IsSmall b → IsSmall c → IsSmall d → AreSmall (a ∷ b ∷ c ∷ d ∷ [])
small4 a b c d h k l m = small-more a (b ∷ c ∷ d ∷ []) h (small3 b c d k l m)

pub small5 : (a b c d e : ℕ) → IsSmall a → IsSmall b → IsSmall c → IsSmall d → IsSmall e → AreSmall (a ∷ b ∷ c ∷ d ∷ e ∷ [])
small5 a b c d e h k l m n = small-more a (b ∷ c ∷ d ∷ e ∷ []) h (small4 b c d e k l m n)

-- A cell's two numbers are small.
pub cell-small : (k b : ℕ) → IsCell k b → IsSmall k × IsSmall b
cell-small k b h =
    let few = h.few_bits in
    let lt = h.below in
    let most : 2 ^ b ≤ 2 ^ 60 = pow-le-pow_right {n = 2} (omega arith) {i = b} {j = 60} few in
    (omega arith, omega arith)

-- A number left open has small numbers.
pub node-small : (node k b lo hi : ℕ) → node < 2 ^ 32 → IsCell k b → IsSmall lo → IsSmall hi → AreSmall (node ∷ k ∷ b ∷ lo ∷ hi ∷ [])
node-small node k b lo hi n h l m = let c = cell-small k b h in small5 node k b lo hi (omega arith) c.0 c.1 l m

-- If m is a number of 64 bits and k, b are a cell, then m, k and b are three numbers of 64 bits.
pub label-small : (m k b : ℕ) → IsSmall m → IsCell k b → AreSmall (m ∷ k ∷ b ∷ [])
label-small m k b n h = let c = cell-small k b h in small3 m k b n c.0 c.1

cells-no-feed : (cells : List Cell) → AreCells cells → HasNoFeed (flat_map cell_field cells)
cells-no-feed [] h = tt
cells-no-feed (c ∷ cells) h =
    let s = cell-small c.k c.b h.0 in
    append-no-feed (cell_field c) (flat_map cell_field cells) (filled-no-feed (codes " #/#") (c.k ∷ c.b ∷ []) 0 (small2 c.k c.b s.0 s.1) (tested-no-feed (codes " #/#") refl)) (cells-no-feed cells h.1)

open-no-feed : (s : Straddle) → IsOpen s → OpenInRange s → HasNoFeed (open_line s)
open-no-feed (straddle.Node node cell lo hi) h r = filled-no-feed (codes "undecided node # cell #/# within # #") (node.0 ∷ cell.k ∷ cell.b ∷ lo ∷ hi ∷ []) 0 (node-small node.0 cell.k cell.b lo hi r.0 h.0 r.1 r.2) (tested-no-feed (codes "undecided node # cell #/# within # #") refl)
open-no-feed (straddle.Label m cell) h r = filled-no-feed (codes "undecided label # cell #/#") (m ∷ cell.k ∷ cell.b ∷ []) 0 (label-small m cell.k cell.b r h.0) (tested-no-feed (codes "undecided label # cell #/#") refl)

pattern-no-feed : (word : ClosingWord) → HasNoFeed (end_pattern word)
pattern-no-feed Done = tested-no-feed (codes "end done kept # thrown # bits # turns #") refl
pattern-no-feed TapeEnded = tested-no-feed (codes "end tape-ended kept # thrown # bits # turns #") refl
pattern-no-feed Undecided = tested-no-feed (codes "end undecided kept # thrown # bits # turns #") refl
pattern-no-feed TurnLimit = tested-no-feed (codes "end turn-limit kept # thrown # bits # turns #") refl
pattern-no-feed ReadFault = tested-no-feed (codes "end read-fault kept # thrown # bits # turns #") refl

end-no-feed : (word : ClosingWord) (kept thrown bits turns : ℕ) → IsSmall kept → IsSmall thrown → IsSmall bits → IsSmall turns → HasNoFeed (end_line word kept thrown bits turns)
end-no-feed word kept thrown bits turns k t b u = filled-no-feed (end_pattern word) (kept ∷ thrown ∷ bits ∷ turns ∷ []) 0 (small4 kept thrown bits turns k t b u) (pattern-no-feed word)

mode-no-feed : (m : Mode) → HasNoFeed (line_text (Line.InMode m))
mode-no-feed mode.Unlabelled = tested-no-feed (codes "mode unlabelled") refl
mode-no-feed mode.Labelled = tested-no-feed (codes "mode labelled") refl

-- The versions 1 and 2 are numbers of 64 bits.
pub version-small : (v : ℕ) → (v ≡ 1) ⊎ (v ≡ 2) → IsSmall v
version-small v (inl e) = omega arith
version-small v (inr e) = omega arith

-- A line that may stand next has no line feed in its text.
pub line-no-feed : {at : Stage} {line : Line} {next : Stage} → May at line next → HasNoFeed (line_text line)
line-no-feed (May.version {v = v} h) = filled-no-feed (codes "boltzmann #") (v ∷ []) 0 (small1 v (version-small v h)) (tested-no-feed (codes "boltzmann #") refl)
line-no-feed (May.mode {m = m}) = mode-no-feed m
line-no-feed (May.digest {d = d} h) = append-no-feed (codes "spec ") _ (tested-no-feed (codes "spec ") refl) (hex-no-feed d)
line-no-feed (May.x {n = n} {d = d} h k) = filled-no-feed (codes "x #/#") (n ∷ d ∷ []) 0 (small2 n d (let a = h.1 in omega arith) (let a = k.1 in omega arith)) (tested-no-feed (codes "x #/#") refl)
line-no-feed (May.fraction {f = f} h) = filled-no-feed (codes "fraction #") (f ∷ []) 0 (small1 f (omega arith)) (tested-no-feed (codes "fraction #") refl)
line-no-feed (May.window {min = min} {max = max} h k) = filled-no-feed (codes "window # #") (min ∷ max ∷ []) 0 (small2 min max h k) (tested-no-feed (codes "window # #") refl)
line-no-feed (May.base {name = name} {value = value} is missing h) = append-no-feed (codes "base ") _ (tested-no-feed (codes "base ") refl) (append-no-feed name _ (run-no-feed name is.run) (filled-no-feed (codes " #") (value ∷ []) 0 (small1 value h) (tested-no-feed (codes " #") refl)))
line-no-feed (May.last_base m) = line-no-feed m
line-no-feed (May.object {number = number} {place = place} {size = size} h k l) = filled-no-feed (codes "object # at # size #") (number ∷ place ∷ size ∷ []) 0 (small3 number place size h k l) (tested-no-feed (codes "object # at # size #") refl)
line-no-feed (May.left_open {straddle = s} h r) = open-no-feed s h r
line-no-feed (May.end {word = word} {kept = kept} {thrown = thrown} {bits = bits} {turns = turns} ne k t b u) = end-no-feed word kept thrown bits turns k t b u
line-no-feed (May.text {text = text} h) = append-no-feed (codes "text ") text (tested-no-feed (codes "text ") refl) (printed-no-feed text h.each)
line-no-feed (May.cells {cells = cells} h) = append-no-feed (codes "cells") _ (tested-no-feed (codes "cells") refl) (cells-no-feed cells h)
line-no-feed (May.undecided {kept = kept} {thrown = thrown} {bits = bits} {turns = turns} k t b u) = end-no-feed Undecided kept thrown bits turns k t b u

-- ---- what comes next

-- Two lines of the base with one text have one name, and the texts of their values are one.
pub one-base : (name other : List ℕ) (value more : ℕ) → IsName name → IsName other → base_line name value ≡ base_line other more → (name ≡ other) × (decimal value ≡ decimal more)
unfolding filled_from
one-base name other value more is are e =
    let t = one-cut-at 32 name other (decimal value ++ []) (decimal more ++ []) (run-no-space name is.run) (run-no-space other are.run) (append_cancel_left (codes "base ") (name ++ filled (codes " #") (value ∷ [])) (other ++ filled (codes " #") (more ∷ [])) e) in
    (t.0, sym (append-nil (decimal value)) ∙ t.1 ∙ append-nil (decimal more))

-- The line of an object begins with the letter o, whatever its numbers.
pub object-head : (number place size : ℕ) → get_or (object_line number place size) 0 0 ≡ 111
unfolding filled_from
object-head number place size = refl

-- The line of a number that was left open begins with the letter u.
pub open-head : (s : Straddle) → get_or (open_line s) 0 0 ≡ 117
unfolding filled_from
open-head (straddle.Node node cell lo hi) = refl
open-head (straddle.Label m cell) = refl

-- The closing line begins with the letter e, whatever its word and numbers.
pub end-head : (word : ClosingWord) (kept thrown bits turns : ℕ) → get_or (end_line word kept thrown bits turns) 0 0 ≡ 101
unfolding filled_from
end-head Done kept thrown bits turns = refl
end-head TapeEnded kept thrown bits turns = refl
end-head Undecided kept thrown bits turns = refl
end-head TurnLimit kept thrown bits turns = refl
end-head ReadFault kept thrown bits turns = refl

-- Two texts that begin with different bytes are two.
pub differ : (x y : List ℕ) (a b : ℕ) → get_or x 0 0 ≡ a → get_or y 0 0 ≡ b → a ≢ b → x ≢ y
differ x y a b h k ne e = ne (sym h ∙ ap (λ t. get_or t 0 0) e ∙ k)

-- No line that may follow the base begins as a line of the base.
pub no-base-head : {line : Line} {next : Stage} → May Stage.AtObject line next → get_or (line_text line) 0 0 ≢ 98
no-base-head (May.object {number = number} {place = place} {size = size} h k l) e = let f = object-head number place size in absurd (omega arith)
no-base-head (May.left_open {straddle = s} h r) e = let f = open-head s in absurd (omega arith)
no-base-head (May.end {word = word} {kept = kept} {thrown = thrown} {bits = bits} {turns = turns} ne k t b u) e = let f = end-head word kept thrown bits turns in absurd (omega arith)

-- Of two lines that may follow the base and have one text, the same comes next.
one-after-base : {line other : Line} {next last : Stage} → May Stage.AtObject line next → May Stage.AtObject other last → line_text line ≡ line_text other → next ≡ last
one-after-base (May.object h k l) (May.object m n o) e = refl
one-after-base (May.object {number = number} {place = place} {size = size} h k l) (May.left_open {straddle = s} m r) e = absurd (differ (object_line number place size) (open_line s) 111 117 (object-head number place size) (open-head s) (omega arith) e)
one-after-base (May.object {number = number} {place = place} {size = size} h k l) (May.end {word = word} {kept = kept} {thrown = thrown} {bits = bits} {turns = turns} ne m t b u) e = absurd (differ (object_line number place size) (end_line word kept thrown bits turns) 111 101 (object-head number place size) (end-head word kept thrown bits turns) (omega arith) e)
one-after-base (May.left_open {straddle = s} m r) (May.object {number = number} {place = place} {size = size} h k l) e = absurd (differ (open_line s) (object_line number place size) 117 111 (open-head s) (object-head number place size) (omega arith) e)
one-after-base (May.left_open m r) (May.left_open n q) e = refl
one-after-base (May.left_open {straddle = s} m r) (May.end {word = word} {kept = kept} {thrown = thrown} {bits = bits} {turns = turns} ne k t b u) e = absurd (differ (open_line s) (end_line word kept thrown bits turns) 117 101 (open-head s) (end-head word kept thrown bits turns) (omega arith) e)
one-after-base (May.end {word = word} {kept = kept} {thrown = thrown} {bits = bits} {turns = turns} ne k t b u) (May.object {number = number} {place = place} {size = size} h l m) e = absurd (differ (end_line word kept thrown bits turns) (object_line number place size) 101 111 (end-head word kept thrown bits turns) (object-head number place size) (omega arith) e)
one-after-base (May.end {word = word} {kept = kept} {thrown = thrown} {bits = bits} {turns = turns} ne k t b u) (May.left_open {straddle = s} m r) e = absurd (differ (end_line word kept thrown bits turns) (open_line s) 101 117 (end-head word kept thrown bits turns) (open-head s) (omega arith) e)
one-after-base (May.end ne k t b u) (May.end me l w c v) e = refl

-- Two versions of 64 bits whose lines have the same text are the same version.
pub one-version : (v w : ℕ) → IsSmall v → IsSmall w → line_text (Line.Version v) ≡ line_text (Line.Version w) → v ≡ w
one-version v w h k e = one-line (codes "boltzmann #") (v ∷ []) (w ∷ []) refl (small1 v h) (small1 w k) e 0 (omega arith)

-- Of two lines that may stand next and have one text, the same comes next.
pub one-next : {stage : Stage} {line other : Line} {next last : Stage} → May stage line next → May stage other last → line_text line ≡ line_text other → next ≡ last
one-next (May.version {v = v} h) (May.version {v = w} k) e = ap Stage.AtMode (one-version v w (version-small v h) (version-small w k) e)
one-next May.mode May.mode e = refl
one-next (May.digest h) (May.digest k) e = refl
one-next (May.x h k) (May.x m n) e = refl
one-next (May.fraction h) (May.fraction k) e = refl
one-next (May.window h k) (May.window m n) e = refl
one-next (May.base {names = names} {name = name} {value = value} is missing h) (May.base {name = other} {value = more} are gone k) e = ap (λ n. Stage.AtBase (names ++ n ∷ [])) (one-base name other value more is are e).0
one-next (May.base is missing h) (May.last_base m) e = absurd (no-base-head m (ap (λ t. get_or t 0 0) (sym e)))
one-next (May.last_base m) (May.base is missing h) e = absurd (no-base-head m (ap (λ t. get_or t 0 0) e))
one-next (May.last_base m) (May.last_base n) e = one-after-base m n e
one-next (May.object h k l) n e = one-after-base (May.object h k l) n e
one-next (May.left_open h r) n e = one-after-base (May.left_open h r) n e
one-next (May.end ne k t b u) n e = one-after-base (May.end ne k t b u) n e
one-next (May.text h) (May.text k) e = refl
one-next (May.cells h) (May.cells k) e = refl
one-next (May.undecided k t b u) (May.undecided l w c v) e = refl
