-- The line in front of a text may stand next, or none that may stands there.
use Rattle.std.specs.Prelude.{slice_get, Some, None}
use Rattle.std.proofs.Common.{◌≡◌, ◌≢◌, ℕ, zero, suc, ◌+◌, ◌-◌, ◌^◌, ◌<◌, List, [], ◌∷◌, ◌++◌, length, take, drop, get_or, arith, refl, sym, ◌∙◌, ap, subst, take_all, length-drop, add-one, ◌⊎◌}
use Rattle.bz_model.specs.declared.cell.Cell.{Cell}
use Rattle.bz_model.specs.Number.{IsPart}
use Rattle.class_system.specs.declared.draft.Mode.{Mode}
use Rattle.class_system.specs.Distinct.{IsMissing}
use Rattle.class_system.specs.Words.{IsName}
use Rattle.size_window.specs.declared.ending.Straddle.{Straddle}
use Rattle.certificate.specs.declared.closing.ClosingWord.{ClosingWord}
use Rattle.certificate.specs.declared.closing.ClosingWord.TheVariants.{Done, TapeEnded, Undecided, TurnLimit, ReadFault}
use Rattle.certificate.specs.declared.closing.Closing.{Closing}
use Rattle.certificate.specs.Patterns.{filled_from}
use Rattle.certificate.specs.Certificates.{IsOpen, open_lines, closing_lines}
use Rattle.bz_model.specs.Cell.{AreCells}
use Rattle.certificate.specs.Fields.{IsPrinted, IsDigest, spec_line, cells_text, base_line}
use Rattle.certificate.specs.Lines.{Line, line_text, whole_line, version_line, mode_line, x_line, fraction_line, window_line, object_line, text_line, open_line, end_line}
use Rattle.certificate.specs.Ranges.{IsSmall, OpenInRange, ClosingInRange}
use Rattle.certificate.specs.Reading.{HasNoFeed}
use Rattle.certificate.specs.Stages.{Stage, May, Passes, IsStuck, HasNoBase, HasNoObject, HasNoOpen}
use Rattle.certificate.proofs.Feeds.{one-cut}
use Rattle.certificate.proofs.StageLines.{line-no-feed, one-base}
use Rattle.certificate.proofs.FirstBad.{passes-one, whole-then, not-nothing}

-- What stands before the first line feed has none.
pub before-feed : (text : List ℕ) (end : ℕ) → ((k : ℕ) → k < end → get_or text k 0 ≢ 10) → HasNoFeed (take end text)
before-feed [] zero h = tt
before-feed [] (suc end) h = tt
before-feed (b ∷ text) zero h = tt
before-feed (b ∷ text) (suc end) h = (h 0 (omega arith), before-feed text end (λ k lt. h (suc k) (omega arith)))

-- A text is cut at its first line feed.
cut-at : (text : List ℕ) (end : ℕ) → end < length text → get_or text end 0 ≡ 10 → text ≡ take end text ++ 10 ∷ drop (suc end) text
cut-at [] end lt h = absurd (omega arith)
cut-at (b ∷ text) zero lt h = ap (λ z. z ∷ text) h
cut-at (b ∷ text) (suc end) lt h = ap (λ t. b ∷ t) (cut-at text end (omega arith) h)

-- A text with a line feed at place end is what stands before that place, the line feed, and what
-- follows it.
pub cut-line : (text : List ℕ) (end : ℕ) → end < length text → get_or text end 0 ≡ 10 → text ≡ take end text ++ 10 ∷ take (length text - (end + 1)) (drop (end + 1) text)
cut-line text end lt h = cut-at text end lt h ∙ ap (λ t. take end text ++ 10 ∷ t) (rw add-one (sym (take_all (length text - suc end) (drop (suc end) text) (omega (arith, length-drop (suc end) text)))))

-- A text without line feeds is no line with its line feed.
pub no-line : (text : List ℕ) → ((k : ℕ) → k < length text → get_or text k 0 ≢ 10) → (line rest : List ℕ) → text ≢ line ++ 10 ∷ rest
no-line text h line rest e = h (length line) (subst (λ t. length line < length t) (sym e) (longer line rest)) (ap (λ t. get_or t (length line) 0) e ∙ at line rest)
  where
    longer : (line rest : List ℕ) → length line < length (line ++ 10 ∷ rest)
    longer [] rest = omega arith
    longer (b ∷ line) rest = let h = longer line rest in omega arith

    at : (line rest : List ℕ) → get_or (line ++ 10 ∷ rest) (length line) 0 ≡ 10
    at [] rest = refl
    at (b ∷ line) rest = at line rest

-- The line in front passes.
pub found-line : {from to : Stage} {l : Line} (text line rest : List ℕ) → May from l to → text ≡ line ++ 10 ∷ rest → line ≡ line_text l → Passes from text (l ∷ []) to rest
found-line {l = l} text line rest m e f = passes-one text rest m (e ∙ ap (λ t. t ++ 10 ∷ rest) f ∙ sym (whole-then l rest))

-- Where no line is in front it is stuck.
pub stuck-none : (from : Stage) (text : List ℕ) → from ≢ Stage.Over → ((line rest : List ℕ) → text ≢ line ++ 10 ∷ rest) → IsStuck from text
stuck-none from text ne none = record { line = λ l next rest m e. none (line_text l) rest (e ∙ whole-then l rest); unfinished = λ o. absurd (ne o) }

-- Where the line in front is none that may stand next it is stuck.
stuck-here : (from : Stage) (text line rest : List ℕ) → HasNoFeed line → text ≡ line ++ 10 ∷ rest → ((l : Line) (next : Stage) → May from l next → line ≢ line_text l) → IsStuck from text
stuck-here from text line rest h f none = record {
  line = λ l next q m e. none l next m (one-cut line (line_text l) rest q h (line-no-feed m) (sym f ∙ e ∙ whole-then l q)).0;
  unfinished = λ o e. absurd (not-nothing line rest (sym e ∙ f));
}

-- Where the version is wanted and the line in front is that of neither version 1 nor version 2,
-- reading is stuck.
pub stuck-version : (text line rest : List ℕ) → HasNoFeed line → text ≡ line ++ 10 ∷ rest → ((v : ℕ) → (v ≡ 1) ⊎ (v ≡ 2) → line ≢ version_line v) → IsStuck Stage.AtVersion text
stuck-version text line rest h f none = stuck-here Stage.AtVersion text line rest h f (λ l next m. cases m)
  where
    cases : {l : Line} {next : Stage} → May Stage.AtVersion l next → line ≢ line_text l
    cases (May.version {v = v} is) = none v is

-- Where the mode is wanted and the line in front is the line of no mode, reading is stuck.
pub stuck-mode : (v : ℕ) (text line rest : List ℕ) → HasNoFeed line → text ≡ line ++ 10 ∷ rest → ((m : Mode) → line ≢ mode_line m) → IsStuck (Stage.AtMode v) text
stuck-mode v text line rest h f none = stuck-here (Stage.AtMode v) text line rest h f (λ l next m. cases m)
  where
    cases : {l : Line} {next : Stage} → May (Stage.AtMode v) l next → line ≢ line_text l
    cases (May.mode {m = m}) = none m

-- Where a digest is wanted and the line in front is the line of no digest, reading is stuck.
pub stuck-digest : (text line rest : List ℕ) → HasNoFeed line → text ≡ line ++ 10 ∷ rest → ((d : List ℕ) → IsDigest d → line ≢ spec_line d) → IsStuck Stage.AtDigest text
stuck-digest text line rest h f none = stuck-here Stage.AtDigest text line rest h f (λ l next m. cases m)
  where
    cases : {l : Line} {next : Stage} → May Stage.AtDigest l next → line ≢ line_text l
    cases (May.digest {d = d} is) = none d is

-- Where x is wanted and the line in front is the line of no fraction, reading is stuck.
pub stuck-x : (text line rest : List ℕ) → HasNoFeed line → text ≡ line ++ 10 ∷ rest → ((n d : ℕ) → IsPart n → IsPart d → line ≢ x_line n d) → IsStuck Stage.AtX text
stuck-x text line rest h f none = stuck-here Stage.AtX text line rest h f (λ l next m. cases m)
  where
    cases : {l : Line} {next : Stage} → May Stage.AtX l next → line ≢ line_text l
    cases (May.x {n = n} {d = d} is are) = none n d is are

-- Where the fraction bits are wanted and the line in front is the line of no number below 2^32,
-- reading is stuck.
pub stuck-fraction : (text line rest : List ℕ) → HasNoFeed line → text ≡ line ++ 10 ∷ rest → ((b : ℕ) → b < 2 ^ 32 → line ≢ fraction_line b) → IsStuck Stage.AtFraction text
stuck-fraction text line rest h f none = stuck-here Stage.AtFraction text line rest h f (λ l next m. cases m)
  where
    cases : {l : Line} {next : Stage} → May Stage.AtFraction l next → line ≢ line_text l
    cases (May.fraction {f = b} is) = none b is

-- Where the window is wanted and the line in front is that of no two numbers of 64 bits, reading is
-- stuck.
pub stuck-window : (text line rest : List ℕ) → HasNoFeed line → text ≡ line ++ 10 ∷ rest → ((a b : ℕ) → IsSmall a → IsSmall b → line ≢ window_line a b) → IsStuck Stage.AtWindow text
stuck-window text line rest h f none = stuck-here Stage.AtWindow text line rest h f (λ l next m. cases m)
  where
    cases : {l : Line} {next : Stage} → May Stage.AtWindow l next → line ≢ line_text l
    cases (May.window {min = a} {max = b} is are) = none a b is are

-- Where an object's text is wanted and the line in front is that of no printable text, reading is
-- stuck.
pub stuck-text : (text line rest : List ℕ) → HasNoFeed line → text ≡ line ++ 10 ∷ rest → ((t : List ℕ) → IsPrinted t → line ≢ text_line t) → IsStuck Stage.AtText text
stuck-text text line rest h f none = stuck-here Stage.AtText text line rest h f (λ l next m. cases m)
  where
    cases : {l : Line} {next : Stage} → May Stage.AtText l next → line ≢ line_text l
    cases (May.text {text = t} is) = none t is

-- Where cells are wanted and the line in front is the text of no cells, reading is stuck.
pub stuck-cells : (text line rest : List ℕ) → HasNoFeed line → text ≡ line ++ 10 ∷ rest → ((c : List Cell) → AreCells c → line ≢ cells_text c) → IsStuck Stage.AtCells text
stuck-cells text line rest h f none = stuck-here Stage.AtCells text line rest h f (λ l next m. cases m)
  where
    cases : {l : Line} {next : Stage} → May Stage.AtCells l next → line ≢ line_text l
    cases (May.cells {cells = c} is) = none c is

-- No object's line, no open number's line and no new line of the base stands in front where no line is there.
pub no-object-none : (text : List ℕ) → ((line rest : List ℕ) → text ≢ line ++ 10 ∷ rest) → HasNoObject text
no-object-none text none = record { none = λ n p s rest a b c e. none (object_line n p s) rest (e ∙ whole-then (Line.Object n p s) rest) }

pub no-open-none : (text : List ℕ) → ((line rest : List ℕ) → text ≢ line ++ 10 ∷ rest) → HasNoOpen text
no-open-none text none = record { none = λ s rest is r e. none (open_line s) rest (e ∙ whole-then (Line.Open s) rest) }

-- Where a text has no whole line in front, no line of the base stands in front.
pub no-base-none : (names : List (List ℕ)) (text : List ℕ) → ((line rest : List ℕ) → text ≢ line ++ 10 ∷ rest) → HasNoBase names text
no-base-none names text none = record { none = λ n v rest is missing s e. none (base_line n v) rest (e ∙ whole-then (Line.Base n v) rest) }

-- And where the line in front is another.
pub no-object-here : (text line rest : List ℕ) → HasNoFeed line → text ≡ line ++ 10 ∷ rest → ((n p s : ℕ) → IsSmall n → IsSmall p → IsSmall s → line ≢ object_line n p s) → HasNoObject text
no-object-here text line rest h f none = record { none = λ n p s q a b c e. none n p s a b c (one-cut line (object_line n p s) rest q h (line-no-feed (May.object a b c)) (sym f ∙ e ∙ whole-then (Line.Object n p s) q)).0 }

-- If the line in front is the line of no number that was left open, no such line stands in front.
pub no-open-here : (text line rest : List ℕ) → HasNoFeed line → text ≡ line ++ 10 ∷ rest → ((s : Straddle) → IsOpen s → OpenInRange s → line ≢ open_line s) → HasNoOpen text
no-open-here text line rest h f none = record { none = λ s q is r e. none s is r (one-cut line (open_line s) rest q h (line-no-feed (May.left_open is r)) (sym f ∙ e ∙ whole-then (Line.Open s) q)).0 }

-- If the line in front is the line of no new name and value of the base, no line of the base stands
-- in front.
pub no-base-here : (names : List (List ℕ)) (text line rest : List ℕ) → HasNoFeed line → text ≡ line ++ 10 ∷ rest → ((n : List ℕ) (v : ℕ) → IsName n → IsMissing n names → IsSmall v → line ≢ base_line n v) → HasNoBase names text
no-base-here names text line rest h f none = record { none = λ n v q is missing s e. none n v is missing s (one-cut line (base_line n v) rest q h (line-no-feed (May.base is missing s)) (sym f ∙ e ∙ whole-then (Line.Base n v) q)).0 }

-- Where the line in front is one of the base with a name that is known already, none with a new name stands there.
pub no-base-known : (names : List (List ℕ)) (text line rest name : List ℕ) (value i : ℕ) → HasNoFeed line → text ≡ line ++ 10 ∷ rest → IsName name → line ≡ base_line name value → slice_get names i ≡ Some name → HasNoBase names text
no-base-known names text line rest name value i h f is g at = no-base-here names text line rest h f (λ n v are missing s e. missing.nowhere i (at ∙ ap Some (one-base name n value v is are (sym g ∙ e)).0))

end-letter : (word : ClosingWord) → ℕ
end-letter Done = 100
end-letter TapeEnded = 116
end-letter Undecided = 117
end-letter TurnLimit = 116
end-letter ReadFault = 114

letter-at : (word : ClosingWord) (kept thrown bits turns : ℕ) → get_or (end_line word kept thrown bits turns) 4 0 ≡ end-letter word
unfolding filled_from end-letter
letter-at Done kept thrown bits turns = refl
letter-at TapeEnded kept thrown bits turns = refl
letter-at Undecided kept thrown bits turns = refl
letter-at TurnLimit kept thrown bits turns = refl
letter-at ReadFault kept thrown bits turns = refl

by-letter : (word : ClosingWord) → end-letter word ≡ 117 → word ≡ Undecided
unfolding end-letter
by-letter Done e = absurd (omega arith)
by-letter TapeEnded e = absurd (omega arith)
by-letter Undecided e = refl
by-letter TurnLimit e = absurd (omega arith)
by-letter ReadFault e = absurd (omega arith)

undecided-letter : end-letter Undecided ≡ 117
unfolding end-letter
undecided-letter = refl

-- A last line that is one of an open number has its word.
pub one-word : (word : ClosingWord) (k t b u l v c w : ℕ) → end_line word k t b u ≡ end_line Undecided l v c w → word ≡ Undecided
one-word word k t b u l v c w e = by-letter word (sym (letter-at word k t b u) ∙ ap (λ x. get_or x 4 0) e ∙ letter-at Undecided l v c w ∙ undecided-letter)

-- Where neither an object's line nor an open number's nor a last line with another word stands in front it is stuck.
pub stuck-object : (text line rest : List ℕ) → HasNoFeed line → text ≡ line ++ 10 ∷ rest → ((word : ClosingWord) (k t b u : ℕ) → word ≢ Undecided → IsSmall k → IsSmall t → IsSmall b → IsSmall u → line ≢ end_line word k t b u) → HasNoObject text → HasNoOpen text → IsStuck Stage.AtObject text
stuck-object text line rest h f none no_object no_open = record {
  line = λ l next q m e. cases q m e;
  unfinished = λ o e. absurd (not-nothing line rest (sym e ∙ f));
}
  where
    cases : {l : Line} {next : Stage} (q : List ℕ) → May Stage.AtObject l next → text ≢ whole_line l ++ q
    cases q (May.object {number = n} {place = p} {size = s} a b c) e = no_object.none n p s q a b c e
    cases q (May.left_open {straddle = s} is r) e = no_open.none s q is r e
    cases q (May.end {word = word} {kept = k} {thrown = t} {bits = b} {turns = u} ne a c d g) e = none word k t b u ne a c d g (one-cut line (end_line word k t b u) rest q h (line-no-feed (May.end ne a c d g)) (sym f ∙ e ∙ whole-then (Line.End word k t b u) q)).0

-- The same where the last line is one of an open number.
pub stuck-undecided : (text line rest : List ℕ) (word : ClosingWord) (k t b u : ℕ) → HasNoFeed line → text ≡ line ++ 10 ∷ rest → line ≡ end_line word k t b u → word ≡ Undecided → HasNoObject text → HasNoOpen text → IsStuck Stage.AtObject text
stuck-undecided text line rest word k t b u h f g is = stuck-object text line rest h f (λ other l v c w ne a d m n e. ne (one-word other l v c w k t b u (sym e ∙ g ∙ ap (λ z. end_line z k t b u) is)))

-- Behind an open number it is stuck where no last line with its word stands in front.
pub stuck-end : (text line rest : List ℕ) → HasNoFeed line → text ≡ line ++ 10 ∷ rest → ((k t b u : ℕ) → IsSmall k → IsSmall t → IsSmall b → IsSmall u → line ≢ end_line Undecided k t b u) → IsStuck Stage.AtEnd text
stuck-end text line rest h f none = stuck-here Stage.AtEnd text line rest h f (λ l next m. cases m)
  where
    cases : {l : Line} {next : Stage} → May Stage.AtEnd l next → line ≢ line_text l
    cases (May.undecided {kept = k} {thrown = t} {bits = b} {turns = u} a c d g) = none k t b u a c d g

-- The same where the last line has another word.
pub stuck-decided : (text line rest : List ℕ) (word : ClosingWord) (k t b u : ℕ) → HasNoFeed line → text ≡ line ++ 10 ∷ rest → line ≡ end_line word k t b u → word ≢ Undecided → IsStuck Stage.AtEnd text
stuck-decided text line rest word k t b u h f g ne = stuck-end text line rest h f (λ l v c w a d m n e. ne (one-word word k t b u l v c w (sym g ∙ e)))

-- A last line without an open number passes as a closing.
pub end-passes : (c : Closing) (text line rest : List ℕ) → text ≡ line ++ 10 ∷ rest → c.straddle ≡ None → c.word ≢ Undecided → ClosingInRange c → line ≡ end_line c.word c.kept c.thrown c.bits c.turns → Passes Stage.AtObject text (closing_lines c) Stage.Over rest
end-passes c text line rest f none ne r e =
    subst (λ s. Passes Stage.AtObject text (open_lines s ++ Line.End c.word c.kept c.thrown c.bits c.turns ∷ []) Stage.Over rest) (sym none)
    (found-line text line rest (May.end ne r.kept r.thrown r.bits r.turns) f e)

-- A last line behind an open number passes.
pub undecided-passes : (c : Closing) (text line rest : List ℕ) → text ≡ line ++ 10 ∷ rest → c.word ≡ Undecided → ClosingInRange c → line ≡ end_line c.word c.kept c.thrown c.bits c.turns → Passes Stage.AtEnd text (Line.End c.word c.kept c.thrown c.bits c.turns ∷ []) Stage.Over rest
undecided-passes c text line rest f is r e =
    subst (λ w. Passes Stage.AtEnd text (Line.End w c.kept c.thrown c.bits c.turns ∷ []) Stage.Over rest) (sym is)
    (found-line text line rest (May.undecided r.kept r.thrown r.bits r.turns) f (e ∙ ap (λ w. end_line w c.kept c.thrown c.bits c.turns) is))

-- A line of the base with a new name passes.
pub base-passes : (names : List (List ℕ)) (text line rest name word : List ℕ) (value : ℕ) → text ≡ line ++ 10 ∷ rest → word ≡ name → IsName name → IsSmall value → line ≡ base_line name value → IsMissing word names → Passes (Stage.AtBase names) text (Line.Base word value ∷ []) (Stage.AtBase (names ++ word ∷ [])) rest
base-passes names text line rest name word value f same is s e missing = found-line text line rest (May.base (subst IsName (sym same) is) missing s) f (e ∙ ap (λ n. base_line n value) (sym same))
