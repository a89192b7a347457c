-- The parts of a certificate one after the other, and where reading stops in them.
use Rattle.std.specs.Prelude.{flat_map, nat_eq, count_by}
use Rattle.std.proofs.Common.{◌≡◌, ◌≢◌, ℕ, suc, ◌+◌, ◌-◌, ◌<◌, ◌≤◌, false, cond, Result, Ok, Err, List, [], ◌∷◌, ◌++◌, length, take, arith, refl, sym, ◌∙◌, ap, subst, append-nil, length-append}
use Rattle.std.proofs.lemmas.Bool.{ne_eqb}
use Rattle.std.proofs.lemmas.List.Sums.{sum_by-append}
use Rattle.std.specs.Result.{IfErr, IsErrAnd}
use Rattle.certificate.specs.declared.certificate.Header.{Header}
use Rattle.certificate.specs.declared.certificate.CertEntry.{CertEntry}
use Rattle.certificate.specs.declared.certificate.Certificate.{Certificate}
use Rattle.certificate.specs.declared.closing.Closing.{Closing}
use Rattle.certificate.specs.declared.read.Stop.{Stop}
use Rattle.certificate.specs.declared.read.Stop.TheVariants.{At, OutOfMemory}
use Rattle.certificate.specs.Lines.{Line, line_text, whole_line, text_of}
use Rattle.certificate.specs.Certificates.{base_lines, header_lines, entry_lines, closing_lines, certificate_lines}
use Rattle.certificate.specs.Reading.{IsTextOf, HasNoFeed, IsFirstBad}
use Rattle.certificate.specs.Stages.{Stage, May, Way, after_mode, Passes, IsStuck, Fails, HasNoBase}
use Rattle.certificate.specs.Stops.{FailsAt, LinesStopAt}
use Rattle.certificate.proofs.StageLines.{line-no-feed}
use Rattle.certificate.proofs.CertificateWays.{from-base, of-way}
use Rattle.certificate.proofs.FirstBad.{passes-more, fails-more, fails-here, first-bad}

-- It stops at once where it is stuck.
pub stops-here : {from : Stage} (text : List ℕ) → IsStuck from text → FailsAt from text (length text)
stops-here text s = record { rest = text; fails = fails-here text s; count = refl }

-- Behind lines that pass it stops where the rest does.
pub stops-behind : {from mid : Stage} (text between : List ℕ) (left : ℕ) (ls : List Line) → Passes from text ls mid between → FailsAt mid between left → FailsAt from text left
stops-behind text between left ls p f = record { rest = f.rest; fails = fails-more text between f.rest ls p f.fails; count = f.count }

-- If a text begins with lines that may stand there, and reading stops somewhere in what follows
-- them, then it stops there in the whole text.
pub stops-more : {from mid : Stage} (text between : List ℕ) (ls : List Line) (stop : Stop) → Passes from text ls mid between → LinesStopAt mid between stop → LinesStopAt from text stop
stops-more text between ls (At left) p f = stops-behind text between left ls p f
stops-more text between ls OutOfMemory p f = tt

-- A part's refusal that is handed on tells where the whole stops.
pub handed-on : {T : Type 0} (r : Result T Stop) (stop : Stop) (from : Stage) (text : List ℕ) → IsErrAnd r (λ f. f ≡ stop) → LinesStopAt from text stop → IfErr r (LinesStopAt from text)
handed-on (Ok x) stop from text is h = absurd is
handed-on (Err f) stop from text is h = subst (λ z. LinesStopAt from text z) (sym is) h

-- What a first line leaves is shorter.
pub shorter : {from to : Stage} {l : Line} {ls : List Line} (text rest : List ℕ) → Passes from text (l ∷ ls) to rest → length rest < length text
shorter {l = l} {ls = ls} text rest p =
    let n : length text ≡ length (text_of (l ∷ ls)) + length rest = ap length p.split ∙ length-append (text_of (l ∷ ls)) rest in
    let m : length (text_of (l ∷ ls)) ≡ length (whole_line l) + length (text_of ls) = length-append (whole_line l) (text_of ls) in
    let k : length (whole_line l) ≡ length (line_text l) + 1 = length-append (line_text l) (10 ∷ []) in
    omega arith

-- ---- the digest

-- Version 1 has no digest.
pub digest-none : (v : ℕ) (text : List ℕ) → v ≡ 1 → Passes (after_mode v) text [] Stage.AtX text
digest-none v text e = subst (λ k. Passes (after_mode k) text [] Stage.AtX text) (sym e) (record { way = Way.stay; split = refl })

-- Another version is stuck where no digest stands.
pub digest-stops : (v : ℕ) (text : List ℕ) → v ≢ 1 → IsStuck Stage.AtDigest text → FailsAt (after_mode v) text (length text)
digest-stops v text ne s = let t : nat_eq v 1 ≡ false = ne_eqb v 1 ne in rw t (stops-here text s)

-- ---- the base

-- The lines of the base that are read so far.
pub record BasesRead (text : List ℕ) (names : List (List ℕ)) (base rest : List ℕ) : Type 0 where
  pub passes : Passes (Stage.AtBase []) text (base_lines names base) (Stage.AtBase names) rest
  pub one_each : length base ≡ length names

-- Before any line of the base is read, no name or value is read and the whole text is left.
pub bases-first : (text : List ℕ) → BasesRead text [] [] text
bases-first text = record { passes = record { way = Way.stay; split = refl }; one_each = refl }

base-lines-more : (names : List (List ℕ)) (base : List ℕ) (name : List ℕ) (value : ℕ) → length base ≡ length names → base_lines (names ++ name ∷ []) (base ++ value ∷ []) ≡ base_lines names base ++ Line.Base name value ∷ []
base-lines-more [] [] name value e = refl
base-lines-more [] (v ∷ base) name value e = absurd (omega arith)
base-lines-more (n ∷ names) [] name value e = absurd (omega arith)
base-lines-more (n ∷ names) (v ∷ base) name value e = ap (λ ls. Line.Base n v ∷ ls) (base-lines-more names base name value (omega arith))

-- If a further line of the base is passed, its name and value are the last ones of the lines that
-- are read so far.
pub bases-more : (text : List ℕ) (names : List (List ℕ)) (base rest name : List ℕ) (value : ℕ) (after : List ℕ) → BasesRead text names base rest → Passes (Stage.AtBase names) rest (Line.Base name value ∷ []) (Stage.AtBase (names ++ name ∷ [])) after → BasesRead text (names ++ name ∷ []) (base ++ value ∷ []) after
bases-more text names base rest name value after r p = record {
  passes = subst (λ ls. Passes (Stage.AtBase []) text ls (Stage.AtBase (names ++ name ∷ [])) after) (sym (base-lines-more names base name value r.one_each))
      (passes-more text rest after (base_lines names base) (Line.Base name value ∷ []) r.passes p);
  one_each = let e = r.one_each in omega (arith, length-append base (value ∷ []), length-append names (name ∷ []));
}

-- ---- the entries

-- The entries that are read so far.
pub record EntriesRead (text : List ℕ) (es : List CertEntry) (rest : List ℕ) : Type 0 where
  pub passes : Passes Stage.AtObject text (flat_map entry_lines es) Stage.AtObject rest

-- Before any entry is read, no entry is there and the whole text is left.
pub entries-first : (text : List ℕ) → EntriesRead text [] text
entries-first text = record { passes = record { way = Way.stay; split = refl } }

entry-lines-more : (es : List CertEntry) (e : CertEntry) → flat_map entry_lines (es ++ e ∷ []) ≡ flat_map entry_lines es ++ entry_lines e
entry-lines-more [] e = refl
entry-lines-more (d ∷ es) e = ap (λ ls. Line.Object d.number d.place d.size ∷ Line.Text d.text ∷ Line.Cells d.cells.items ∷ ls) (entry-lines-more es e)

-- If the lines of a further entry are passed, it is the last one of the entries that are read so
-- far.
pub entries-more : (text : List ℕ) (es : List CertEntry) (rest : List ℕ) (e : CertEntry) (after : List ℕ) → EntriesRead text es rest → Passes Stage.AtObject rest (entry_lines e) Stage.AtObject after → EntriesRead text (es ++ e ∷ []) after
entries-more text es rest e after r p = record {
  passes = subst (λ ls. Passes Stage.AtObject text ls Stage.AtObject after) (sym (entry-lines-more es e)) (passes-more text rest after (flat_map entry_lines es) (entry_lines e) r.passes p);
}

-- An entry's three lines pass.
pub entry-passes : (e : CertEntry) (text behind_object behind_text after printed : List ℕ) → Passes Stage.AtObject text (Line.Object e.number e.place e.size ∷ []) Stage.AtText behind_object → Passes Stage.AtText behind_object (Line.Text printed ∷ []) Stage.AtCells behind_text → Passes Stage.AtCells behind_text (Line.Cells e.cells.items ∷ []) Stage.AtObject after → e.text ≡ printed → Passes Stage.AtObject text (entry_lines e) Stage.AtObject after
entry-passes e text b t after printed p q r same =
    subst (λ w. Passes Stage.AtObject text (Line.Object e.number e.place e.size ∷ Line.Text w ∷ Line.Cells e.cells.items ∷ []) Stage.AtObject after) (sym same)
    (passes-more text b after (Line.Object e.number e.place e.size ∷ []) (Line.Text printed ∷ Line.Cells e.cells.items ∷ []) p
    (passes-more b t after (Line.Text printed ∷ []) (Line.Cells e.cells.items ∷ []) q r))

-- ---- behind the base

-- What is stuck behind the base is stuck at it, where no new line of it stands in front.
stuck-at-base : (names : List (List ℕ)) (text : List ℕ) → HasNoBase names text → IsStuck Stage.AtObject text → IsStuck (Stage.AtBase names) text
stuck-at-base names text none s = record { line = λ l next q m e. cases q m e; unfinished = λ o e. absurd (let f = o in cc) }
  where
    cases : {l : Line} {next : Stage} (q : List ℕ) → May (Stage.AtBase names) l next → text ≢ whole_line l ++ q
    cases q (May.base {name = n} {value = v} is missing h) e = none.none n v q is missing h e
    cases q (May.last_base {line = l} {next = next} m) e = s.line l next q m e

fails-way : (names : List (List ℕ)) (text left : List ℕ) (ls : List Line) (at : Stage) → HasNoBase names text → Way Stage.AtObject ls at → text ≡ text_of ls ++ left → IsStuck at left → Fails (Stage.AtBase names) text left
fails-way names text left ls at none Way.stay e s = record { lines = []; stage = Stage.AtBase names; passes = record { way = Way.stay; split = e }; stuck = stuck-at-base names left (subst (HasNoBase names) e none) s }
fails-way names text left ls at none (Way.go {line = l} {lines = ms} m w) e s = record { lines = l ∷ ms; stage = at; passes = record { way = Way.go (May.last_base m) w; split = e }; stuck = s }

-- What stops behind the base stops from the base on, where no new line of it stands in front.
pub stops-at-base : (names : List (List ℕ)) (text : List ℕ) (stop : Stop) → HasNoBase names text → LinesStopAt Stage.AtObject text stop → LinesStopAt (Stage.AtBase names) text stop
stops-at-base names text (At left) none f = record { rest = f.rest; fails = fails-way names text f.rest f.fails.lines f.fails.stage none f.fails.passes.way f.fails.passes.split f.fails.stuck; count = f.count }
stops-at-base names text OutOfMemory none f = tt

-- ---- the whole

-- A header, entries and a closing that pass one after the other, with nothing left, are a certificate.
pub whole : (c : Certificate) (text behind_header behind_entries : List ℕ) → length c.header.base ≡ length c.header.names → Passes Stage.AtVersion text (header_lines c.header) (Stage.AtBase c.header.names) behind_header → Passes Stage.AtObject behind_header (flat_map entry_lines c.entries) Stage.AtObject behind_entries → Passes Stage.AtObject behind_entries (closing_lines c.closing) Stage.Over [] → IsTextOf text c
whole c text h b one p q r =
    let tail = passes-more h b [] (flat_map entry_lines c.entries) (closing_lines c.closing) q r in
    let at_base : Passes (Stage.AtBase c.header.names) h (flat_map entry_lines c.entries ++ closing_lines c.closing) Stage.Over [] = record { way = from-base c.header.names tail.way; split = tail.split } in
    let all = passes-more text h [] (header_lines c.header) (flat_map entry_lines c.entries ++ closing_lines c.closing) p at_base in
    let is = of-way c one all.way in
    record { is = is.0; in_range = is.1; text = all.split ∙ append-nil (text_of (certificate_lines c)) }

-- Behind the closing anything is too much.
pub stuck-over : (text : List ℕ) → text ≢ [] → IsStuck Stage.Over text
stuck-over text some = record { line = λ l next q m e. elim m [ ]; unfinished = λ o. some }

-- What stops behind a header stops from the first line on, where no new line of the base stands in front.
pub stops-behind-header : (h : Header) (text rest : List ℕ) (stop : Stop) → Passes Stage.AtVersion text (header_lines h) (Stage.AtBase h.names) rest → HasNoBase h.names rest → LinesStopAt Stage.AtObject rest stop → LinesStopAt Stage.AtVersion text stop
stops-behind-header h text rest stop p none s = stops-more text rest (header_lines h) stop p (stops-at-base h.names rest stop none s)

-- Something left behind the closing is too much.
pub too-much : (h : Header) (es : List CertEntry) (c : Closing) (text behind_header behind_entries rest : List ℕ) → Passes Stage.AtVersion text (header_lines h) (Stage.AtBase h.names) behind_header → HasNoBase h.names behind_header → Passes Stage.AtObject behind_header (flat_map entry_lines es) Stage.AtObject behind_entries → Passes Stage.AtObject behind_entries (closing_lines c) Stage.Over rest → rest ≢ [] → FailsAt Stage.AtVersion text (length rest)
too-much h es c text b e rest p none q r some =
    stops-behind-header h text b (At (length rest)) p none
    (stops-behind b e (length rest) (flat_map entry_lines es) q
    (stops-behind e rest (length rest) (closing_lines c) r (stops-here rest (stuck-over rest some))))

-- ---- the number of the line

-- Line feeds of a text are counted part by part.
counted-append : (xs ys : List ℕ) → count_by (λ b. nat_eq b 10) (xs ++ ys) ≡ count_by (λ b. nat_eq b 10) xs + count_by (λ b. nat_eq b 10) ys
counted-append xs ys = sum_by-append (λ b. cond (nat_eq b 10) 1 0) xs ys

-- A text without line feeds counts none.
none-counted : (text : List ℕ) → HasNoFeed text → count_by (λ b. nat_eq b 10) text ≡ 0
none-counted [] h = refl
none-counted (b ∷ text) h =
    let t : nat_eq b 10 ≡ false = ne_eqb b 10 h.0 in
    let one : count_by (λ x. nat_eq x 10) (b ∷ []) ≡ 0 = ap (λ v. 0 + cond v 1 0) t in
    let later = none-counted text h.1 in
    let all = counted-append (b ∷ []) text in
    all ∙ omega arith

-- The lines of a way have one line feed each.
lines-counted : {from to : Stage} {ls : List Line} → Way from ls to → count_by (λ b. nat_eq b 10) (text_of ls) ≡ length ls
lines-counted Way.stay = refl
lines-counted (Way.go {line = l} {lines = ls} m w) = joined (count_by (λ b. nat_eq b 10) (line_text l)) (count_by (λ b. nat_eq b 10) (whole_line l)) (count_by (λ b. nat_eq b 10) (text_of ls)) (count_by (λ b. nat_eq b 10) (text_of (l ∷ ls))) (length ls) (none-counted (line_text l) (line-no-feed m)) (counted-append (line_text l) (10 ∷ [])) (counted-append (whole_line l) (text_of ls)) (lines-counted w)
  where
    joined : (a b c d n : ℕ) → a ≡ 0 → b ≡ a + 1 → d ≡ b + c → c ≡ n → d ≡ suc n
    joined a b c d n e f g h = omega arith

front : (xs ys : List ℕ) → take (length (xs ++ ys) - length ys) (xs ++ ys) ≡ xs
front xs ys = let n = length-append xs ys in let e : length (xs ++ ys) - length ys ≡ length xs = omega arith in rw e (go xs ys)
  where
    go : (xs ys : List ℕ) → take (length xs) (xs ++ ys) ≡ xs
    go [] ys = refl
    go (x ∷ xs) ys = ap (λ t. x ∷ t) (go xs ys)

-- What is left is part of the text.
pub left-within : (bytes : List ℕ) (left : ℕ) → FailsAt Stage.AtVersion bytes left → left ≤ length bytes
left-within bytes left f = let n = length-append (text_of f.fails.lines) f.rest in let e = ap length f.fails.passes.split in let c = f.count in omega arith

-- The line feeds before what is left tell the first bad line.
pub bad-line : (bytes : List ℕ) (left line : ℕ) → FailsAt Stage.AtVersion bytes left → line ≡ suc (count_by (λ b. nat_eq b 10) (take (length bytes - left) bytes)) → IsFirstBad bytes line
bad-line bytes left line f e =
    let split = f.fails.passes.split in
    let ls = f.fails.lines in
    let t : take (length bytes - left) bytes ≡ text_of ls =
    ap (λ n. take (length bytes - n) bytes) f.count ∙ ap (λ (b : List ℕ). take (length b - length f.rest) b) split ∙ front (text_of ls) f.rest in
    first-bad bytes f.rest line f.fails (e ∙ ap suc (ap (λ b. count_by (λ k. nat_eq k 10) b) t ∙ lines-counted f.fails.passes.way))
