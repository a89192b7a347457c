-- Certificates that are alike have one verdict, as many entries, and the same lines.
use Rattle.std.specs.Prelude.{flat_map}
use Rattle.std.proofs.Common.{◌≡◌, ℕ, suc, ◌+◌, ◌*◌, ◌≤◌, inl, inr, List, [], ◌∷◌, ◌++◌, length, refl, sym, ◌∙◌, ap, subst}
use Rattle.bz_model.specs.declared.cell.Bounds.{Bounds}
use Rattle.bz_model.specs.declared.cell.Cell.{Cell}
use Rattle.bz_model.specs.Spec.{Spec}
use Rattle.entry_replay.specs.Replay.{AreMadeOf}
use Rattle.labelling.specs.LabelsByBits.{bits_in}
use Rattle.object_store.specs.declared.token.Token.{Token}
use Rattle.certificate.specs.declared.certificate.CertEntry.{CertEntry}
use Rattle.certificate.specs.declared.certificate.Certificate.{Certificate}
use Rattle.certificate.specs.declared.certificate.Header.{Header}
use Rattle.certificate.specs.declared.closing.Closing.{Closing}
use Rattle.certificate.specs.declared.reason.Reason.{Reason}
use Rattle.certificate.specs.declared.reason.Reason.TheVariants as reason
use Rattle.certificate.specs.declared.reason.Verdict.{Verdict}
use Rattle.certificate.specs.declared.reason.Verdict.TheVariants.{Invalid}
use Rattle.certificate.specs.Certificates.{header_lines, entry_lines, open_lines, closing_lines, certificate_lines}
use Rattle.certificate.specs.Lines.{Line}
use Rattle.certificate.specs.Checks.{check, checks, header_checks, base_checks, first_entry_line, levels_of, entry_checks, entries_checks, rest_checks, IsNumberedNext, MakesSome, HasSize, HasText, IsTextWith}
use Rattle.certificate.specs.Verdicts.{Check, FirstFails}
use Rattle.certificate.specs.Alike.{SaysTheSame, SayTheSame, AreAlike}

-- ---- tests that are one by one the same

-- Two tests pass together, and are told alike.
record IsTheSame (c d : Check) : Type 0 where
  on : c.passes → d.passes
  back : d.passes → c.passes
  line : c.line ≡ d.line
  reason : c.reason ≡ d.reason

abbrev AreTheSame : List Check → List Check → Type 0
AreTheSame [] [] = Unit {0}
AreTheSame (c ∷ cs) (d ∷ ds) = IsTheSame c d × AreTheSame cs ds
AreTheSame cs ds = ⊥

carried : (cs ds : List Check) (v : Verdict) → AreTheSame cs ds → FirstFails cs v → FirstFails ds v
carried [] [] v same h = h
carried [] (d ∷ ds) v same h = absurd same
carried (c ∷ cs) [] v same h = absurd same
carried (c ∷ cs) (d ∷ ds) v same (inl p) = inl (same.0.on p.0, carried cs ds v same.1 p.1)
carried (c ∷ cs) (d ∷ ds) v same (inr q) = inr (λ p. q.0 (same.0.back p), q.1 ∙ ap (λ n. Invalid n c.reason) same.0.line ∙ ap (Invalid d.line) same.0.reason)

themselves : (cs : List Check) → AreTheSame cs cs
themselves [] = tt
themselves (c ∷ cs) = (record { on = λ p. p; back = λ p. p; line = refl; reason = refl }, themselves cs)

joined : (xs ys cs ds : List Check) → AreTheSame xs ys → AreTheSame cs ds → AreTheSame (xs ++ cs) (ys ++ ds)
joined [] [] cs ds h k = k
joined [] (y ∷ ys) cs ds h k = absurd h
joined (x ∷ xs) [] cs ds h k = absurd h
joined (x ∷ xs) (y ∷ ys) cs ds h k = (h.0, joined xs ys cs ds h.1 k)

one-check : (P Q : Type 0) (line : ℕ) (why : Reason) → (P → Q) → (Q → P) → IsTheSame (check P line why) (check Q line why)
one-check P Q line why on back = record { on = on; back = back; line = refl; reason = refl }

-- ---- entries

turned : (e f : CertEntry) → SaysTheSame e f → SaysTheSame f e
turned e f h = record { number = sym h.number; place = sym h.place; size = sym h.size; text = sym h.text; cells = sym h.cells }

next-on : (number place : ℕ) (e f : CertEntry) → SaysTheSame e f → IsNumberedNext number place e → IsNumberedNext number place f
next-on number place e f same h = record { number_is = sym same.number ∙ h.number_is; no_earlier = subst (λ n. place ≤ n) same.place h.no_earlier }

module _ (s : Spec) (F : ℕ) (table : (level node : ℕ) → Bounds) (least greatest : ℕ) where
  some-on : (e f : CertEntry) → SaysTheSame e f → MakesSome s F table greatest e.cells.items → MakesSome s F table greatest f.cells.items
  some-on e f same h = subst (λ (cs : List Cell). MakesSome s F table greatest cs) same.cells h

  made-back : (e f : CertEntry) → SaysTheSame e f → (tokens : List Token) (labels : List ℕ) → AreMadeOf s F table greatest f.cells.items tokens labels → AreMadeOf s F table greatest e.cells.items tokens labels
  made-back e f same tokens labels made = subst (λ (cs : List Cell). AreMadeOf s F table greatest cs tokens labels) (sym same.cells) made

  size-on : (e f : CertEntry) → SaysTheSame e f → HasSize s F table least greatest e → HasSize s F table least greatest f
  size-on e f same h = record {
    size_is = λ tokens labels made. h.size_is tokens labels (made-back e f same tokens labels made) ∙ same.size;
    from = subst (λ n. least ≤ n) same.size h.from;
    to = subst (λ n. n ≤ greatest) same.size h.to;
  }

  text-on : (e f : CertEntry) → SaysTheSame e f → HasText s F table greatest e → HasText s F table greatest f
  text-on e f same h = record { with_text = λ tokens labels made. subst (λ text. IsTextWith s tokens labels text) same.text (h.with_text tokens labels (made-back e f same tokens labels made)) }

  entry-same : (number place line : ℕ) (e f : CertEntry) → SaysTheSame e f → AreTheSame (entry_checks s F table least greatest number place line e) (entry_checks s F table least greatest number place line f)
  entry-same number place line e f same =
      let back = turned e f same in (
        one-check (IsNumberedNext number place e) (IsNumberedNext number place f) line reason.Object (next-on number place e f same) (next-on number place f e back),
        (
          one-check (MakesSome s F table greatest e.cells.items) (MakesSome s F table greatest f.cells.items) (line + 2) reason.Cells (some-on e f same) (some-on f e back),
          (
            one-check (HasSize s F table least greatest e) (HasSize s F table least greatest f) line reason.Object (size-on e f same) (size-on f e back),
            (one-check (HasText s F table greatest e) (HasText s F table greatest f) (line + 1) reason.Text (text-on e f same) (text-on f e back), tt),
          ),
        ),
      )

  entries-same : (number place line : ℕ) (es fs : List CertEntry) → SayTheSame es fs → AreTheSame (entries_checks s F table least greatest number place line es) (entries_checks s F table least greatest number place line fs)
  entries-same number place line [] [] same = tt
  entries-same number place line [] (f ∷ fs) same = absurd same
  entries-same number place line (e ∷ es) [] same = absurd same
  entries-same number place line (e ∷ es) (f ∷ fs) same =
      let end : e.place + bits_in e.cells.items ≡ f.place + bits_in f.cells.items = ap (λ n. n + bits_in e.cells.items) same.0.place ∙ ap (λ (cs : List Cell). f.place + bits_in cs) same.0.cells in
      joined (entry_checks s F table least greatest number place line e) (entry_checks s F table least greatest number place line f)
      (entries_checks s F table least greatest (suc number) (e.place + bits_in e.cells.items) (line + 3) es)
      (entries_checks s F table least greatest (suc number) (f.place + bits_in f.cells.items) (line + 3) fs)
      (entry-same number place line e f same.0)
      (subst (λ n. AreTheSame (entries_checks s F table least greatest (suc number) (e.place + bits_in e.cells.items) (line + 3) es) (entries_checks s F table least greatest (suc number) n (line + 3) fs)) end
      (entries-same (suc number) (e.place + bits_in e.cells.items) (line + 3) es fs same.1))

-- as many entries
same-count : (es fs : List CertEntry) → SayTheSame es fs → length es ≡ length fs
same-count [] [] same = refl
same-count [] (f ∷ fs) same = absurd same
same-count (e ∷ es) [] same = absurd same
same-count (e ∷ es) (f ∷ fs) same = ap suc (same-count es fs same.1)

-- Certificates that are alike have equally many entries.
pub alike-count : (a b : Certificate) → AreAlike a b → length a.entries ≡ length b.entries
alike-count a b alike = same-count a.entries b.entries alike.entries

-- ---- certificates

-- A certificate with other entries.
abbrev with_entries : Certificate → List CertEntry → Certificate
with_entries c entries = record { header = c.header; entries = entries; closing = c.closing }

-- A certificate of these parts.
abbrev of-parts : Header → List CertEntry → Closing → Certificate
of-parts header entries closing = record { header = header; entries = entries; closing = closing }

entries-checked : (s : Spec) (F : ℕ) (c : Certificate) (es : List CertEntry) → SayTheSame c.entries es → AreTheSame (checks s F c) (checks s F (with_entries c es))
entries-checked s F c es same =
    let first = first_entry_line c.header in
    let count : length c.entries ≡ length es = same-count c.entries es same in
    let kept : ℕ → Check = λ n. check (c.closing.kept ≡ n) (first + (3 * n + length (open_lines c.closing.straddle))) reason.Closing in
    joined (header_checks s F c.header) (header_checks s F c.header)
    (base_checks s F c.header ++ rest_checks s F first c)
    (base_checks s F c.header ++ rest_checks s F first (with_entries c es))
    (themselves (header_checks s F c.header))
    (joined (base_checks s F c.header) (base_checks s F c.header) (rest_checks s F first c) (rest_checks s F first (with_entries c es))
    (themselves (base_checks s F c.header))
    (joined (entries_checks s F (levels_of s F c.header) c.header.min c.header.max 0 0 first c.entries) (entries_checks s F (levels_of s F c.header) c.header.min c.header.max 0 0 first es)
    (kept (length c.entries) ∷ []) (kept (length es) ∷ [])
    (entries-same s F (levels_of s F c.header) c.header.min c.header.max 0 0 first c.entries es same)
    (subst (λ n. AreTheSame (kept (length c.entries) ∷ []) (kept n ∷ [])) count (themselves (kept (length c.entries) ∷ [])))))

-- If two certificates are alike, a verdict that tells the first test that fails for one tells it
-- for the other.
pub alike-verdict : (s : Spec) (F : ℕ) (a b : Certificate) (told : Verdict) → AreAlike a b → FirstFails (checks s F a) told → FirstFails (checks s F b) told
alike-verdict s F a b told alike h =
    let with-entries = carried (checks s F a) (checks s F (with_entries a b.entries)) told (entries-checked s F a b.entries alike.entries) h in
    subst (λ (k : Closing). FirstFails (checks s F (of-parts b.header b.entries k)) told) alike.closing
    (subst (λ (k : Header). FirstFails (checks s F (of-parts k b.entries a.closing)) told) alike.header with-entries)

-- the same lines
entries-lines : (es fs : List CertEntry) → SayTheSame es fs → flat_map entry_lines es ≡ flat_map entry_lines fs
entries-lines [] [] same = refl
entries-lines [] (f ∷ fs) same = absurd same
entries-lines (e ∷ es) [] same = absurd same
entries-lines (e ∷ es) (f ∷ fs) same =
    let number = same.0.number in
    let place = same.0.place in
    let size = same.0.size in
    let text = same.0.text in
    let cells = same.0.cells in
    let later : flat_map entry_lines es ≡ flat_map entry_lines fs = entries-lines es fs same.1 in
    let object : Line.Object e.number e.place e.size ≡ Line.Object f.number f.place f.size = cc in
    let texts : Line.Text e.text ≡ Line.Text f.text = cc in
    let all : Line.Cells e.cells.items ≡ Line.Cells f.cells.items = cc in
    ap (λ l. l ∷ Line.Text e.text ∷ Line.Cells e.cells.items ∷ flat_map entry_lines es) object
    ∙ ap (λ l. Line.Object f.number f.place f.size ∷ l ∷ Line.Cells e.cells.items ∷ flat_map entry_lines es) texts
    ∙ ap (λ l. Line.Object f.number f.place f.size ∷ Line.Text f.text ∷ l ∷ flat_map entry_lines es) all
    ∙ ap (λ ls. Line.Object f.number f.place f.size ∷ Line.Text f.text ∷ Line.Cells f.cells.items ∷ ls) later

-- Certificates that are alike have the same lines.
pub alike-lines : (a b : Certificate) → AreAlike a b → certificate_lines a ≡ certificate_lines b
alike-lines a b alike =
    ap (λ ls. header_lines a.header ++ (ls ++ closing_lines a.closing)) (entries-lines a.entries b.entries alike.entries)
    ∙ ap (λ (k : Closing). header_lines a.header ++ (flat_map entry_lines b.entries ++ closing_lines k)) alike.closing
    ∙ ap (λ (k : Header). header_lines k ++ (flat_map entry_lines b.entries ++ closing_lines b.closing)) alike.header
