-- What a drawing wrote with Done is the text of a certificate, whose tests pass.
use Rattle.std.proofs.Common.{◌≡◌, ℕ, suc, ◌+◌, ◌*◌, ◌^◌, ◌<◌, ◌≤◌, arith, List, [], ◌∷◌, ◌++◌, length, append-nil, refl, sym, ◌∙◌, ap, subst, inl}
use Rattle.std.specs.Prelude.{Option, Some, None, codes, flat_map, slice_get}
use Rattle.std.specs.List.{AllByRecursion}
use Rattle.std.proofs.lemmas.Grind.{flat_map-append}
use Rattle.std.proofs.lemmas.List.{append_cancel_left, append_cancel_right}
use Rattle.std.proofs.Math.Nat.{mul-le-mul}
use Rattle.sha2.specs.Sha256.{sha256}
use Rattle.bz_model.specs.declared.cell.Bounds.{Bounds}
use Rattle.bz_model.specs.declared.fraction.Fraction.{Fraction}
use Rattle.bz_model.specs.Cell.{AreCells}
use Rattle.bz_model.specs.declared.cell.Cell.{Cell}
use Rattle.bz_model.specs.Fraction as ratio
use Rattle.bz_model.specs.ObjectText.{object_text}
use Rattle.bz_model.specs.Spec.{Spec, Mode}
use Rattle.class_system.specs.CanonicalText.{canonical_text}
use Rattle.class_system.specs.Distinct.{AreDistinct}
use Rattle.class_system.specs.Sound.{IsSound}
use Rattle.class_system.specs.Views.{spec_mode}
use Rattle.labelling.specs.LabelsByBits.{bits_in}
use Rattle.labelling.specs.Spelled.{LabellingsSpell}
use Rattle.shape_sampler.specs.Visit.{Chooser}
use Rattle.well_founded.specs.EmptyObjects.{has_empty}
use Rattle.size_window.specs.Drawing.{AreLimits}
use Rattle.size_window.specs.Ideally.{chooser_of}
use Rattle.size_window.specs.InOrder.{AreInOrder, IsInOrder}
use Rattle.size_window.specs.Redrawn.{AreRedrawn}
use Rattle.size_window.specs.RunByBits.{Limits, Sampling, RunState, Entry, Course, Ending, after}
use Rattle.size_window.specs.TapeEnd.{bits_a_turn, UsesFewBits}
use Rattle.size_window.specs.Trace.{EndsAt}
use Rattle.size_window.proofs.Redrawing.{has-own}
use Rattle.size_window.proofs.Tracing.{table-chooser}
use Rattle.entry_replay.specs.Replay.{AreMadeOf}
use Rattle.rounded_map.specs.RoundedMap.{setting}
use Rattle.oracle_memo.specs.Levels.{level_bounds}
use Rattle.rounded_map.proofs.FixedTests.{length-fixed}
use Rattle.certificate.specs.declared.certificate.CertEntry.{CertEntry}
use Rattle.certificate.specs.declared.certificate.Certificate.{Certificate}
use Rattle.certificate.specs.declared.closing.ClosingWord.TheVariants.{Done}
use Rattle.certificate.specs.declared.reason.Verdict.TheVariants.{Valid}
use Rattle.certificate.specs.Certificates.{header_lines, object_lines, entry_lines, closing_lines, certificate_lines, IsCertificate, FitsEntry}
use Rattle.certificate.specs.Checks.{checks, IsTextWith}
use Rattle.certificate.specs.Completeness.{AreKept, IsOfDrawing}
use Rattle.certificate.specs.Fields.{IsPrinted}
use Rattle.certificate.specs.Headers.{code_mode, header_of}
use Rattle.certificate.specs.Lines.{Line, whole_line, version_line, text_of}
use Rattle.certificate.specs.Ranges.{EntryInRange, CertificateInRange}
use Rattle.certificate.specs.Reading.{IsTextOf}
use Rattle.certificate.specs.Verdicts.{FirstFails}
use Rattle.certificate.proofs.Writing.{text-append}
use Rattle.sample_command.specs.Drawn.{TapeMet, sampling, IsCourse, AreLinesOf, Lists, drawn_header}
use Rattle.sample_command.specs.Drawn as drawn
use Rattle.certificate_commands.proofs.Attempts.{few-thrown}
use Rattle.certificate_commands.proofs.Bases.{IsBase}
use Rattle.certificate_commands.proofs.Choosers.{redrawn-by}
use Rattle.certificate_commands.proofs.InVersion2.{AreDigests}
use Rattle.certificate_commands.proofs.KeptEntries.{entry-cells, IsBelow, all-below}
use Rattle.certificate_commands.proofs.OnceNamed.{all-names}
use Rattle.certificate_commands.proofs.ShownTexts.{object-shown}

-- the code's mode stands for it
same-mode : (m : Mode) → spec_mode (code_mode m) ≡ m
same-mode Mode.Unlabelled = refl
same-mode Mode.Labelled = refl

-- An entry with a text, as a certificate has it.
abbrev pub cert_entry : Entry → (text : List ℕ) → CertEntry
cert_entry e text = record { number = e.number; place = e.place; size = e.size; text = text; cells = record { items = e.cells; spare = 0 } }

-- Entries with their texts.
abbrev pub cert_entries : List Entry → (texts : List (List ℕ)) → List CertEntry
cert_entries (e ∷ es) (text ∷ texts) = cert_entry e text ∷ cert_entries es texts
cert_entries _ _ = []

-- Texts are those of the objects of entries, one each.
abbrev pub AreTextsOf : Spec → List Entry → (texts : List (List ℕ)) → Type 0
AreTextsOf s [] [] = Unit {0}
AreTextsOf s (e ∷ es) (text ∷ texts) = IsTextWith s e.tokens e.labels text × AreTextsOf s es texts
AreTextsOf s _ _ = ⊥

entries-more : (s : Spec) (es : List Entry) (texts : List (List ℕ)) (e : Entry) (text : List ℕ) → AreTextsOf s es texts → cert_entries (es ++ e ∷ []) (texts ++ text ∷ []) ≡ cert_entries es texts ++ cert_entry e text ∷ []
entries-more s [] [] e text h = refl
entries-more s [] (t ∷ texts) e text h = absurd h
entries-more s (d ∷ es) [] e text h = absurd h
entries-more s (d ∷ es) (t ∷ texts) e text h = ap (λ cs. cert_entry d t ∷ cs) (entries-more s es texts e text h.1)

texts-more : (s : Spec) (es : List Entry) (texts : List (List ℕ)) (e : Entry) (text : List ℕ) → AreTextsOf s es texts → IsTextWith s e.tokens e.labels text → AreTextsOf s (es ++ e ∷ []) (texts ++ text ∷ [])
texts-more s [] [] e text h k = (k, tt)
texts-more s [] (t ∷ texts) e text h k = absurd h
texts-more s (d ∷ es) [] e text h k = absurd h
texts-more s (d ∷ es) (t ∷ texts) e text h k = (h.0, texts-more s es texts e text h.1 k)

-- A drawing's lines of entries are those of a certificate's entries.
pub record OfEntries (s : Spec) (es : List Entry) (lines : List ℕ) : Type 0 where
  pub texts : List (List ℕ)
  pub are : AreTextsOf s es texts
  pub lines_are : lines ≡ text_of (flat_map entry_lines (cert_entries es texts))

-- one text alone stands in the lines of an entry
one-text : (number place size : ℕ) (cells : List Cell) (text other : List ℕ) → text_of (object_lines number place size text cells) ≡ text_of (object_lines number place size other cells) → text ≡ other
one-text number place size cells text other e =
    let rest = text_of (Line.Cells cells ∷ []) in
    let behind = append_cancel_left (whole_line (Line.Object number place size)) (whole_line (Line.Text text) ++ rest) (whole_line (Line.Text other) ++ rest) e in
    let line = append_cancel_right (whole_line (Line.Text text)) (whole_line (Line.Text other)) rest behind in
    append_cancel_left (codes "text ") text other (append_cancel_right (codes "text " ++ text) (codes "text " ++ other) (10 ∷ []) line)

-- the text in an entry's lines
entry-of : (s : Spec) (e : Entry) (lines : List ℕ) → AreLinesOf s e lines → (text : List ℕ) × IsTextWith s e.tokens e.labels text × (lines ≡ text_of (entry_lines (cert_entry e text)))
entry-of s e lines h =
    let of = h.is_of in
    let text = object_text s of.body of.object of.belongs e.labels in (
      text,
      record { is_of = of; text_is = λ other. one-text e.number e.place e.size e.cells text (object_text s other.body other.object other.belongs e.labels) (sym (h.same of) ∙ h.same other) },
      h.same of,
    )

one-more : (s : Spec) (es : List Entry) (e : Entry) (all : List Entry) (front lines text : List ℕ) → OfEntries s es front → AreLinesOf s e lines → all ≡ es ++ e ∷ [] → text ≡ front ++ lines → OfEntries s all text
one-more s es e all front lines text before last all_is text_is =
    let one = entry-of s e lines last in
    let certs = cert_entries es before.texts in
    let entry = cert_entry e one.0 in
    let more = entries-more s es before.texts e one.0 before.are in
    subst (λ ds. OfEntries s ds text) (sym all_is) (record {
      texts = before.texts ++ one.0 ∷ [];
      are = texts-more s es before.texts e one.0 before.are one.1;
      lines_are =
          text_is ∙ ap (λ t. t ++ lines) before.lines_are ∙ ap (λ t. text_of (flat_map entry_lines certs) ++ t) one.2
          ∙ sym (text-append (flat_map entry_lines certs) (entry_lines entry))
          ∙ ap (λ ls. text_of (flat_map entry_lines certs ++ ls)) (sym (append-nil (entry_lines entry)))
          ∙ ap (λ ls. text_of ls) (sym (flat_map-append entry_lines certs (entry ∷ [])))
          ∙ ap (λ cs. text_of (flat_map entry_lines cs)) (sym more);
    })

-- the lines of the entries of a drawing are those of certificate entries
pub of-entries : (s : Spec) (es : List Entry) (text : List ℕ) → Lists s es text → OfEntries s es text
of-entries s es text (drawn.none none empty) = subst (λ ds. OfEntries s ds text) (sym none) (record { texts = []; are = tt; lines_are = empty })
of-entries s es text (drawn.one_more before last front lines h of is text_is) = one-more s before last es front lines text (of-entries s before front h) of is text_is

count-entries : (s : Spec) (es : List Entry) (texts : List (List ℕ)) → AreTextsOf s es texts → length (cert_entries es texts) ≡ length es
count-entries s [] [] h = refl
count-entries s [] (t ∷ texts) h = absurd h
count-entries s (e ∷ es) [] h = absurd h
count-entries s (e ∷ es) (t ∷ texts) h = ap suc (count-entries s es texts h.1)

-- What is known of the course of a drawing that is done.
pub record IsWhole (s : Spec) (F : ℕ) (table : (level node : ℕ) → Bounds) (limits : Limits) (c : Course) : Type 0 where
  pub in_order : IsInOrder limits c
  pub few : UsesFewBits limits c
  pub thrown : c.state.thrown ≤ c.state.turns
  pub made : AllByRecursion (λ e. AreMadeOf s F table limits.max e.cells e.tokens e.labels) c.entries
  pub cells : AllByRecursion (λ e. AreCells e.cells) c.entries

-- The laws of courses.
pub record CourseLaws : Type 0 where
  pub in_order : (s : Sampling) (faults : ℕ → Option ℕ) (n : ℕ) → IsInOrder s.limits (after s faults n)
  pub few : (s : Sampling) (faults : ℕ → Option ℕ) (n : ℕ) → UsesFewBits s.limits (after s faults n)
  pub redrawn : (s : Sampling) (faults : ℕ → Option ℕ) (n : ℕ) → AreRedrawn s.chooser s.limits.max (after s faults n).entries
  pub spell : LabellingsSpell

module _ (laws : CourseLaws) (s : Spec) (sound : IsSound s) (F : ℕ) (table : (level node : ℕ) → Bounds) (limits : Limits) where
  -- The drawing's chooser.
  abbrev own : Chooser
  own = chooser_of s F table (has_empty s)

  all-made : (es : List Entry) → AreRedrawn own limits.max es → AllByRecursion (λ e. AreMadeOf s F table limits.max e.cells e.tokens e.labels) es
  all-made [] h = tt
  all-made (e ∷ es) h = (record { redrawn = λ d by. redrawn-by s F table own d (table-chooser s F table sound) by limits.max e h.0.1 }, all-made es h.1)

  all-cells : (es : List Entry) → AreRedrawn own limits.max es → AllByRecursion (λ e. AreCells e.cells) es
  all-cells [] h = tt
  all-cells (e ∷ es) h = (entry-cells laws.spell own limits.max e h.0.1, all-cells es h.1)

  -- the course of a drawing that ended with Done
  pub is-whole : (x : ratio.Fraction) (t : TapeMet) (c : Course) (most : ℕ) → IsCourse s x F table limits t c most → c.state.ending ≡ Some Ending.Done → IsWhole s F table limits c
  is-whole x t c most h done =
      let tape = slice_get h.given in
      let one = sampling s F table limits tape in
      let over = h.exact tape (has-own h.given) (subst (λ o. EndsAt o c.state.attempt.used tape) (sym done) tt) in
      let again : AreRedrawn own limits.max c.entries = subst (λ (d : Course). AreRedrawn own limits.max d.entries) (sym over.same) (laws.redrawn one h.faults h.turns) in
      record {
        in_order = subst (IsInOrder limits) (sym over.same) (laws.in_order one h.faults h.turns);
        few = subst (UsesFewBits limits) (sym over.same) (laws.few one h.faults h.turns);
        thrown = subst (λ (d : Course). d.state.thrown ≤ d.state.turns) (sym over.same) (few-thrown one h.faults h.turns);
        made = all-made c.entries again;
        cells = all-cells c.entries again;
      }

module _ (s : Spec) (sound : IsSound s) (F : ℕ) (table : (level node : ℕ) → Bounds) (limits : Limits) where
  are-kept : (number place : ℕ) (es : List Entry) (texts : List (List ℕ)) → AreInOrder limits number place es → AllByRecursion (λ e. AreMadeOf s F table limits.max e.cells e.tokens e.labels) es → AreTextsOf s es texts → AreKept s F table limits.min limits.max number place (cert_entries es texts)
  are-kept number place [] [] o m x = tt
  are-kept number place [] (t ∷ texts) o m x = absurd x
  are-kept number place (e ∷ es) [] o m x = absurd x
  are-kept number place (e ∷ es) (t ∷ texts) o m x = (
    record {
      next = record { number_is = o.0.number_is; no_earlier = o.0.begins };
      tokens = e.tokens;
      labels = e.labels;
      made = m.0;
      sized = record { size_is = sym o.0.size; from = o.0.least; to = o.0.greatest };
      text = x.0;
    },
    are-kept (suc number) (e.place + bits_in e.cells) es texts (subst (λ n. AreInOrder limits n (e.place + bits_in e.cells) es) o.0.number_is o.1) m.1 x.1,
  )

  printed-text : (e : Entry) (text : List ℕ) → IsTextWith s e.tokens e.labels text → IsPrinted text
  printed-text e text h = subst IsPrinted (sym (h.text_is h.is_of)) (object-shown s sound h.is_of.body h.is_of.object h.is_of.belongs e.labels)

  entries-fit : (es : List Entry) (texts : List (List ℕ)) → AllByRecursion (λ e. AreCells e.cells) es → AreTextsOf s es texts → AllByRecursion FitsEntry (cert_entries es texts)
  entries-fit [] [] k x = tt
  entries-fit [] (t ∷ texts) k x = absurd x
  entries-fit (e ∷ es) [] k x = absurd x
  entries-fit (e ∷ es) (t ∷ texts) k x = (record { text = printed-text e t x.0; cells = k.0 }, entries-fit es texts k.1 x.1)

  entries-small : (most used : ℕ) → most < 2 ^ 64 → used < 2 ^ 64 → limits.max < 2 ^ 64 → (es : List Entry) (texts : List (List ℕ)) → AllByRecursion (IsBelow most used limits.max) es → AreTextsOf s es texts → AllByRecursion EntryInRange (cert_entries es texts)
  entries-small most used a b c [] [] k x = tt
  entries-small most used a b c [] (t ∷ texts) k x = absurd x
  entries-small most used a b c (e ∷ es) [] k x = absurd x
  entries-small most used a b c (e ∷ es) (t ∷ texts) k x =
      let n = k.0.number_is in
      let p = k.0.place_is in
      let z = k.0.size_is in
      (record { number = omega (arith, n, a); place = omega (arith, p, b); size = omega (arith, z, c) }, entries-small most used a b c es texts k.1 x.1)

-- A drawing's certificate.
abbrev pub certificate_of : Spec → (x : Fraction) → (F : ℕ) → Limits → (base : List ℕ) → RunState → List CertEntry → Certificate
certificate_of s x F limits base st entries = record {
  header = header_of s x F limits.min limits.max base;
  entries = entries;
  closing = record { word = Done; straddle = None; kept = st.kept; thrown = st.thrown; bits = st.attempt.used; turns = st.turns };
}

-- A text is that of a certificate of version 2, with these fraction bits and as many entries, whose tests pass with these bits.
pub record IsCertificateOf (s : Spec) (F entries : ℕ) (text : List ℕ) : Type 0 where
  pub certificate : Certificate
  pub is_text : IsTextOf text certificate
  pub version : certificate.header.version ≡ 2
  pub digest : certificate.header.digest ≡ Some (sha256 (canonical_text s))
  pub fraction : certificate.header.fraction ≡ F
  pub count : length certificate.entries ≡ entries
  pub passes : FirstFails (checks s F certificate) Valid

used-small : (limits : Limits) (c : Course) → AreLimits limits → UsesFewBits limits c → c.state.attempt.used < 2 ^ 64
used-small limits c are few =
    let most : bits_a_turn limits ≤ 60000000 = let m = are.max in omega (arith, m) in
    let many : c.state.turns ≤ 50000000 = let t = are.turns in let n = few.turns in omega (arith, t, n) in
    let product : c.state.turns * bits_a_turn limits ≤ 50000000 * 60000000 = mul-le-mul many most in
    let bits = few.bits in
    omega (arith, bits, product)

module _ (s : Spec) (sound : IsSound s) (once : AreDistinct s.names) (x : Fraction) (F : ℕ) (few_bits : F < 2 ^ 32) (limits : Limits) (are : AreLimits limits) (base : List ℕ) (is_base : IsBase (setting s x.num x.den F) base) (valid : (c : Certificate) → IsOfDrawing s F c → FirstFails (checks s F c) Valid) (digests : AreDigests) where
  -- The table of the drawing.
  abbrev table : (level node : ℕ) → Bounds
  table = level_bounds (setting s x.num x.den F) base

  one-each : length base ≡ length s.names
  one-each = length-fixed (setting s x.num x.den F) base is_base.post_fixed ∙ sound.bodies

  module _ (c : Course) (whole : IsWhole s F table limits c) (full : c.state.kept ≡ limits.count) (texts : List (List ℕ)) (h : AreTextsOf s c.entries texts) where
    abbrev cert : Certificate
    cert = certificate_of s x F limits base c.state (cert_entries c.entries texts)

    kept-small : c.state.kept < 2 ^ 64
    kept-small = let n = are.count in omega (arith, full, n)

    turns-small : c.state.turns < 2 ^ 64
    turns-small = let t = are.turns in let n = whole.few.turns in omega (arith, t, n)

    max-small : limits.max < 2 ^ 64
    max-small = let m = are.max in omega (arith, m)

    all-counted : length cert.entries ≡ c.state.kept
    all-counted = count-entries s c.entries texts h ∙ whole.in_order.number

    is-certificate : IsCertificate cert
    is-certificate = record {
      header = record { version = (refl, digests (canonical_text s)); one_each = one-each };
      num = x.num_in_limits;
      den = x.den_in_limits;
      names = all-names s sound;
      distinct = once;
      entries = entries-fit s sound F table limits c.entries texts whole.cells h;
      closing = tt;
    }

    in-range : CertificateInRange cert
    in-range = record {
      header = record { fraction = few_bits; min = let w = are.window in let m = max-small in omega (arith, w, m); max = max-small; base = is_base.small };
      entries = entries-small s sound F table limits c.state.kept c.state.attempt.used kept-small (used-small limits c are whole.few) max-small c.entries texts
          (all-below limits c.state.kept c.state.attempt.used 0 0 c.entries whole.in_order.entries (let n = whole.in_order.number in omega (arith, n)) whole.in_order.ends) h;
      closing = record { left_open = tt; kept = kept-small; thrown = let t = whole.thrown in let n = turns-small in omega (arith, t, n); bits = used-small limits c are whole.few; turns = turns-small };
    }

    of-drawing : IsOfDrawing s F cert
    of-drawing = record {
      mode = same-mode s.mode;
      digest = inl (refl, refl);
      fraction = record { same = refl; first_version = λ first. absurd (omega arith) };
      window = record { ordered = are.window; within = are.max };
      names = refl;
      post_fixed = is_base.post_fixed;
      entries = are-kept s sound F table limits 0 0 c.entries texts whole.in_order.entries whole.made h;
      closing = sym all-counted;
    }

    text-is : (lines : List ℕ) → lines ≡ text_of (flat_map entry_lines (cert_entries c.entries texts)) → drawn_header (version_line 2) (setting s x.num x.den F) base limits ++ (lines ++ drawn.closing_text table c Ending.Done) ≡ text_of (certificate_lines cert)
    text-is lines is =
        let entries = flat_map entry_lines (cert_entries c.entries texts) in
        let last = closing_lines cert.closing in
        let head = text_of (header_lines cert.header) in
        ap (λ t. head ++ (t ++ text_of last)) is
        ∙ ap (λ t. head ++ t) (sym (text-append entries last))
        ∙ sym (text-append (header_lines cert.header) (entries ++ last))

    -- what such a drawing wrote is its certificate's text, and all tests pass
    pub certified : (lines text : List ℕ) → lines ≡ text_of (flat_map entry_lines (cert_entries c.entries texts)) → text ≡ drawn_header (version_line 2) (setting s x.num x.den F) base limits ++ (lines ++ drawn.closing_text table c Ending.Done) → IsCertificateOf s F limits.count text
    certified lines text is all = record {
      certificate = cert;
      is_text = record { is = is-certificate; in_range = in-range; text = all ∙ text-is lines is };
      version = refl;
      digest = refl;
      fraction = refl;
      count = all-counted ∙ full;
      passes = valid cert of-drawing;
    }
