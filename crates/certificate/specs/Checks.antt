-- The tests of a certificate, in order.
use Rattle.std.specs.Prelude.{◌≡◌, ◌≢◌, ℕ, suc, ◌+◌, ◌*◌, ◌≤◌, List, [], ◌∷◌, ◌++◌, length, Option}
use Rattle.std.specs.Prelude.{Some, None}
use Rattle.bz_model.specs.declared.cell.Bounds.{Bounds}
use Rattle.bz_model.specs.declared.cell.Cell.{Cell}
use Rattle.bz_model.specs.ObjectText.{object_text}
use Rattle.bz_model.specs.Spec.{Spec}
use Rattle.class_system.specs.CanonicalText.{canonical_text}
use Rattle.class_system.specs.Views.{spec_mode}
use Rattle.entry_replay.specs.Replay.{AreMadeOf}
use Rattle.fixed_enclosure.specs.UpperValues.{IsNoGreater}
use Rattle.labelling.specs.LabelsByBits.{bits_in}
use Rattle.object_store.specs.declared.token.Token.{Token}
use Rattle.object_store.specs.Tokens.{IsOf, size_of}
use Rattle.oracle_memo.specs.Levels.{level_bounds}
use Rattle.rounded_map.specs.RoundedMap.{Setting, setting, values_up, bodies_up}
use Rattle.sha2.specs.Sha256.{sha256}
use Rattle.certificate.specs.declared.certificate.Header.{Header}
use Rattle.certificate.specs.declared.certificate.CertEntry.{CertEntry}
use Rattle.certificate.specs.declared.certificate.Certificate.{Certificate}
use Rattle.certificate.specs.declared.closing.Closing.{Closing}
use Rattle.certificate.specs.declared.reason.Reason.{Reason}
use Rattle.certificate.specs.declared.reason.Reason.TheVariants as reason
use Rattle.certificate.specs.Certificates.{spec_lines, open_lines}
use Rattle.certificate.specs.Verdicts.{Check}

-- A test, with its line and its reason.
abbrev pub check : (passes : Type 0) → (line : ℕ) → Reason → Check
check passes line reason = record { passes = passes; line = line; reason = reason }

-- The fraction bits are those of the call, and 48 in version 1.
pub record HasFraction (F : ℕ) (h : Header) : Type 0 where
  pub same : h.fraction ≡ F
  pub first_version : h.version ≡ 1 → h.fraction ≡ 48

-- The window is one of sizes up to 1000000.
pub record HasWindow (h : Header) : Type 0 where
  pub ordered : h.min ≤ h.max
  pub within : h.max ≤ 1000000

-- A digest is that of the specification's canonical text.
abbrev pub digest_checks : Spec → Option (List ℕ) → List Check
digest_checks s None = []
digest_checks s (Some digest) = check (digest ≡ sha256 (canonical_text s)) 3 reason.Spec ∷ []

-- How many lines the digest takes.
abbrev pub digest_count : Option (List ℕ) → ℕ
digest_count digest = length (spec_lines digest)

-- The tests of the lines before the base.
abbrev pub header_checks : Spec → (F : ℕ) → Header → List Check
header_checks s F h =
    check (spec_mode h.mode ≡ s.mode) 2 reason.Mode
    ∷ (digest_checks s h.digest
    ++ (check (HasFraction F h) (4 + digest_count h.digest) reason.Fraction
    ∷ check (HasWindow h) (5 + digest_count h.digest) reason.Window
    ∷ []))

-- The first line of the base.
abbrev pub first_base_line : Header → ℕ
first_base_line h = 6 + digest_count h.digest

-- The lines of the base name the classes in order, all of them and no other; a line that is missing
-- fails where it should stand.
abbrev pub name_checks : (line : ℕ) → (names classes : List (List ℕ)) → List Check
name_checks line [] [] = []
name_checks line (name ∷ names) (class ∷ classes) = check (name ≡ class) line reason.Base
    ∷ name_checks (suc line) names classes
name_checks line (name ∷ names) [] = check ⊥ line reason.Base ∷ []
name_checks line [] (class ∷ classes) = check ⊥ line reason.Base ∷ []

-- Each class's body has an upper value that is no greater than the class's.
abbrev pub value_checks : (line : ℕ) → (bodies : List (Option ℕ)) → (base : List ℕ) → List Check
value_checks line (body ∷ bodies) (value ∷ base) =
    check (IsNoGreater body (Some value)) line reason.Base ∷ value_checks (suc line) bodies base
value_checks line _ _ = []

-- What the base is tested in.
abbrev pub setting_of : Spec → (F : ℕ) → Header → Setting
setting_of s F h = setting s h.x.num h.x.den F

-- The tests of the base.
abbrev pub base_checks : Spec → (F : ℕ) → Header → List Check
base_checks s F h =
    name_checks (first_base_line h) h.names s.names
    ++ value_checks (first_base_line h)
    (bodies_up (setting_of s F h) (values_up (setting_of s F h) h.base)) h.base

-- The table of bounds of the levels of the base.
abbrev pub levels_of : Spec → (F : ℕ) → Header → (level node : ℕ) → Bounds
levels_of s F h = level_bounds (setting_of s F h) h.base

-- An entry has the next number, and its place is at least where the bits of the one before it end.
pub record IsNumberedNext (number place : ℕ) (e : CertEntry) : Type 0 where
  pub number_is : e.number ≡ suc number
  pub no_earlier : place ≤ e.place

-- Some object with its labels is made of an entry's cells.
pub record MakesSome (s : Spec) (F : ℕ) (table : (level node : ℕ)
    → Bounds) (greatest : ℕ) (cells : List Cell) : Type 0 where
  pub tokens : List Token
  pub labels : List ℕ
  pub made : AreMadeOf s F table greatest cells tokens labels

-- What is made of an entry's cells has the entry's size, and the size lies within the window.
pub record HasSize (s : Spec) (F : ℕ) (table : (level node : ℕ)
    → Bounds) (least greatest : ℕ) (e : CertEntry) : Type 0 where
  pub size_is : (tokens : List Token) (labels : List ℕ)
      → AreMadeOf s F table greatest e.cells.items tokens labels → size_of tokens ≡ e.size
  pub from : least ≤ e.size
  pub to : e.size ≤ greatest

-- A text is that of an object of class 0, which has these tokens, with these labels.
pub record IsTextWith (s : Spec) (tokens : List Token) (labels text : List ℕ) : Type 0 where
  pub is_of : IsOf s 0 tokens
  pub text_is : (of : IsOf s 0 tokens) → text ≡ object_text s of.body of.object of.belongs labels

-- An entry's text is that of what is made of its cells.
pub record HasText (s : Spec) (F : ℕ) (table : (level node : ℕ)
    → Bounds) (greatest : ℕ) (e : CertEntry) : Type 0 where
  pub with_text : (tokens : List Token) (labels : List ℕ)
      → AreMadeOf s F table greatest e.cells.items tokens labels → IsTextWith s tokens labels e.text

-- So many atoms are an entry's size, within the window.
pub record IsSizedEntry (least greatest atoms : ℕ) (e : CertEntry) : Type 0 where
  pub size_is : atoms ≡ e.size
  pub from : least ≤ e.size
  pub to : e.size ≤ greatest

-- The tests of an entry whose cells make these tokens and labels, its first line being this.
abbrev pub made_checks : Spec → (least greatest line : ℕ) → (tokens : List Token)
    → (labels : List ℕ) → CertEntry → List Check
made_checks s least greatest line tokens labels e =
    check (IsSizedEntry least greatest (size_of tokens) e) line reason.Object
    ∷ check (IsTextWith s tokens labels e.text) (line + 1) reason.Text
    ∷ []

-- The tests of an entry after so many, whose bits end at the place; its first line is this.
abbrev pub entry_checks : Spec → (F : ℕ) → (table : (level node : ℕ) → Bounds)
    → (least greatest number place line : ℕ) → CertEntry → List Check
entry_checks s F table least greatest number place line e =
    check (IsNumberedNext number place e) line reason.Object
    ∷ check (MakesSome s F table greatest e.cells.items) (line + 2) reason.Cells
    ∷ check (HasSize s F table least greatest e) line reason.Object
    ∷ check (HasText s F table greatest e) (line + 1) reason.Text
    ∷ []

-- The tests of entries in order, each entry having three lines.
abbrev pub entries_checks : Spec → (F : ℕ) → (table : (level node : ℕ) → Bounds)
    → (least greatest number place line : ℕ) → List CertEntry → List Check
entries_checks s F table least greatest number place line [] = []
entries_checks s F table least greatest number place line (e ∷ es) =
    entry_checks s F table least greatest number place line e
    ++ entries_checks s F table least greatest (suc number) (e.place + bits_in e.cells.items)
    (line + 3) es

-- The first line after the base.
abbrev pub first_entry_line : Header → ℕ
first_entry_line h = first_base_line h + length h.names

-- The last line, the first line of the entries being this.
abbrev pub last_line : (first : ℕ) → Certificate → ℕ
last_line first c = first + (3 * length c.entries + length (open_lines c.closing.straddle))

-- The tests of the entries, the first of which is on this line, and of the closing, whose number of
-- kept objects is that of the entries.
abbrev pub rest_checks : Spec → (F : ℕ) → (first : ℕ) → Certificate → List Check
rest_checks s F first c =
    entries_checks s F (levels_of s F c.header) c.header.min c.header.max 0 0 first c.entries
    ++ check (c.closing.kept ≡ length c.entries) (last_line first c) reason.Closing ∷ []

-- The tests of a certificate in order: of the lines before the base, of the base, of the entries,
-- and of the closing.
abbrev pub checks : Spec → (F : ℕ) → Certificate → List Check
checks s F c =
    header_checks s F c.header
    ++ (base_checks s F c.header
    ++ rest_checks s F (first_entry_line c.header) c)
