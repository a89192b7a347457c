-- What a drawing prints: certificates whose tests all pass.
use Rattle.std.specs.Prelude.{◌≡◌, ℕ, suc, ◌+◌, List, [], ◌∷◌, length}
use Rattle.bz_model.specs.declared.cell.Bounds.{Bounds}
use Rattle.bz_model.specs.Spec.{Spec}
use Rattle.class_system.specs.Views.{spec_mode}
use Rattle.entry_replay.specs.Replay.{AreMadeOf}
use Rattle.labelling.specs.LabelsByBits.{bits_in}
use Rattle.object_store.specs.declared.token.Token.{Token}
use Rattle.object_store.specs.Tokens.{size_of}
use Rattle.rounded_map.specs.RoundedMap.{IsPostFixed}
use Rattle.certificate.specs.declared.certificate.CertEntry.{CertEntry}
use Rattle.certificate.specs.declared.certificate.Certificate.{Certificate}
use Rattle.certificate.specs.declared.reason.Verdict.TheVariants.{Valid}
use Rattle.certificate.specs.Checks.{digest_checks, levels_of, setting_of, HasFraction, HasWindow}
use Rattle.certificate.specs.Checks.{IsNumberedNext, IsSizedEntry, IsTextWith}
use Rattle.certificate.specs.Verdicts.{FirstFails}

-- An entry is of a kept object: it is the next one, and its cells make the object's tokens and
-- labels, of which it has the size, within the window, and the text.
pub record IsKept (s : Spec) (F : ℕ) (table : (level node : ℕ)
    → Bounds) (least greatest number place : ℕ) (e : CertEntry) : Type 0 where
  pub next : IsNumberedNext number place e
  pub tokens : List Token
  pub labels : List ℕ
  pub made : AreMadeOf s F table greatest e.cells.items tokens labels
  pub sized : IsSizedEntry least greatest (size_of tokens) e
  pub text : IsTextWith s tokens labels e.text

-- So is each entry, after so many and the place where the bits of the one before it end.
abbrev pub AreKept : Spec → (F : ℕ) → (table : (level node : ℕ) → Bounds)
    → (least greatest number place : ℕ) → List CertEntry → Type 0
AreKept s F table least greatest number place [] = Unit {0}
AreKept s F table least greatest number place (e ∷ es) =
    IsKept s F table least greatest number place e
    × AreKept s F table least greatest (suc number) (e.place + bits_in e.cells.items) es

-- A certificate is of a drawing: its header is that of the specification, with a window and a
-- post-fixed base; each entry is of a kept object, by the levels of the base; and it counts its
-- entries.
pub record IsOfDrawing (s : Spec) (F : ℕ) (c : Certificate) : Type 0 where
  pub mode : spec_mode c.header.mode ≡ s.mode
  pub digest : FirstFails (digest_checks s c.header.digest) Valid
  pub fraction : HasFraction F c.header
  pub window : HasWindow c.header
  pub names : c.header.names ≡ s.names
  pub post_fixed : IsPostFixed (setting_of s F c.header) c.header.base
  pub entries : AreKept s F (levels_of s F c.header) c.header.min c.header.max 0 0 c.entries
  pub closing : c.closing.kept ≡ length c.entries
