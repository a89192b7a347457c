-- What a valid certificate says of ideal making.
use Rattle.std.specs.Prelude.{◌≡◌, ℕ, ◌≤◌, List, Some}
use Rattle.std.specs.List.{AllByRecursion}
use Rattle.bz_model.specs.Cell.{AreInCells}
use Rattle.bz_model.specs.Fraction.{Fraction, ratio}
use Rattle.bz_model.specs.Measures.{size}
use Rattle.bz_model.specs.Object.{Object, Belongs}
use Rattle.bz_model.specs.ObjectText.{object_text}
use Rattle.bz_model.specs.Run.{Kept}
use Rattle.bz_model.specs.Spec.{Spec, body_of}
use Rattle.rounded_map.specs.Bounding.{AreAbove}
use Rattle.size_window.specs.Follows.{MakesOf}
use Rattle.certificate.specs.declared.certificate.CertEntry.{CertEntry}
use Rattle.certificate.specs.declared.certificate.Certificate.{Certificate}

-- A text is that of a kept object of class 0, with its labels.
pub record IsTextOfKept (s : Spec) (k : Kept) (text : List ℕ) : Type 0 where
  pub body : ℕ
  pub is_body : body_of s 0 ≡ Some body
  pub belongs : Belongs s body k.object
  pub text_is : text ≡ object_text s body k.object belongs k.labels

-- An entry is sound where one object with its labels is made ideally of every list of numbers in
-- its cells, from all of these numbers; its text is printed, its size is the printed one and lies
-- within the window.
pub record IsSoundEntry (s : Spec) (x : Fraction) (least greatest : ℕ) (e : CertEntry) : Type 0
  where
    pub kept : Kept
    pub made : (us : List Fraction) → AreInCells us e.cells.items → MakesOf s x greatest us kept
    pub text : IsTextOfKept s kept e.text
    pub size_is : size kept.object ≡ e.size
    pub from : least ≤ e.size
    pub to : e.size ≤ greatest

-- A certificate is sound where each value of its base is above every total of its class, and each
-- entry is sound.
pub record IsSoundCertificate (s : Spec) (F : ℕ) (c : Certificate) : Type 0 where
  pub above : AreAbove s (ratio c.header.x.num c.header.x.den) F c.header.base
  pub entries : AllByRecursion (IsSoundEntry s (ratio c.header.x.num c.header.x.den) c.header.min
      c.header.max) c.entries
