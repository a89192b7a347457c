-- What may stand in the fields of a certificate's lines.
use Rattle.std.specs.Prelude.{◌≡◌, ℕ, ◌≤◌, List, [], ◌∷◌, ◌++◌, length, codes, flat_map}
use Rattle.std.specs.List.{AllByRecursion}
use Rattle.bz_model.specs.declared.cell.Cell.{Cell}
use Rattle.hex.specs.Hex.{encode_lower, IsBytes}
use Rattle.certificate.specs.Patterns.{filled}

-- The text of an object has one or more bytes, each from space to ~.
pub record IsPrinted (text : List ℕ) : Type 0 where
  pub some : 1 ≤ length text
  pub each : AllByRecursion (λ b. (32 ≤ b) × (b ≤ 126)) text

-- A digest is 32 bytes.
pub record IsDigest (bytes : List ℕ) : Type 0 where
  pub count : length bytes ≡ 32
  pub each : IsBytes bytes

-- A cell, after a space.
abbrev pub cell_field : Cell → List ℕ
cell_field c = filled (codes " #/#") (c.k ∷ c.b ∷ [])

-- Cells, in the order in which they were drawn.
abbrev pub cells_text : List Cell → List ℕ
cells_text cells = codes "cells" ++ flat_map cell_field cells

-- The line of a class's entry in the base.
abbrev pub base_line : (name : List ℕ) → (value : ℕ) → List ℕ
base_line name value = codes "base " ++ (name ++ filled (codes " #") (value ∷ []))

-- The line of the digest of the specification's canonical text, in hex digits.
abbrev pub spec_line : (digest : List ℕ) → List ℕ
spec_line digest = codes "spec " ++ encode_lower digest
