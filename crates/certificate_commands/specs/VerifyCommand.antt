-- The command `verify`.
use Rattle.std.specs.Prelude.{ℕ, List, ◌++◌, length, decimal, codes}
use Rattle.bz_model.specs.Spec.{Spec}
use Rattle.certificate.specs.declared.certificate.Certificate.{Certificate}
use Rattle.call_stages.specs.Lines.{feed}
use Rattle.call_stages.specs.Outcomes.{Outcome, MaySay}
use Rattle.call_stages.specs.Stages.{Files}
use Rattle.call_stages.specs.declared.status.Status.{Status}
use Rattle.certificate_commands.specs.Tested.{test_ticks, Verified}

-- All tests pass, and there are so many entries.
abbrev pub valid_line : (entries : ℕ) → List ℕ
valid_line entries = codes "end valid entries " ++ (decimal entries ++ feed)

-- A valid certificate's entries are counted.
abbrev pub CountedEntries : Spec → Certificate → Outcome
CountedEntries s c = MaySay Status.Done (valid_line (length c.entries)) test_ticks

-- `verify FILE CERT`: a specification is read and judged, a certificate is read and tested against
-- it, and its verdict is printed.
abbrev pub CarriesVerify : Files → (file cert : List ℕ) → Outcome
CarriesVerify f file cert = Verified f file cert CountedEntries
