-- Verdicts on tests in order.
use Rattle.std.specs.Prelude.{◌≡◌, ℕ, ◌⊎◌, List, [], ◌∷◌}
use Rattle.certificate.specs.declared.reason.Reason.{Reason}
use Rattle.certificate.specs.declared.reason.Verdict.{Verdict}
use Rattle.certificate.specs.declared.reason.Verdict.TheVariants.{Valid, Invalid}

-- A test: when it passes, and the line and the reason that are told where it fails.
pub record Check : Type 1 where
  pub passes : Type 0
  pub line : ℕ
  pub reason : Reason

-- The verdict on tests in order tells the first that fails; where each passes it is Valid.
abbrev pub FirstFails : List Check → Verdict → Type 0
FirstFails [] verdict = verdict ≡ Valid
FirstFails (check ∷ checks) verdict = (check.passes × FirstFails checks verdict)
    ⊎ ((¬ check.passes) × (verdict ≡ Invalid check.line check.reason))
