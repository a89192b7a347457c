-- Each test of what a drawing prints passes.
use Rattle.std.proofs.Common.{◌≡◌, ℕ, suc, ◌+◌, inl, inr, List, [], ◌∷◌, ◌++◌, length, refl, sym, ap, subst}
use Rattle.bz_model.specs.declared.cell.Bounds.{Bounds}
use Rattle.bz_model.specs.Spec.{Spec}
use Rattle.class_system.specs.Sound.{IsSound}
use Rattle.labelling.specs.LabelsByBits.{bits_in}
use Rattle.rounded_map.specs.RoundedMap.{values_up, bodies_up}
use Rattle.certificate.specs.declared.certificate.CertEntry.{CertEntry}
use Rattle.certificate.specs.declared.certificate.Certificate.{Certificate}
use Rattle.certificate.specs.declared.reason.Reason.TheVariants as reason
use Rattle.certificate.specs.declared.reason.Verdict.TheVariants.{Valid}
use Rattle.certificate.specs.Checks.{check, checks, header_checks, name_checks, value_checks, first_base_line, first_entry_line, last_line, setting_of, levels_of, entry_checks, entries_checks}
use Rattle.certificate.specs.Completeness.{IsKept, AreKept, IsOfDrawing}
use Rattle.certificate.specs.Verdicts.{FirstFails}
use Rattle.certificate.proofs.BaseTests.{names-pass, values-pass}
use Rattle.certificate.proofs.Chains.{passes-then, at-closing}
use Rattle.certificate.proofs.EntryTests.{entry-made}
use Rattle.certificate.proofs.HeaderTests.{header-rest, limits-pass}

entries-pass : (s : Spec) → IsSound s → (F : ℕ) (table : (level node : ℕ) → Bounds) (least greatest number place line : ℕ) (es : List CertEntry) → AreKept s F table least greatest number place es → FirstFails (entries_checks s F table least greatest number place line es) Valid
entries-pass s sound F table least greatest number place line [] k = refl
entries-pass s sound F table least greatest number place line (e ∷ es) k =
    passes-then (entry_checks s F table least greatest number place line e) (entries_checks s F table least greatest (suc number) (e.place + bits_in e.cells.items) (line + 3) es) Valid
    (entry-made s sound F table least greatest e k.0.tokens k.0.labels k.0.made line number place Valid k.0.next (inl (k.0.sized, inl (k.0.text, refl))))
    (entries-pass s sound F table least greatest (suc number) (e.place + bits_in e.cells.items) (line + 3) es k.1)

-- names that are the classes pass
same-names : (line : ℕ) (names : List (List ℕ)) → FirstFails (name_checks line names names) Valid
same-names line names = names-pass line (length names) names names refl refl (λ i below. refl)

-- For a sound specification, each test passes on a certificate that is of a drawing.
pub complete : (s : Spec) (F : ℕ) (c : Certificate) → IsSound s → IsOfDrawing s F c → FirstFails (checks s F c) Valid
complete s F c sound d =
    at-closing (header_checks s F c.header)
    (name_checks (first_base_line c.header) c.header.names s.names)
    (value_checks (first_base_line c.header) (bodies_up (setting_of s F c.header) (values_up (setting_of s F c.header) c.header.base)) c.header.base)
    (entries_checks s F (levels_of s F c.header) c.header.min c.header.max 0 0 (first_entry_line c.header) c.entries)
    (check (c.closing.kept ≡ length c.entries) (last_line (first_entry_line c.header) c) reason.Closing ∷ [])
    Valid
    (header-rest s F c.header Valid d.mode d.digest (limits-pass F c.header d.fraction d.window))
    (subst (λ ns. FirstFails (name_checks (first_base_line c.header) c.header.names ns) Valid) d.names (same-names (first_base_line c.header) c.header.names))
    (values-pass (first_base_line c.header) (bodies_up (setting_of s F c.header) (values_up (setting_of s F c.header) c.header.base)) c.header.base d.post_fixed.each)
    (entries-pass s sound F (levels_of s F c.header) c.header.min c.header.max 0 0 (first_entry_line c.header) c.entries d.entries)
    (inl (d.closing, refl))
