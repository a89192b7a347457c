-- The tests of a certificate, one part after the other.
use Rattle.std.proofs.Common.{◌≡◌, ℕ, ◌+◌, ◌*◌, ◌<◌, ◌≤◌, arith, List, [], ◌∷◌, ◌++◌, length, map, refl, sym, ◌∙◌, ap, subst}
use Rattle.std.proofs.lemmas.List.{length-map}
use Rattle.std.specs.List.{AllByRecursion}
use Rattle.bz_model.specs.Fraction.{ratio}
use Rattle.bz_model.specs.Spec.{Spec}
use Rattle.rounded_map.specs.RoundedMap.{values_up, bodies_up, value_at, IsFirstAbove, IsPostFixed}
use Rattle.rounded_map.specs.Bounding.{AreAbove}
use Rattle.certificate.specs.declared.reason.Reason.TheVariants as reason
use Rattle.certificate.specs.declared.reason.Verdict.TheVariants.{Valid, Invalid}
use Rattle.certificate.specs.Checks.{check, checks, rest_checks, header_checks, name_checks, value_checks, first_base_line, setting_of, levels_of, entries_checks, first_entry_line, last_line}
use Rattle.certificate.specs.Soundness.{IsSoundEntry, IsSoundCertificate}
use Rattle.certificate.specs.Verdicts.{FirstFails}
use Rattle.certificate.proofs.BaseTests.{names-are, values-pass, values-fail}
use Rattle.certificate.proofs.Chains.{at-header, at-names, at-values, at-rest, ok-of}
use Rattle.certificate.proofs.HeaderTests.{header-window}
use Rattle.certificate.proofs.verify.verify.Goals as goal

pub returns-in_default-clause-verdict : goal.returns-in_default-clause-verdict
returns-in_default-clause-verdict g c =
    let sys = c.system-system.ensures.system in
    let told = subst (λ (s : Spec). FirstFails (header_checks s g.row.F c.args.cert.now.header) c.in_ok-of_header.of_header) sys c.in_ok-of_header.ensures in
    at-header (header_checks c.args.founded.now g.row.F c.args.cert.now.header)
    (name_checks (first_base_line c.args.cert.now.header) c.args.cert.now.header.names c.args.founded.now.names)
    (value_checks (first_base_line c.args.cert.now.header) (bodies_up (setting_of c.args.founded.now g.row.F c.args.cert.now.header) (values_up (setting_of c.args.founded.now g.row.F c.args.cert.now.header) c.args.cert.now.header.base)) c.args.cert.now.header.base)
    (entries_checks c.args.founded.now g.row.F (levels_of c.args.founded.now g.row.F c.args.cert.now.header) c.args.cert.now.header.min c.args.cert.now.header.max 0 0 (first_entry_line c.args.cert.now.header) c.args.cert.now.entries)
    (check (c.args.cert.now.closing.kept ≡ length c.args.cert.now.entries) (last_line (first_entry_line c.args.cert.now.header) c.args.cert.now) reason.Closing ∷ [])
    c.in_ok-of_header.of_header told c.in_default.not-Valid

pub returns-in_default-of_names-clause-verdict : goal.returns-in_default-of_names-clause-verdict
returns-in_default-of_names-clause-verdict g c =
    let sys = c.system-system.ensures.system in
    let told = subst (λ (s : Spec). FirstFails (header_checks s g.row.F c.args.cert.now.header) c.in_ok-of_header.of_header) sys c.in_ok-of_header.ensures in
    let headed = subst (FirstFails (header_checks c.args.founded.now g.row.F c.args.cert.now.header)) c.in-Valid.is told in
    let named = subst (λ l. FirstFails (name_checks l c.args.cert.now.header.names c.args.founded.now.names) c.test_names-of_names.result) c.first_base_line-line.ensures.line (subst (λ (s : Spec). FirstFails (name_checks c.first_base_line-line.result c.args.cert.now.header.names s.names) c.test_names-of_names.result) sys c.test_names-of_names.ensures) in
    at-names (header_checks c.args.founded.now g.row.F c.args.cert.now.header)
    (name_checks (first_base_line c.args.cert.now.header) c.args.cert.now.header.names c.args.founded.now.names)
    (value_checks (first_base_line c.args.cert.now.header) (bodies_up (setting_of c.args.founded.now g.row.F c.args.cert.now.header) (values_up (setting_of c.args.founded.now g.row.F c.args.cert.now.header) c.args.cert.now.header.base)) c.args.cert.now.header.base)
    (entries_checks c.args.founded.now g.row.F (levels_of c.args.founded.now g.row.F c.args.cert.now.header) c.args.cert.now.header.min c.args.cert.now.header.max 0 0 (first_entry_line c.args.cert.now.header) c.args.cert.now.entries)
    (check (c.args.cert.now.closing.kept ≡ length c.args.cert.now.entries) (last_line (first_entry_line c.args.cert.now.header) c.args.cert.now) reason.Closing ∷ [])
    c.test_names-of_names.result headed named c.in_default-of_names.not-Valid

pub check-requires : goal.check-requires
check-requires g c =
    let sys = c.system-system.ensures.system in
    let named = subst (λ l. FirstFails (name_checks l c.args.cert.now.header.names c.args.founded.now.names) c.test_names-of_names.result) c.first_base_line-line.ensures.line (subst (λ (s : Spec). FirstFails (name_checks c.first_base_line-line.result c.args.cert.now.header.names s.names) c.test_names-of_names.result) sys c.test_names-of_names.ensures) in
    let names_ok = subst (FirstFails (name_checks (first_base_line c.args.cert.now.header) c.args.cert.now.header.names c.args.founded.now.names)) c.in-Valid-of_names.is named in
    let same = names-are (first_base_line c.args.cert.now.header) c.args.cert.now.header.names c.args.founded.now.names names_ok in
    let vals : c.in_ok-values.values.items ≡ c.args.cert.now.header.base = c.in_ok-values.ensures.items_if_clones_equal (λ x y e. e) ∙ c.items.ensures.items in
    let bodies = ap (λ (s : Spec). length s.bodies) (sym sys) in
    (omega arith, (c.requires.fraction_bits, ap length vals ∙ c.requires.header.one_each ∙ ap length same ∙ ap (λ (s : Spec). length s.names) (sym sys) ∙ sym c.known.ensures.sound.bodies ∙ sym bodies))

pub returns-in-Err-NotPostFixed-clause-verdict : goal.returns-in-Err-NotPostFixed-clause-verdict
returns-in-Err-NotPostFixed-clause-verdict g c =
    let sys = c.system-system.ensures.system in
    let told = subst (λ (s : Spec). FirstFails (header_checks s g.row.F c.args.cert.now.header) c.in_ok-of_header.of_header) sys c.in_ok-of_header.ensures in
    let headed = subst (FirstFails (header_checks c.args.founded.now g.row.F c.args.cert.now.header)) c.in-Valid.is told in
    let named = subst (λ l. FirstFails (name_checks l c.args.cert.now.header.names c.args.founded.now.names) c.test_names-of_names.result) c.first_base_line-line.ensures.line (subst (λ (s : Spec). FirstFails (name_checks c.first_base_line-line.result c.args.cert.now.header.names s.names) c.test_names-of_names.result) sys c.test_names-of_names.ensures) in
    let names_ok = subst (FirstFails (name_checks (first_base_line c.args.cert.now.header) c.args.cert.now.header.names c.args.founded.now.names)) c.in-Valid-of_names.is named in
    let same = names-are (first_base_line c.args.cert.now.header) c.args.cert.now.header.names c.args.founded.now.names names_ok in
    let vals : c.in_ok-values.values.items ≡ c.args.cert.now.header.base = c.in_ok-values.ensures.items_if_clones_equal (λ x y e. e) ∙ c.items.ensures.items in
    let fault = rw c.in-Err-NotPostFixed.field-0-is at c.in-Err-NotPostFixed.ensures.fault in
    let first = subst (λ vs. IsFirstAbove (bodies_up (setting_of c.args.founded.now g.row.F c.args.cert.now.header) (values_up (setting_of c.args.founded.now g.row.F c.args.cert.now.header) vs)) vs c.in-Err-NotPostFixed.fault.class_id.0 c.in-Err-NotPostFixed.fault.got) vals fault in
    let lengths : length (bodies_up (setting_of c.args.founded.now g.row.F c.args.cert.now.header) (values_up (setting_of c.args.founded.now g.row.F c.args.cert.now.header) c.args.cert.now.header.base)) ≡ length c.args.cert.now.header.base = length-map c.args.founded.now.bodies (value_at (values_up (setting_of c.args.founded.now g.row.F c.args.cert.now.header) c.args.cert.now.header.base)) ∙ ap (λ (s : Spec). length s.bodies) (sym sys) ∙ c.known.ensures.sound.bodies ∙ ap (λ (s : Spec). length s.names) sys ∙ sym (ap length same) ∙ sym c.requires.header.one_each in
    let fails = values-fail (first_base_line c.args.cert.now.header) c.in-Err-NotPostFixed.fault.class_id.0 c.in-Err-NotPostFixed.fault.got (bodies_up (setting_of c.args.founded.now g.row.F c.args.cert.now.header) (values_up (setting_of c.args.founded.now g.row.F c.args.cert.now.header) c.args.cert.now.header.base)) c.args.cert.now.header.base lengths first in
    let class : c.from-in-Err-NotPostFixed.result ≡ c.in-Err-NotPostFixed.fault.class_id.0 = rw c.in-Err-NotPostFixed.field-0-is at c.from-in-Err-NotPostFixed.ensures in
    let there : c.first_base_line-line.result + c.from-in-Err-NotPostFixed.result ≡ first_base_line c.args.cert.now.header + c.in-Err-NotPostFixed.fault.class_id.0 = omega (arith, c.first_base_line-line.ensures.line, class) in
    subst (FirstFails (checks c.args.founded.now g.row.F c.args.cert.now)) (ap (λ n. Invalid n reason.Base) (sym there))
    (at-values (header_checks c.args.founded.now g.row.F c.args.cert.now.header)
    (name_checks (first_base_line c.args.cert.now.header) c.args.cert.now.header.names c.args.founded.now.names)
    (value_checks (first_base_line c.args.cert.now.header) (bodies_up (setting_of c.args.founded.now g.row.F c.args.cert.now.header) (values_up (setting_of c.args.founded.now g.row.F c.args.cert.now.header) c.args.cert.now.header.base)) c.args.cert.now.header.base)
    (entries_checks c.args.founded.now g.row.F (levels_of c.args.founded.now g.row.F c.args.cert.now.header) c.args.cert.now.header.min c.args.cert.now.header.max 0 0 (first_entry_line c.args.cert.now.header) c.args.cert.now.entries)
    (check (c.args.cert.now.closing.kept ≡ length c.args.cert.now.entries) (last_line (first_entry_line c.args.cert.now.header) c.args.cert.now) reason.Closing ∷ [])
    (Invalid (first_base_line c.args.cert.now.header + c.in-Err-NotPostFixed.fault.class_id.0) reason.Base) headed names_ok fails (λ e. let none : ⊥ = cc in none))

pub test_from_base-requires : goal.test_from_base-requires
test_from_base-requires g c =
    let sys = c.system-system.ensures.system in
    let told = subst (λ (s : Spec). FirstFails (header_checks s g.row.F c.args.cert.now.header) c.in_ok-of_header.of_header) sys c.in_ok-of_header.ensures in
    let headed = subst (FirstFails (header_checks c.args.founded.now g.row.F c.args.cert.now.header)) c.in-Valid.is told in
    let vals : c.in_ok-values.values.items ≡ c.args.cert.now.header.base = c.in_ok-values.ensures.items_if_clones_equal (λ x y e. e) ∙ c.items.ensures.items in
    let window = header-window c.args.founded.now g.row.F c.args.cert.now.header headed in
    (omega arith, (c.requires.fraction_bits, (window.within, (omega (arith, c.first_base_line-line.ensures.small, c.from.ensures, c.class_count.ensures.count, c.known.ensures.limits.classes), (c.in-Ok.ensures.same ∙ vals, subst (IsPostFixed (setting_of c.args.founded.now g.row.F c.args.cert.now.header)) vals c.in-Ok.ensures.post_fixed)))))

pub returns-in-Ok-clause-verdict : goal.returns-in-Ok-clause-verdict
returns-in-Ok-clause-verdict g c =
    let sys = c.system-system.ensures.system in
    let told = subst (λ (s : Spec). FirstFails (header_checks s g.row.F c.args.cert.now.header) c.in_ok-of_header.of_header) sys c.in_ok-of_header.ensures in
    let headed = subst (FirstFails (header_checks c.args.founded.now g.row.F c.args.cert.now.header)) c.in-Valid.is told in
    let named = subst (λ l. FirstFails (name_checks l c.args.cert.now.header.names c.args.founded.now.names) c.test_names-of_names.result) c.first_base_line-line.ensures.line (subst (λ (s : Spec). FirstFails (name_checks c.first_base_line-line.result c.args.cert.now.header.names s.names) c.test_names-of_names.result) sys c.test_names-of_names.ensures) in
    let names_ok = subst (FirstFails (name_checks (first_base_line c.args.cert.now.header) c.args.cert.now.header.names c.args.founded.now.names)) c.in-Valid-of_names.is named in
    let same = names-are (first_base_line c.args.cert.now.header) c.args.cert.now.header.names c.args.founded.now.names names_ok in
    let vals : c.in_ok-values.values.items ≡ c.args.cert.now.header.base = c.in_ok-values.ensures.items_if_clones_equal (λ x y e. e) ∙ c.items.ensures.items in
    let fixed = subst (IsPostFixed (setting_of c.args.founded.now g.row.F c.args.cert.now.header)) vals c.in-Ok.ensures.post_fixed in
    let passed = values-pass (first_base_line c.args.cert.now.header) (bodies_up (setting_of c.args.founded.now g.row.F c.args.cert.now.header) (values_up (setting_of c.args.founded.now g.row.F c.args.cert.now.header) c.args.cert.now.header.base)) c.args.cert.now.header.base fixed.each in
    let from : c.from.result ≡ c.class_count.result = omega (arith, c.from.ensures) in
    let count : c.from.result ≡ length c.args.cert.now.header.names = from ∙ c.class_count.ensures.count ∙ ap (λ (s : Spec). length s.names) sys ∙ sym (ap length same) in
    let first : c.first_base_line-line.result + c.from.result ≡ first_entry_line c.args.cert.now.header = ap (λ n. n + c.from.result) c.first_base_line-line.ensures.line ∙ ap (λ n. first_base_line c.args.cert.now.header + n) count in
    ok-of (FirstFails (rest_checks c.args.founded.now g.row.F (c.first_base_line-line.result + c.from.result) c.args.cert.now)) (FirstFails (checks c.args.founded.now g.row.F c.args.cert.now))
    (λ v h. at-rest (header_checks c.args.founded.now g.row.F c.args.cert.now.header)
    (name_checks (first_base_line c.args.cert.now.header) c.args.cert.now.header.names c.args.founded.now.names)
    (value_checks (first_base_line c.args.cert.now.header) (bodies_up (setting_of c.args.founded.now g.row.F c.args.cert.now.header) (values_up (setting_of c.args.founded.now g.row.F c.args.cert.now.header) c.args.cert.now.header.base)) c.args.cert.now.header.base)
    (entries_checks c.args.founded.now g.row.F (levels_of c.args.founded.now g.row.F c.args.cert.now.header) c.args.cert.now.header.min c.args.cert.now.header.max 0 0 (first_entry_line c.args.cert.now.header) c.args.cert.now.entries)
    (check (c.args.cert.now.closing.kept ≡ length c.args.cert.now.entries) (last_line (first_entry_line c.args.cert.now.header) c.args.cert.now) reason.Closing ∷ [])
    v headed names_ok passed (subst (λ l. FirstFails (rest_checks c.args.founded.now g.row.F l c.args.cert.now) v) first h))
    c.test_from_base.result c.test_from_base.ensures.verdict

pub returns-in-Ok-clause-sound : goal.returns-in-Ok-clause-sound
returns-in-Ok-clause-sound g c =
    let vals : c.in_ok-values.values.items ≡ c.args.cert.now.header.base = c.in_ok-values.ensures.items_if_clones_equal (λ x y e. e) ∙ c.items.ensures.items in
    ok-of (λ v. v ≡ Valid → AllByRecursion (IsSoundEntry c.args.founded.now (ratio c.args.cert.now.header.x.num c.args.cert.now.header.x.den) c.args.cert.now.header.min c.args.cert.now.header.max) c.args.cert.now.entries)
    (λ v. v ≡ Valid → IsSoundCertificate c.args.founded.now g.row.F c.args.cert.now)
    (λ v h is. record { above = subst (AreAbove c.args.founded.now (ratio c.args.cert.now.header.x.num c.args.cert.now.header.x.den) g.row.F) vals c.in-Ok.ensures.bounds; entries = h is })
    c.test_from_base.result c.test_from_base.ensures.sound
