-- A valid certificate in version 2 is a valid certificate.
use Rattle.std.proofs.Common.{◌≡◌, ℕ, suc, ◌+◌, arith, ◌⊎◌, inl, inr, List, [], ◌∷◌, ◌++◌, length, refl, sym, ap, subst, ◌∙◌}
use Rattle.std.specs.Prelude.{Option, Some, None, nat_eq, if◌then◌else◌}
use Rattle.bz_model.specs.declared.cell.Bounds.{Bounds}
use Rattle.bz_model.specs.Spec.{Spec}
use Rattle.class_system.specs.CanonicalText.{canonical_text}
use Rattle.class_system.specs.Views.{spec_mode}
use Rattle.sha2.specs.Sha256.{sha256}
use Rattle.certificate.specs.declared.certificate.CertEntry.{CertEntry}
use Rattle.certificate.specs.declared.certificate.Certificate.{Certificate}
use Rattle.certificate.specs.declared.certificate.Header.{Header}
use Rattle.certificate.specs.declared.reason.Reason.TheVariants as reason
use Rattle.certificate.specs.declared.reason.Verdict.TheVariants.{Valid, Invalid}
use Rattle.certificate.specs.Certificates.{FitsVersion, FitsHeader, IsCertificate}
use Rattle.certificate.specs.Checks.{check, checks, digest_checks, digest_count, header_checks, name_checks, value_checks, base_checks, entries_checks, rest_checks, first_base_line, first_entry_line, last_line, levels_of, HasFraction, HasWindow}
use Rattle.certificate.specs.Fields.{IsDigest}
use Rattle.certificate.specs.Ranges.{HeaderInRange, CertificateInRange}
use Rattle.certificate.specs.Reading.{IsTextOf}
use Rattle.certificate.specs.Verdicts.{Check, FirstFails}
use Rattle.certificate_commands.specs.Tested.{tested_bits}
use Rattle.certificate_commands.specs.MigrateCommand.{own_digest, header_in_2, certificate_in_2, migrated_text}
use Rattle.certificate_commands.specs.Completeness.{IsValidIn2}

-- ---- tests that all pass

passes-first : (c : Check) (cs : List Check) → FirstFails (c ∷ cs) Valid → c.passes × FirstFails cs Valid
passes-first c cs (inl p) = p
passes-first c cs (inr q) = let e : Valid ≡ Invalid c.line c.reason = q.1 in absurd (cc)

both-pass : (xs ys : List Check) → FirstFails (xs ++ ys) Valid → FirstFails xs Valid × FirstFails ys Valid
both-pass [] ys h = (refl, h)
both-pass (x ∷ xs) ys h =
    let p = passes-first x (xs ++ ys) h in
    let later = both-pass xs ys p.1 in
    (inl (p.0, later.0), later.1)

pass-then : (xs ys : List Check) → FirstFails xs Valid → FirstFails ys Valid → FirstFails (xs ++ ys) Valid
pass-then [] ys h k = k
pass-then (x ∷ xs) ys h k = let p = passes-first x xs h in inl (p.0, pass-then xs ys p.1 k)

-- Tests pass wherever they stand.
abbrev PassOn : List Check → List Check → Type 0
PassOn [] [] = Unit {0}
PassOn (c ∷ cs) (d ∷ ds) = (c.passes → d.passes) × PassOn cs ds
PassOn cs ds = ⊥

passed-on : (cs ds : List Check) → PassOn cs ds → FirstFails cs Valid → FirstFails ds Valid
passed-on [] [] on h = refl
passed-on [] (d ∷ ds) on h = absurd on
passed-on (c ∷ cs) [] on h = absurd on
passed-on (c ∷ cs) (d ∷ ds) on h = let p = passes-first c cs h in inl (on.0 p.0, passed-on cs ds on.1 p.1)

names-on : (line other : ℕ) (names classes : List (List ℕ)) → PassOn (name_checks line names classes) (name_checks other names classes)
names-on line other [] [] = tt
names-on line other (name ∷ names) (class ∷ classes) = (λ p. p, names-on (suc line) (suc other) names classes)
names-on line other (name ∷ names) [] = (λ p. p, tt)
names-on line other [] (class ∷ classes) = (λ p. p, tt)

values-on : (line other : ℕ) (bodies : List (Option ℕ)) (base : List ℕ) → PassOn (value_checks line bodies base) (value_checks other bodies base)
values-on line other [] base = tt
values-on line other (body ∷ bodies) [] = tt
values-on line other (body ∷ bodies) (value ∷ base) = (λ p. p, values-on (suc line) (suc other) bodies base)

entries-on : (s : Spec) (F : ℕ) (table : (level node : ℕ) → Bounds) (least greatest number place line other : ℕ) (es : List CertEntry) → PassOn (entries_checks s F table least greatest number place line es) (entries_checks s F table least greatest number place other es)
entries-on s F table least greatest number place line other [] = tt
entries-on s F table least greatest number place line other (e ∷ es) = (λ p. p, (λ p. p, (λ p. p, (λ p. p, entries-on s F table least greatest (suc number) _ (line + 3) (other + 3) es))))

-- ---- the fraction bits

-- the bits of a version and of what the header says
abbrev bits-of : (version fraction : ℕ) → ℕ
bits-of version fraction = if nat_eq version 1 then 48 else if nat_eq fraction 40 then 40 else if nat_eq fraction 52 then 52 else 48

-- where the test of the fraction bits passes, they stay what they are
bits-stay : (version fraction : ℕ) → fraction ≡ bits-of version fraction → (version ≡ 1 → fraction ≡ 48) → (version ≡ 1) ⊎ (version ≡ 2) → bits-of 2 fraction ≡ bits-of version fraction
bits-stay version fraction same first (inl one) =
    let is : fraction ≡ 48 = first one in
    ap (bits-of 2) is ∙ ap (λ v. bits-of v 48) (sym one) ∙ ap (bits-of version) (sym is)
bits-stay version fraction same first (inr two) = ap (λ v. bits-of v fraction) (sym two)

versions : (version : ℕ) (digest : Option (List ℕ)) → FitsVersion version digest → (version ≡ 1) ⊎ (version ≡ 2)
versions version None fits = inl fits
versions version (Some d) fits = inr fits.0

-- ---- the header

-- The digest of a message is 32 bytes.
abbrev pub AreDigests : Type 0
AreDigests = (message : List ℕ) → IsDigest (sha256 message)

own-fits : AreDigests → (s : Spec) (version : ℕ) (digest : Option (List ℕ)) → FitsVersion version digest → IsDigest (own_digest s digest)
own-fits digests s version None fits = digests (canonical_text s)
own-fits digests s version (Some d) fits = fits.1

own-is : (s : Spec) (digest : Option (List ℕ)) → FirstFails (digest_checks s digest) Valid → own_digest s digest ≡ sha256 (canonical_text s)
own-is s None h = refl
own-is s (Some d) h = (passes-first (check (d ≡ sha256 (canonical_text s)) 3 reason.Spec) [] h).0

header-fits : AreDigests → (s : Spec) (h : Header) → FitsHeader h → FitsHeader (header_in_2 s h)
header-fits digests s h fits = record { version = (refl, own-fits digests s h.version h.digest fits.version); one_each = fits.one_each }

header-in-range : (s : Spec) (h : Header) → HeaderInRange h → HeaderInRange (header_in_2 s h)
header-in-range s h in_range = record { fraction = in_range.fraction; min = in_range.min; max = in_range.max; base = in_range.base }

-- what the tests of a header say where all pass
record HeaderPasses (s : Spec) (F : ℕ) (h : Header) : Type 0 where
  mode : spec_mode h.mode ≡ s.mode
  digest : FirstFails (digest_checks s h.digest) Valid
  fraction : HasFraction F h
  window : HasWindow h

header-passes : (s : Spec) (F : ℕ) (h : Header) → FirstFails (header_checks s F h) Valid → HeaderPasses s F h
header-passes s F h p =
    let fraction_check : Check = check (HasFraction F h) (4 + digest_count h.digest) reason.Fraction in
    let window_check : Check = check (HasWindow h) (5 + digest_count h.digest) reason.Window in
    let a = passes-first (check (spec_mode h.mode ≡ s.mode) 2 reason.Mode) (digest_checks s h.digest ++ (fraction_check ∷ window_check ∷ [])) p in
    let b = both-pass (digest_checks s h.digest) (fraction_check ∷ window_check ∷ []) a.1 in
    let c = passes-first fraction_check (window_check ∷ []) b.1 in
    let d = passes-first window_check [] c.1 in
    record { mode = a.0; digest = b.0; fraction = c.0; window = d.0 }

-- the header in version 2, with the same fraction bits
header-in-2-passes : (s : Spec) (F G : ℕ) (h : Header) → G ≡ F → HeaderPasses s F h → FirstFails (header_checks s G (header_in_2 s h)) Valid
header-in-2-passes s F G h same p =
    let fraction : HasFraction G (header_in_2 s h) = record { same = p.fraction.same ∙ sym same; first_version = λ one. absurd (omega arith) } in
    let window : HasWindow (header_in_2 s h) = record { ordered = p.window.ordered; within = p.window.within } in
    inl (p.mode, inl (own-is s h.digest p.digest, inl (fraction, inl (window, refl))))

-- ---- the certificate

-- the bits with which it is tested in version 2 are the same
same-bits : (s : Spec) (h : Header) → FitsHeader h → HeaderPasses s (tested_bits h) h → tested_bits (header_in_2 s h) ≡ tested_bits h
same-bits s h fits p = bits-stay h.version h.fraction p.fraction.same p.fraction.first_version (versions h.version h.digest fits.version)

module _ (s : Spec) (F : ℕ) (c : Certificate) where
  -- a certificate in version 2, whose lines stand one lower where it had no digest
  base-on : FirstFails (base_checks s F c.header) Valid → FirstFails (base_checks s F (header_in_2 s c.header)) Valid
  base-on p =
      let first = first_base_line c.header in
      let other = first_base_line (header_in_2 s c.header) in
      let b = both-pass (name_checks first c.header.names s.names) (value_checks first _ c.header.base) p in
      pass-then (name_checks other c.header.names s.names) (value_checks other _ c.header.base)
      (passed-on (name_checks first c.header.names s.names) (name_checks other c.header.names s.names) (names-on first other c.header.names s.names) b.0)
      (passed-on (value_checks first _ c.header.base) (value_checks other _ c.header.base) (values-on first other _ c.header.base) b.1)

  rest-on : FirstFails (rest_checks s F (first_entry_line c.header) c) Valid → FirstFails (rest_checks s F (first_entry_line (header_in_2 s c.header)) (certificate_in_2 s c)) Valid
  rest-on p =
      let first = first_entry_line c.header in
      let other = first_entry_line (header_in_2 s c.header) in
      let table = levels_of s F c.header in
      let these : List Check = entries_checks s F table c.header.min c.header.max 0 0 first c.entries in
      let those : List Check = entries_checks s F table c.header.min c.header.max 0 0 other c.entries in
      let closing : List Check = check (c.closing.kept ≡ length c.entries) (last_line first c) reason.Closing ∷ [] in
      let closing_too : List Check = check (c.closing.kept ≡ length c.entries) (last_line other (certificate_in_2 s c)) reason.Closing ∷ [] in
      let b = both-pass these closing p in
      pass-then those closing_too
      (passed-on these those (entries-on s F table c.header.min c.header.max 0 0 first other c.entries) b.0)
      (passed-on closing closing_too (λ q. q, tt) b.1)

  in-2-passes : (G : ℕ) → G ≡ F → HeaderPasses s F c.header → FirstFails (base_checks s F c.header ++ rest_checks s F (first_entry_line c.header) c) Valid → FirstFails (checks s G (certificate_in_2 s c)) Valid
  in-2-passes G same header p =
      let b = both-pass (base_checks s F c.header) (rest_checks s F (first_entry_line c.header) c) p in
      subst (λ k. FirstFails (checks s k (certificate_in_2 s c)) Valid) (sym same)
      (pass-then (header_checks s F (header_in_2 s c.header)) (base_checks s F (header_in_2 s c.header) ++ rest_checks s F (first_entry_line (header_in_2 s c.header)) (certificate_in_2 s c))
      (header-in-2-passes s F F c.header refl header)
      (pass-then (base_checks s F (header_in_2 s c.header)) (rest_checks s F (first_entry_line (header_in_2 s c.header)) (certificate_in_2 s c)) (base-on b.0) (rest-on b.1)))

is-in-2 : AreDigests → (s : Spec) (c : Certificate) → IsCertificate c → IsCertificate (certificate_in_2 s c)
is-in-2 digests s c is = record { header = header-fits digests s c.header is.header; num = is.num; den = is.den; names = is.names; distinct = is.distinct; entries = is.entries; closing = is.closing }

in-range-in-2 : (s : Spec) (c : Certificate) → CertificateInRange c → CertificateInRange (certificate_in_2 s c)
in-range-in-2 s c is = record { header = header-in-range s c.header is.header; entries = is.entries; closing = is.closing }

-- What is valid is valid in version 2.
pub valid-in-2 : AreDigests → (s : Spec) (c : Certificate) (bytes text : List ℕ) → IsTextOf bytes c → FirstFails (checks s (tested_bits c.header) c) Valid → text ≡ migrated_text s c → IsValidIn2 s (certificate_in_2 s c) text
valid-in-2 digests s c bytes text is passes written =
    let F = tested_bits c.header in
    let h = c.header in
    let rest : List Check = base_checks s F h ++ rest_checks s F (first_entry_line h) c in
    let parts = both-pass (header_checks s F h) rest passes in
    let header = header-passes s F h parts.0 in
    record {
      is_text = record { is = is-in-2 digests s c is.is; in_range = in-range-in-2 s c is.in_range; text = written };
      version = refl;
      digest = ap Some (own-is s h.digest header.digest);
      passes = in-2-passes s F c (tested_bits (header_in_2 s h)) (same-bits s h is.is.header header) header parts.1;
    }

-- A certificate in version 2 is written as it is.
pub written-again : (s : Spec) (c : Certificate) → migrated_text s (certificate_in_2 s c) ≡ migrated_text s c
written-again s c = refl
