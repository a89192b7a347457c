-- A certificate's file: what ends a call, and what is known where the stage goes on.
use Rattle.std.proofs.Common.{◌≡◌, ℕ, ◌<◌, ◌≤◌, arith, List, length, subst}
use Rattle.std.specs.Prelude.{Option}
use Rattle.certificate.specs.declared.certificate.Certificate.{Certificate}
use Rattle.certificate.specs.Reading.{IsTextOf, IsFirstBad}
use Rattle.call_stages.specs.Outcomes.{Outcome, Never, Says}
use Rattle.call_stages.specs.Reports.{refusal_status, refusal_text}
use Rattle.call_stages.specs.Stages.{files, AreRead, FileRead}
use Rattle.call_stages.specs.Stages as stages
use Rattle.call_stages.specs.declared.report.Refusal.{Refusal}
use Rattle.call_stages.specs.declared.report.Refusal.TheVariants as refusal
use Rattle.call_stages.specs.declared.status.Status.{Status}
use Rattle.call_stages.proofs.Staging.{says-nothing}
use Rattle.certificate_commands.specs.CertificateStage.{long_certificate_line, bad_line, CertificateJudged, CertificateRead, IsCertificateIn}
use Rattle.certificate_commands.specs.CertificateStage as stage

-- nothing comes after a certificate
abbrev pub nothing : Certificate → Outcome
nothing c = Never

-- the file is too long
pub too_long : (bytes : List ℕ) (status : Status) (text : List ℕ) → 268435456 < length bytes → Says Status.CertRefused long_certificate_line 0 status text 0 → CertificateJudged nothing bytes status text 0
too_long bytes status text long says = stage.too_long long says

-- the text is refused
pub line_refused : (bytes : List ℕ) (line : ℕ) (status : Status) (text : List ℕ) → length bytes ≤ 268435456 → IsFirstBad bytes line → Says Status.CertRefused (bad_line line) 0 status text 0 → CertificateJudged nothing bytes status text 0
line_refused bytes line status text few bad says = stage.refused line few bad says

-- memory ran out
pub judging_lacks_memory : (bytes : List ℕ) (e : Refusal) → e ≡ refusal.OutOfMemory → CertificateJudged nothing bytes (refusal_status e) (refusal_text e) 0
judging_lacks_memory bytes e is = stage.no_memory (says-nothing 0 e is)

-- what ended the call before anything was judged; earlier counts are no greater
pub ended_by_reading : (content : List ℕ → Option (List ℕ)) (before between after : List ℕ → ℕ) (file : List ℕ) (next : Certificate → Outcome) (status : Status) (text : List ℕ) (ticks : ℕ) → ((name : List ℕ) → before name ≤ between name) → FileRead (files content between after) file 268435457 (λ bytes. Never) status text ticks → CertificateRead (files content before after) file next status text ticks
ended_by_reading content before between after file next status text ticks below (stages.failed rose says) = stages.failed (let low = below file in omega (arith, low, rose)) says
ended_by_reading content before between after file next status text ticks below (stages.no_memory says) = stages.no_memory says
ended_by_reading content before between after file next status text ticks below (stages.read bytes are never) = absurd never

-- what was read is judged
pub judged_after_reading : (content : List ℕ → Option (List ℕ)) (before after : List ℕ → ℕ) (file bytes : List ℕ) (next : Certificate → Outcome) (status : Status) (text : List ℕ) (ticks : ℕ) → AreRead content file 268435457 bytes → CertificateJudged next bytes status text ticks → CertificateRead (files content before after) file next status text ticks
judged_after_reading content before after file bytes next status text ticks are h = stages.read bytes are h

-- a certificate was read
pub is_certificate : (content : List ℕ → Option (List ℕ)) (file bytes : List ℕ) (c : Certificate) → AreRead content file 268435457 bytes → length bytes ≤ 268435456 → IsTextOf bytes c → IsCertificateIn content file c
is_certificate content file bytes c are few is = record { bytes = bytes; read = are; few = few; is_text = is }

module _ (P Q : Certificate → Outcome) (bytes : List ℕ) (status : Status) (text : List ℕ) (ticks : ℕ) where
  -- what comes next may be said otherwise
  pub judged_as : ((c : Certificate) → P c status text ticks → Q c status text ticks) → CertificateJudged P bytes status text ticks → CertificateJudged Q bytes status text ticks
  judged_as on (stage.too_long long says) = stage.too_long long says
  judged_as on (stage.refused line few bad says) = stage.refused line few bad says
  judged_as on (stage.no_memory says) = stage.no_memory says
  judged_as on (stage.read c few is p) = stage.read c few is (on c p)

module _ (content : List ℕ → Option (List ℕ)) (before after : List ℕ → ℕ) (file : List ℕ) (P Q : Certificate → Outcome) (status : Status) (text : List ℕ) (ticks : ℕ) where
  pub read_as : ((c : Certificate) → P c status text ticks → Q c status text ticks) → CertificateRead (files content before after) file P status text ticks → CertificateRead (files content before after) file Q status text ticks
  read_as on (stages.failed rose says) = stages.failed rose says
  read_as on (stages.no_memory says) = stages.no_memory says
  read_as on (stages.read bytes are h) = stages.read bytes are (judged_as P Q bytes status text ticks on h)

-- what follows a certificate that was read
pub goes_on_with_certificate : (content : List ℕ → Option (List ℕ)) (before after : List ℕ → ℕ) (file : List ℕ) (next : Certificate → Outcome) (c : Certificate) (status : Status) (text : List ℕ) (ticks : ℕ) → IsCertificateIn content file c → next c status text ticks → CertificateRead (files content before after) file next status text ticks
goes_on_with_certificate content before after file next c status text ticks is p = stages.read is.bytes is.read (stage.read c is.few is.is_text p)
