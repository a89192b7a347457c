-- A file with a specification goes on to what comes next, and a call with a certain status went on there.
use Rattle.std.proofs.Common.{◌≡◌, ◌≢◌, ℕ, ◌≤◌, List, length, take, refl, sym, subst, ◌∙◌, arith}
use Rattle.std.specs.Prelude.{IfSome}
use Rattle.std.proofs.lemmas.List.{take_all}
use Rattle.bz_model.specs.Spec.{Spec}
use Rattle.bz_model.specs.WellFounded.{IsWellFounded}
use Rattle.class_system.specs.Sound.{IsSound}
use Rattle.call_stages.specs.Outcomes.{Outcome, Says}
use Rattle.call_stages.specs.Stages.{Files, IsCalm, AreRead, FileRead, IsAccepted, HasSpecification, Judged, Specified, IsSpecified}
use Rattle.call_stages.specs.Stages as stages
use Rattle.call_stages.specs.declared.status.Status.{Status}
use Rattle.call_stages.proofs.OneReading.{sound, read-only, judged-only}

-- A status and a text are said.
pub said : (status : Status) (line : List ℕ) → Says status line 0 status line 0
said status line = record { status_is = refl; text_is = refl; ticks_are = refl }

-- What says another status than the wanted one doesn't end with it.
pub says-other : {P : Type 0} (told wanted status : Status) (line text : List ℕ) (most ticks : ℕ) → told ≢ wanted → status ≡ wanted → Says told line most status text ticks → P
says-other told wanted status line text most ticks other is says = absurd (other (sym says.status_is ∙ is))

-- A calm file that is short enough is read whole.
pub whole-read : (f : Files) (file : List ℕ) (most : ℕ) (calm : IsCalm f file) → length calm.bytes ≤ most → AreRead f.content file most calm.bytes
whole-read f file most calm few = record { are = subst (λ o. IfSome o (λ all. calm.bytes ≡ take most all)) (sym calm.known) (sym (take_all most calm.bytes few)); few = few }

-- Such a file goes on with all of its bytes, unless memory runs out.
pub whole-only : (f : Files) (file : List ℕ) (most : ℕ) (next : List ℕ → Outcome) (calm : IsCalm f file) (status : Status) (text : List ℕ) (ticks : ℕ) → length calm.bytes ≤ most → status ≢ Status.OutOfMemory → FileRead f file most next status text ticks → next calm.bytes status text ticks
whole-only f file most next calm status text ticks few memory h = subst (λ b. next b status text ticks) (take_all most calm.bytes few) (read-only f file most next calm status text ticks memory h)

-- A file with a specification goes on with it, unless memory runs out.
pub specified-only : (f : Files) (file : List ℕ) (s : Spec) (next : Spec → Outcome) (status : Status) (text : List ℕ) (ticks : ℕ) → HasSpecification f file s → status ≢ Status.OutOfMemory → Specified f file next status text ticks → next s status text ticks
specified-only f file s next status text ticks has memory h =
    judged-only next has.calm.bytes s has.accepted has.founded status text ticks memory
    (whole-only f file 65537 (Judged next) has.calm status text ticks (let few = has.accepted.few in omega (arith, few)) memory h)

-- What may come of the specification may come of the file.
pub specified-on : (f : Files) (file : List ℕ) (s : Spec) (next : Spec → Outcome) (status : Status) (text : List ℕ) (ticks : ℕ) → HasSpecification f file s → next s status text ticks → Specified f file next status text ticks
specified-on f file s next status text ticks has p = stages.read has.calm.bytes (whole-read f file 65537 has.calm (let few = has.accepted.few in omega (arith, few))) (stages.founded s has.accepted has.founded p)

-- The tables of an accepted text are sound.
pub accepted-sound : (bytes : List ℕ) (s : Spec) → IsAccepted bytes s → IsSound s
accepted-sound bytes s a = sound bytes s a.stands

-- A call with a status that no reading gives went on with what was read.
pub read-of : (wanted : Status) → Status.ReadFault ≢ wanted → Status.OutOfMemory ≢ wanted → (f : Files) (file : List ℕ) (most : ℕ) (next : List ℕ → Outcome) (status : Status) (text : List ℕ) (ticks : ℕ) → status ≡ wanted → FileRead f file most next status text ticks → (bytes : List ℕ) × AreRead f.content file most bytes × next bytes status text ticks
read-of wanted fault memory f file most next status text ticks is (stages.failed rose says) = says-other Status.ReadFault wanted status _ text _ ticks fault is says
read-of wanted fault memory f file most next status text ticks is (stages.no_memory says) = says-other Status.OutOfMemory wanted status _ text _ ticks memory is says
read-of wanted fault memory f file most next status text ticks is (stages.read bytes are p) = (bytes, are, p)

-- A call with a status that no judging gives went on with the specification.
pub judged-of : (wanted : Status) → Status.OutOfMemory ≢ wanted → Status.SpecRefused ≢ wanted → (next : Spec → Outcome) (bytes : List ℕ) (status : Status) (text : List ℕ) (ticks : ℕ) → status ≡ wanted → Judged next bytes status text ticks → (s : Spec) × IsAccepted bytes s × IsWellFounded s × next s status text ticks
judged-of wanted memory spec next bytes status text ticks is (stages.refused fault m refuses says) = says-other Status.SpecRefused wanted status _ text _ ticks spec is says
judged-of wanted memory spec next bytes status text ticks is (stages.unfounded s cause a m tells says) = says-other Status.SpecRefused wanted status _ text _ ticks spec is says
judged-of wanted memory spec next bytes status text ticks is (stages.no_memory says) = says-other Status.OutOfMemory wanted status _ text _ ticks memory is says
judged-of wanted memory spec next bytes status text ticks is (stages.founded s a g p) = (s, a, g, p)

-- A call with a status that neither gives went on with the specification of its file.
pub specified-of : (wanted : Status) → Status.ReadFault ≢ wanted → Status.OutOfMemory ≢ wanted → Status.SpecRefused ≢ wanted → (f : Files) (file : List ℕ) (next : Spec → Outcome) (status : Status) (text : List ℕ) (ticks : ℕ) → status ≡ wanted → Specified f file next status text ticks → (s : Spec) × IsSpecified f.content file s × next s status text ticks
specified-of wanted fault memory spec f file next status text ticks is h =
    let r = read-of wanted fault memory f file 65537 (Judged next) status text ticks is h in
    let j = judged-of wanted memory spec next r.0 status text ticks is r.2 in
    (j.0, record { bytes = r.0; read = r.1; accepted = j.1; founded = j.2 }, j.3)

-- A call that is done read its files.
pub done-read : (f : Files) (file : List ℕ) (most : ℕ) (next : List ℕ → Outcome) (status : Status) (text : List ℕ) (ticks : ℕ) → status ≡ Status.Done → FileRead f file most next status text ticks → (bytes : List ℕ) × AreRead f.content file most bytes × next bytes status text ticks
done-read = read-of Status.Done (λ e. absurd (cc)) (λ e. absurd (cc))

-- A call that is done read a specification.
pub done-specified : (f : Files) (file : List ℕ) (next : Spec → Outcome) (status : Status) (text : List ℕ) (ticks : ℕ) → status ≡ Status.Done → Specified f file next status text ticks → (s : Spec) × IsSpecified f.content file s × next s status text ticks
done-specified = specified-of Status.Done (λ e. absurd (cc)) (λ e. absurd (cc)) (λ e. absurd (cc))
