-- What the command prints, and when its answer is certain.
use Rattle.std.proofs.Common.{◌≡◌, ◌≢◌, ℕ, zero, suc, ◌<◌, ◌≤◌, List, [], ◌∷◌, length, take, refl, ap, subst, ◌∙◌, arith}
use Rattle.std.specs.Prelude.{Option, Some, None}
use Rattle.bz_model.specs.Fraction.{ratio}
use Rattle.bz_model.specs.Spec.{Spec}
use Rattle.bz_model.specs.declared.fraction.Fraction.{Fraction}
use Rattle.class_system.specs.Limits.{IsWithinLimits}
use Rattle.class_system.specs.Sound.{IsSound}
use Rattle.newton_upper.specs.BaseRule.{base_of, HasNoUpper}
use Rattle.newton_upper.specs.declared.trials.Trial.{Trial}
use Rattle.object_store.specs.declared.token.Token.{Token}
use Rattle.object_store.specs.Tokens.{IsOf}
use Rattle.object_store.proofs.OneToOne.{one-of-class}
use Rattle.object_text.specs.Reading.{IsRead, TellsFault}
use Rattle.object_text.specs.declared.fault.TextFault.{TextFault}
use Rattle.object_text.proofs.Agreeing.{no-fault-read, one-fault-told}
use Rattle.object_stage.specs.ObjectStage.{without_feed, too_long_line, object_fault_line, ObjectJudged, ObjectRead, IsObjectIn}
use Rattle.object_stage.specs.ObjectStage as stage
use Rattle.object_stage.proofs.OneObject.{object-only}
use Rattle.rounded_map.specs.RoundedMap.{Setting, setting}
use Rattle.chance_law.specs.declared.scaled.ChanceBounds.{ChanceBounds}
use Rattle.chance_law.specs.Chance.{IsEnclosed}
use Rattle.call_stages.specs.Outcomes.{Outcome}
use Rattle.call_stages.specs.Refusals.{no_upper_text}
use Rattle.call_stages.specs.Stages.{Files, IsCalm, AreRead, HasSpecification}
use Rattle.call_stages.specs.Stages as stages
use Rattle.call_stages.specs.declared.status.Status.{Status}
use Rattle.call_stages.proofs.Completing.{accepted-sound, says-other, whole-only, specified-only, done-read, done-specified}
use Rattle.call_stages.proofs.OneReading.{read-only, based-only, baseless-only}
use Rattle.chance_command.specs.ChanceCommand.{chance_text, AreBoundsOver, Weighed, WeighedAt, ReadAndWeighed, CarriesChance}
use Rattle.chance_command.specs.ChanceCommand as chance
use Rattle.chance_command.specs.Completeness.{HasObjectText, LacksObjectText, EnclosesChance}

-- the bytes of a short file are judged
judged-file : (f : Files) (file : List ℕ) (s : Spec) (next : List Token → Option (List ℕ) → Outcome) (calm : IsCalm f file) → length calm.bytes ≤ 16777216 → (status : Status) (text : List ℕ) (ticks : ℕ) → status ≢ Status.OutOfMemory → ObjectRead f s file next status text ticks → ObjectJudged s next calm.bytes status text ticks
judged-file f file s next calm few status text ticks memory h = whole-only f file 16777217 (ObjectJudged s next) calm status text ticks (omega (arith, few)) memory h

-- an object that is in the file goes on
object-in-only : (f : Files) (file : List ℕ) (s : Spec) (next : List Token → Option (List ℕ) → Outcome) (tokens : List Token) (labels : Option (List ℕ)) → IsSound s → IsWithinLimits s → HasObjectText f file s tokens labels → (status : Status) (text : List ℕ) (ticks : ℕ) → status ≢ Status.OutOfMemory → ObjectRead f s file next status text ticks → next tokens labels status text ticks
object-in-only f file s next tokens labels sound within has status text ticks memory h = object-only s sound within next has.calm.bytes tokens labels has.few has.is_read status text ticks memory (judged-file f file s next has.calm has.few status text ticks memory h)

weighed-only : (t : Setting) (tokens : List Token) (base : List ℕ) (status : Status) (text : List ℕ) (ticks : ℕ) → status ≢ Status.OutOfMemory → Weighed t tokens base status text ticks → (b : ChanceBounds) × AreBoundsOver t base tokens b × (status ≡ Status.Done) × (text ≡ chance_text b)
weighed-only t tokens base status text ticks memory (chance.bounded b over says) = (b, over, says.status_is, says.text_is)
weighed-only t tokens base status text ticks memory (chance.no_memory says) = absurd (memory says.status_is)

-- a specification and an object of it are known, and a base is searched
searched-only : (f : Files) (file : List ℕ) (x : Fraction) (object : List ℕ) (F : ℕ) (s : Spec) (tokens : List Token) (labels : Option (List ℕ)) (status : Status) (text : List ℕ) (ticks : ℕ) → HasSpecification f file s → HasObjectText f object s tokens labels → status ≢ Status.OutOfMemory → CarriesChance f file x object F status text ticks → WeighedAt (setting s x.num x.den F) tokens status text ticks
searched-only f file x object F s tokens labels status text ticks has found memory h =
    let sound = accepted-sound has.calm.bytes s has.accepted in
    object-in-only f object s (λ others told. WeighedAt (setting s x.num x.den F) others) tokens labels sound has.accepted.within found status text ticks memory
    (specified-only f file s (λ (r : Spec). ReadAndWeighed f object (setting r x.num x.den F)) status text ticks has memory h)

-- With a specification, an object's text and a base at x, the chance command is done and prints
-- bounds that enclose the chance, unless memory runs out.
pub weighed : (f : Files) (file : List ℕ) (x : Fraction) (object : List ℕ) (F : ℕ) (s : Spec) (tokens : List Token) (labels : Option (List ℕ)) (base : List ℕ) (status : Status) (text : List ℕ) (ticks : ℕ) → HasSpecification f file s → HasObjectText f object s tokens labels → base_of (setting s x.num x.den F) ≡ Some base → status ≢ Status.OutOfMemory → CarriesChance f file x object F status text ticks → (b : ChanceBounds) × AreBoundsOver (setting s x.num x.den F) base tokens b × (status ≡ Status.Done) × (text ≡ chance_text b)
weighed f file x object F s tokens labels base status text ticks has found is memory h =
    let t = setting s x.num x.den F in
    let over = based-only t (Weighed t tokens) base is status text ticks memory (searched-only f file x object F s tokens labels status text ticks has found memory h) in
    weighed-only t tokens base status text over.0 memory over.1

-- With a specification and an object's text, but no base at x, the chance command refuses and shows
-- the search's proposals, unless memory runs out.
pub baseless : (f : Files) (file : List ℕ) (x : Fraction) (object : List ℕ) (F : ℕ) (s : Spec) (tokens : List Token) (labels : Option (List ℕ)) (status : Status) (text : List ℕ) (ticks : ℕ) → HasSpecification f file s → HasObjectText f object s tokens labels → base_of (setting s x.num x.den F) ≡ None → status ≢ Status.OutOfMemory → CarriesChance f file x object F status text ticks → (trials : List Trial) × HasNoUpper (setting s x.num x.den F) trials × (status ≡ Status.NoUpper) × (text ≡ no_upper_text s F trials)
baseless f file x object F s tokens labels status text ticks has found none memory h =
    let t = setting s x.num x.den F in
    baseless-only t (Weighed t tokens) none status text ticks memory (searched-only f file x object F s tokens labels status text ticks has found memory h)

-- a text with a fault is refused
fault-only : (s : Spec) (next : List Token → Option (List ℕ) → Outcome) (bytes : List ℕ) (fault : TextFault) → IsSound s → IsWithinLimits s → length bytes ≤ 16777216 → fault ≢ TextFault.OutOfMemory → TellsFault s 0 (without_feed bytes) fault → (status : Status) (text : List ℕ) (ticks : ℕ) → status ≢ Status.OutOfMemory → ObjectJudged s next bytes status text ticks → (status ≡ Status.ObjectRefused) × (text ≡ object_fault_line fault)
fault-only s next bytes fault sound within few n tells status text ticks memory (stage.too_long long says) = absurd (omega (arith, few, long))
fault-only s next bytes fault sound within few n tells status text ticks memory (stage.no_memory says) = absurd (memory says.status_is)
fault-only s next bytes fault sound within few n tells status text ticks memory (stage.read tokens labels f is p) = absurd (n (no-fault-read s sound within 0 (without_feed bytes) tokens labels fault is tells))
fault-only s next bytes fault sound within few n tells status text ticks memory (stage.refused other f m tells_too says) = (says.status_is, says.text_is ∙ ap object_fault_line (one-fault-told s sound within 0 (without_feed bytes) other fault tells_too tells m n))

-- Where the object's file holds no canonical text of an object, for some cause, the chance command
-- refuses it with that cause, unless memory runs out.
pub refused : (f : Files) (file : List ℕ) (x : Fraction) (object : List ℕ) (F : ℕ) (s : Spec) (fault : TextFault) (status : Status) (text : List ℕ) (ticks : ℕ) → HasSpecification f file s → LacksObjectText f object s fault → fault ≢ TextFault.OutOfMemory → status ≢ Status.OutOfMemory → CarriesChance f file x object F status text ticks → (status ≡ Status.ObjectRefused) × (text ≡ object_fault_line fault)
refused f file x object F s fault status text ticks has lacks n memory h =
    let next = λ (others : List Token) (told : Option (List ℕ)). WeighedAt (setting s x.num x.den F) others in
    fault-only s next lacks.calm.bytes fault (accepted-sound has.calm.bytes s has.accepted) has.accepted.within lacks.few n lacks.tells status text ticks memory
    (judged-file f object s next lacks.calm lacks.few status text ticks memory (specified-only f file s (λ (r : Spec). ReadAndWeighed f object (setting r x.num x.den F)) status text ticks has memory h))

-- the first bytes of a long list are as many
length-taken : (n : ℕ) (xs : List ℕ) → n ≤ length xs → length (take n xs) ≡ n
length-taken zero xs h = refl
length-taken (suc n) [] h = absurd (omega arith)
length-taken (suc n) (x ∷ xs) h = ap suc (length-taken n xs (omega arith))

-- a file that is too long is refused
long-only : (s : Spec) (next : List Token → Option (List ℕ) → Outcome) (bytes : List ℕ) → 16777216 < length bytes → (status : Status) (text : List ℕ) (ticks : ℕ) → status ≢ Status.OutOfMemory → ObjectJudged s next bytes status text ticks → (status ≡ Status.ObjectRefused) × (text ≡ too_long_line)
long-only s next bytes long status text ticks memory (stage.too_long longer says) = (says.status_is, says.text_is)
long-only s next bytes long status text ticks memory (stage.no_memory says) = absurd (memory says.status_is)
long-only s next bytes long status text ticks memory (stage.read tokens labels few is p) = absurd (omega (arith, few, long))
long-only s next bytes long status text ticks memory (stage.refused fault few m tells says) = absurd (omega (arith, few, long))

-- Where the object's file is known to have more than 16777216 bytes, the chance command refuses it
-- as too long, unless memory runs out.
pub refused-long : (f : Files) (file : List ℕ) (x : Fraction) (object : List ℕ) (F : ℕ) (s : Spec) (calm : IsCalm f object) (status : Status) (text : List ℕ) (ticks : ℕ) → HasSpecification f file s → 16777216 < length calm.bytes → status ≢ Status.OutOfMemory → CarriesChance f file x object F status text ticks → (status ≡ Status.ObjectRefused) × (text ≡ too_long_line)
refused-long f file x object F s calm status text ticks has long memory h =
    let next = λ (others : List Token) (told : Option (List ℕ)). WeighedAt (setting s x.num x.den F) others in
    let read = read-only f object 16777217 (ObjectJudged s next) calm status text ticks memory (specified-only f file s (λ (r : Spec). ReadAndWeighed f object (setting r x.num x.den F)) status text ticks has memory h) in
    let taken : length (take 16777217 calm.bytes) ≡ 16777217 = length-taken 16777217 calm.bytes (omega (arith, long)) in
    long-only s next (take 16777217 calm.bytes) (omega (arith, taken)) status text ticks memory read

-- a call that is done read an object, and found a base
done-object : (f : Files) (s : Spec) (file : List ℕ) (next : List Token → Option (List ℕ) → Outcome) (status : Status) (text : List ℕ) (ticks : ℕ) → status ≡ Status.Done → ObjectRead f s file next status text ticks → (tokens : List Token) × (labels : Option (List ℕ)) × IsObjectIn f.content s file tokens labels × next tokens labels status text ticks
done-object f s file next status text ticks done h = let r = done-read f file 16777217 (ObjectJudged s next) status text ticks done h in go r.0 r.1 r.2
  where
    go : (bytes : List ℕ) → AreRead f.content file 16777217 bytes → ObjectJudged s next bytes status text ticks → (tokens : List Token) × (labels : Option (List ℕ)) × IsObjectIn f.content s file tokens labels × next tokens labels status text ticks
    go bytes are (stage.too_long long says) = says-other Status.ObjectRefused Status.Done status _ text _ ticks (λ e. absurd (cc)) done says
    go bytes are (stage.refused fault few m tells says) = says-other Status.ObjectRefused Status.Done status _ text _ ticks (λ e. absurd (cc)) done says
    go bytes are (stage.no_memory says) = says-other Status.OutOfMemory Status.Done status _ text _ ticks (λ e. absurd (cc)) done says
    go bytes are (stage.read tokens labels few is q) = (tokens, labels, record { bytes = bytes; read = are; few = few; is_read = is }, q)

done-weighed : (t : Setting) (tokens : List Token) (status : Status) (text : List ℕ) (ticks : ℕ) → status ≡ Status.Done → WeighedAt t tokens status text ticks → (base : List ℕ) × (b : ChanceBounds) × AreBoundsOver t base tokens b × (text ≡ chance_text b)
done-weighed t tokens status text ticks done (stages.no_base trials lacks says) = says-other Status.NoUpper Status.Done status _ text _ ticks (λ e. absurd (cc)) done says
done-weighed t tokens status text ticks done (stages.no_memory says) = says-other Status.OutOfMemory Status.Done status _ text _ ticks (λ e. absurd (cc)) done says
done-weighed t tokens status text ticks done (stages.based base more is p sum) = go p
  where
    go : Weighed t tokens base status text more → (base : List ℕ) × (b : ChanceBounds) × AreBoundsOver t base tokens b × (text ≡ chance_text b)
    go (chance.bounded b over says) = (base, b, over, says.text_is)
    go (chance.no_memory says) = says-other Status.OutOfMemory Status.Done status _ text _ more (λ e. absurd (cc)) done says

-- bounds of the object with some tokens enclose the chance of the object that was read
read-enclosed : (t : Setting) (base : List ℕ) (bytes : List ℕ) (tokens : List Token) (labels : Option (List ℕ)) (b : ChanceBounds) → AreBoundsOver t base tokens b → (is : IsRead t.spec 0 bytes tokens labels) → IsEnclosed t.spec (ratio t.num t.den) is.body is.object b
read-enclosed t base bytes tokens labels b over is =
    let own : IsOf t.spec 0 tokens = record { body = is.body; is_body = is.is_body; object = is.object; belongs = is.canonical.read.belongs; spelled = is.spelled } in
    let object : over.of.object ≡ is.object = one-of-class t.spec 0 tokens over.of own in
    let body : over.of.body ≡ is.body = let p = over.of.is_body in let q = is.is_body in cc in
    subst (λ e. IsEnclosed t.spec (ratio t.num t.den) e is.object b) body (subst (λ o. IsEnclosed t.spec (ratio t.num t.den) over.of.body o b) object over.enclose)

-- A chance command that is done printed bounds that enclose the chance of the second file's object,
-- one of the first class of the first file's specification.
pub encloses : (f : Files) (file : List ℕ) (x : Fraction) (object : List ℕ) (F : ℕ) (status : Status) (text : List ℕ) (ticks : ℕ) → status ≡ Status.Done → CarriesChance f file x object F status text ticks → EnclosesChance f file x object text
encloses f file x object F status text ticks done h =
    let d = done-specified f file (λ (r : Spec). ReadAndWeighed f object (setting r x.num x.den F)) status text ticks done h in
    let s = d.0 in
    let t = setting s x.num x.den F in
    let o = done-object f s object (λ others told. WeighedAt t others) status text ticks done d.2 in
    let w = done-weighed t o.0 status text ticks done o.3 in
    record { spec = s; specified = d.1; tokens = o.0; labels = o.1; found = o.2; bounds = w.1; text_is = w.3; enclosed = read-enclosed t w.0 (without_feed o.2.bytes) o.0 o.1 w.1 w.2 o.2.is_read }
