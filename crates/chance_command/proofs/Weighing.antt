-- Weighing an object: what follows its bounds, and that the call has one outcome.
use Rattle.std.proofs.Common.{◌≡◌, ◌≢◌, ℕ, ◌+◌, ◌≤◌, ◌⊎◌, List, [], ◌∷◌, arith, refl, sym, ap, subst, ◌∙◌}
use Rattle.std.specs.Prelude.{Option, Some, Result, Ok, Err, IfOk}
use Rattle.bz_model.specs.declared.cell.Bounds.{Bounds}
use Rattle.bz_model.specs.Fraction.{ratio}
use Rattle.bz_model.specs.Oracle.{Encloses}
use Rattle.bz_model.specs.Spec.{Spec, body_of}
use Rattle.bz_model.specs.declared.fraction.Fraction.{Fraction}
use Rattle.bz_outside.specs.Outside.{Rose, Appends}
use Rattle.object_store.specs.declared.token.Token.{Token}
use Rattle.object_store.specs.Tokens.{IsOf}
use Rattle.object_store.proofs.OneToOne.{one-of-class}
use Rattle.object_stage.specs.ObjectStage.{ObjectRead, IsObjectIn}
use Rattle.object_stage.proofs.Judging.{goes_on_with_object, ended_at_object, nothing}
use Rattle.object_stage.proofs.OneObject.{one-object}
use Rattle.oracle_memo.specs.Levels.{level_bounds, cost_at}
use Rattle.rounded_map.specs.RoundedMap.{Setting, setting}
use Rattle.chance_law.specs.declared.scaled.ChanceBounds.{ChanceBounds}
use Rattle.chance_law.specs.Chance.{AreChanceBounds, IsEnclosed}
use Rattle.chance_law.proofs.OneChance.{one-chance}
use Rattle.call_stages.specs.Ends.{output, EndsBy}
use Rattle.call_stages.specs.Ends as ends
use Rattle.call_stages.specs.Outcomes.{Outcome, Never, Says, MaySay, IsOne}
use Rattle.call_stages.specs.Outcomes as outcomes
use Rattle.call_stages.specs.Stages.{Files, files, AreCalm, Specified, IsSpecified}
use Rattle.call_stages.specs.declared.status.Status.{Status}
use Rattle.call_stages.proofs.Endings as endings
use Rattle.call_stages.proofs.Endings.{ends_on, ends_as, no_front, written_on}
use Rattle.call_stages.proofs.OneReading.{one-specified-founded, one-based}
use Rattle.call_stages.proofs.Staging.{ended_before, goes_on_with}
use Rattle.chance_command.specs.ChanceCommand.{chance_text, AreBoundsOver, Weighed, WeighedAt, ReadAndWeighed, CarriesChance}
use Rattle.chance_command.specs.ChanceCommand as chance

-- bounds over the bounds of the body, for whatever object has the tokens
pub are-over : (t : Setting) (base : List ℕ) (tokens : List Token) (root : Bounds) (b : ChanceBounds) → IsOf t.spec 0 tokens → ((body : ℕ) → body_of t.spec 0 ≡ Some body → root ≡ level_bounds t base 6 body) → ((body : ℕ) → body_of t.spec 0 ≡ Some body → Encloses t.spec (ratio t.num t.den) t.bits body root) → ((of : IsOf t.spec 0 tokens) → AreChanceBounds t.bits (ratio t.num t.den) root of.object b) → ((of : IsOf t.spec 0 tokens) → Encloses t.spec (ratio t.num t.den) t.bits of.body root → IsEnclosed t.spec (ratio t.num t.den) of.body of.object b) → AreBoundsOver t base tokens b
are-over t base tokens root b of is encloses bounds enclosed = record {
  of = of;
  are = subst (λ (r : Bounds). AreChanceBounds t.bits (ratio t.num t.den) r of.object b) (is of.body of.is_body) (bounds of);
  enclose = enclosed of (encloses of.body of.is_body);
}

-- what the bounds of the weights give, where memory sufficed
pub bounds-over : {E : Type 0} (t : Setting) (base : List ℕ) (tokens : List Token) (root : Bounds) (r : Result ChanceBounds E) → IsOf t.spec 0 tokens → ((body : ℕ) → body_of t.spec 0 ≡ Some body → root ≡ level_bounds t base 6 body) → ((body : ℕ) → body_of t.spec 0 ≡ Some body → Encloses t.spec (ratio t.num t.den) t.bits body root) → IfOk r (λ b. (of : IsOf t.spec 0 tokens) → AreChanceBounds t.bits (ratio t.num t.den) root of.object b) → IfOk r (λ b. (of : IsOf t.spec 0 tokens) → Encloses t.spec (ratio t.num t.den) t.bits of.body root → IsEnclosed t.spec (ratio t.num t.den) of.body of.object b) → IfOk r (AreBoundsOver t base tokens)
bounds-over t base tokens root (Ok b) of is encloses bounds enclosed = are-over t base tokens root b of is encloses bounds enclosed
bounds-over t base tokens root (Err e) of is encloses bounds enclosed = tt

-- the bounds are printed
pub printed-bounds : (t : Setting) (tokens : List Token) (base : List ℕ) (b : ChanceBounds) (o a : Option (List ℕ)) (fb fa tb ta : ℕ) (result : Status) → AreBoundsOver t base tokens b → ta ≤ tb + cost_at 6 → EndsBy (MaySay Status.Done (chance_text b) 0) (output o a fb fa 0 0) result → EndsBy (Weighed t tokens base) (output o a fb fa tb ta) result
printed-bounds t tokens base b o a fb fa tb ta result over few h = ends_on (MaySay Status.Done (chance_text b) 0) (Weighed t tokens base) o a fb fa 0 0 tb ta result (λ status text ticks p. (cost_at 6, go status text ticks p, λ start. few)) h
  where
    go : (status : Status) (text : List ℕ) (ticks : ℕ) → MaySay Status.Done (chance_text b) 0 status text ticks → Weighed t tokens base status text (cost_at 6)
    go status text ticks (outcomes.says says) = chance.bounded b over (record { status_is = says.status_is; text_is = says.text_is; ticks_are = refl })
    go status text ticks (outcomes.no_memory says) = chance.no_memory (record { status_is = says.status_is; text_is = says.text_is; ticks_are = refl })

-- memory ran out before
pub lacks-memory : (t : Setting) (tokens : List Token) (base : List ℕ) (o : Option (List ℕ)) (fb fa tb ta : ℕ) → ta ≤ tb + cost_at 6 → EndsBy (Weighed t tokens base) (output o o fb fa tb ta) Status.OutOfMemory
lacks-memory t tokens base o fb fa tb ta few = ends.out_of_memory refl (record { text = []; ticks = cost_at 6; is = chance.no_memory (record { status_is = refl; text_is = refl; ticks_are = refl }); front = no_front o []; few = few })

-- an object has one pair of bounds over a base
pub one-over : (t : Setting) (base : List ℕ) (tokens : List Token) (b c : ChanceBounds) → AreBoundsOver t base tokens b → AreBoundsOver t base tokens c → b ≡ c
one-over t base tokens b c h k =
    let object = one-of-class t.spec 0 tokens k.of h.of in
    let body : k.of.body ≡ h.of.body = let p = h.of.is_body in let q = k.of.is_body in cc in
    let same : AreChanceBounds t.bits (ratio t.num t.den) (level_bounds t base 6 h.of.body) h.of.object c = subst (λ e. AreChanceBounds t.bits (ratio t.num t.den) (level_bounds t base 6 e) h.of.object c) body (subst (λ o. AreChanceBounds t.bits (ratio t.num t.den) (level_bounds t base 6 k.of.body) o c) object k.are) in
    one-chance t.bits (ratio t.num t.den) (level_bounds t base 6 h.of.body) h.of.object b c h.are same

module _ (t : Setting) (tokens : List Token) (base : List ℕ) (status other : Status) (text others : List ℕ) (ticks more : ℕ) (m : status ≢ Status.OutOfMemory) (n : other ≢ Status.OutOfMemory) where
  weighed-twice : Weighed t tokens base status text ticks → Weighed t tokens base other others more → (status ≡ other) × (text ≡ others)
  weighed-twice (chance.no_memory says) q = absurd (m says.status_is)
  weighed-twice (chance.bounded b over says) (chance.no_memory says_too) = absurd (n says_too.status_is)
  weighed-twice (chance.bounded b over says) (chance.bounded c over_too says_too) = (says.status_is ∙ sym says_too.status_is, says.text_is ∙ ap chance_text (one-over t base tokens b c over over_too) ∙ sym says_too.text_is)

pub one-weighed : (t : Setting) (tokens : List Token) (base : List ℕ) → IsOne (Weighed t tokens base)
one-weighed t tokens base = record { one = λ status other text others ticks more m n p q. weighed-twice t tokens base status other text others ticks more m n p q }

-- what follows a specification that was read; the contents stay the same
pub carried-on : (content between : List ℕ → Option (List ℕ)) (before after : List ℕ → ℕ) (file : List ℕ) (x : Fraction) (object : List ℕ) (F : ℕ) (s : Spec) (b a : Option (List ℕ)) (fb fa tb ta : ℕ) (result : Status) → between ≡ content → IsSpecified content file s → EndsBy (ReadAndWeighed (files between before after) object (setting s x.num x.den F)) (output b a fb fa tb ta) result → EndsBy (CarriesChance (files content before after) file x object F) (output b a fb fa tb ta) result
carried-on content between before after file x object F s b a fb fa tb ta result same is h =
    let f = files content before after in
    ends_as (ReadAndWeighed f object (setting s x.num x.den F)) (CarriesChance f file x object F) b a fb fa tb ta result (λ status text ticks p. goes_on_with f file (λ (r : Spec). ReadAndWeighed f object (setting r x.num x.den F)) s status text ticks is p)
    (subst (λ (k : List ℕ → Option (List ℕ)). EndsBy (ReadAndWeighed (files k before after) object (setting s x.num x.den F)) (output b a fb fa tb ta) result) same h)

-- what ended the call at the specification
pub ended-there : (f : Files) (file : List ℕ) (x : Fraction) (object : List ℕ) (F : ℕ) (b a : Option (List ℕ)) (fb fa ticks : ℕ) (result said : Status) (text : List ℕ) → EndsBy (Says said text 0) (output b a fb fa 0 0) result → Specified f file (λ s. Never) said text 0 → EndsBy (CarriesChance f file x object F) (output b a fb fa ticks ticks) result
ended-there f file x object F b a fb fa ticks result said text h p = written_on (CarriesChance f file x object F) b a fb fa ticks ticks result said text 0 h (ended_before f file (λ (r : Spec). ReadAndWeighed f object (setting r x.num x.den F)) said text 0 p) (omega arith)

-- what follows an object that was read
pub object-on : (content : List ℕ → Option (List ℕ)) (before after : List ℕ → ℕ) (object : List ℕ) (t : Setting) (tokens : List Token) (labels : Option (List ℕ)) (b a : Option (List ℕ)) (fb fa tb ta : ℕ) (result : Status) → IsObjectIn content t.spec object tokens labels → EndsBy (WeighedAt t tokens) (output b a fb fa tb ta) result → EndsBy (ReadAndWeighed (files content before after) object t) (output b a fb fa tb ta) result
object-on content before after object t tokens labels b a fb fa tb ta result is h = ends_as (WeighedAt t tokens) (ReadAndWeighed (files content before after) object t) b a fb fa tb ta result (λ status text ticks p. goes_on_with_object content before after t.spec object (λ others told. WeighedAt t others) tokens labels status text ticks is p) h

-- what ended the call at the object
pub object-ended : (content : List ℕ → Option (List ℕ)) (before after : List ℕ → ℕ) (object : List ℕ) (t : Setting) (b a : Option (List ℕ)) (fb fa ticks : ℕ) (result said : Status) (text : List ℕ) → EndsBy (Says said text 0) (output b a fb fa 0 0) result → ObjectRead (files content before after) t.spec object nothing said text 0 → EndsBy (ReadAndWeighed (files content before after) object t) (output b a fb fa ticks ticks) result
object-ended content before after object t b a fb fa ticks result said text h p = written_on (ReadAndWeighed (files content before after) object t) b a fb fa ticks ticks result said text 0 h (ended_at_object content before after t.spec object (λ others told. WeighedAt t others) said text 0 p) (omega arith)

-- the command has one outcome where its files are calm
pub one-carried : (f : Files) (file : List ℕ) (x : Fraction) (object : List ℕ) (F : ℕ) → AreCalm f (file ∷ object ∷ []) → IsOne (CarriesChance f file x object F)
one-carried f file x object F calm = one-specified-founded f file (λ s. ReadAndWeighed f object (setting s x.num x.den F)) calm.0 (λ s sound within founded. one-object f s object (λ tokens labels. WeighedAt (setting s x.num x.den F) tokens) calm.1.0 sound within (λ text tokens labels is. one-based (setting s x.num x.den F) (Weighed (setting s x.num x.den F) tokens) (one-weighed (setting s x.num x.den F) tokens)))

-- With calm files and no failed write, the chance command ends with the one outcome possible and
-- its text written whole, or for want of memory.
pub exact : (f : Files) (file : List ℕ) (x : Fraction) (object : List ℕ) (F : ℕ) (b a : Option (List ℕ)) (fb fa tb ta : ℕ) (result : Status) → EndsBy (CarriesChance f file x object F) (output b a fb fa tb ta) result → (status : Status) (text : List ℕ) (ticks : ℕ) → AreCalm f (file ∷ object ∷ []) → CarriesChance f file x object F status text ticks → status ≢ Status.OutOfMemory → ¬ (Rose fb fa) → (result ≡ Status.OutOfMemory) ⊎ ((result ≡ status) × Appends b a text)
exact f file x object F b a fb fa tb ta result h status text ticks calm p memory fine = endings.exact (CarriesChance f file x object F) (output b a fb fa tb ta) result status text ticks (one-carried f file x object F calm) h p memory fine

-- no weighing ends a call with the status of refused words
pub weighed-no-words : (t : Setting) (tokens : List Token) (base : List ℕ) (status : Status) (text : List ℕ) (ticks : ℕ) → Weighed t tokens base status text ticks → status ≡ Status.WordsRefused → ⊥
weighed-no-words t tokens base status text ticks (chance.bounded b over says) is = let e : Status.Done ≡ Status.WordsRefused = sym says.status_is ∙ is in absurd (cc)
weighed-no-words t tokens base status text ticks (chance.no_memory says) is = let e : Status.OutOfMemory ≡ Status.WordsRefused = sym says.status_is ∙ is in absurd (cc)
