-- A text has one answer, and what was read of it is printed as it.
use Rattle.std.proofs.Common.{◌≡◌, ◌≢◌, ℕ, zero, suc, ◌+◌, ◌<◌, ◌≤◌, ◌⊎◌, inl, inr, List, [], ◌∷◌, ◌++◌, length, take, drop, arith, refl, sym, ◌∙◌, ap, subst, append_assoc, Option, Some}
use Rattle.std.proofs.lemmas.List.{take-append-drop}
use Rattle.bz_model.specs.Spec.{Spec, Mode, body_of}
use Rattle.bz_model.specs.Object.{Object, Belongs}
use Rattle.bz_model.specs.ObjectText.{Arrangement, IsObjectText, IsCanonicalText, HasLabels, object_text}
use Rattle.bz_laws.proofs.Readings.{one_reading}
use Rattle.bz_laws.proofs.Texts.{one_text}
use Rattle.class_system.specs.Sound.{IsSound}
use Rattle.class_system.specs.Limits.{IsWithinLimits}
use Rattle.object_store.specs.declared.token.Token.{Token}
use Rattle.object_store.specs.Tokens.{tokens_of, size_of, IsOf}
use Rattle.object_store.proofs.OneToOne.{one-of-class}
use Rattle.object_store.proofs.Sizes.{size_of-tokens}
use Rattle.object_text.specs.declared.fault.TextFault.{TextFault}
use Rattle.object_text.specs.declared.fault.TextFault.TheVariants as fault
use Rattle.object_text.specs.Labels.{HasOneForEach, listed}
use Rattle.object_text.specs.Reading.{IsForm, BeginsSomeText, IsWrongAt, told, IsRead, TellsFaultAt, TellsFault}
use Rattle.object_text.specs.BothWays.{IsReprinted}
use Rattle.object_text.proofs.FirstBytes.{is-plain}

-- a class has one body
one-body : (s : Spec) (c a b : ℕ) → body_of s c ≡ Some a → body_of s c ≡ Some b → a ≡ b
one-body s c a b x y = cc

-- a text of the form has no byte that can't stand
form-not-wrong : (s : Spec) (e : ℕ) (text : List ℕ) (place : ℕ) → IsForm s e text → ¬ (IsWrongAt s e text place)
form-not-wrong s e text place f w = go (length text) place w.within w.byte w.missing
  where
    go : (n place : ℕ) → place ≤ length text → (place < length text → ¬ (BeginsSomeText s e (take (place + 1) text))) → (place ≡ length text → ¬ (IsForm s e text)) → ⊥
    go n place within byte missing = elim (less place (length text) within) [
      | inl lt ↦ byte lt (record { more = drop (place + 1) text; form = subst (IsForm s e) (sym (take-append-drop (place + 1) text)) f })
      | inr eq ↦ missing eq f
    ]
      where
        less : (a b : ℕ) → a ≤ b → (a < b) ⊎ (a ≡ b)
        less zero zero h = inr refl
        less zero (suc b) h = inl (omega arith)
        less (suc a) zero h = absurd (omega arith)
        less (suc a) (suc b) h = elim (less a b (omega arith)) [ inl lt ↦ inl (omega arith) | inr eq ↦ inr (ap suc eq) ]

take-shorter : (n m : ℕ) (text : List ℕ) → n ≤ m → take n (take m text) ≡ take n text
take-shorter zero m text h = refl
take-shorter (suc n) zero text h = absurd (omega arith)
take-shorter (suc n) (suc m) [] h = refl
take-shorter (suc n) (suc m) (b ∷ text) h = ap (λ t. b ∷ t) (take-shorter n m text (omega arith))

-- of two places the later one isn't the first
not-before : (s : Spec) (e : ℕ) (text : List ℕ) (p q : ℕ) → IsWrongAt s e text p → IsWrongAt s e text q → p < q → ⊥
not-before s e text p q a b lt =
    let within = b.within in
    let h = b.before in
    let front : take (p + 1) (take q text) ≡ take (p + 1) text = take-shorter (p + 1) q text (omega arith) in
    a.byte (omega arith) (record {
      more = drop (p + 1) (take q text) ++ h.more;
      form = subst (IsForm s e)
          (ap (λ t. t ++ h.more) (sym (take-append-drop (p + 1) (take q text))) ∙ append_assoc (take (p + 1) (take q text)) (drop (p + 1) (take q text)) h.more ∙ ap (λ t. t ++ (drop (p + 1) (take q text) ++ h.more)) front)
          h.form;
    })

order : (a b : ℕ) → ¬ (a < b) → ¬ (b < a) → a ≡ b
order zero zero h k = refl
order zero (suc b) h k = absurd (h (omega arith))
order (suc a) zero h k = absurd (k (omega arith))
order (suc a) (suc b) h k = ap suc (order a b (λ lt. h (omega arith)) (λ lt. k (omega arith)))

module _ (s : Spec) (sound : IsSound s) (limits : IsWithinLimits s) (c : ℕ) (text : List ℕ) where
  -- a fault at the same body
  at-body : (body : ℕ) → body_of s c ≡ Some body → (fault : TextFault) → TellsFault s c text fault → TellsFaultAt s body text fault
  at-body body at fault t = subst (λ e. TellsFaultAt s e text fault) (one-body s c t.body body t.is_body at) t.tells

  pub one-object-read : (tokens others : List Token) (labels told_too : Option (List ℕ)) → IsRead s c text tokens labels → IsRead s c text others told_too → (tokens ≡ others) × (labels ≡ told_too)
  one-object-read tokens others labels told_too a b =
      let same = one-body s c b.body a.body b.is_body a.is_body in
      let again : IsObjectText s a.body text b.object b.labels = subst (λ e. IsObjectText s e text b.object b.labels) same b.canonical.read in
      let r = one_reading s (is-plain s sound limits) a.body text a.object b.object a.labels b.labels a.canonical.read again in
      (sym a.spelled ∙ ap tokens_of r.0 ∙ b.spelled, sym a.labels_are ∙ ap (told s.mode) r.1 ∙ b.labels_are)

  pub no-fault-read : (tokens : List Token) (labels : Option (List ℕ)) (fault : TextFault) → IsRead s c text tokens labels → TellsFault s c text fault → fault ≡ TextFault.OutOfMemory
  no-fault-read tokens labels f a t = go f (at-body a.body a.is_body f t)
    where
      go : (f : TextFault) → TellsFaultAt s a.body text f → f ≡ TextFault.OutOfMemory
      go (fault.NotObject place) w = absurd (form-not-wrong s a.body text place (record { object = a.object; labels = a.labels; is_text = a.canonical.read }) w)
      go fault.NotCanonical n =
          let r = one_reading s (is-plain s sound limits) a.body text a.object n.object a.labels n.labels a.canonical.read n.is_text in
          absurd (n.not_canonical (subst (λ o. IsCanonicalText s a.body text o n.labels) r.0 (subst (IsCanonicalText s a.body text a.object) r.1 a.canonical)))
      go fault.OutOfMemory n = refl

  pub one-fault-told : (f g : TextFault) → TellsFault s c text f → TellsFault s c text g → f ≢ TextFault.OutOfMemory → g ≢ TextFault.OutOfMemory → f ≡ g
  one-fault-told f g a b x y = go f g a.tells (at-body a.body a.is_body g b) x y
    where
      go : (f g : TextFault) → TellsFaultAt s a.body text f → TellsFaultAt s a.body text g → f ≢ TextFault.OutOfMemory → g ≢ TextFault.OutOfMemory → f ≡ g
      go (fault.NotObject p) (fault.NotObject q) v w x y = ap fault.NotObject (order p q (not-before s a.body text p q v w) (not-before s a.body text q p w v))
      go (fault.NotObject p) fault.NotCanonical v w x y = absurd (form-not-wrong s a.body text p (record { object = w.object; labels = w.labels; is_text = w.is_text }) v)
      go fault.NotCanonical (fault.NotObject q) v w x y = absurd (form-not-wrong s a.body text q (record { object = v.object; labels = v.labels; is_text = v.is_text }) w)
      go fault.NotCanonical fault.NotCanonical v w x y = refl
      go fault.OutOfMemory g v w x y = absurd (x refl)
      go f fault.OutOfMemory v w x y = absurd (y refl)

  -- what was read is printed
  pub reprinted : (tokens : List Token) (labels : Option (List ℕ)) → IsRead s c text tokens labels → IsReprinted s c text tokens labels
  reprinted tokens labels a =
      let own : IsOf s c tokens = record { body = a.body; is_body = a.is_body; object = a.object; belongs = a.canonical.read.belongs; spelled = a.spelled } in
      let told-all : listed labels ≡ a.labels = sym (ap listed a.labels_are) ∙ all s.mode a.canonical.read.labelled in
      record {
        is_of = own;
        has_labels = subst (HasOneForEach s.mode tokens) (sym told-all) (each s.mode a.canonical.read.labelled);
        printed = λ of. same of.body of.object of.belongs (one-body s c of.body a.body of.is_body a.is_body) (one-of-class s c tokens of own)
            ∙ ap (object_text s of.body of.object of.belongs) (sym told-all);
      }
    where
      all : (mode : Mode) → HasLabels mode a.object a.labels → listed (told mode a.labels) ≡ a.labels
      all Mode.Unlabelled h = sym h
      all Mode.Labelled h = refl

      each : (mode : Mode) → HasLabels mode a.object a.labels → HasOneForEach mode tokens a.labels
      each Mode.Unlabelled h = h
      each Mode.Labelled h = h.0 ∙ sym (size_of-tokens a.object) ∙ ap size_of a.spelled

      same : (body : ℕ) (o : Object) (b : Belongs s body o) → body ≡ a.body → o ≡ a.object → text ≡ object_text s body o b a.labels
      same body o b e f =
          subst (λ d. (b : Belongs s d o) → text ≡ object_text s d o b a.labels) (sym e)
          (subst (λ p. (b : Belongs s a.body p) → text ≡ object_text s a.body p b a.labels) (sym f)
          (λ b. a.canonical.printed ∙ one_text Arrangement.Canonical s a.body a.object a.labels a.canonical.read.belongs b)) b
