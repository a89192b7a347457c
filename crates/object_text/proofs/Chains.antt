-- Objects one after the other, each behind a space.
use Rattle.std.proofs.Common.{◌≡◌, ℕ, zero, suc, List, [], ◌∷◌, ◌++◌, take, drop, refl, sym, ◌∙◌, ap, subst, append_assoc, replicate}
use Rattle.bz_model.specs.Spec.{Spec}
use Rattle.bz_model.specs.Object.{Objects, none, more, count}
use Rattle.bz_model.specs.Measures.{size}
use Rattle.bz_model.specs.ObjectText.{IsObjectText}
use Rattle.object_text.specs.Taken.{Taken, with_object}
use Rattle.object_text.specs.Expected.{ReadsEach}
use Rattle.object_text.proofs.ObjectTexts.{AreTexts, spaces, texts-labels, parts-apart}
use Rattle.object_text.proofs.TakenParts.{through}

module _ (s : Spec) (ended : Taken → Taken) (Later : List ℕ → Taken → Type 0) where
  -- What was read of objects of some nodes.
  pub record EachRead (parts : List ℕ) (text : List ℕ) (taken : Taken) : Type 0 where
    pub texts : List (List ℕ)
    pub objects : Objects
    pub labels : List ℕ
    pub rest : List ℕ
    pub each : AreTexts s parts texts objects labels
    pub split : text ≡ spaces texts ++ rest
    pub later : Later rest (through ended taken objects labels)

  pub each-out : (parts : List ℕ) (text : List ℕ) (taken : Taken) → ReadsEach s ended Later parts text taken → EachRead parts text taken
  each-out [] text taken h = record { texts = []; objects = none; labels = []; rest = text; each = AreTexts.no_text; split = refl; later = h }
  each-out (part ∷ parts) text taken h =
      let k = h.later in
      let r = each-out parts k.rest (ended (with_object taken k.object k.labels)) k.later in
      let t = parts-apart s.mode k.object r.objects k.labels r.labels k.is_text.labelled (texts-labels s parts r.texts r.objects r.labels r.each) in
      record {
        texts = k.own ∷ r.texts;
        objects = more k.object r.objects;
        labels = k.labels ++ r.labels;
        rest = r.rest;
        each = AreTexts.one_more (subst (IsObjectText s part k.own k.object) (sym t.0) k.is_text) (subst (AreTexts s parts r.texts r.objects) (sym t.1) r.each);
        split = h.split ∙ ap (λ z. 32 ∷ z) (k.split ∙ ap (λ z. k.own ++ z) r.split ∙ sym (append_assoc k.own (spaces r.texts) r.rest));
        later = subst (λ m. Later r.rest (through ended (ended (with_object taken k.object m)) r.objects (drop (size k.object) (k.labels ++ r.labels)))) (sym t.0)
            (subst (λ m. Later r.rest (through ended (ended (with_object taken k.object k.labels)) r.objects m)) (sym t.1) r.later);
      }

  pub each-in : (parts : List ℕ) (texts : List (List ℕ)) (os : Objects) (l : List ℕ) (rest : List ℕ) (taken : Taken) → AreTexts s parts texts os l → Later rest (through ended taken os l) → ReadsEach s ended Later parts (spaces texts ++ rest) taken
  each-in _ _ _ _ rest taken AreTexts.no_text k = k
  each-in _ _ _ _ rest taken (AreTexts.one_more {parts = parts} {text = text} {texts = texts} {o = o} {os = os} {l = l} t r) k = record {
    rest = text ++ (spaces texts ++ rest);
    split = ap (λ z. 32 ∷ z) (append_assoc text (spaces texts) rest);
    later = record { object = o; labels = take (size o) l; own = text; rest = spaces texts ++ rest; is_text = t; split = refl; later = each-in parts texts os (drop (size o) l) rest (ended (with_object taken o (take (size o) l))) r k };
  }

-- as many objects as nodes
pub count-texts : (s : Spec) (n part : ℕ) (texts : List (List ℕ)) (os : Objects) (l : List ℕ) → AreTexts s (replicate n part) texts os l → count os ≡ n
count-texts s zero part _ _ _ AreTexts.no_text = refl
count-texts s (suc n) part _ _ _ (AreTexts.one_more {texts = texts} {o = o} {os = os} {l = l} t r) = ap suc (count-texts s n part texts os (drop (size o) l) r)
