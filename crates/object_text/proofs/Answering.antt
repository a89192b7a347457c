-- What a text that was read answers: its object where it is canonical, else that it isn't, or the first byte that can't stand.
use Rattle.std.proofs.Common.{◌≡◌, ℕ, zero, suc, ◌+◌, ◌-◌, ◌<◌, ◌≤◌, List, [], ◌∷◌, ◌++◌, length, take, arith, refl, sym, ◌∙◌, ap, subst, append-nil, append_assoc, true, Option, Some, length-append}
use Rattle.std.proofs.Math.Seq.{take-append_seam}
use Rattle.bz_model.specs.Spec.{Spec, Mode, body_of}
use Rattle.bz_model.specs.Object.{Object}
use Rattle.bz_model.specs.Labels.{AreOneTo}
use Rattle.bz_model.specs.ObjectText.{IsObjectText, IsCanonicalText, HasLabels, AreLabelsOf}
use Rattle.bz_laws.proofs.Canonical.{canonical-ordered, ordered-canonical}
use Rattle.class_system.specs.Sound.{IsSound}
use Rattle.class_system.specs.Limits.{IsWithinLimits}
use Rattle.class_system.specs.declared.ids.ExprId.{ExprId}
use Rattle.object_store.specs.declared.token.Token.{Token}
use Rattle.object_store.specs.Tokens.{tokens_of}
use Rattle.object_text.specs.Taken.{Taken, nothing, with_object, in_order}
use Rattle.object_text.specs.Scanning.{Accepts, CantGoOn, Faults, StopsAt}
use Rattle.object_text.specs.Expected.{Comes}
use Rattle.object_text.specs.declared.scan.Stop.{Stop}
use Rattle.object_text.specs.declared.scan.Stop.TheVariants as stop
use Rattle.object_text.specs.declared.fault.TextFault.{TextFault}
use Rattle.object_text.specs.declared.fault.TextFault.TheVariants as fault
use Rattle.object_text.specs.Reading.{IsForm, BeginsSomeText, IsWrongAt, IsNotCanonical, told, IsRead, TellsFault}
use Rattle.object_text.specs.States.{IsReadWhole, IsOrderly, IsRefusedReading, stop_fault}
use Rattle.object_text.proofs.InOrderTests.{test-stands, stands-test}
use Rattle.object_text.proofs.FirstBytes.{is-plain}

take-one : (xs bs : List ℕ) (b k : ℕ) → k ≡ suc (length xs) → take k (xs ++ b ∷ bs) ≡ xs ++ b ∷ []
take-one xs bs b zero e = absurd (omega arith)
take-one [] bs b (suc zero) e = refl
take-one [] bs b (suc (suc k)) e = absurd (omega arith)
take-one (x ∷ xs) bs b (suc k) e = ap (λ t. x ∷ t) (take-one xs bs b k (omega arith))

module _ (s : Spec) (e : ExprId) where
  -- A text that can be read is of the form, and the other way round.
  form-of : (text : List ℕ) → Accepts (Comes s (Some e) [] nothing) text → IsForm s e.0 text
  form-of text a =
      let h = a.reads in
      record { object = h.object; labels = h.labels; is_text = subst (λ t. IsObjectText s e.0 t h.object h.labels) (sym (h.split ∙ ap (λ r. h.own ++ r) h.later.0 ∙ append-nil h.own)) h.is_text }

  of-form : (text : List ℕ) → IsForm s e.0 text → Accepts (Comes s (Some e) [] nothing) text
  of-form text f = record { whole = with_object nothing f.object f.labels; reads = record { object = f.object; labels = f.labels; own = text; rest = []; is_text = f.is_text; split = sym (append-nil text); later = (refl, refl) } }

  pub wrong-at : (text : List ℕ) (left place : ℕ) → Faults (Comes s (Some e) [] nothing) text left → place ≡ length text - left → IsWrongAt s e.0 text place
  wrong-at text left place f p =
      let whole : length text ≡ length f.front + length f.back = ap length f.split ∙ length-append f.front f.back in
      let count = f.count in
      let here : place ≡ length f.front = omega arith in
      let front : take place text ≡ f.front = ap (λ n. take n text) here ∙ ap (take (length f.front)) f.split ∙ take-append_seam f.front f.back in
      record {
        within = omega arith;
        before = record { more = f.more; form = subst (λ t. IsForm s e.0 (t ++ f.more)) (sym front) (form-of (f.front ++ f.more) f.goes_on) };
        byte = λ less b. stopped f.back f.split f.stops (let c = f.count in omega arith) here b;
        missing = λ all form. ended f.back f.split f.stops (omega arith) form;
      }
    where
      stopped : (back : List ℕ) → text ≡ f.front ++ back → CantGoOn (Comes s (Some e) [] nothing) f.front back → 0 < length back → place ≡ length f.front → ¬ (BeginsSomeText s e.0 (take (place + 1) text))
      stopped [] split stops some here b = omega arith
      stopped (x ∷ back) split stops some here b =
          let one : take (place + 1) text ≡ f.front ++ x ∷ [] = ap (take (place + 1)) split ∙ take-one f.front back x (place + 1) (omega arith) in
          stops b.more (of-form (f.front ++ x ∷ b.more) (subst (IsForm s e.0) (ap (λ t. t ++ b.more) one ∙ append_assoc f.front (x ∷ []) b.more) b.form))

      ended : (back : List ℕ) → text ≡ f.front ++ back → CantGoOn (Comes s (Some e) [] nothing) f.front back → length back ≡ 0 → ¬ (IsForm s e.0 text)
      ended [] split stops none form = stops (of-form f.front (subst (IsForm s e.0) (split ∙ append-nil f.front) form))
      ended (x ∷ back) split stops none form = absurd (omega arith)

  pub within-text : (text : List ℕ) (left : ℕ) → Faults (Comes s (Some e) [] nothing) text left → left ≤ length text
  within-text text left f = let count = f.count in omega (arith, ap length f.split, length-append f.front f.back)

-- The whole text was read as an object with labels, and these are its tokens and the rest.
pub record WasRead (s : Spec) (e : ℕ) (text : List ℕ) (whole : Taken) : Type 0 where
  pub object : Object
  pub labels : List ℕ
  pub is_text : IsObjectText s e text object labels
  pub tokens : whole.tokens ≡ tokens_of object
  pub labels_are : whole.labels ≡ labels
  pub ordered : whole.ordered ≡ in_order object labels
  pub no_list : whole.lists ≡ []

-- If from nothing read an object of node e comes and then the text ends, the whole text is one of
-- an object of e, and what was read is that object.
pub was-read : (s : Spec) (e : ExprId) (text : List ℕ) (whole : Taken) → Comes s (Some e) [] nothing whole text → WasRead s e.0 text whole
was-read s e text whole h =
    let same = h.later.1 in
    record {
      object = h.object;
      labels = h.labels;
      is_text = subst (λ t. IsObjectText s e.0 t h.object h.labels) (sym (h.split ∙ ap (λ r. h.own ++ r) h.later.0 ∙ append-nil h.own)) h.is_text;
      tokens = sym (ap (λ (t : Taken). t.tokens) same);
      labels_are = sym (ap (λ (t : Taken). t.labels) same);
      ordered = sym (ap (λ (t : Taken). t.ordered) same);
      no_list = sym (ap (λ (t : Taken). t.lists) same);
    }

module _ (s : Spec) (sound : IsSound s) (limits : IsWithinLimits s) (e : ℕ) (text : List ℕ) (whole : Taken) (r : WasRead s e text whole) where
  used : (mode : Mode) → HasLabels mode r.object r.labels → AreOneTo (length r.labels) r.labels → AreLabelsOf mode r.object r.labels
  used Mode.Unlabelled h k = h
  used Mode.Labelled h k = subst (λ n. AreOneTo n r.labels) h.0 k

  one_to-used : (mode : Mode) → HasLabels mode r.object r.labels → AreLabelsOf mode r.object r.labels → AreOneTo (length r.labels) r.labels
  one_to-used Mode.Unlabelled h k = subst (λ l. AreOneTo (length l) l) (sym k) (record { count = refl; within = tt; distinct = tt })
  one_to-used Mode.Labelled h k = subst (λ n. AreOneTo n r.labels) (sym h.0) k

  pub canonical-of : (whole.ordered ≡ true) → AreOneTo (length whole.labels) whole.labels → IsCanonicalText s e text r.object r.labels
  canonical-of o k = record {
    read = r.is_text;
    labels_used = used s.mode r.is_text.labelled (subst (λ l. AreOneTo (length l) l) r.labels_are k);
    printed = ordered-canonical s e text r.object r.labels r.is_text.belongs r.is_text (test-stands r.object r.labels (sym r.ordered ∙ o));
  }

  pub not-canonical-of : ¬ (IsOrderly whole) → IsNotCanonical s e text
  not-canonical-of never = record {
    object = r.object;
    labels = r.labels;
    is_text = r.is_text;
    not_canonical = λ c. never (record {
      ordered = r.ordered ∙ stands-test r.object r.labels (canonical-ordered s (is-plain s sound limits) e text r.object r.labels c.read.belongs c.read c.printed);
      one_to = subst (λ l. AreOneTo (length l) l) (sym r.labels_are) (one_to-used s.mode r.is_text.labelled c.labels_used);
    });
  }

-- A text that was read whole as an object of a class's body, and stands in order, is the canonical
-- text of an object of the class with these tokens and labels.
pub read-of : (s : Spec) (sound : IsSound s) (limits : IsWithinLimits s) (c body : ℕ) → body_of s c ≡ Some body → (text : List ℕ) (whole : Taken) → WasRead s body text whole → (tokens : List Token) (labels : Option (List ℕ)) → IsReadWhole s.mode whole tokens labels → IsRead s c text tokens labels
read-of s sound limits c body at text whole r tokens labels f = record {
  body = body;
  is_body = at;
  object = r.object;
  labels = r.labels;
  canonical = canonical-of s sound limits body text whole r f.orderly.ordered f.orderly.one_to;
  spelled = sym r.tokens ∙ sym f.tokens;
  labels_are = ap (told s.mode) (sym r.labels_are) ∙ sym f.labels;
}

-- The fault of a text at the body of a class.
pub fault-of : (s : Spec) (c : ℕ) (e : ExprId) → body_of s c ≡ Some e.0 → (text : List ℕ) (stop : Stop) → StopsAt (Faults (Comes s (Some e) [] nothing) text) stop → TellsFault s c text (stop_fault (length text) stop)
fault-of s c e at text (stop.At left) f = record { body = e.0; is_body = at; tells = wrong-at s e text left (length text - left) f refl }
fault-of s c e at text stop.OutOfMemory f = record { body = e.0; is_body = at; tells = tt }

-- Where what was read isn't canonical, or memory ran out.
pub refusal-of : (s : Spec) (sound : IsSound s) (limits : IsWithinLimits s) (c body : ℕ) → body_of s c ≡ Some body → (text : List ℕ) (whole : Taken) → WasRead s body text whole → (fault : TextFault) → IsRefusedReading whole fault → TellsFault s c text fault
refusal-of s sound limits c body at text whole r (fault.NotObject place) h = elim h [ ]
refusal-of s sound limits c body at text whole r fault.NotCanonical h = record { body = body; is_body = at; tells = not-canonical-of s sound limits body text whole r h }
refusal-of s sound limits c body at text whole r fault.OutOfMemory h = record { body = body; is_body = at; tells = tt }
