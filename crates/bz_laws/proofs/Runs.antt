-- For stated counts of attempts a list of numbers has at most one ideal run.
use Rattle.std.proofs.Common.{◌≡◌, ℕ, suc, ◌+◌, List, [], ◌∷◌, ◌++◌, length, arith, refl, sym, ◌∙◌, ap, subst, Option, Some}
use Rattle.std.specs.Prelude.{slice_get, remove}
use Rattle.std.proofs.lemmas.List.{length-append}
use Rattle.bz_model.specs.Fraction.{Fraction, floor_times}
use Rattle.bz_model.specs.Spec.{Spec, Mode, body_of}
use Rattle.bz_model.specs.Object.{Object}
use Rattle.bz_model.specs.Measures.{size}
use Rattle.bz_model.specs.Making.{Made, Just, Over, ClassMakes, Makes}
use Rattle.bz_model.specs.Labels.{LabelsOutOf, numbers_from}
use Rattle.bz_model.specs.Run.{Window, Kept, KeepsLabels, IdealRun}
use Rattle.bz_model.specs.Run as run
use Rattle.bz_laws.proofs.Outcomes.{one_outcome, same_number}

same_label : (p : Option ℕ) (a b : ℕ) → p ≡ Some a → p ≡ Some b → a ≡ b
same_label p a b h k = cc

-- the labels, and the numbers left, are determined
pub one_labelling : (rest : List ℕ) (us : List Fraction) (labels : List ℕ) (left : List Fraction) (others : List ℕ) (after : List Fraction) → LabelsOutOf rest us labels left → LabelsOutOf rest us others after → (labels ≡ others) × (left ≡ after)
one_labelling [] us [] left [] after h k = (refl, sym h ∙ k)
one_labelling [] us [] left (b ∷ bs) after h k = elim k [ ]
one_labelling (a ∷ []) us (b ∷ []) left [] after h k = elim k [ ]
one_labelling (a ∷ []) us (b ∷ []) left (d ∷ []) after h k = (ap (λ z. z ∷ []) (h.0 ∙ sym k.0), sym h.1 ∙ k.1)
one_labelling (a ∷ []) us (b ∷ []) left (d ∷ e ∷ ds) after h k = elim k [ ]
one_labelling (a ∷ c ∷ rest) (u ∷ us) (b ∷ bs) left [] after h k = elim k [ ]
one_labelling (a ∷ c ∷ rest) (u ∷ us) (b ∷ bs) left (d ∷ ds) after h k =
    let i = floor_times u (length (a ∷ c ∷ rest)) in
    let r = one_labelling (remove (a ∷ c ∷ rest) i) us bs left ds after h.1 k.1 in
    (ap (λ z. z ∷ bs) (same_label (slice_get (a ∷ c ∷ rest) i) b d h.0 k.0) ∙ ap (λ zs. d ∷ zs) r.0, r.1)
one_labelling _ _ _ _ _ _ h k = elim h [ ]

one_keeping : (m : Mode) (n : ℕ) (us : List Fraction) (labels : List ℕ) (left : List Fraction) (others : List ℕ) (after : List Fraction) → KeepsLabels m n us labels left → KeepsLabels m n us others after → (labels ≡ others) × (left ≡ after)
one_keeping Mode.Unlabelled n us labels left others after h k = (h.0 ∙ sym k.0, sym h.1 ∙ k.1)
one_keeping Mode.Labelled n us labels left others after h k = one_labelling (numbers_from 1 n) us labels left others after h k

one_attempt : (s : Spec) (x : Fraction) (room : ℕ) (us vs : List Fraction) (m n : Made) (left after : List Fraction) → us ≡ vs → ClassMakes s x 0 room us m left → ClassMakes s x 0 room vs n after → (m ≡ n) × (left ≡ after)
one_attempt s x room us vs m n left after eq h k =
    let body : k.0 ≡ h.0 = same_number (body_of s 0) k.0 h.0 k.1 h.1 in
    let there : Makes s x h.0 room us n after = subst (λ ws. Makes s x h.0 room ws n after) (sym eq) (subst (λ b. Makes s x b room vs n after) body k.2) in
    one_outcome s x h.2 there

object_of : (o p : Object) (a b : ℕ) → Just o a ≡ Just p b → o ≡ p
object_of o p a b h = cc

not_over : (o : Object) (a : ℕ) → Just o a ≡ Over → ⊥
not_over o a h = cc

abbrev Same : List Kept → ℕ → List Fraction → List Kept → ℕ → List Fraction → Type 0
Same ks t left ls r after = (ks ≡ ls) × (t ≡ r) × (left ≡ after)

longer : (ks now : List Kept) (k : Kept) → now ≡ ks ++ k ∷ [] → length now ≡ length ks + 1
longer ks now k e = rw e (rw length-append refl)

-- two runs of as many attempts are the same
pub one_run : (s : Spec) (x : Fraction) (w : Window) (us : List Fraction) {ks ls : List Kept} {t r : ℕ} {left after : List Fraction} → IdealRun s x w us ks t left → IdealRun s x w us ls r after → length ks + t ≡ length ls + r → Same ks t left ls r after
one_run s x w us run.start run.start n = (refl, refl, refl)
one_run s x w us run.start (run.thrown_over k few d) n = absurd (omega arith)
one_run s x w us run.start (run.thrown_small o room k few d small) n = absurd (omega arith)
one_run s x w us run.start (run.keeps {kept = ls} {now = now} o room labels k few d big l eq) n = absurd (let e = longer ls now _ eq in omega arith)
one_run s x w us (run.thrown_over h few d) run.start n = absurd (omega arith)
one_run s x w us (run.thrown_small o room h few d small) run.start n = absurd (omega arith)
one_run s x w us (run.keeps {kept = ks} {now = now} o room labels h few d big l eq) run.start n = absurd (let e = longer ks now _ eq in omega arith)
one_run s x w us (run.thrown_over {kept = ks} {between = b} {left = left} h few d) (run.thrown_over {between = c} {left = after} k few' d') n =
    let i = one_run s x w us h k (omega arith) in
    let a = one_attempt s x w.max b c Over Over left after i.2 d d' in
    (i.0, ap suc i.1, a.1)
one_run s x w us (run.thrown_over {between = b} {left = left} h few d) (run.thrown_small {between = c} {left = after} o room k few' d' small) n =
    let i = one_run s x w us h k (omega arith) in
    let a = one_attempt s x w.max b c Over (Just o room) left after i.2 d d' in
    absurd (not_over o room (sym a.0))
one_run s x w us (run.thrown_over {between = b} {left = left} h few d) (run.keeps {kept = ls} {now = now} {between = c} {after = middle} o room labels k few' d' big l eq) n =
    let e = longer ls now _ eq in
    let i = one_run s x w us h k (omega arith) in
    let a = one_attempt s x w.max b c Over (Just o room) left middle i.2 d d' in
    absurd (not_over o room (sym a.0))
one_run s x w us (run.thrown_small {between = b} {left = left} o room h few d small) (run.thrown_over {between = c} {left = after} k few' d') n =
    let i = one_run s x w us h k (omega arith) in
    let a = one_attempt s x w.max b c (Just o room) Over left after i.2 d d' in
    absurd (not_over o room a.0)
one_run s x w us (run.thrown_small {between = b} {left = left} o room h few d small) (run.thrown_small {between = c} {left = after} p space k few' d' small') n =
    let i = one_run s x w us h k (omega arith) in
    let a = one_attempt s x w.max b c (Just o room) (Just p space) left after i.2 d d' in
    (i.0, ap suc i.1, a.1)
one_run s x w us (run.thrown_small {between = b} {left = left} o room h few d small) (run.keeps {kept = ls} {now = now} {between = c} {after = middle} p space labels k few' d' big l eq) n =
    let e = longer ls now _ eq in
    let i = one_run s x w us h k (omega arith) in
    let a = one_attempt s x w.max b c (Just o room) (Just p space) left middle i.2 d d' in
    let same : size o ≡ size p = ap size (object_of o p room space a.0) in
    absurd (omega arith)
one_run s x w us (run.keeps {kept = ks} {now = now} {between = b} {after = middle} o room labels h few d big l eq) (run.thrown_over {between = c} {left = after} k few' d') n =
    let e = longer ks now _ eq in
    let i = one_run s x w us h k (omega arith) in
    let a = one_attempt s x w.max b c (Just o room) Over middle after i.2 d d' in
    absurd (not_over o room a.0)
one_run s x w us (run.keeps {kept = ks} {now = now} {between = b} {after = middle} o room labels h few d big l eq) (run.thrown_small {between = c} {left = after} p space k few' d' small) n =
    let e = longer ks now _ eq in
    let i = one_run s x w us h k (omega arith) in
    let a = one_attempt s x w.max b c (Just o room) (Just p space) middle after i.2 d d' in
    let same : size o ≡ size p = ap size (object_of o p room space a.0) in
    absurd (omega arith)
one_run s x w us (run.keeps {kept = ks} {now = now} {between = b} {after = middle} {left = left} o room labels h few d big l eq) (run.keeps {kept = ls} {now = then} {between = c} {after = centre} {left = after} p space others k few' d' big' l' eq') n =
    let e = longer ks now _ eq in
    let e' = longer ls then _ eq' in
    let i = one_run s x w us h k (omega arith) in
    let a = one_attempt s x w.max b c (Just o room) (Just p space) middle centre i.2 d d' in
    let same : o ≡ p = object_of o p room space a.0 in
    let again : KeepsLabels s.mode (size o) middle others after = subst (λ q. KeepsLabels s.mode (size q) middle others after) (sym same) (subst (λ vs. KeepsLabels s.mode (size p) vs others after) (sym a.1) l') in
    let q = one_keeping s.mode (size o) middle labels left others after l again in
    (eq ∙ ap (λ zs. zs ++ record { object = o; labels = labels } ∷ []) i.0 ∙ ap (λ z. ls ++ record { object = z; labels = labels } ∷ []) same ∙ ap (λ z. ls ++ record { object = p; labels = z } ∷ []) q.0 ∙ sym eq', i.1, q.1)
