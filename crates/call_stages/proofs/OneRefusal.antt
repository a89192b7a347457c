-- A specification is refused by one line, and the proposals of a search without a base are shown by one text.
use Rattle.std.proofs.Common.{◌≡◌, ◌≢◌, ℕ, zero, suc, ◌*◌, ◌<◌, ◌≤◌, ◌⊎◌, inl, inr, arith, List, [], ◌∷◌, ◌++◌, length, map, refl, sym, ap, subst, ◌∙◌}
use Rattle.std.specs.Prelude.{Option, Some, None, flat_map, slice_get, slice_index}
use Rattle.std.proofs.Math.Decide.{dec_le}
use Rattle.bz_model.specs.Spec.{Spec}
use Rattle.class_system.specs.Each.{Each}
use Rattle.fixed_enclosure.specs.UpperValues.{IsNoGreater}
use Rattle.well_founded.specs.Examination.{IsLeast, EachHasObject, IsFirstRepeat, IsFirstRound, TellsCause}
use Rattle.well_founded.specs.Foundedness.{LacksObject, RepeatsZero, LeadsRound}
use Rattle.well_founded.specs.declared.cause.UnfoundedCause.{UnfoundedCause}
use Rattle.well_founded.specs.declared.cause.UnfoundedCause.TheVariants.{NoObject, ZeroPart, ZeroLoop, OutOfMemory}
use Rattle.newton_upper.specs.BaseRule.{HasNoUpper, IsTrial, proposals}
use Rattle.newton_upper.specs.Candidates.{candidate_count}
use Rattle.newton_upper.specs.declared.trials.Trial.{Trial}
use Rattle.rounded_map.specs.RoundedMap.{Setting, IsFirstAbove, value_at, values_up, bodies_up}
use Rattle.call_stages.specs.Lines.{class_name, feed}
use Rattle.call_stages.specs.Refusals.{cause_line, number_field, value_text, proposal_line, no_upper_line, no_upper_text}

-- two least numbers are the same
one-least : (P : ℕ → Type 0) (n m : ℕ) → IsLeast P n → IsLeast P m → n ≡ m
one-least P n m h k = go (dec_le n m) (dec_le m n)
  where
    go : Dec (n ≤ m) → Dec (m ≤ n) → n ≡ m
    go (yes a) (yes b) = omega arith
    go (no a) b = absurd (h.least m (omega (arith, a)) k.holds)
    go (yes a) (no b) = absurd (k.least n (omega (arith, b)) h.holds)

-- where each class has an object, none lacks one
lacks-none : (s : Spec) (c : ℕ) → EachHasObject s → ¬ (LacksObject s c)
lacks-none s c each lacks = lacks.without (each.objects c lacks.body lacks.is_body)

-- A specification that isn't well founded is refused by one line: two causes told of it, neither of
-- them want of memory, are written alike.
pub one-cause : (s : Spec) (a b : UnfoundedCause) → a ≢ OutOfMemory → b ≢ OutOfMemory → TellsCause s a → TellsCause s b → cause_line s a ≡ cause_line s b
one-cause s OutOfMemory b m n h k = absurd (m refl)
one-cause s (NoObject c) OutOfMemory m n h k = absurd (n refl)
one-cause s (ZeroPart e) OutOfMemory m n h k = absurd (n refl)
one-cause s (ZeroLoop c) OutOfMemory m n h k = absurd (n refl)
one-cause s (NoObject c) (NoObject d) m n h k = ap (λ i. codes_no_object s i) (one-least (LacksObject s) c.0 d.0 h k)
  where
    codes_no_object : Spec → ℕ → List ℕ
    codes_no_object s i = cause_line s (NoObject (record { 0 = i }))
one-cause s (NoObject c) (ZeroPart e) m n h k = absurd (lacks-none s c.0 k.objects h.holds)
one-cause s (NoObject c) (ZeroLoop d) m n h k = absurd (lacks-none s c.0 k.objects h.holds)
one-cause s (ZeroPart e) (NoObject c) m n h k = absurd (lacks-none s c.0 h.objects k.holds)
one-cause s (ZeroPart e) (ZeroPart f) m n h k = let same : e.0 ≡ f.0 = one-least (RepeatsZero s) e.0 f.0 h.first k.first in cc
one-cause s (ZeroPart e) (ZeroLoop c) m n h k = absurd (k.parts e.0 h.first.holds)
one-cause s (ZeroLoop c) (NoObject d) m n h k = absurd (lacks-none s d.0 h.objects k.holds)
one-cause s (ZeroLoop c) (ZeroPart e) m n h k = absurd (h.parts e.0 k.first.holds)
one-cause s (ZeroLoop c) (ZeroLoop d) m n h k = let same : c.0 ≡ d.0 = one-least (LeadsRound s) c.0 d.0 h.first k.first in cc

-- the first class whose value is too great is one class
one-above : (values : List (Option ℕ)) (classes : List ℕ) (p q : ℕ) (a b : Option ℕ) → IsFirstAbove values classes p a → IsFirstAbove values classes q b → p ≡ q
one-above values classes p q a b h k = go (dec_le p q) (dec_le q p)
  where
    go : Dec (p ≤ q) → Dec (q ≤ p) → p ≡ q
    go (yes i) (yes j) = omega arith
    go (no i) j = absurd (k.above (subst (λ v. IsNoGreater v (Some (slice_index classes q))) (sym k.value) (h.before q (omega (arith, i)))))
    go (yes i) (no j) = absurd (h.above (subst (λ v. IsNoGreater v (Some (slice_index classes p))) (sym h.value) (k.before p (omega (arith, j)))))

-- trials of one proposal are shown by one line
line-of : Spec → (values : List ℕ) → (class : ℕ) → Option ℕ → List ℕ
line-of s values class got = proposal_line s (record { values = values; class_id = record { 0 = class }; got = got })

one-trial : (t : Setting) (a b : Trial) → a.values ≡ b.values → IsTrial t a → IsTrial t b → proposal_line t.spec a ≡ proposal_line t.spec b
one-trial t a b same h k =
    let moved : IsFirstAbove (bodies_up t (values_up t a.values)) a.values b.class_id.0 b.got = subst (λ v. IsFirstAbove (bodies_up t (values_up t v)) v b.class_id.0 b.got) (sym same) k in
    let place : a.class_id.0 ≡ b.class_id.0 = one-above (bodies_up t (values_up t a.values)) a.values a.class_id.0 b.class_id.0 a.got b.got h moved in
    let got : a.got ≡ b.got = h.value ∙ ap (value_at (bodies_up t (values_up t a.values))) place ∙ sym moved.value in
    cc

-- what holds of each of a list holds of the others
each-rest : {X : Type 0} (P : X → Type 0) (x : X) (xs : List X) → Each P (x ∷ xs) → Each P xs
each-rest P x xs h = record { at = λ i y is. h.at (suc i) y is }

trials-lines : (t : Setting) (a b : List Trial) → map (λ trial. trial.values) a ≡ map (λ trial. trial.values) b → Each (IsTrial t) a → Each (IsTrial t) b → (length a ≡ length b) × (flat_map (proposal_line t.spec) a ≡ flat_map (proposal_line t.spec) b)
trials-lines t [] [] same h k = (refl, refl)
trials-lines t [] (y ∷ b) same h k = absurd (cc)
trials-lines t (x ∷ a) [] same h k = absurd (cc)
trials-lines t (x ∷ a) (y ∷ b) same h k =
    let first : x.values ≡ y.values = cc in
    let others : map (λ (trial : Trial). trial.values) a ≡ map (λ (trial : Trial). trial.values) b = cc in
    let rest = trials-lines t a b others (each-rest (IsTrial t) x a h) (each-rest (IsTrial t) y b k) in
    let line = one-trial t x y first (h.at 0 x refl) (k.at 0 y refl) in
    (ap (λ n. suc n) rest.0, ap (λ l. l ++ flat_map (proposal_line t.spec) a) line ∙ ap (λ ls. proposal_line t.spec y ++ ls) rest.1)

-- Two searches that find no base in the same setting show the same text of proposals.
pub one-search : (t : Setting) (a b : List Trial) → HasNoUpper t a → HasNoUpper t b → no_upper_text t.spec t.bits a ≡ no_upper_text t.spec t.bits b
one-search t a b h k =
    let same = trials-lines t a b (h.in_order ∙ sym k.in_order) h.each k.each in
    ap (λ n. no_upper_line (6 * candidate_count t.bits) n ++ flat_map (proposal_line t.spec) a) same.0
    ∙ ap (λ ls. no_upper_line (6 * candidate_count t.bits) (length b) ++ ls) same.1
